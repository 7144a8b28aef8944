use Rattle.std.proofs.Common.{ap, List, ℕ, ◌∷◌}
use Rattle.pair_words.proofs.Numerals.{joined_three}
use Rattle.pair_words.proofs.writing.ends_word.Goals as goal

pub returns : goal.returns
returns c = ap (λ (xs : List ℕ). c.args.letter ∷ xs) (joined_three _ _ _ _ _ _ c.two_digits-r.ensures c.five_digits-a.ensures c.five_digits-b.ensures)
