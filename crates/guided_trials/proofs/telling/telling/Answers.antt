use Rattle.std.proofs.Common.{refl, sym, subst, ◌∙◌, ◌≤◌, ℕ, List, length}
use Rattle.guided_trials.proofs.Marks.{telling_is}
use Rattle.guided_trials.proofs.Led.{some_told}
use Rattle.guided_trials.proofs.telling.telling.Goals as goal

pub new-requires-2 : goal.new-requires-2
new-requires-2 c =
    subst (λ (bytes : List ℕ). 1 ≤ length bytes)
    (sym (c.new.ensures ∙ c.in_ok-bytes.ensures ∙ telling_is c.args.flash.now _ _ _ refl c.mark_fills.ensures c.mark_words.ensures))
    (some_told c.args.flash.now)

pub returns : goal.returns
returns c =
    c.new-2.ensures ∙ c.new.ensures ∙ c.in_ok-bytes.ensures ∙ telling_is c.args.flash.now _ _ _ refl c.mark_fills.ensures c.mark_words.ensures
