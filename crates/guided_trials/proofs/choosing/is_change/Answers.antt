use Rattle.std.proofs.Common.{ap, ◌∙◌, ◌==◌, ℕ, bit_and}
use Rattle.guided_trials.specs.Numbers as numbers
use Rattle.guided_trials.proofs.Paces.{held}
use Rattle.guided_trials.proofs.choosing.is_change.Goals as goal

pub returns : goal.returns
returns c =
    ap (λ (low : ℕ). bit_and low c.held_bits.result == 0) c.low.ensures
    ∙ ap (λ (ones : ℕ). bit_and (numbers.low c.args.number) ones == 0) c.held_bits.ensures
    ∙ held (numbers.low c.args.number) c.args.t
