use Rattle.std.proofs.Common.{◌∙◌}
use Rattle.local_rules.specs.Registers.{both_set, set_pair}
use Rattle.local_rows.proofs.transfer.pair_copied.Goals as goal

pub returns : goal.returns
returns c =
    let s = c.args.state.now in
    let copied = c.set_pair.ensures ∙ (λ p. set_pair s.registers c.args.d (c.pair.ensures.low p) (c.pair.ensures.high p)) in
    λ p. both_set (copied p) s.flags
