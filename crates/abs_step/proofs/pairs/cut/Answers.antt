use Rattle.std.proofs.Common.{sym, ap, ◌∙◌}
use Rattle.abs_step.specs.declared.pairs.PairTest.TheVariants.{Flag, Bit, Equal}
use Rattle.abs_step.specs.Conditions.{cut_by}
use Rattle.abs_step.proofs.Slots.{cut_slots}
use Rattle.abs_step.proofs.pairs.cut.Goals as goal

pub returns-in-Flag-clause-left : goal.returns-in-Flag-clause-left
returns-in-Flag-clause-left c = c.flag_cut.ensures ∙ ap (λ t. cut_by t c.args.on c.args.state.now) (sym c.in-Flag.is)

pub returns-in-Flag-clause-slots : goal.returns-in-Flag-clause-slots
returns-in-Flag-clause-slots c e = cut_slots c.flag_cut.result (Flag c.in-Flag.n) c.args.on c.args.state.now c.flag_cut.new.state c.flag_cut.ensures e

pub returns-in-Bit-clause-left : goal.returns-in-Bit-clause-left
returns-in-Bit-clause-left c = c.bit_cut.ensures ∙ ap (λ t. cut_by t c.args.on c.args.state.now) (sym c.in-Bit.is)

pub returns-in-Bit-clause-slots : goal.returns-in-Bit-clause-slots
returns-in-Bit-clause-slots c e = cut_slots c.bit_cut.result (Bit c.in-Bit.r c.in-Bit.bit) c.args.on c.args.state.now c.bit_cut.new.state c.bit_cut.ensures e

pub returns-in-Equal-clause-left : goal.returns-in-Equal-clause-left
returns-in-Equal-clause-left c = c.equal_cut.ensures ∙ ap (λ t. cut_by t c.args.on c.args.state.now) (sym c.in-Equal.is)

pub returns-in-Equal-clause-slots : goal.returns-in-Equal-clause-slots
returns-in-Equal-clause-slots c e = cut_slots c.equal_cut.result (Equal c.in-Equal.d c.in-Equal.r) c.args.on c.args.state.now c.equal_cut.new.state c.equal_cut.ensures e
