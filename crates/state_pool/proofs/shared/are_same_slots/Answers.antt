use Rattle.std.proofs.Common.{refl, arith}
use Rattle.abs_state.proofs.AllLaws.{same_items}
use Rattle.sp_domain.specs.declared.slots.Slot.TheVariants.{Free}
use Rattle.state_pool.proofs.shared.are_same_slots.Goals as goal

pub returns : goal.returns
returns c = ((λ t. same_items Free c.args.slots.now c.args.others.now c.if-slots-others.false (λ i l. c.loop-d.invariant i (omega (arith, l, c.loop-d-test.false)))), (λ e. refl))
