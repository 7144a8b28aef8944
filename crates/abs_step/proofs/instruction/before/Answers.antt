use Rattle.std.proofs.Common.{◌≡◌, ◌∙◌, sym, ap, Bool, if◌then◌else◌}
use Rattle.sp_domain.specs.declared.tags.CarryTag.TheVariants as tag
use Rattle.abs_step.proofs.Forgetting.{is_before}
use Rattle.abs_step.proofs.instruction.before.Goals as goal
use Rattle.abs_step.proofs.instruction.before.Goals.{then-ends, else-ends}

pub returns-clause-ok : goal.returns-clause-ok
returns-clause-ok c =
    let s = c.args.state.now in
    let chosen : c.if-ends.carry ≡ (if c.ends.result then tag.None else s.flags.carry) =
    elim c.if-ends.branch [
      | then-ends w ↦ w.carry-is ∙ ap (λ (b : Bool). if b then tag.None else s.flags.carry) (sym w.if-ends.true)
      | else-ends w ↦ w.carry-is ∙ ap (λ (b : Bool). if b then tag.None else s.flags.carry) (sym w.if-ends.false)
    ] in
    is_before c.args.instr.now s c.in_ok-left.left c.if-ends.carry c.writes.result.bits c.sets_flags.result c.sets_carry.result c.end_facts.new.facts
    c.in_ok-left.ensures.ok (chosen ∙ sym c.ends.ensures) c.writes.ensures c.writes.type_inv.1.1.0.1 c.sets_flags.ensures c.sets_carry.ensures c.end_facts.ensures
