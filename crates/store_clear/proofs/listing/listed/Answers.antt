use Rattle.std.proofs.Common.{ap, sym, subst, arith, length}
use Rattle.store_clear.specs.Conditions.{AreConditions, AreConditionsLeft}
use Rattle.store_clear.proofs.Lists.{written_back}
use Rattle.store_clear.proofs.Told.{told_as}
use Rattle.store_clear.proofs.listing.listed.Goals as goal
use Rattle.family_edges.specs.Tasks.{task_of}

pub discharge-discharged-requires-clause-inside : goal.discharge-discharged-requires-clause-inside
discharge-discharged-requires-clause-inside c = c.in_ok-frames.ensures.inside

pub discharge-discharged-requires-clause-same : goal.discharge-discharged-requires-clause-same
discharge-discharged-requires-clause-same c =
    let value = ap length c.as_mut_slice.ensures.value in
    omega (arith, value, c.in_ok-conditions.ensures.count_is, c.in_ok-frames.ensures.inside.same, c.in_ok-frames.ensures.are.count)

pub returns : goal.returns
returns c =
    let same = c.in_ok-discharged.ensures.same in
    let value = ap length c.as_mut_slice.ensures.value in
    let size = c.in_ok-conditions.conditions.ok.0 in
    subst (AreConditionsLeft (task_of c.args.task.now) c.args.certificate.now c.args.family.now.nodes)
    (sym (written_back c.in_ok-conditions.conditions.len c.discharge-discharged.new.conditions c.in_ok-conditions.conditions.items (omega (arith, same, value, size))))
    (told_as (task_of c.args.task.now) c.args.certificate.now c.args.family.now.nodes c.count-count.ensures.shown c.in_ok-frames.frames.links c.in_ok-frames.frames.offsets
    c.in_ok-frames.frames.seeds c.in_ok-frames.ensures c.in_ok-conditions.conditions.items c.as_mut_slice.result.now c.discharge-discharged.new.conditions c.as_mut_slice.ensures.value
    (subst (λ b. AreConditions (task_of c.args.task.now) b c.args.family.now.nodes c.in_ok-conditions.conditions.items) c.bound.ensures c.in_ok-conditions.ensures) c.in_ok-discharged.ensures)
