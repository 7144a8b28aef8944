use Rattle.std.proofs.Common.{◌∙◌, ap, length, arith}
use Rattle.std.proofs.lemmas.Result.{IfOk-weaker}
use Rattle.store_clear.specs.Causing.{IsProtectedAt}
use Rattle.store_clear.proofs.Lists.{written_back}
use Rattle.store_clear.proofs.Causing.{members_given, ascending_given}
use Rattle.store_clear.proofs.causes.protected_of.Goals as goal
use Rattle.family_edges.specs.Tasks.{task_of}

pub returns-clause-exact : goal.returns-clause-exact
returns-clause-exact c =
    let told = c.args.told.now in
    let back =
    c.deref.ensures.value
    ∙ written_back c.in_ok-marks.marks.len c.mark_nodes.new.marks c.in_ok-marks.marks.items
    (let same = c.mark_nodes.ensures.same in let value = ap length c.as_mut_slice.ensures.value in let size = c.in_ok-marks.marks.ok.0 in omega (arith, same, value, size)) in
    IfOk-weaker c.addresses.result _ _
    (λ list are a.
    members_given
    (IsProtectedAt (task_of c.args.task.now) told.nodes.now told.conditions.now c.args.site.now.pc c.args.site.now.instr.now (length told.conditions.now))
    c.in_ok-marks.marks.items c.as_mut_slice.result.now c.mark_nodes.new.marks c.deref.result.now _ list (c.in_ok-marks.ensures.items_if_clones_equal (λ y e. e)) c.as_mut_slice.ensures.value
    c.mark_nodes.ensures back are a)
    c.addresses.ensures

pub returns-clause-ascending : goal.returns-clause-ascending
returns-clause-ascending c = IfOk-weaker c.addresses.result _ _ (λ list are. ascending_given list c.deref.result.now are) c.addresses.ensures
