use Rattle.fixpoint.proofs.Order.{made_root}
use Rattle.fixpoint.proofs.Ready.{few_insts, alike_known}
use Rattle.fixpoint.proofs.Confirm.{whole_known, confirmed}
use Rattle.fixpoint.proofs.confirming.confirm.Goals as goal
use Rattle.family_edges.specs.Tasks.{task_of}

pub check_nesting-requires : goal.check_nesting-requires
check_nesting-requires c =
    few_insts (task_of c.args.task.now) c.args.table.now c.note_each.new.notes c.in_ok-check_size.ensures.fits
    (whole_known (task_of c.args.task.now) c.args.table.now c.args.keys.now c.note_each.new.notes
    (λ n has. c.requires.all n.key n.state has) c.in_ok-note_each.ensures.known)
    c.in_ok-note_each.ensures.once

pub check_all_edges-requires-clause-known : goal.check_all_edges-requires-clause-known
check_all_edges-requires-clause-known c =
    alike_known (task_of c.args.task.now) c.args.table.now c.note_each.new.notes c.in_ok-check_size.ensures.fits
    (whole_known (task_of c.args.task.now) c.args.table.now c.args.keys.now c.note_each.new.notes
    (λ n has. c.requires.all n.key n.state has) c.in_ok-note_each.ensures.known)
    c.check_nesting.new.nesting c.in_ok-check_nesting.ensures.same

pub returns : goal.returns
returns c =
    confirmed (task_of c.args.task.now) c.args.table.now c.args.keys.now c.note_each.new.notes c.requires.made
    (made_root (task_of c.args.task.now) c.args.table.now c.requires.made) c.in_ok-check_size.ensures.fits
    (λ n has. c.requires.all n.key n.state has)
    (whole_known (task_of c.args.task.now) c.args.table.now c.args.keys.now c.note_each.new.notes
    (λ n has. c.requires.all n.key n.state has) c.in_ok-note_each.ensures.known)
    c.in_ok-check_nesting.ensures.nests c.in_ok-check_all_edges.ensures
