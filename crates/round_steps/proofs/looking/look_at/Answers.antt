use Rattle.std.proofs.Common.{sym}
use Rattle.round_steps.proofs.Gathers.{on_ok}
use Rattle.round_steps.proofs.Seeing.{seen_nothing, seen_more}
use Rattle.round_steps.proofs.looking.look_at.Goals as goal
use Rattle.family_edges.specs.Tasks.{task_of}

pub returns-in_default : goal.returns-in_default
returns-in_default c = λ keys are. seen_nothing (task_of c.args.task.now) c.args.table.now keys c.args.key.now c.args.seen.now are (sym c.in_default.ensures)

pub found_at-found-requires : goal.found_at-found-requires
found_at-found-requires c = c.requires (record { key = c.args.key.now; state = c.in-Some.state.now }) (sym c.in-Some.ensures)

pub returns : goal.returns
returns c = λ keys are.
    on_ok c.see.result c.see.ensures
    (seen_more (task_of c.args.task.now) c.args.table.now keys c.args.key.now c.in-Some.state.now c.args.seen.now c.see.new.seen are (sym c.in-Some.ensures)
    c.found_at-found.result c.found_at-found.ensures.key c.found_at-found.ensures.part c.found_at-found.ensures.ways c.found_at-found.ensures.fault)
