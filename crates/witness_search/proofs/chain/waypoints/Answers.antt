use Rattle.std.proofs.Common.{inr}
use Rattle.std.proofs.lemmas.Result.{IfOk-weaker}
use Rattle.witness_search.proofs.Answered.{peopled, interrupts_as}
use Rattle.witness_search.proofs.chain.waypoints.Goals as goal
use Rattle.family_edges.specs.Tasks.{task_of}

pub entered_by-requires-clause-peopled : goal.entered_by-requires-clause-peopled
entered_by-requires-clause-peopled c =
    peopled (task_of c.args.task.now) c.args.certificate.now c.args.family.now.nodes c.requires.meets

pub deepest_chain-requires-clause-rooted : goal.deepest_chain-requires-clause-rooted
deepest_chain-requires-clause-rooted c = c.are_rooted.ensures.yes c.if-not-are_rooted.false

pub returns-then-not-are_rooted : goal.returns-then-not-are_rooted
returns-then-not-are_rooted c = inr (c.are_rooted.ensures.no c.if-not-are_rooted.true, c.new.ensures.items)

pub returns : goal.returns
returns c =
    IfOk-weaker c.interrupts.result _ _
    (λ points e. interrupts_as (task_of c.args.task.now) c.args.family.now.nodes (c.are_rooted.ensures.yes c.if-not-are_rooted.false) c.in_ok-deepest.deepest.need c.in_ok-deepest.deepest.links
    c.as_slice.result.now points.items c.in_ok-deepest.ensures.deepest c.as_slice.ensures e)
    c.interrupts.ensures
