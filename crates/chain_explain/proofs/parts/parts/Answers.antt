use Rattle.std.proofs.Common.{sym, subst, List, ◌∷◌, [], ◌≤◌, ◌-◌, ◌+◌, length, None, get_or, take, drop, arith}
use Rattle.std.proofs.lemmas.List.{length-drop, take_all}
use Rattle.instance_graph.specs.declared.graph.Link.{Link}
use Rattle.chain_explain.specs.declared.explanation.Part.{Part}
use Rattle.chain_explain.specs.Explanation.{IsPart, AreParts}
use Rattle.chain_explain.proofs.Built.{parts_take, read_there}
use Rattle.chain_explain.proofs.parts.parts.Goals as goal
use Rattle.family_edges.specs.Tasks.{task_of}

pub part-requires-clause-there : goal.part-requires-clause-there
part-requires-clause-there c =
    read_there c.args.reached.now c.args.links.now c.loop-at.at _ c.requires.there (omega (arith, c.loop-at-test.true, c.loop-at.auto.at-end))

pub loop-at-preserved : goal.loop-at-preserved
loop-at-preserved c =
    let task = task_of c.args.task.now in
    let nodes = c.args.family.now.nodes in
    let reached = c.args.reached.now in
    let links = c.args.links.now in
    let at = c.loop-at.at in
    let none : Link = record { inst = 0; node = 0; depth = 0; way = None } in
    let whole : length (drop (at + 1) links) ≤ length links - (at + 1) = omega (arith, length-drop (at + 1) links) in
    subst (λ (ps : List Part). AreParts task nodes reached (take (at + 1) links) (drop (at + 1) links) ps) (sym c.in_ok-push.ensures.ok)
    (parts_take task nodes reached links at none c.loop-at.parts c.in_ok-part.part (omega (arith, c.loop-at-test.true, c.loop-at.auto.at-end)) c.loop-at.invariant
    (subst (λ (rest : List Link). IsPart task nodes reached (get_or links at none) rest c.in_ok-part.part) (take_all (length links - (at + 1)) (drop (at + 1) links) whole)
    c.in_ok-part.ensures))
