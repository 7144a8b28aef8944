use Rattle.std.proofs.Common.{List, ◌++◌, map, sym, subst, ap, ◌∙◌}
use Rattle.local_rules.specs.declared.local.Node.{Node}
use Rattle.local_laws.specs.Laws.{AreNodesIn}
use Rattle.edge_rules.specs.declared.edge.Edge.{Edge}
use Rattle.edge_rules.specs.Edges.{target}
use Rattle.round_steps.specs.Targets.{edges_of}
use Rattle.round_steps.specs.Gathers.{AreOwnNodes, AreTargetsGathered}
use Rattle.round_steps.proofs.Gathers.{on_ok}
use Rattle.round_steps.proofs.targets.gather_targets.Goals as goal

pub gather-requires : goal.gather-requires
gather-requires c =
    let more = edges_of c.args.family.now.table.now c.args.family.now.notes.now c.args.x in
    subst AreOwnNodes (sym (ap (map target) (c.into_vec.ensures ∙ c.in-Ok.ensures ∙ ap (λ (edges : List Edge). edges ++ more) c.empty-edges.ensures))) c.requires.nodes

pub returns-in-Ok : goal.returns-in-Ok
returns-in-Ok c =
    let f = c.args.family.now.table.now in
    let more = edges_of f c.args.family.now.notes.now c.args.x in
    let found = ap (map target) (c.into_vec.ensures ∙ c.in-Ok.ensures ∙ ap (λ (edges : List Edge). edges ++ more) c.empty-edges.ensures) in
    λ device followed before nodes are.
    on_ok c.gather.result (c.gather.ensures device followed before (subst (AreNodesIn device followed) (sym found) nodes) are)
    (subst (λ (l : List Node). AreTargetsGathered device followed f l c.gather.new.next) (ap (λ (ns : List Node). before ++ ns) found))
