use Rattle.std.proofs.Common.{List, ◌++◌, ◌∷◌, [], map, sym, ◌∙◌, ap, subst, append_assoc}
use Rattle.std.proofs.lemmas.List.{append-nil, map-append, map-id}
use Rattle.std.proofs.lemmas.List.Elements.{Contains-append_left, Contains-push}
use Rattle.std.proofs.lemmas.Iterator.Adapters.{YieldsList-from_vec}
use Rattle.std.proofs.lemmas.Iterator.Consumers.{YieldsList-end}
use Rattle.std.specs.Vec.Iter.{into_iter_items}
use Rattle.basics.specs.Items.{first_in, further_in}
use Rattle.local_rules.specs.declared.local.Node.{Node}
use Rattle.local_laws.specs.Laws.{AreNodesIn}
use Rattle.edge_rules.specs.declared.edge.Edge.{Edge}
use Rattle.edge_rules.specs.Edges.{target}
use Rattle.round_steps.specs.Gathers.{AreOwnNodes, AreTargetsGathered}
use Rattle.round_steps.proofs.Gathers.{one_gathered}
use Rattle.round_steps.proofs.targets.gather.Goals as goal

pub loop-edge-init : goal.loop-edge-init
loop-edge-init c = (
  subst (λ (edges : List Edge). AreOwnNodes (map target edges)) (sym c.into_iter-edge-iterator.ensures.into_iter_gives.0) c.requires,
  λ device followed before nodes are. subst (λ (l : List Node). AreTargetsGathered device followed c.args.table.now l c.args.next.now) (sym (append-nil before)) are,
)

pub gather_one-requires : goal.gather_one-requires
gather_one-requires c =
    subst (λ (edges : List Edge). AreOwnNodes (map target edges)) c.in-Some.ensures.steps.0 c.loop-edge.invariant.0 (target c.in-Some.edge)
    (first_in (target c.in-Some.edge) (map target (into_iter_items c.next.new.self)))

pub loop-edge-preserved : goal.loop-edge-preserved
loop-edge-preserved c =
    let left = into_iter_items c.next.new.self in
    let to = target c.in-Some.edge in
    let done = map target c.loop-edge.yielded in
    let grown = map-append target c.loop-edge.yielded (c.in-Some.edge ∷ []) in
    let nodes = subst (λ (edges : List Edge). AreOwnNodes (map target edges)) c.in-Some.ensures.steps.0 c.loop-edge.invariant.0 in (
      λ n i. nodes n (further_in to n (map target left) i),
      λ device followed before all are.
          let are_nodes = subst (AreNodesIn device followed) grown all in
          subst (λ (l : List Node). AreTargetsGathered device followed c.args.table.now l c.gather_one.new.next) (append_assoc before done (to ∷ []) ∙ ap (λ l. before ++ l) (sym grown))
          (one_gathered device followed c.args.table.now c.loop-edge.next (before ++ done) to (are_nodes to (Contains-push done to))
          (c.loop-edge.invariant.1 device followed before (λ n i. are_nodes n (Contains-append_left done (to ∷ []) n i)) are) c.gather_one.new.next c.in_ok-gather_one.ensures),
    )

pub returns : goal.returns
returns c = λ device followed before nodes are.
    let gives = c.into_iter-edge-iterator.ensures.into_iter_gives in
    let road = YieldsList-from_vec {s = c.into_iter-edge-iterator.result} c.args.edges.items gives.0 (gives.1 ∙ c.args.edges.ok.0) in
    let end = YieldsList-end road c.loop-edge.yielded c.loop-edge.edge-iterator c.loop-edge.yielded_by c.next.result c.next.new.self c.in-None.is c.next.ensures.steps in
    let all = sym (map-id c.loop-edge.yielded) ∙ end.0 in
    subst (λ (edges : List Edge). AreTargetsGathered device followed c.args.table.now (before ++ map target edges) c.loop-edge.next) all
    (c.loop-edge.invariant.1 device followed before (subst (λ (edges : List Edge). AreNodesIn device followed (map target edges)) (sym all) nodes) are)
