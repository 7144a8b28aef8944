use Rattle.std.proofs.Common.{List, [], sym, subst, ◌∙◌}
use Rattle.std.specs.Vec.Iter.{into_iter_items}
use Rattle.std.proofs.lemmas.List.{map-id}
use Rattle.std.proofs.lemmas.Iterator.Adapters.{YieldsList-from_vec}
use Rattle.std.proofs.lemmas.Iterator.Consumers.{YieldsList-end}
use Rattle.std.proofs.lemmas.List.Elements.{Contains-append_left, Contains-append_right}
use Rattle.local_rules.specs.declared.local.Node.{Node}
use Rattle.local_laws.specs.Laws.{AreNodesIn}
use Rattle.round_steps.specs.declared.looking.Look.{Look}
use Rattle.round_steps.specs.Targets.{targets_of, all_targets}
use Rattle.round_steps.specs.Gathers.{AreOwnNodes, AreTargetsGathered, AreBeyond}
use Rattle.round_steps.proofs.Gathers.{if_ok, none_gathered, flat_map_push, are_beyond}
use Rattle.round_steps.proofs.targets.targets.Goals as goal

pub loop-x-init : goal.loop-x-init
loop-x-init c = (
  λ device followed nodes. subst (AreTargetsGathered device followed c.args.table.now []) (sym c.new-next.ensures) (none_gathered device followed c.args.table.now),
  subst (λ (xs : List Look). AreOwnNodes (all_targets c.args.table.now c.args.notes.now xs)) (sym c.into_iter-x-iterator.ensures.into_iter_gives.0) c.requires.nodes,
)

pub gather_targets-requires-clause-nodes : goal.gather_targets-requires-clause-nodes
gather_targets-requires-clause-nodes c =
    let f = c.args.table.now in
    let notes = c.args.notes.now in
    let left = into_iter_items c.next.new.self in
    let all = subst (λ (xs : List Look). AreOwnNodes (all_targets f notes xs)) c.in-Some.ensures.steps.0 c.loop-x.invariant.1 in
    λ n i. all n (Contains-append_left (targets_of f notes c.in-Some.x) (all_targets f notes left) n i)

pub loop-x-preserved : goal.loop-x-preserved
loop-x-preserved c =
    let f = c.args.table.now in
    let notes = c.args.notes.now in
    let left = into_iter_items c.next.new.self in
    let done = all_targets f notes c.loop-x.yielded in
    let more = targets_of f notes c.in-Some.x in
    let all = subst (λ (xs : List Look). AreOwnNodes (all_targets f notes xs)) c.in-Some.ensures.steps.0 c.loop-x.invariant.1 in
    let grown = flat_map_push (targets_of f notes) c.loop-x.yielded c.in-Some.x in (
      λ device followed nodes.
          let each = subst (AreNodesIn device followed) grown nodes in
          subst (λ (l : List Node). AreTargetsGathered device followed f l c.gather_targets.new.next) (sym grown)
          (c.in_ok-gather_targets.ensures device followed done (λ n i. each n (Contains-append_right done more n i))
          (c.loop-x.invariant.0 device followed (λ n i. each n (Contains-append_left done more n i)))),
      λ n i. all n (Contains-append_right more (all_targets f notes left) n i),
    )

pub returns : goal.returns
returns c = λ device followed nodes.
    let f = c.args.table.now in
    let gives = c.into_iter-x-iterator.ensures.into_iter_gives in
    let road = YieldsList-from_vec {s = c.into_iter-x-iterator.result} c.args.looks.items gives.0 (gives.1 ∙ c.args.looks.ok.0) in
    let end = YieldsList-end road c.loop-x.yielded c.loop-x.x-iterator c.loop-x.yielded_by c.next.result c.next.new.self c.in-None.is c.next.ensures.steps in
    let all = sym (map-id c.loop-x.yielded) ∙ end.0 in
    if_ok c.into_sorted.result c.into_sorted.ensures
    (λ found is. subst (AreBeyond device followed f (all_targets f c.args.notes.now c.args.looks.items)) (sym is)
    (are_beyond device followed f (all_targets f c.args.notes.now c.args.looks.items) c.loop-x.next
    (subst (λ (xs : List Look). AreTargetsGathered device followed f (all_targets f c.args.notes.now xs) c.loop-x.next) all
    (c.loop-x.invariant.0 device followed (subst (λ (xs : List Look). AreNodesIn device followed (all_targets f c.args.notes.now xs)) (sym all) nodes)))))
