use Rattle.std.proofs.Common.{◌≡◌, ◌+◌, ◌-◌, ◌<◌, ◌∷◌, [], ◌∙◌, Option, Some, IfSome, sym, ap, subst, map, length, List, ℕ, Contains, arith, Vec, Global}
use Rattle.std.proofs.lemmas.List.{length-map}
use Rattle.std.proofs.lemmas.Result.{IfOk-weaker}
use Rattle.node_keys.specs.declared.keys.NodeKey.{NodeKey}
use Rattle.local_laws.specs.Laws.{HasKey}
use Rattle.edge_rules.specs.Views.{index_of}
use Rattle.shortest_walk.specs.Graph.{IsNumberedGraph, IsNumberReached}
use Rattle.shortest_walk.specs.Walk.{IsFirstOfShortest}
use Rattle.chain_explain.specs.Walks.{pc_at}
use Rattle.chain_explain.specs.Moves.{moves_of, moves_by}
use Rattle.chain_explain.proofs.Shifted.{walk_inside}
use Rattle.chain_explain.proofs.Ways.{start_has, apart, start_inside, target_inside, portion_graph, portion_reaches, is_way_to}
use Rattle.chain_explain.proofs.way.way.Goals as goal
use Rattle.family_edges.specs.Tasks.{task_of}

pub number_of-start-requires : goal.number_of-start-requires
number_of-start-requires c =
    subst (HasKey c.args.family.now.nodes) (sym c.entry.ensures)
    (start_has (task_of c.args.task.now) c.args.family.now.nodes c.requires.shown (moves_by c.args.family.now.landings) c.requires.moves c.args.key.now c.requires.reached)

pub portion-requires-clause-inside : goal.portion-requires-clause-inside
portion-requires-clause-inside c =
    let inside = (apart (task_of c.args.task.now) c.args.family.now.nodes c.requires.shown (moves_by c.args.family.now.landings) c.requires.moves c.args.key.now
    c.requires.reached c.span-low.result.0 c.span-low.result.1 c.span-low.ensures).inside in
    omega (arith, inside, length-map c.args.family.now.landings moves_of)

pub portion-requires-clause-above : goal.portion-requires-clause-above
portion-requires-clause-above c =
    (apart (task_of c.args.task.now) c.args.family.now.nodes c.requires.shown (moves_by c.args.family.now.landings) c.requires.moves c.args.key.now c.requires.reached
    c.span-low.result.0 c.span-low.result.1 c.span-low.ensures).above

pub overflow_sub-first : goal.overflow_sub-first
overflow_sub-first c =
    (start_inside (task_of c.args.task.now) c.args.family.now.nodes c.requires.shown (moves_by c.args.family.now.landings) c.requires.moves c.args.key.now c.requires.reached c.span-low.result.0
    c.span-low.result.1 c.span-low.ensures c.number_of-start.result c.number_of-target.result
    (subst (λ (k : NodeKey). index_of k c.args.family.now.nodes ≡ Some c.number_of-start.result) c.entry.ensures c.number_of-start.ensures) c.number_of-target.ensures).0

pub overflow_cast-first : goal.overflow_cast-first
overflow_cast-first c =
    let lt = (start_inside (task_of c.args.task.now) c.args.family.now.nodes c.requires.shown (moves_by c.args.family.now.landings) c.requires.moves c.args.key.now c.requires.reached c.span-low.result.0
    c.span-low.result.1 c.span-low.ensures c.number_of-start.result c.number_of-target.result
    (subst (λ (k : NodeKey). index_of k c.args.family.now.nodes ≡ Some c.number_of-start.result) c.entry.ensures c.number_of-start.ensures) c.number_of-target.ensures).1 in
    omega (arith, lt, c.span-low.ensures.inside, c.requires.moves.few)

pub overflow_sub-target : goal.overflow_sub-target
overflow_sub-target c =
    (target_inside (task_of c.args.task.now) c.args.family.now.nodes c.requires.shown (moves_by c.args.family.now.landings) c.requires.moves c.args.key.now c.requires.reached c.span-low.result.0
    c.span-low.result.1 c.span-low.ensures c.number_of-start.result c.number_of-target.result
    (subst (λ (k : NodeKey). index_of k c.args.family.now.nodes ≡ Some c.number_of-start.result) c.entry.ensures c.number_of-start.ensures) c.number_of-target.ensures).0

pub overflow_cast-target : goal.overflow_cast-target
overflow_cast-target c =
    let lt = (target_inside (task_of c.args.task.now) c.args.family.now.nodes c.requires.shown (moves_by c.args.family.now.landings) c.requires.moves c.args.key.now c.requires.reached c.span-low.result.0
    c.span-low.result.1 c.span-low.ensures c.number_of-start.result c.number_of-target.result
    (subst (λ (k : NodeKey). index_of k c.args.family.now.nodes ≡ Some c.number_of-start.result) c.entry.ensures c.number_of-start.ensures) c.number_of-target.ensures).1 in
    omega (arith, lt, c.span-low.ensures.inside, c.requires.moves.few)

pub shortest_walk-requires-clause-graph : goal.shortest_walk-requires-clause-graph
shortest_walk-requires-clause-graph c =
    subst IsNumberedGraph (sym c.deref.ensures.value)
    (portion_graph (task_of c.args.task.now) c.args.family.now.nodes c.requires.shown (moves_by c.args.family.now.landings) c.requires.moves c.args.key.now c.requires.reached c.span-low.result.0
    c.span-low.result.1 c.span-low.ensures c.number_of-start.result c.number_of-target.result
    (subst (λ (k : NodeKey). index_of k c.args.family.now.nodes ≡ Some c.number_of-start.result) c.entry.ensures c.number_of-start.ensures) c.number_of-target.ensures
    c.in_ok-graph.graph.items c.in_ok-graph.ensures)

pub shortest_walk-requires-clause-target : goal.shortest_walk-requires-clause-target
shortest_walk-requires-clause-target c =
    let t = target_inside (task_of c.args.task.now) c.args.family.now.nodes c.requires.shown (moves_by c.args.family.now.landings) c.requires.moves c.args.key.now c.requires.reached c.span-low.result.0
    c.span-low.result.1 c.span-low.ensures c.number_of-start.result c.number_of-target.result
    (subst (λ (k : NodeKey). index_of k c.args.family.now.nodes ≡ Some c.number_of-start.result) c.entry.ensures c.number_of-start.ensures) c.number_of-target.ensures in
    let count = ap length c.deref.ensures.value ∙ c.in_ok-graph.ensures.count_is in
    omega (arith, t.0, t.1, count)

pub unreachable-requires : goal.unreachable-requires
unreachable-requires c =
    (c.in_ok-numbers.ensures.none).0 c.in-None.is
    (subst (λ (g : List (List ℕ)). IsNumberReached g ((c.number_of-start.result - c.span-low.result.0) ∷ []) (c.number_of-target.result - c.span-low.result.0)) (sym c.deref.ensures.value)
    (portion_reaches (task_of c.args.task.now) c.args.family.now.nodes c.requires.shown (moves_by c.args.family.now.landings) c.requires.moves c.args.key.now c.requires.reached c.span-low.result.0
    c.span-low.result.1 c.span-low.ensures c.number_of-start.result c.number_of-target.result
    (subst (λ (k : NodeKey). index_of k c.args.family.now.nodes ≡ Some c.number_of-start.result) c.entry.ensures c.number_of-start.ensures) c.number_of-target.ensures
    c.in_ok-graph.graph.items c.in_ok-graph.ensures))

pub words-requires-clause-inside : goal.words-requires-clause-inside
words-requires-clause-inside c = λ i h.
    let low = c.span-low.result.0 in
    let s = start_inside (task_of c.args.task.now) c.args.family.now.nodes c.requires.shown (moves_by c.args.family.now.landings) c.requires.moves c.args.key.now c.requires.reached c.span-low.result.0
    c.span-low.result.1 c.span-low.ensures c.number_of-start.result c.number_of-target.result
    (subst (λ (k : NodeKey). index_of k c.args.family.now.nodes ≡ Some c.number_of-start.result) c.entry.ensures c.number_of-start.ensures) c.number_of-target.ensures in
    let graph =
    portion_graph (task_of c.args.task.now) c.args.family.now.nodes c.requires.shown (moves_by c.args.family.now.landings) c.requires.moves c.args.key.now c.requires.reached c.span-low.result.0
    c.span-low.result.1 c.span-low.ensures c.number_of-start.result c.number_of-target.result
    (subst (λ (k : NodeKey). index_of k c.args.family.now.nodes ≡ Some c.number_of-start.result) c.entry.ensures c.number_of-start.ensures) c.number_of-target.ensures
    c.in_ok-graph.graph.items c.in_ok-graph.ensures in
    let f : IsFirstOfShortest c.deref.result.now ((c.number_of-start.result - low) ∷ []) (c.number_of-target.result - low) c.in-Some.numbers.items =
    subst (λ (o : Option (Vec ℕ Global)). IfSome o (λ walk. IsFirstOfShortest c.deref.result.now ((c.number_of-start.result - low) ∷ []) (c.number_of-target.result - low) walk.items))
    c.in-Some.is c.in_ok-numbers.ensures.some in
    let first = subst (λ (g : List (List ℕ)). IsFirstOfShortest g ((c.number_of-start.result - low) ∷ []) (c.number_of-target.result - low) c.in-Some.numbers.items) c.deref.ensures.value f in
    let start_low : c.number_of-start.result - low < length c.in_ok-graph.graph.items = omega (arith, s.0, s.1, c.in_ok-graph.ensures.count_is) in
    let lt =
    walk_inside c.in_ok-graph.graph.items (c.number_of-start.result - low) (c.number_of-target.result - low) c.in-Some.numbers.items graph start_low first.shortest.walk i
    (subst (λ (xs : List ℕ). Contains xs i) c.deref-in-Some.ensures.value h) in
    omega (arith, lt, c.in_ok-graph.ensures.count_is, c.span-low.ensures.inside)

pub returns : goal.returns
returns c =
    let low = c.span-low.result.0 in
    let f : IsFirstOfShortest c.deref.result.now ((c.number_of-start.result - low) ∷ []) (c.number_of-target.result - low) c.in-Some.numbers.items =
    subst (λ (o : Option (Vec ℕ Global)). IfSome o (λ walk. IsFirstOfShortest c.deref.result.now ((c.number_of-start.result - low) ∷ []) (c.number_of-target.result - low) walk.items))
    c.in-Some.is c.in_ok-numbers.ensures.some in
    let first = subst (λ (g : List (List ℕ)). IsFirstOfShortest g ((c.number_of-start.result - low) ∷ []) (c.number_of-target.result - low) c.in-Some.numbers.items) c.deref.ensures.value f in
    IfOk-weaker c.words.result _ _
    (λ walk e.
    is_way_to (task_of c.args.task.now) c.args.family.now.nodes c.requires.shown (moves_by c.args.family.now.landings) c.requires.moves c.args.key.now c.requires.reached c.span-low.result.0
    c.span-low.result.1 c.span-low.ensures c.number_of-start.result c.number_of-target.result
    (subst (λ (k : NodeKey). index_of k c.args.family.now.nodes ≡ Some c.number_of-start.result) c.entry.ensures c.number_of-start.ensures) c.number_of-target.ensures
    c.in_ok-graph.graph.items c.in_ok-graph.ensures c.in-Some.numbers.items walk first (e ∙ ap (map (λ i. pc_at c.args.family.now.nodes (low + i))) c.deref-in-Some.ensures.value))
    c.words.ensures
