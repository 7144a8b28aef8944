use Rattle.std.proofs.Common.{◌∷◌, [], ◌∙◌, ap, sym, subst, arith, length, map, List, ℕ}
use Rattle.std.proofs.lemmas.List.{length-map}
use Rattle.std.proofs.lemmas.Result.{IfOk-weaker}
use Rattle.basics.specs.Items.{only_one_in}
use Rattle.edge_rules.specs.Places.{found_at}
use Rattle.node_keys.specs.Keys.{entry_key}
use Rattle.local_laws.specs.Laws.{HasKey}
use Rattle.shortest_walk.specs.Graph.{IsNumberedGraph, AreMarks}
use Rattle.chain_explain.specs.Moves.{at_of, leads_by}
use Rattle.chain_explain.proofs.Numbers.{inside_at}
use Rattle.chain_explain.proofs.Edges.{is_graph}
use Rattle.chain_explain.proofs.Marks.{are_reached}
use Rattle.chain_explain.proofs.Stepped.{reset_has}
use Rattle.chain_explain.proofs.reaching.marks_of.Goals as goal
use Rattle.family_edges.specs.Tasks.{task_of}

pub number_of-root-requires : goal.number_of-root-requires
number_of-root-requires c =
    subst (HasKey c.args.family.now.nodes) (sym (c.entry.ensures ∙ ap entry_key c.root.ensures)) (reset_has c.args.task.now.assumptions.now c.args.family.now.nodes c.requires.reset)

pub overflow_cast-root : goal.overflow_cast-root
overflow_cast-root c =
    let lt = inside_at c.entry.result c.args.family.now.nodes c.number_of-root.result c.number_of-root.ensures in
    omega (arith, lt, c.requires.few)

pub reached-requires-clause-graph : goal.reached-requires-clause-graph
reached-requires-clause-graph c =
    subst IsNumberedGraph (sym (c.deref.ensures.value ∙ (c.in_ok-graph.ensures ∙ ap leads_by c.as_slice.ensures)))
    (is_graph (task_of c.args.task.now) c.args.family.now.nodes c.requires.shown c.args.family.now.landings c.requires.landings c.requires.few)

pub reached-requires-clause-starts : goal.reached-requires-clause-starts
reached-requires-clause-starts c = λ i h.
    let lt = inside_at c.entry.result c.args.family.now.nodes c.number_of-root.result c.number_of-root.ensures in
    let same = only_one_in c.number_of-root.result i h in
    let graph = ap length (c.deref.ensures.value ∙ (c.in_ok-graph.ensures ∙ ap leads_by c.as_slice.ensures)) in
    let count = length-map c.args.family.now.landings (map at_of) in
    omega (arith, lt, same, graph, count, c.requires.landings.are.count_is)

pub returns-clause-reached : goal.returns-clause-reached
returns-clause-reached c =
    let w = found_at c.entry.result c.args.family.now.nodes c.number_of-root.result c.number_of-root.ensures in
    IfOk-weaker c.reached.result _ _
    (λ marks e.
    are_reached (task_of c.args.task.now) c.args.family.now.nodes c.requires.shown c.args.family.now.landings c.requires.landings
    c.number_of-root.result w.node w.is (w.same ∙ (c.entry.ensures ∙ ap entry_key c.root.ensures)) marks.items
    (subst (λ (g : List (List ℕ)). AreMarks g (c.number_of-root.result ∷ []) marks.items) (c.deref.ensures.value ∙ (c.in_ok-graph.ensures ∙ ap leads_by c.as_slice.ensures)) e))
    c.reached.ensures
