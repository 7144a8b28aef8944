-- Worked rows of the definitions.
use Rattle.std.specs.Prelude.{◌≡◌, ℕ, refl, true, false, List, [], ◌∷◌, slice_get}
use Rattle.std.specs.declared.cmp.Ordering.TheVariants.{Less, Greater, Equal}
use Rattle.node_keys.specs.declared.keys.EdgeKind.TheVariants.{Call, Interrupt}
use Rattle.node_keys.specs.declared.keys.Kind.TheVariants.{Vector}
use Rattle.node_keys.specs.declared.keys.Kind.TheVariants as kinds
use Rattle.node_keys.specs.Keys.{root_inst}
use Rattle.instance_graph.specs.declared.graph.Entered.{Entered}
use Rattle.instance_graph.specs.declared.graph.GraphInst.{GraphInst}
use Rattle.instance_graph.specs.declared.graph.GraphWay.TheVariants.{Enters, Recur}
use Rattle.instance_graph.specs.Chain.{entry_of, turn_of, edge_cmp}
use Rattle.instance_graph.specs.Cycle.{group_of, number_of}

-- the root, a handler of vector 2 and two functions, each with one node
abbrev root : GraphInst
root = record { key = root_inst; offsets = record { node = 0; offset = 0 } ∷ []; entered = [] }

abbrev handler : GraphInst
handler = record { key = record { kind = Vector 2; entry = 2; masks = 0; i = false }; offsets = record { node = 1; offset = 0 } ∷ []; entered = [] }

abbrev function : ℕ → ℕ → GraphInst
function entry node = record { key = record { kind = kinds.Call; entry = entry; masks = 0; i = true }; offsets = record { node = node; offset = 0 } ∷ []; entered = [] }

abbrev firmware : List GraphInst
firmware = root ∷ handler ∷ function 9 2 ∷ function 7 3 ∷ []

-- ---- who is named

handler_is_of_the_first_group : group_of handler.key.kind ≡ 0
handler_is_of_the_first_group = refl

handler_goes_by_its_vector : number_of (Vector 3) 4 ≡ 3
handler_goes_by_its_vector = refl

function_goes_by_its_entry : number_of (function 9 2).key.kind (function 9 2).key.entry ≡ 9
function_goes_by_its_entry = refl

-- ---- the order of edges

abbrev calls : ℕ → ℕ → Entered
calls node into = record { node = node; offset = 1; way = Enters Call; into = into }

abbrev keeps : ℕ → Entered
keeps node = record { node = node; offset = 0; way = Enters (Interrupt 7 false); into = 1 }

abbrev clears : ℕ → Entered
clears node = record { node = node; offset = 0; way = Enters (Interrupt 7 true); into = 1 }

abbrev recurs : ℕ → Entered
recurs into = record { node = 9; offset = 100; way = Recur; into = into }

entry_of_a_function : entry_of (slice_get firmware 2) ≡ 9
entry_of_a_function = refl

numbers_of_a_call : turn_of firmware (calls 5 2) ≡ 5 ∷ 1 ∷ 0 ∷ 0 ∷ 9 ∷ 2 ∷ []
unfolding turn_of
numbers_of_a_call = refl

numbers_of_an_interrupt : turn_of firmware (clears 5) ≡ 5 ∷ 2 ∷ 7 ∷ 1 ∷ 2 ∷ 1 ∷ []
unfolding turn_of
numbers_of_an_interrupt = refl

the_lesser_node_first : edge_cmp firmware (clears 4) (calls 5 2) ≡ Less
unfolding edge_cmp turn_of
the_lesser_node_first = refl

a_call_before_an_interrupt : edge_cmp firmware (calls 5 2) (keeps 5) ≡ Less
unfolding edge_cmp turn_of
a_call_before_an_interrupt = refl

the_one_that_keeps_before_the_one_that_clears : edge_cmp firmware (clears 5) (keeps 5) ≡ Greater
unfolding edge_cmp turn_of
the_one_that_keeps_before_the_one_that_clears = refl

-- edges are ordered by target, whatever the numbers of the instances
calls_by_target : edge_cmp firmware (calls 5 2) (calls 5 3) ≡ Greater
unfolding edge_cmp turn_of
calls_by_target = refl

an_edge_is_not_before_itself : edge_cmp firmware (calls 5 2) (calls 5 2) ≡ Equal
unfolding edge_cmp turn_of
an_edge_is_not_before_itself = refl

-- a recur edge has the number of all nodes
recur_edges_last : edge_cmp firmware (recurs 2) (clears 8) ≡ Greater
unfolding edge_cmp turn_of
recur_edges_last = refl

recur_edges_by_target : edge_cmp firmware (recurs 3) (recurs 2) ≡ Less
unfolding edge_cmp turn_of
recur_edges_by_target = refl
