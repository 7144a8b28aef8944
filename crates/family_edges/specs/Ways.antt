-- Entries of other instances from a node, in the order of the code. An interrupt goes to its vector's word on the device.
use Rattle.std.specs.Prelude.{ℕ, suc, zero, ◌+◌, ◌==◌, ◌&&◌, Bool, true, false, not, if◌then◌else◌, List, [], ◌∷◌, ◌++◌, map}
use Rattle.avr_model.specs.Devices.{Image, device_of}
use Rattle.avr_model.specs.Assumptions.{is_never}
use Rattle.avr_model.specs.Vectors.{is_enabled, enable_count, vector_word, watchdog}
use Rattle.node_keys.specs.declared.keys.NodeKey.{NodeKey}
use Rattle.node_keys.specs.declared.keys.SpForm.{SpForm}
use Rattle.node_keys.specs.declared.keys.SpForm.TheVariants.{Closed, Open}
use Rattle.node_keys.specs.declared.keys.EdgeKind.TheVariants as kind
use Rattle.local_rules.specs.declared.local.CallSite.{CallSite}
use Rattle.edge_rules.specs.Edges.{called_inst, vector_inst}
use Rattle.family_edges.specs.declared.ways.Way.{Way}
use Rattle.local_rules.specs.Site.{Task}

abbrev pub call_way : NodeKey → CallSite → Way
call_way k site = record { kind = kind.Call; inst = called_inst k site.entry; back = site.back }

abbrev pub vector_way : Image → NodeKey → ℕ → Bool → Way
vector_way image k v clears = record { kind = kind.Interrupt v clears; inst = vector_inst image k v clears; back = k.pc }

-- an interrupt is enabled, and its word has no `never` line
abbrev pub may_enter : Task → NodeKey → ℕ → Bool
may_enter task k v = is_enabled (device_of task.flash) k.masks v && not (is_never task.assumptions (vector_word (device_of task.flash) v))

-- the entries by an interrupt that may be taken; the watchdog's has two
abbrev pub at_vector : Task → NodeKey → ℕ → List Way
at_vector task k v =
    if may_enter task k v then (vector_way task.flash k v false ∷ (if v == watchdog (device_of task.flash) then vector_way task.flash k v true ∷ [] else [])) else []

-- the entries by this many vectors, from 2 on
unfoldable pub vectors_below : Task → NodeKey → ℕ → List Way
vectors_below task k zero = []
vectors_below task k (suc n) = vectors_below task k n ++ at_vector task k (n + 2)

-- the entries by all vectors
abbrev pub at_vectors : Task → NodeKey → List Way
at_vectors task k = vectors_below task k (enable_count (device_of task.flash))

abbrev pub interrupts_if : Bool → Task → NodeKey → List Way
interrupts_if true task k = at_vectors task k
interrupts_if false task k = []

abbrev pub ways_by : SpForm → Task → NodeKey → List CallSite → List Way
ways_by (Closed offset) task k calls = map (call_way k) calls ++ interrupts_if (k.i && not k.delay) task k
ways_by (Open offset high) task k calls = []

abbrev pub ways_of : Task → NodeKey → List CallSite → List Way
ways_of task k calls = ways_by k.sp task k calls
