-- Keys of instances and nodes, and the numbers that identify them.
use Rattle.std.specs.Prelude.{ℕ, ◌<◌, ⊤, Bool, true, false, List, [], ◌∷◌, ◌++◌, Option, Some, None}
use Rattle.std.specs.Int.{from_bool}
use Rattle.avr_model.specs.declared.assumption.Entry.{Entry}
use Rattle.avr_model.specs.Assumptions.{recur_line}
use Rattle.node_keys.specs.declared.keys.Kind.{Kind}
use Rattle.node_keys.specs.declared.keys.Kind.TheVariants.{Root, Call, Vector}
use Rattle.node_keys.specs.declared.keys.InstKey.{InstKey}
use Rattle.node_keys.specs.declared.keys.High.{High}
use Rattle.node_keys.specs.declared.keys.High.TheVariants.{Known, Tag}
use Rattle.node_keys.specs.declared.keys.SpForm.{SpForm}
use Rattle.node_keys.specs.declared.keys.SpForm.TheVariants.{Closed, Open}
use Rattle.node_keys.specs.declared.keys.NodeKey.{NodeKey}

-- bytes between the base and the stack pointer, or between the base and the one being written
abbrev pub offset_of : SpForm → ℕ
offset_of (Closed offset) = offset
offset_of (Open offset high) = offset

-- a pick is a byte, if there is one
abbrev pub PickFits : Option ℕ → Type 0
PickFits None = ⊤
PickFits (Some byte) = byte < 256

abbrev pub is_root : Kind → Bool
is_root Root = true
is_root Call = false
is_root (Vector v) = false

-- the instance that begins at reset
abbrev pub root_inst : InstKey
root_inst = record { kind = Root; entry = 0; masks = 0; i = false }

-- the first node of an instance
abbrev pub entry_key : InstKey → NodeKey
entry_key inst = record { inst = inst; pc = inst.entry; masks = inst.masks; i = inst.i; delay = false; sp = Closed 0; pick = None }

abbrev pub if_called : Kind → Option ℕ → Option ℕ
if_called Root line = None
if_called Call line = line
if_called (Vector v) line = None

-- The depth of the `recur` line of the word that the instance's call enters. An instance with one is cut: its calls are bounded by the line
-- and not by their callers.
unfoldable pub cut_at : List Entry → InstKey → Option ℕ
cut_at A inst = if_called inst.kind (recur_line A inst.entry)

-- ---- the numbers that tell a key

abbrev pub kind_numbers : Kind → List ℕ
kind_numbers Root = 0 ∷ 0 ∷ []
kind_numbers Call = 1 ∷ 0 ∷ []
kind_numbers (Vector v) = 2 ∷ v ∷ []

abbrev pub high_numbers : High → List ℕ
high_numbers (Known byte) = 0 ∷ byte ∷ []
high_numbers (Tag k) = 1 ∷ k ∷ []

abbrev pub form_numbers : SpForm → List ℕ
form_numbers (Closed offset) = 0 ∷ offset ∷ 0 ∷ 0 ∷ []
form_numbers (Open offset high) = 1 ∷ offset ∷ high_numbers high

abbrev pub pick_numbers : Option ℕ → List ℕ
pick_numbers None = 0 ∷ 0 ∷ []
pick_numbers (Some byte) = 1 ∷ byte ∷ []

-- an instance: kind, entry, enable bits and I
unfoldable pub inst_numbers : InstKey → List ℕ
inst_numbers key = kind_numbers key.kind ++ key.entry ∷ key.masks ∷ from_bool key.i ∷ []

-- a node: instance, place, enable bits, I, delay, form of the stack pointer and pick
unfoldable pub node_numbers : NodeKey → List ℕ
node_numbers key = inst_numbers key.inst ++ key.pc ∷ key.masks ∷ from_bool key.i ∷ from_bool key.delay ∷ (form_numbers key.sp ++ pick_numbers key.pick)
