-- The numbers that the pointer of an instruction may have. Source: own.
use Rattle.std.specs.Prelude.{ℕ, ◌≡◌, ◌<◌, ◌≤◌, true, Option, Some, None, Contains}
use Rattle.avr_model.specs.declared.instruction.Base.{Base}
use Rattle.avr_model.specs.declared.instruction.Base.TheVariants as base
use Rattle.avr_model.specs.declared.instruction.Instr.{Instr}
use Rattle.avr_model.specs.declared.instruction.Instr.TheVariants as i
use Rattle.avr_model.specs.declared.instruction.Pointer.{Pointer}
use Rattle.avr_model.specs.declared.instruction.Pointer.TheVariants as pointer
use Rattle.avr_model.specs.Sites.{instruction_at}
use Rattle.local_rules.specs.declared.local.Node.{Node}
use Rattle.local_rules.specs.Permitted.{permits_number}
use Rattle.local_rules.specs.Site.{Task}
use Rattle.edge_rules.specs.Families.{RankedFamily}
use Rattle.clear_laws.specs.declared.stores.PointerNumbers.{PointerNumbers}
use Rattle.clear_laws.specs.declared.stores.PointerPair.{PointerPair}
use Rattle.clear_laws.specs.declared.stores.PointerPair.TheVariants as pair

-- ---- the pointer of an instruction

abbrev pub pair_of_base : Base → PointerPair
pair_of_base base.Y = pair.Y
pair_of_base base.Z = pair.Z

abbrev pub pair_of_pointer : Pointer → PointerPair
pair_of_pointer pointer.X = pair.X
pair_of_pointer pointer.XPlus = pair.X
pair_of_pointer pointer.MinusX = pair.X
pair_of_pointer pointer.YPlus = pair.Y
pair_of_pointer pointer.MinusY = pair.Y
pair_of_pointer pointer.ZPlus = pair.Z
pair_of_pointer pointer.MinusZ = pair.Z

-- the register pair through which the instruction stores, jumps or calls
abbrev pub pointer_of : Instr → Option PointerPair
pointer_of (i.Std b q r) = Some (pair_of_base b)
pointer_of (i.St p r) = Some (pair_of_pointer p)
pointer_of i.Ijmp = Some pair.Z
pointer_of i.Icall = Some pair.Z
pointer_of i.Eijmp = Some pair.Z
pointer_of i.Eicall = Some pair.Z
pointer_of _ = None

-- its low byte
abbrev pub low_register : PointerPair → ℕ
low_register pair.X = 26
low_register pair.Y = 28
low_register pair.Z = 30

-- ---- its numbers

-- the instruction at the word has this pointer, and by some node there it may have this number before the instruction
pub record MayHoldNumber (task : Task) (f : RankedFamily) (pc : ℕ) (p : PointerPair) (number : ℕ) : Type 0 where
  pub node : Node
  pub present : Contains f.nodes node
  pub is : node.key.pc ≡ pc
  pub instr : Instr
  pub instruction : instruction_at task.flash pc ≡ Some instr
  pub pointer : pointer_of instr ≡ Some p
  pub small : number < 65536
  pub permits : permits_number node.state (low_register p) number ≡ true

-- the least and the greatest number of the pointer at the word, by all nodes there
pub record AreNumbersAt (task : Task) (f : RankedFamily) (pc : ℕ) (p : PointerNumbers) : Type 0 where
  pub first : MayHoldNumber task f pc p.pair p.numbers.first
  pub last : MayHoldNumber task f pc p.pair p.numbers.last
  pub least : (n : ℕ) → MayHoldNumber task f pc p.pair n → p.numbers.first ≤ n
  pub greatest : (n : ℕ) → MayHoldNumber task f pc p.pair n → n ≤ p.numbers.last

-- these, or no node has a number for a pointer
abbrev pub IsPointerAt : Task → RankedFamily → ℕ → Option PointerNumbers → Type 0
IsPointerAt task f pc None = (p : PointerPair) (n : ℕ) → MayHoldNumber task f pc p n → ⊥
IsPointerAt task f pc (Some p) = AreNumbersAt task f pc p
