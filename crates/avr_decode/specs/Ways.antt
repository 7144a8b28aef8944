-- The paths to a store, and its pointer's registers.
use Rattle.std.specs.Prelude.{ℕ, ◌+◌, ◌&&◌, Bool, true, false, List, [], ◌∷◌, Option, Some, None, if◌then◌else◌}
use Rattle.avr_model.specs.declared.instruction.Instr.{Instr}
use Rattle.avr_model.specs.Sites.{leaves, is_ldi, sets}
use Rattle.avr_decode.specs.declared.fixed.PointerTold.{PointerTold}

-- whether the last instruction that sets the register is `ldi`; `behind` is the answer for those after this one
abbrev pub set_before : ℕ → Instr → Option Bool → Option Bool
set_before r x (Some loaded) = Some loaded
set_before r x None = if sets r x then Some (is_ldi x) else None

-- whether the last of these instructions that sets the register is `ldi`; none if no instruction sets it
unfoldable pub last_set : ℕ → List Instr → Option Bool
last_set r [] = None
last_set r (x ∷ xs) = set_before r x (last_set r xs)

-- the answer of a path for the register pair from r up
abbrev pub told : ℕ → Option (List Instr) → Option PointerTold
told r None = None
told r (Some xs) = Some (record { low = last_set r xs; high = last_set (r + 1) xs })

-- the answer of a path that begins with this instruction and continues with one of this answer
abbrev pub told_before : ℕ → Option Instr → Option PointerTold → Option PointerTold
told_before r None rest = None
told_before r (Some x) None = None
told_before r (Some x) (Some t) = if leaves x then None else Some (record { low = set_before r x t.low; high = set_before (r + 1) x t.high })

abbrev pub is_load : Option Bool → Bool
is_load None = false
is_load (Some loaded) = loaded

abbrev pub may_be_load : Option Bool → Bool
may_be_load None = true
may_be_load (Some loaded) = loaded

-- the path loads both registers
abbrev pub loads_both : Option PointerTold → Bool
loads_both None = false
loads_both (Some t) = is_load t.low && is_load t.high

-- some path that continues with this one may load both
abbrev pub may_load : Option PointerTold → Bool
may_load None = false
may_load (Some t) = may_be_load t.low && may_be_load t.high
