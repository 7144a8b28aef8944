-- Conditions of nodes on their slots. Source: own.
use Rattle.std.specs.Prelude.{ℕ, ⊤}
use Rattle.clear_laws.specs.declared.slots.Condition.{Condition}
use Rattle.clear_laws.specs.declared.slots.Condition.TheVariants.{Always, SlotFree, Never}

-- P has the slots that may hold a live byte
abbrev pub Meets : Condition → (ℕ → Type 0) → Type 0
Meets Always P = ⊤
Meets (SlotFree d) P = P d → ⊥
Meets Never P = ⊥
