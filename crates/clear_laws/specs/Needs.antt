-- Conditions of nodes on their slots, as tests. Source: own.
use Rattle.std.specs.Prelude.{ℕ, Bool, true, false, not}
use Rattle.clear_laws.specs.declared.slots.Condition.{Condition}
use Rattle.clear_laws.specs.declared.slots.Condition.TheVariants.{Always, SlotFree, Never}

-- `held` has the slots that may hold a live byte
abbrev pub meets : Condition → (ℕ → Bool) → Bool
meets Always held = true
meets (SlotFree d) held = not (held d)
meets Never held = false
