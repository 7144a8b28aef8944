-- Marking of the nodes that a slot reaches. Definitions for the contracts of internal functions.
use Rattle.std.specs.Prelude.{ℕ, ◌+◌, ◌*◌, ◌≡◌, ◌<◌, ◌≤◌, ◌⊎◌, Bool, true, false, List, length, Contains}
use Rattle.std.specs.List.{sum_by}
use Rattle.clear_laws.specs.declared.slots.SlotSeed.{SlotSeed}
use Rattle.clear_laws.specs.Reach.{links_of, offset_at, is_on, SlotReaches}

abbrev pub one_if_new : Bool → ℕ
one_if_new true = 0
one_if_new false = 1

-- the number of unmarked nodes
abbrev pub count_new : List Bool → ℕ
count_new seen = sum_by one_if_new seen

abbrev pub IsOne : ℕ → ℕ → Type 0
IsOne node j = j ≡ node

abbrev pub IsSeed : SlotSeed → ℕ → ℕ → Type 0
IsSeed seed slot j = seed ≡ record { node = j; slot = slot }

abbrev pub IsNodeWithSlot : List ℕ → ℕ → ℕ → ℕ → Type 0
IsNodeWithSlot offsets slot node j = (j ≡ node) × (slot < offset_at offsets j)

-- marks the nodes with P, and puts the newly marked ones on the stack
pub record IsReachSpread (P : ℕ → Type 0) (old : List Bool) (old_stack : List ℕ) (new : List Bool) (new_stack : List ℕ) : Type 0 where
  pub same : length new ≡ length old
  pub kept : (j : ℕ) → is_on old j ≡ true → is_on new j ≡ true
  pub stack_kept : (j : ℕ) → Contains old_stack j → Contains new_stack j
  pub all : (j : ℕ) → P j → is_on new j ≡ true
  pub only : (j : ℕ) → is_on new j ≡ true → (is_on old j ≡ true) ⊎ (P j × Contains new_stack j)
  pub stack_only : (j : ℕ) → Contains new_stack j → Contains old_stack j ⊎ (is_on new j ≡ true)
  pub less : 2 * count_new new + length new_stack ≤ 2 * count_new old + length old_stack

-- loop invariant: marked nodes are reached, and all targets of a marked one that is not on the stack are marked
pub record IsSpreading (links : List (List ℕ)) (offsets : List ℕ) (seeds : List SlotSeed) (slot : ℕ) (seen : List Bool) (stack : List ℕ) : Type 0 where
  pub same : length seen ≡ length offsets
  pub reached : (j : ℕ) → is_on seen j ≡ true → SlotReaches links offsets seeds slot j
  pub stacked : (j : ℕ) → Contains stack j → is_on seen j ≡ true
  pub first : (j : ℕ) → Contains seeds (record { node = j; slot = slot }) → is_on seen j ≡ true
  pub rest : (j t : ℕ) → is_on seen j ≡ true → Contains (links_of links j) t → slot < offset_at offsets t → Contains stack j ⊎ (is_on seen t ≡ true)
