-- The nodes that aren't clear, linked by their words. Words of the inner contracts.
use Rattle.std.specs.Prelude.{ℕ, ◌+◌, ◌≡◌, ◌<◌, ◌≤◌, true, false, List, length, get_or, Some, slice_get}
use Rattle.avr_model.specs.Image.{WORDS}
use Rattle.local_rules.specs.declared.local.Node.{Node}
use Rattle.clear_laws.specs.declared.slots.Condition.{Condition}
use Rattle.store_clear.specs.Conditions.{condition_at, is_discharged}
use Rattle.store_clear.specs.Causing.{is_unclear_at}

-- this is the first node from that number on that isn't clear and lies at the word, or the number of all nodes
pub record IsNextAsk (nodes : List Node) (conditions : List Condition) (pc start at : ℕ) : Type 0 where
  pub beyond : start ≤ at
  pub within : at ≤ length conditions
  pub is : (n : Node) → slice_get nodes at ≡ Some n → is_unclear_at pc n.key (condition_at conditions at) ≡ true
  pub none : (i : ℕ) (n : Node) → start ≤ i → i < at → slice_get nodes i ≡ Some n → is_unclear_at pc n.key (condition_at conditions i) ≡ true → ⊥

-- from that number on: the first node of each word that isn't clear, and after each of them the next of its word
pub record AreLinked (nodes : List Node) (conditions : List Condition) (start : ℕ) (first later : List ℕ) : Type 0 where
  pub inside : start ≤ length conditions
  pub words : length first ≡ WORDS
  pub each : length later ≡ length conditions
  pub first_is : (pc : ℕ) → pc < WORDS → IsNextAsk nodes conditions pc start (get_or first pc 0)
  pub later_is : (i : ℕ) (n : Node) → start ≤ i → slice_get nodes i ≡ Some n → is_discharged (condition_at conditions i) ≡ false → IsNextAsk nodes conditions n.key.pc (i + 1) (get_or later i 0)

-- the first node of the word that isn't clear, and after each of them the next
pub record IsAskChain (nodes : List Node) (conditions : List Condition) (pc first : ℕ) (later : List ℕ) : Type 0 where
  pub each : length later ≡ length conditions
  pub first_is : IsNextAsk nodes conditions pc 0 first
  pub later_is : (i : ℕ) (n : Node) → slice_get nodes i ≡ Some n → is_unclear_at pc n.key (condition_at conditions i) ≡ true → IsNextAsk nodes conditions pc (i + 1) (get_or later i 0)

-- the walk along the word's nodes is at one of them, or at their end
pub record IsOnChain (nodes : List Node) (conditions : List Condition) (pc at : ℕ) : Type 0 where
  pub within : at ≤ length conditions
  pub is : (n : Node) → slice_get nodes at ≡ Some n → is_unclear_at pc n.key (condition_at conditions at) ≡ true
