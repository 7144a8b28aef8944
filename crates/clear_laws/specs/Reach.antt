-- The nodes that a slot reaches. Source: own.
use Rattle.std.specs.Prelude.{ℕ, ◌≡◌, ◌<◌, ◌↔◌, Bool, true, false, List, [], length, Contains, slice_index_or}
use Rattle.clear_laws.specs.declared.slots.SlotSeed.{SlotSeed}

-- the targets of node k's links
abbrev pub links_of : List (List ℕ) → ℕ → List ℕ
links_of links k = slice_index_or links k []

-- the number of slots of node k
abbrev pub offset_at : List ℕ → ℕ → ℕ
offset_at offsets k = slice_index_or offsets k 0

-- whether node k is marked
abbrev pub is_on : List Bool → ℕ → Bool
is_on marks k = slice_index_or marks k false

-- The slot is one of the node's seeds, or a link leads here from a node that the slot reaches, and the node has that many slots.
pub data SlotReaches (links : List (List ℕ)) (offsets : List ℕ) (seeds : List SlotSeed) (slot : ℕ) : ℕ → Type 0 where
  begins : (k : ℕ) → Contains seeds (record { node = k; slot = slot }) → SlotReaches links offsets seeds slot k
  along : (k t : ℕ) → SlotReaches links offsets seeds slot k → Contains (links_of links k) t → slot < offset_at offsets t → SlotReaches links offsets seeds slot t

-- links and offsets are given for each node, and links and seeds lead to nodes
pub record AreInside (links : List (List ℕ)) (offsets : List ℕ) (seeds : List SlotSeed) : Type 0 where
  pub same : length links ≡ length offsets
  pub links_lead : (k t : ℕ) → Contains (links_of links k) t → t < length offsets
  pub seeds_lead : (s : SlotSeed) → Contains seeds s → s.node < length offsets

-- a mark for each node: whether the slot reaches it
pub record AreReachMarks (links : List (List ℕ)) (offsets : List ℕ) (seeds : List SlotSeed) (slot : ℕ) (marks : List Bool) : Type 0 where
  pub count : length marks ≡ length offsets
  pub exact : (k : ℕ) → (is_on marks k ≡ true) ↔ SlotReaches links offsets seeds slot k
