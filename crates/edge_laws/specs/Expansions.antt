-- Laws of expansions.
use Rattle.std.specs.Prelude.{ℕ, Bool, ◌≡◌, ◌≤◌, ◌⊎◌, ◌↔◌, ◌<◌, List, [], ◌∷◌, length, map, Some, Ok}
use Rattle.std.specs.List.{slice_get}
use Rattle.std.specs.List.Sorted.{IsStrictlySortedBy}
use Rattle.avr_model.specs.Assumptions.{has_pairs}
use Rattle.avr_model.specs.Devices.{device_of}
use Rattle.abs_state.specs.declared.state.AbsState.{AbsState}
use Rattle.node_keys.specs.declared.keys.NodeKey.{NodeKey}
use Rattle.node_keys.specs.Order.{node_cmp}
use Rattle.local_rules.specs.declared.local.Local.{Local}
use Rattle.local_rules.specs.declared.local.Node.{Node}
use Rattle.local_rules.specs.Cover.{IsNodeIn}
use Rattle.local_rules.specs.Local.{local}
use Rattle.edge_rules.specs.declared.seeded.NodeForm.{NodeForm}
use Rattle.edge_rules.specs.declared.seeded.NodeForm.TheVariants.{State, From}
use Rattle.edge_rules.specs.Views.{AreShown}
use Rattle.edge_rules.specs.Expansion.{Seeds, IsExpansion, AreSeeds, states_at, IsFilled, IsMissing}
use Rattle.local_rules.specs.Site.{Task}

-- a node has at most one expansion
pub record ExpansionsAreOne : Type 0 where
  pub one : (task : Task) (nodes : Seeds) (at : ℕ) (s t : AbsState) → IsExpansion task nodes at s → IsExpansion task nodes at t → s ≡ t

-- expansions of valid seeds are nodes of the analysis
pub record ExpansionsAreNodes : Type 0 where
  pub node : {followed : Bool} (task : Task) (nodes : Seeds) (at : ℕ) (k : NodeKey) (form : NodeForm) (s : AbsState) → AreSeeds (device_of task.flash) followed nodes
      → slice_get nodes at ≡ Some (k, form) → IsExpansion task nodes at s → IsNodeIn (device_of task.flash) followed k s

-- the node j with this state has no fault, and exactly one successor with the key k, whose state is t
abbrev pub HasSuccessor : Task → NodeKey → AbsState → NodeKey → AbsState → Type 0
HasSuccessor task j s k t = (l : Local) × ((local task j s ≡ Ok l) × (states_at k l.same ≡ t ∷ []))

-- A node with a state has that one alone. A node from an earlier one has an expansion exactly if that one has, with a successor of its
-- key.
pub record ExpansionsFollow : Type 0 where
  pub own : (task : Task) (nodes : Seeds) (at : ℕ) (k : NodeKey) (s t : AbsState) → slice_get nodes at ≡ Some (k, State s)
      → IsExpansion task nodes at t ↔ (t ≡ s)
  pub from : (task : Task) (nodes : Seeds) (at m : ℕ) (k j : NodeKey) (form : NodeForm) (t : AbsState) → slice_get nodes at ≡ Some (k, From m)
      → m < at → slice_get nodes m ≡ Some (j, form)
      → IsExpansion task nodes at t ↔ ((s : AbsState) × (IsExpansion task nodes m s × HasSuccessor task j s k t))

-- a node has at most one successor of a key
pub record SuccessorsAreOne : Type 0 where
  pub few : (task : Task) (j k : NodeKey) (s : AbsState) (l : Local) → local task j s ≡ Ok l → length (states_at k l.same) ≤ 1

-- Either all nodes have expansions, or there is a least one that has none. The filled list and the least number are unique.
pub record FilledOrMissing : Type 0 where
  pub decided : (task : Task) (nodes : Seeds) → AreSeeds (device_of task.flash) (has_pairs task.assumptions) nodes → ((filled : List Node) × IsFilled task nodes filled) ⊎ ((at : ℕ) × IsMissing task nodes at)
  pub apart : (task : Task) (nodes : Seeds) (filled : List Node) (at : ℕ) → IsFilled task nodes filled → IsMissing task nodes at → ⊥
  pub least : (task : Task) (nodes : Seeds) (i j : ℕ) → IsMissing task nodes i → IsMissing task nodes j → i ≡ j
  pub keys : (task : Task) (nodes : Seeds) (filled : List Node) → IsFilled task nodes filled
      → map (λ n. n.key) filled ≡ map (λ e. e.0) nodes
  pub one : (task : Task) (nodes : Seeds) (f g : List Node) → IsFilled task nodes f → IsFilled task nodes g → f ≡ g

-- the keys of the given nodes ascend strictly
abbrev pub AreSeedsAscending : Seeds → Type 0
AreSeedsAscending nodes = IsStrictlySortedBy node_cmp (map (λ e. e.0) nodes)

-- If the keys ascend, so does the filled list, and all its nodes are nodes of the analysis.
pub record FilledListsAreShown : Type 0 where
  pub shown : (task : Task) (nodes : Seeds) (filled : List Node) → IsFilled task nodes filled → AreSeedsAscending nodes → AreShown (device_of task.flash) filled
