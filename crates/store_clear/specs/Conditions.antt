-- Conditions of nodes that remain, slot by slot, and the words of nodes with some. Definitions for the contracts of internal functions.
use Rattle.std.specs.Prelude.{ℕ, ◌+◌, ◌≡◌, ◌<◌, ◌≤◌, ◌↔◌, ◌⊎◌, ⊤, ◌==◌, Bool, true, false, not, if◌then◌else◌, List, [], ◌∷◌, length, Option, Some, None, Contains, slice_get, slice_index_or}
use Rattle.std.specs.List.{flat_map}
use Rattle.node_keys.specs.declared.keys.EdgeKind.{EdgeKind}
use Rattle.node_keys.specs.declared.keys.EdgeKind.TheVariants as kind
use Rattle.local_rules.specs.declared.local.Node.{Node}
use Rattle.edge_rules.specs.Edges.{is_entry}
use Rattle.edge_rules.specs.Expansion.{IsFilled}
use Rattle.family_edges.specs.declared.landing.Landing.{Landing}
use Rattle.certificate.specs.Claims.{Claim}
use Rattle.certificate.specs.Valid.{family_of}
use Rattle.clear_laws.specs.Clear.{IsClear, is_clear}
use Rattle.clear_laws.specs.declared.slots.SlotSeed.{SlotSeed}
use Rattle.clear_laws.specs.Reach.{is_on, SlotReaches, AreInside}
use Rattle.clear_laws.specs.declared.slots.Condition.{Condition}
use Rattle.clear_laws.specs.declared.slots.Condition.TheVariants.{Always, SlotFree, Never}
use Rattle.clear_laws.specs.Needs.{meets}
use Rattle.clear_laws.specs.Links.{AreLinks, SeedComes}
use Rattle.clear_laws.specs.Meets.{Meets}
use Rattle.local_rules.specs.Site.{Task}

-- ---- along which edges slots spread

abbrev pub is_local : EdgeKind → Bool
is_local kind.Local = true
is_local kind.Call = false
is_local (kind.Interrupt v clears) = false
is_local kind.Return = false

-- the target of an edge with this landing, if it stays in its frame
abbrev pub link_of : Landing → List ℕ
link_of l = if not (is_entry l.kind) then l.at ∷ [] else []

-- the target with this slot, if the edge is local
abbrev pub seed_of : ℕ → Landing → List SlotSeed
seed_of slot l = if is_local l.kind then record { node = l.at; slot = slot } ∷ [] else []

-- the targets within frames of these landings
abbrev pub links_by : List Landing → List ℕ
links_by landings = flat_map link_of landings

abbrev pub seeds_by : ℕ → List Landing → List SlotSeed
seeds_by slot landings = flat_map (seed_of slot) landings

-- one of the first nodes adds a slot by a guarded push
abbrev pub SeedComesBelow : Task → List Node → ℕ → SlotSeed → Type 0
SeedComesBelow task nodes count s = (c : SeedComes task nodes s) × (c.at < count)

-- the seeds of the first nodes
abbrev pub AreSeedsTo : Task → List Node → ℕ → List SlotSeed → Type 0
AreSeedsTo task nodes count seeds = (s : SlotSeed) → Contains seeds s ↔ SeedComesBelow task nodes count s

-- the seeds of all nodes
abbrev pub AreSlotSeeds : Task → List Node → List SlotSeed → Type 0
AreSlotSeeds task nodes seeds = AreSeedsTo task nodes (length nodes) seeds

-- links and seeds of all nodes; they lead to nodes
pub record SpreadsAlong (task : Task) (nodes : List Node) (links : List (List ℕ)) (offsets : List ℕ) (seeds : List SlotSeed) : Type 0 where
  pub are : AreLinks task nodes links offsets seeds
  pub inside : AreInside links offsets seeds

-- ---- what nodes ask

abbrev pub condition_at : List Condition → ℕ → Condition
condition_at conditions i = slice_index_or conditions i Always

-- the condition for each of the first nodes to be clear
pub record AreConditionsTo (task : Task) (bound : ℕ) (nodes : List Node) (count : ℕ) (conditions : List Condition) : Type 0 where
  pub count_is : length conditions ≡ count
  pub each : (at : ℕ) (n : Node) → at < count → slice_get nodes at ≡ Some n → (held : ℕ → Bool) → is_clear task bound n held ≡ meets (condition_at conditions at) held

-- the condition of each node
abbrev pub AreConditions : Task → ℕ → List Node → List Condition → Type 0
AreConditions task bound nodes conditions = AreConditionsTo task bound nodes (length nodes) conditions

-- the condition that remains; the test says whether the slot may hold a live byte
abbrev pub discharged : Condition → ℕ → Bool → Condition
discharged Always slot held = Always
discharged (SlotFree d) slot held = if d == slot then (if held then Never else Always) else SlotFree d
discharged Never slot held = Never

-- the conditions of the first nodes that remain, by these marks
pub record AreMarkedOff (slot : ℕ) (marks : List Bool) (count : ℕ) (old new : List Condition) : Type 0 where
  pub same : length new ≡ length old
  pub done : (i : ℕ) → i < count → condition_at new i ≡ discharged (condition_at old i) slot (is_on marks i)
  pub rest : (i : ℕ) → count ≤ i → condition_at new i ≡ condition_at old i

-- the condition names no slot
abbrev pub IsDone : Condition → Type 0
IsDone Always = ⊤
IsDone (SlotFree d) = ⊥
IsDone Never = ⊤

-- a node's condition is met, if slots spread along links
abbrev pub IsMet : List (List ℕ) → List ℕ → List SlotSeed → ℕ → Condition → Type 0
IsMet links offsets seeds i conditions = Meets conditions (λ d. SlotReaches links offsets seeds d i)

-- a remaining condition is met if the old one is, and none names the slot any more
pub record IsSlotDischarged (links : List (List ℕ)) (offsets : List ℕ) (seeds : List SlotSeed) (slot : ℕ) (old new : List Condition) : Type 0 where
  pub same : length new ≡ length old
  pub met : (i : ℕ) → IsMet links offsets seeds i (condition_at new i) ↔ IsMet links offsets seeds i (condition_at old i)
  pub kept : (i : ℕ) → IsDone (condition_at old i) → IsDone (condition_at new i)
  pub done : (i : ℕ) → condition_at old i ≡ SlotFree slot → IsDone (condition_at new i)

-- `IsSlotDischarged` for all slots that conditions of the first nodes name
pub record AreDischarged (links : List (List ℕ)) (offsets : List ℕ) (seeds : List SlotSeed) (count : ℕ) (old new : List Condition) : Type 0 where
  pub same : length new ≡ length old
  pub met : (i : ℕ) → IsMet links offsets seeds i (condition_at new i) ↔ IsMet links offsets seeds i (condition_at old i)
  pub done : (i : ℕ) → i < count → IsDone (condition_at new i)

-- ---- which nodes are clear

abbrev pub is_discharged : Condition → Bool
is_discharged Always = true
is_discharged (SlotFree d) = false
is_discharged Never = false

-- the remaining conditions decide which nodes are clear
pub record AreConditionsLeft (task : Task) (c : Claim) (nodes : List Node) (conditions : List Condition) : Type 0 where
  pub count : length conditions ≡ length nodes
  pub each : (at : ℕ) (n : Node) → slice_get nodes at ≡ Some n → (is_discharged (condition_at conditions at) ≡ true) ↔ IsClear task (family_of c nodes) n

-- the remaining conditions of a certificate's nodes decide which are clear
pub record HasConditionsLeft (task : Task) (c : Claim) (nodes : List Node) (conditions : List Condition) : Type 0 where
  pub filled : IsFilled task c.nodes nodes
  pub told : AreConditionsLeft task c nodes conditions

-- each of the first nodes has no condition left
abbrev pub AreAllDischarged : List Condition → ℕ → Type 0
AreAllDischarged conditions count = (i : ℕ) → i < count → is_discharged (condition_at conditions i) ≡ true

-- the first node with a condition left
pub record IsFirstAt (conditions : List Condition) (at : ℕ) : Type 0 where
  pub inside : at < length conditions
  pub is : is_discharged (condition_at conditions at) ≡ false
  pub earlier : AreAllDischarged conditions at

abbrev pub IsFirstLeft : List Condition → Option ℕ → Type 0
IsFirstLeft conditions None = AreAllDischarged conditions (length conditions)
IsFirstLeft conditions (Some at) = IsFirstAt conditions at

-- ---- words

-- one of the first nodes has a condition left, and is at this word
pub record IsWordOf (nodes : List Node) (conditions : List Condition) (count pc : ℕ) : Type 0 where
  pub at : ℕ
  pub node : Node
  pub below : at < count
  pub is : slice_get nodes at ≡ Some node
  pub fails : is_discharged (condition_at conditions at) ≡ false
  pub word : node.key.pc ≡ pc

-- exactly these words are newly marked
pub record AreWordsMarked (nodes : List Node) (conditions : List Condition) (count : ℕ) (old new : List Bool) : Type 0 where
  pub same : length new ≡ length old
  pub exact : (pc : ℕ) → (is_on new pc ≡ true) ↔ ((is_on old pc ≡ true) ⊎ IsWordOf nodes conditions count pc)

-- the places of the marks, counted from this number on
abbrev pub places_from : ℕ → List Bool → List ℕ
places_from n [] = []
places_from n (mark ∷ marks) = if mark then n ∷ places_from (n + 1) marks else places_from (n + 1) marks

abbrev pub places_of : List Bool → List ℕ
places_of marks = places_from 0 marks
