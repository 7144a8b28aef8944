-- Laws of families and rounds.
use Rattle.std.specs.Prelude.{ℕ, Bool, ◌*◌, ◌≡◌, ◌<◌, ◌≤◌, ◌↔◌, ◌⊎◌, List, Contains}
use Rattle.std.specs.FinMap.{len}
use Rattle.avr_model.specs.declared.device.Device.{Device}
use Rattle.avr_model.specs.Assumptions.{has_pairs}
use Rattle.avr_model.specs.Devices.{device_of}
use Rattle.node_keys.specs.declared.keys.InstKey.{InstKey}
use Rattle.node_keys.specs.Keys.{root_inst}
use Rattle.local_rules.specs.declared.local.Node.{Node}
use Rattle.local_rules.specs.Cover.{IsNodeIn}
use Rattle.local_laws.specs.Laws.{AreNodesIn}
use Rattle.edge_rules.specs.Families.{IsSoundFamily as IsSoundFamily}
use Rattle.certificate.specs.Claims.{Claim, IsClaim}
use Rattle.certificate.specs.Valid.{IsValid}
use Rattle.round_rules.specs.declared.refusal.Refusal.{Refusal}
use Rattle.round_rules.specs.Families.{Family, nodes_of, FamilyHas, Below, AreFormed, FamilyHasInst, HasNoFault, cells, FitsLimits}
use Rattle.round_rules.specs.Rounds.{IsAcyclic, AreRanks, AreNeeds, IsRootNeed, IsNext, Comes}
use Rattle.round_rules.specs.Refusals.{IsRefused, IsSolved, GoesBeyond}
use Rattle.round_rules.specs.Solutions.{IsShown, IsSolution}
use Rattle.round_laws.specs.Steps.{raised, raised_all, IsRoundOf, AreJoined, HaveOwnKeys, weight}
use Rattle.local_rules.specs.Site.{Task}

pub record FamiliesAreTheirNodes : Type 0 where
  pub members : (f : Family) (n : Node) → Contains (nodes_of f) n ↔ FamilyHas f n
  pub same : {device : Device} {followed : Bool} (f g : Family) → AreFormed device followed f → AreFormed device followed g → Below f g → Below g f → f ≡ g
  pub apart : (f : Family) → HaveOwnKeys (nodes_of f)

-- a family that shows a bound, with ranks and needs
pub record IsValidFamily (task : Task) (g : Family) : Type 0 where
  pub rank_of : InstKey → ℕ
  pub need_of : InstKey → ℕ
  pub bound : ℕ
  pub sound : IsSoundFamily task (record { nodes = nodes_of g; rank_of = rank_of; need_of = need_of; bound = bound })

-- the family of a shown certificate, within the limits
pub record StandsForShown (task : Task) (c : Claim) : Type 0 where
  pub family : Family
  pub valid : IsValidFamily task family
  pub fits : FitsLimits family
  pub bound : valid.bound ≡ c.bound

pub record RoundsAreLeast : Type 0 where
  -- the family of a number is unique, and has nodes of the analysis
  pub one : (task : Task) (n : ℕ) (f g : Family) → Comes task n f → Comes task n g → f ≡ g
  pub formed : (task : Task) (n : ℕ) (f : Family) → Comes task n f → AreFormed (device_of task.flash) (has_pairs task.assumptions) f
  -- it is below each valid family
  pub below : (task : Task) (n : ℕ) (f g : Family) → IsValidFamily task g → Comes task n f → Below f g
  pub faultless : (task : Task) (n : ℕ) (f g : Family) → IsValidFamily task g → Comes task n f → HasNoFault task f
  pub ranks : (task : Task) (n : ℕ) (f g : Family) (valid : IsValidFamily task g) → Comes task n f → AreRanks task f valid.rank_of
  pub needs : (task : Task) (n : ℕ) (f g : Family) (valid : IsValidFamily task g) → Comes task n f → AreNeeds task f valid.need_of
  pub acyclic : (task : Task) (n : ℕ) (f g : Family) → IsValidFamily task g → Comes task n f → IsAcyclic task f
  pub few : (task : Task) (n : ℕ) (f g : Family) → IsValidFamily task g → Comes task n f → len f ≤ len g
  pub fewer : (task : Task) (n : ℕ) (f g : Family) → IsValidFamily task g → Comes task n f → cells f ≤ cells g
  -- a certificate whose nodes meet the conditions stands for a valid family
  pub stands : (task : Task) (c : Claim) → IsShown task c → StandsForShown task c
  -- if a valid certificate exists, the rounds do not refuse
  pub never : (task : Task) (n : ℕ) (c : Claim) (r : Refusal) → IsShown task c → IsRefused task n r → ⊥
  -- needs of a solved family, and bounds of valid certificates, are at least the root's least need
  pub bound : (task : Task) (n : ℕ) (f : Family) (c : Claim) (d : ℕ) → IsShown task c → Comes task n f → IsRootNeed task f d → d ≤ c.bound
  -- what enters no instance of its own has a need of at most the root's
  pub under_root : (task : Task) (n : ℕ) (f : Family) (need : InstKey → ℕ) → Comes task n f → HasNoFault task f → AreNeeds task f need
      → (inst : InstKey) → FamilyHasInst f inst → need inst ≤ need root_inst

-- The rounds end at one number, with one family or one refusal, and not before.
pub record RoundsEndOnce : Type 0 where
  pub solved : (task : Task) (m n : ℕ) (f g : Family) → IsSolved task m f → IsSolved task n g → (m ≡ n) × (f ≡ g)
  pub either : (task : Task) (m n : ℕ) (f : Family) (r : Refusal) → IsSolved task m f → IsRefused task n r → ⊥
  pub refused : (task : Task) (m n : ℕ) (r s : Refusal) → IsRefused task m r → IsRefused task n s → (m ≡ n) × (r ≡ s)
  pub solved_beyond : (task : Task) (m n : ℕ) (f : Family) → IsSolved task m f → GoesBeyond task n → n < m
  pub refused_beyond : (task : Task) (m n : ℕ) (r : Refusal) → IsRefused task m r → GoesBeyond task n → n < m

-- The certificate of a solved family is valid. No valid one has a smaller bound.
pub record SolutionsAreValid : Type 0 where
  pub valid : (task : Task) (n : ℕ) (f : Family) (c : Claim) → IsClaim c → IsSolved task n f → IsSolution task f c → IsValid task c
  pub least : (task : Task) (n : ℕ) (f : Family) (c other : Claim) → IsSolved task n f → IsSolution task f c → IsShown task other
      → c.bound ≤ other.bound

-- The code computes a round: joining the nodes one after the other gives the next family. Each join leaves the family or raises its
-- weight, which is bounded.
pub record RoundsAreJoins : Type 0 where
  pub next : (task : Task) (f : Family) (ns : List Node) → AreFormed (device_of task.flash) (has_pairs task.assumptions) f → IsRoundOf task f ns → IsNext task f (raised_all f ns)
  pub joined : {device : Device} {followed : Bool} (f : Family) (ns : List Node) → AreFormed device followed f → AreNodesIn device followed ns → AreJoined device followed f ns (raised_all f ns)
  pub rises : {device : Device} {followed : Bool} (f : Family) (n : Node) → AreFormed device followed f → IsNodeIn device followed n.key n.state → (raised f n ≡ f) ⊎ (weight f < weight (raised f n))
  pub high : {device : Device} {followed : Bool} (f : Family) → AreFormed device followed f → weight f ≤ 1123085 * cells f
  pub formed : {device : Device} {followed : Bool} (f : Family) (n : Node) → AreFormed device followed f → IsNodeIn device followed n.key n.state → AreFormed device followed (raised f n)
