-- The nodes of a certificate that may flag a step. Source: own.
use Rattle.std.specs.Prelude.{ℕ, ◌≡◌, ◌<◌, ◌↔◌, List, Contains, Some}
use Rattle.std.specs.List.{slice_get}
use Rattle.std.specs.List.Sorted.{IsStrictlySortedBy}
use Rattle.std.specs.Ordering.{nat_cmp}
use Rattle.avr_model.specs.Devices.{Image}
use Rattle.local_rules.specs.declared.local.Node.{Node}
use Rattle.edge_rules.specs.Expansion.{IsFilled}
use Rattle.certificate.specs.Claims.{Claim}
use Rattle.certificate.specs.Valid.{family_of}
use Rattle.clear_laws.specs.Clear.{IsClear, MayBeFlagged, MayBeTaken}
use Rattle.clear_laws.specs.declared.verdict.ClearVerdict.{ClearVerdict}
use Rattle.clear_laws.specs.declared.verdict.ClearVerdict.TheVariants.{Clear, Unclear}
use Rattle.local_rules.specs.Site.{Task, bare}

-- each node of the certificate has an expansion, and all expanded nodes are clear
pub record AreAllClear (task : Task) (c : Claim) : Type 0 where
  pub nodes : List Node
  pub expanded : IsFilled task c.nodes nodes
  pub clear : (n : Node) → Contains nodes n → IsClear task (family_of c nodes) n

-- Among the expanded nodes, node j isn't clear and all earlier ones are; this is its word.
pub record IsFirstUnclear (task : Task) (c : Claim) (j pc : ℕ) : Type 0 where
  pub nodes : List Node
  pub expanded : IsFilled task c.nodes nodes
  pub node : Node
  pub is : slice_get nodes j ≡ Some node
  pub word : node.key.pc ≡ pc
  pub unclear : IsClear task (family_of c nodes) node → ⊥
  pub earlier : (i : ℕ) (n : Node) → slice_get nodes i ≡ Some n → i < j → IsClear task (family_of c nodes) n

-- the verdict on a certificate without assumptions: all nodes are clear, or the first that isn't
abbrev pub IsClearVerdict : Image → Claim → ClearVerdict → Type 0
IsClearVerdict image c Clear = AreAllClear (bare image) c
IsClearVerdict image c (Unclear j pc) = IsFirstUnclear (bare image) c j pc

-- the verdict names the first node that isn't clear, exactly if there is one
abbrev pub NamesFirstUnclear : Image → Claim → ClearVerdict → Type 0
NamesFirstUnclear image c verdict = (j pc : ℕ) → (verdict ≡ Unclear j pc) ↔ IsFirstUnclear (bare image) c j pc

-- exactly the words at which some expanded node isn't clear, once each and ascending
pub record AreSites (task : Task) (c : Claim) (sites : List ℕ) : Type 0 where
  pub nodes : List Node
  pub expanded : IsFilled task c.nodes nodes
  pub ascending : IsStrictlySortedBy nat_cmp sites
  pub exact : (pc : ℕ) → Contains sites pc ↔ MayBeFlagged task (family_of c nodes) pc

-- Exactly the words with a `never` line at which some expanded node may take a vector, once each and ascending. Taking it is flagged.
pub record AreNevers (task : Task) (c : Claim) (nevers : List ℕ) : Type 0 where
  pub nodes : List Node
  pub expanded : IsFilled task c.nodes nodes
  pub ascending : IsStrictlySortedBy nat_cmp nevers
  pub exact : (word : ℕ) → Contains nevers word ↔ MayBeTaken task nodes word
