-- The end of the rounds: the first family on which a test holds, refused by the first such test, or the first closed one.
use Rattle.std.specs.Prelude.{ℕ, ◌≡◌, ◌<◌, ◌≤◌, ◌⊎◌, Err}
use Rattle.std.specs.FinMap.{len}
use Rattle.avr_model.specs.Devices.{device_of, size_of}
use Rattle.node_keys.specs.declared.keys.InstKey.{InstKey}
use Rattle.node_keys.specs.declared.keys.Kind.TheVariants.{Vector}
use Rattle.local_rules.specs.declared.local.Node.{Node}
use Rattle.local_rules.specs.declared.local.NodeFault.{NodeFault}
use Rattle.local_rules.specs.declared.local.NodeFault.TheVariants as fault
use Rattle.local_rules.specs.Faults.{cause_of, fault_offset}
use Rattle.local_rules.specs.Local.{local}
use Rattle.certificate.specs.declared.limit.Limit.{Limit}
use Rattle.certificate.specs.declared.limit.Limit.TheVariants.{Nodes, Cells}
use Rattle.certificate.specs.Claims.{most_nodes, most_cells}
use Rattle.round_rules.specs.declared.refusal.Refusal.{Refusal}
use Rattle.round_rules.specs.declared.refusal.Refusal.TheVariants as refusal
use Rattle.round_rules.specs.Families.{Family, FamilyHas, cells, FitsLimits, HasNoFault, IsClosed}
use Rattle.round_rules.specs.Rounds.{Reaches, IsAcyclic, IsRootNeed, PassesTests, Comes}
use Rattle.local_rules.specs.Site.{Task}

-- ---- the tests, in their order

-- the nodes are above the limit, or else the cells
abbrev pub IsOverSize : Family → Limit → Type 0
IsOverSize f Nodes = most_nodes < len f
IsOverSize f Cells = (len f ≤ most_nodes) × (most_cells < cells f)

-- the word of a fault
abbrev pub word_of : NodeFault → ℕ
word_of (fault.UnresolvedJump pc) = pc
word_of (fault.UntrackedSp pc) = pc
word_of (fault.Unsupported pc) = pc
word_of (fault.TooDeep pc offset) = pc
word_of (fault.UnknownPointer pc) = pc
word_of fault.Memory = 0

-- a node has the fault
pub record FaultAt (task : Task) (f : Family) (x : NodeFault) : Type 0 where
  pub node : Node
  pub has : FamilyHas f node
  pub is : local task node.key node.state ≡ Err x

-- faults are ordered by cause, then word, then offset
abbrev pub IsFaultNoLater : NodeFault → NodeFault → Type 0
IsFaultNoLater x y =
    (cause_of x < cause_of y) ⊎ ((cause_of x ≡ cause_of y) × ((word_of x < word_of y) ⊎ ((word_of x ≡ word_of y) × (fault_offset x ≤ fault_offset y))))

-- the least fault of all nodes
abbrev pub IsLeastFault : Task → Family → NodeFault → Type 0
IsLeastFault task f x = FaultAt task f x × ((y : NodeFault) → FaultAt task f y → IsFaultNoLater x y)

-- an instance of this vector at this word is on a cycle, and none of a smaller vector is
pub record IsReEntry (task : Task) (f : Family) (v word : ℕ) : Type 0 where
  pub inst : InstKey
  pub reaches : Reaches task f inst inst
  pub kind : inst.kind ≡ Vector v
  pub entry : inst.entry ≡ word
  pub least : (other : InstKey) (u : ℕ) → Reaches task f other other → other.kind ≡ Vector u → v ≤ u

-- no instance of a vector is on a cycle, one at this word is, and none at a smaller word is
pub record IsRecursion (task : Task) (f : Family) (word : ℕ) : Type 0 where
  pub inst : InstKey
  pub reaches : Reaches task f inst inst
  pub entry : inst.entry ≡ word
  pub vectors : (other : InstKey) (u : ℕ) → Reaches task f other other → other.kind ≡ Vector u → ⊥
  pub least : (other : InstKey) → Reaches task f other other → word ≤ other.entry

pub data Test : Type 0 where
  over : Limit → Test
  faulty : NodeFault → Test
  -- of this vector, at its word
  re_entry : ℕ → ℕ → Test
  -- at this word
  recursion : ℕ → Test
  -- the root's least need exceeds the size of the device's SRAM
  too_deep : ℕ → Test

-- the first test that holds on the family
abbrev pub FirstHolds : Task → Family → Test → Type 0
FirstHolds task f (over limit) = IsOverSize f limit
FirstHolds task f (faulty x) = FitsLimits f × IsLeastFault task f x
FirstHolds task f (re_entry v word) = FitsLimits f × HasNoFault task f × IsReEntry task f v word
FirstHolds task f (recursion word) = FitsLimits f × HasNoFault task f × IsRecursion task f word
FirstHolds task f (too_deep d) = FitsLimits f × HasNoFault task f × IsAcyclic task f × IsRootNeed task f d × (size_of (device_of task.flash) < d)

-- ---- refusals

abbrev pub refusal_of : Test → Refusal
refusal_of (over limit) = refusal.TooLarge limit
refusal_of (faulty x) = refusal.Node x
refusal_of (re_entry v word) = refusal.ReEntry v word
refusal_of (recursion word) = refusal.Recursion word
refusal_of (too_deep d) = refusal.Node (fault.TooDeep 0 d)

-- the rounds end at family n, by this test
pub record EndsBy (task : Task) (n : ℕ) (t : Test) : Type 0 where
  pub family : Family
  pub comes : Comes task n family
  pub holds : FirstHolds task family t

-- the rounds end at family n, with this refusal
pub record IsRefused (task : Task) (n : ℕ) (r : Refusal) : Type 0 where
  pub test : Test
  pub ends : EndsBy task n test
  pub is : r ≡ refusal_of test

-- the rounds end at family n, which is f, without a refusal
pub record IsSolved (task : Task) (n : ℕ) (f : Family) : Type 0 where
  pub comes : Comes task n f
  pub passes : PassesTests task f
  pub closed : IsClosed task f

-- the rounds end at none of the families 0 to n
pub record GoesBeyond (task : Task) (n : ℕ) : Type 0 where
  pub family : Family
  pub comes : Comes task n family
  pub passes : PassesTests task family
  pub more : IsClosed task family → ⊥
