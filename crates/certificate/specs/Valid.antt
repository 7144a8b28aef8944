-- Validity of a certificate for a firmware and assumptions. Source: own.
use Rattle.std.specs.Prelude.{ℕ, ◌+◌, ◌≡◌, ◌<◌, ◌≤◌, List, Contains, Option, Some, None, IsOkAnd, ⊤}
use Rattle.avr_model.specs.declared.assumption.Entry.{Entry}
use Rattle.avr_model.specs.Devices.{Image, device_of, size_of, back_of}
use Rattle.avr_model.specs.declared.choice.Stop.TheVariants as stop
use Rattle.node_keys.specs.declared.keys.InstKey.{InstKey}
use Rattle.node_keys.specs.declared.keys.SpForm.TheVariants.{Closed}
use Rattle.node_keys.specs.Keys.{root_inst, entry_key}
use Rattle.local_rules.specs.declared.local.Node.{Node}
use Rattle.edge_rules.specs.declared.edge.Edge.{Edge}
use Rattle.edge_rules.specs.Edges.{IsEdge, target}
use Rattle.edge_rules.specs.Nest.{NestEdge}
use Rattle.edge_rules.specs.Expansion.{IsFilled}
use Rattle.edge_rules.specs.Roots.{root_of}
use Rattle.edge_rules.specs.Families.{RankedFamily, IsCovered, AreFaultless}
use Rattle.witness_replay.specs.Spelling.{Plan}
use Rattle.witness_replay.specs.Replay.{replay_of}
use Rattle.certificate.specs.Insts.{rank_in, need_in}
use Rattle.certificate.specs.Claims.{Claim}
use Rattle.local_rules.specs.Site.{Task}

-- the node at reset: flags are clear, all else is unknown
abbrev pub reset_node : List Entry → Node
reset_node A = record { key = entry_key root_inst; state = root_of A }

-- ---- the conditions on the nodes of a certificate with their states, by the numbers of the reasons that tell that one fails

-- 2: no node has a fault: `AreFaultless`, with the definition of families

-- 3: each edge leads to a node of the certificate, with a state within that node's
abbrev pub AllLand : Task → List Node → Type 0
AllLand task nodes = (n : Node) (e : Edge) → Contains nodes n → IsEdge task nodes n e → IsCovered nodes (target e)

-- 4: an instance's rank is above that of each instance that lies below it in the nest
abbrev pub AreRanked : Task → Claim → List Node → Type 0
AreRanked task c nodes = (i j : InstKey) (depth : ℕ) → NestEdge task (Contains nodes) i j depth → rank_in c.instances j < rank_in c.instances i

-- This number is at least the offset of each closed node of the instance, and at least the need of each instance below it in the nest, plus
-- its depth and the bytes of a return address.
pub record Suffices (task : Task) (c : Claim) (nodes : List Node) (inst : InstKey) (need : ℕ) : Type 0 where
  pub offsets : (n : Node) (offset : ℕ) → Contains nodes n → n.key.inst ≡ inst → n.key.sp ≡ Closed offset → offset ≤ need
  pub entered : (into : InstKey) (depth : ℕ) → NestEdge task (Contains nodes) inst into depth → depth + back_of (device_of task.flash) + need_in c.instances into ≤ need

-- 5: each instance's need suffices
abbrev pub NeedsSuffice : Task → Claim → List Node → Type 0
NeedsSuffice task c nodes = (inst : InstKey) → Suffices task c nodes inst (need_in c.instances inst)

-- 6: the bound is at least the root's need, and at most the size of the device's SRAM
pub record IsBounded (image : Image) (c : Claim) : Type 0 where
  pub enough : need_in c.instances root_inst ≤ c.bound
  pub small : c.bound ≤ size_of (device_of image)

pub record MeetsConditions (task : Task) (c : Claim) (nodes : List Node) : Type 0 where
  -- a certificate is judged for its device alone
  pub device : c.device ≡ device_of task.flash
  -- 1: the node at reset is in the certificate, with a state above the reset state
  pub reset : IsCovered nodes (reset_node task.assumptions)
  pub faultless : AreFaultless task nodes
  pub edges : AllLand task nodes
  pub ranks : AreRanked task c nodes
  pub needs : NeedsSuffice task c nodes
  pub bounded : IsBounded task.flash c
  -- 7: the assumptions are those of the call
  pub assumptions : c.assumptions ≡ task.assumptions

-- Each node has an expansion, and the expanded nodes meet all conditions but that on the schedule.
pub record IsSound (task : Task) (c : Claim) : Type 0 where
  pub nodes : List Node
  pub expanded : IsFilled task c.nodes nodes
  pub meets : MeetsConditions task c nodes

-- the replay of the schedule meets no illegal choice, ends without a stop, and is as deep as the bound
abbrev pub Attains : Task → ℕ → Plan → Type 0
Attains task bound plan = IsOkAnd (replay_of task.flash task.assumptions plan) (λ r. (r.stop ≡ stop.End) × (r.depth ≡ bound))

-- 8: the schedule, if there is one, attains the bound
abbrev pub IsAttained : Task → ℕ → Option Plan → Type 0
IsAttained task bound None = ⊤
IsAttained task bound (Some plan) = Attains task bound plan

-- The certificate is valid for these words of flash and these assumptions.
pub record IsValid (task : Task) (c : Claim) : Type 0 where
  pub sound : IsSound task c
  pub attained : IsAttained task c.bound c.witness

-- the family of a certificate with these expanded nodes, with its ranks and needs
abbrev pub family_of : Claim → List Node → RankedFamily
family_of c nodes = record { nodes = nodes; rank_of = rank_in c.instances; need_of = need_in c.instances; bound = c.bound }
