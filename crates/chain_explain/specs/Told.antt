-- What an explanation shows.
use Rattle.std.specs.Prelude.{ℕ, ◌+◌, ◌≡◌, ◌≤◌, ◌⊎◌, List, [], ◌∷◌, Option, slice_get, Some}
use Rattle.std.specs.List.{sum_by}
use Rattle.avr_model.specs.Devices.{device_of, back_of}
use Rattle.node_keys.specs.declared.keys.EdgeKind.{EdgeKind}
use Rattle.node_keys.specs.declared.keys.SpForm.TheVariants.{Closed}
use Rattle.node_keys.specs.Keys.{root_inst, cut_at}
use Rattle.local_rules.specs.declared.local.Node.{Node}
use Rattle.edge_rules.specs.Edges.{Enters}
use Rattle.edge_rules.specs.Expansion.{IsFilled}
use Rattle.certificate.specs.Claims.{Claim}
use Rattle.round_rules.specs.Solutions.{IsAnswer}
use Rattle.chain_explain.specs.declared.explanation.Explanation.{Explanation}
use Rattle.chain_explain.specs.declared.explanation.Part.{Part}
use Rattle.chain_explain.specs.declared.explanation.PartPoint.TheVariants as point
use Rattle.chain_explain.specs.Walks.{IsWay}
use Rattle.local_rules.specs.Site.{Task}

-- the sum of the parts' bytes
abbrev pub sum_of : List Part → ℕ
sum_of parts = sum_by (λ p. p.adds) parts

-- The part's point is this node of the family, with a whole stack pointer at this offset. The part's words are those of the first
-- shortest walk to it.
pub record IsPoint (task : Task) (nodes : List Node) (part : Part) (n : Node) (offset : ℕ) : Type 0 where
  pub number : ℕ
  pub at : slice_get nodes number ≡ Some n
  pub inst : n.key.inst ≡ part.inst
  pub walk : List ℕ
  pub point : part.point ≡ point.Node n.key.pc walk
  pub closed : n.key.sp ≡ Closed offset
  pub way : IsWay task nodes part.inst number walk

-- the last part ends at its point
pub record Ends (task : Task) (nodes : List Node) (part : Part) : Type 0 where
  pub node : Node
  pub is : IsPoint task nodes part node part.adds

-- a call or interrupt edge of the family leads from the point of a part into the instance of the next
pub record EntersNext (task : Task) (nodes : List Node) (part next : Part) : Type 0 where
  pub node : Node
  pub offset : ℕ
  pub is : IsPoint task nodes part node offset
  pub adds : part.adds ≡ offset + back_of (device_of task.flash)
  pub way : EdgeKind
  pub back : ℕ
  pub enters : Enters task node way next.inst back

-- the part is the root's recur edge to the instance of the next, at the depth of its `recur` line
pub record RecursNext (task : Task) (part next : Part) : Type 0 where
  pub root : part.inst ≡ root_inst
  pub point : part.point ≡ point.Recur next.inst.entry
  pub depth : ℕ
  pub cut : cut_at task.assumptions next.inst ≡ Some depth
  pub adds : part.adds ≡ depth + back_of (device_of task.flash)

-- each part leads into the next, up to the last
abbrev pub GoOn : Task → List Node → Part → List Part → Type 0
GoOn task nodes part [] = Ends task nodes part
GoOn task nodes part (next ∷ rest) = (EntersNext task nodes part next ⊎ RecursNext task part next) × GoOn task nodes next rest

-- the parts nest from the root on, in the family of the certificate
pub record Nest (task : Task) (c : Claim) (parts : List Part) : Type 0 where
  pub nodes : List Node
  pub filled : IsFilled task c.nodes nodes
  pub root : Part
  pub rest : List Part
  pub are : parts ≡ root ∷ rest
  pub begins : root.inst ≡ root_inst
  pub go_on : GoOn task nodes root rest

-- the certificate has the nodes and the bound of the one at which the rounds end; its schedule may differ
pub record IsOfRounds (task : Task) (c : Claim) : Type 0 where
  pub steps : Option ℕ
  pub least : Claim
  pub answer : IsAnswer task steps least
  pub nodes : c.nodes ≡ least.nodes
  pub bound : c.bound ≡ least.bound

-- The parts of the explanation nest from the root on and add up to its number. This is at most the bound, and equals it if the rounds end
-- with this certificate.
pub record Tells (task : Task) (c : Claim) (x : Explanation) : Type 0 where
  pub sums : sum_of x.parts ≡ x.least
  pub bounded : x.least ≤ c.bound
  pub least : IsOfRounds task c → x.least ≡ c.bound
  pub nests : Nest task c x.parts
