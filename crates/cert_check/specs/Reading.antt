-- Certificates judged under a list with the line `pairs` if their own has none, or the other way round: how their states are read, and
-- which edges land. Source: own.
use Rattle.std.specs.Prelude.{Bool, true, false, ⊤, List, map, Contains, Option, Some, None}
use Rattle.pair_domain.specs.declared.facts.PairFacts.{PairFacts}
use Rattle.pair_domain.specs.Facts.{nothing, IsKnownWithin}
use Rattle.abs_state.specs.declared.values.AbsByte.{AbsByte}
use Rattle.abs_state.specs.declared.state.AbsState.{AbsState}
use Rattle.node_keys.specs.declared.keys.NodeKey.{NodeKey}
use Rattle.local_rules.specs.declared.local.Node.{Node}
use Rattle.edge_rules.specs.declared.seeded.NodeForm.{NodeForm}
use Rattle.edge_rules.specs.declared.seeded.NodeForm.TheVariants.{State, From}
use Rattle.edge_rules.specs.Expansion.{Seeds}
use Rattle.edge_rules.specs.Families.{IsCovered}
use Rattle.certificate.specs.Hulls.{hulls_of}
use Rattle.local_rules.specs.Site.{Task}
use Rattle.certificate.specs.Claims.{Claim}
use Rattle.avr_model.specs.Assumptions.{has_pairs}

-- ---- how states are read

-- the facts on pairs that the bytes of registers imply
abbrev pub hulled : List AbsByte → PairFacts
hulled registers = record nothing { intervals = hulls_of registers }

-- If pairs aren't followed, facts are dropped. If they are, a state's facts are kept, and a state without facts gets those that its bytes
-- imply.
abbrev pub facts_read : Bool → List AbsByte → Option PairFacts → Option PairFacts
facts_read false registers x = None
facts_read true registers None = Some (hulled registers)
facts_read true registers (Some f) = Some f

abbrev pub read_state : Bool → AbsState → AbsState
read_state followed s = record s { facts = facts_read followed s.registers s.facts }

abbrev pub read_form : Bool → NodeForm → NodeForm
read_form followed (State s) = State (read_state followed s)
read_form followed (From m) = From m

abbrev pub read_seed : Bool → NodeKey × NodeForm → NodeKey × NodeForm
read_seed followed e = (e.0, read_form followed e.1)

-- the nodes of a certificate, read with pairs or without
abbrev pub read_seeds : Bool → Seeds → Seeds
read_seeds followed nodes = map (read_seed followed) nodes

-- the nodes of a certificate, read as the task's assumptions say
abbrev pub own_seeds : Task → Claim → Seeds
own_seeds task c = read_seeds (has_pairs task.assumptions) c.nodes

-- ---- where edges land

-- the node's own state, if it has one, has no facts on pairs
abbrev pub TellsNothing : NodeForm → Type 0
TellsNothing (State s) = IsKnownWithin (Some nothing) s.facts
TellsNothing (From m) = ⊤

-- If pairs aren't followed, no edge has facts on pairs, so none lands at a node whose own state has some.
abbrev pub IsOpen : Bool → Seeds → NodeKey → Type 0
IsOpen true own k = ⊤
IsOpen false own k = (form : NodeForm) → Contains own (k, form) → TellsNothing form

-- a node with the key exists, is open, and has a state above this one; `own` are the certificate's nodes before expansion
abbrev pub LandsOpen : Bool → Seeds → List Node → Node → Type 0
LandsOpen followed own nodes n = IsCovered nodes n × IsOpen followed own n.key
