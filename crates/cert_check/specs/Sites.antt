-- The nodes at which edges may land, as clauses see them.
use Rattle.local_rules.specs.declared.local.Node.{Node}
use Rattle.edge_rules.specs.declared.edge.Edge.{Edge}
use Rattle.node_keys.specs.declared.keys.NodeKey.{NodeKey}
use Rattle.cert_check.specs.declared.landing.LandingSite.{LandingSite}
use Rattle.cert_check.specs.Reading.{LandsOpen}
use Rattle.cert_check.specs.Demands.{LeadsToNode, GapAt}

abbrev pub LandsAt : LandingSite → Node → Type 0
LandsAt site n = LandsOpen site.followed site.certificate.now.nodes site.nodes.now n

abbrev pub LeadsAt : LandingSite → Edge → Type 0
LeadsAt site e = LeadsToNode site.followed site.certificate.now.nodes site.nodes.now e

-- the edge doesn't land, and offers this key
abbrev pub MissesAt : LandingSite → Edge → NodeKey → Type 0
MissesAt site e k = GapAt site.followed site.certificate.now.nodes site.nodes.now e k
