use Rattle.std.proofs.Common.{◌≡◌, take}
use Rattle.family_edges.specs.Landings.{landings_by}
use Rattle.cert_check.specs.Demands.{IsLeastOffered, LeadsToNode, GapAt, KeyBelow}
use Rattle.cert_check.proofs.landing.landed_from.Given as goal

abbrev pub invariant-loop-at : goal.invariant-loop-at
invariant-loop-at l =
    IsLeastOffered (LeadsToNode l.site.followed l.site.certificate.now.nodes l.site.nodes.now) (GapAt l.site.followed l.site.certificate.now.nodes l.site.nodes.now) KeyBelow (take l.at l.edges) l.landed.gap
    × (l.landed.landings ≡ landings_by l.site.nodes.now (take l.at l.edges))
