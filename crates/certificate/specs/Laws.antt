-- Laws of certificates.
use Rattle.std.specs.Prelude.{List}
use Rattle.avr_model.specs.Assumptions.{has_pairs}
use Rattle.local_rules.specs.declared.local.Node.{Node}
use Rattle.edge_rules.specs.Expansion.{AreSeeds, IsFilled}
use Rattle.edge_rules.specs.Families.{IsSoundFamily as IsSoundFamily}
use Rattle.certificate.specs.Claims.{Claim, IsClaim}
use Rattle.certificate.specs.Valid.{MeetsConditions, family_of}
use Rattle.local_rules.specs.Site.{Task}

-- the invariants of the type are the premises of an expansion
abbrev pub ClaimsAreSeeds : Type 0
ClaimsAreSeeds = (c : Claim) → IsClaim c → AreSeeds c.device (has_pairs c.assumptions) c.nodes

-- if the conditions hold of the expanded nodes, these are a sound family with the certificate's ranks and needs
abbrev pub ConditionsMakeFamiliesSound : Type 0
ConditionsMakeFamiliesSound = (task : Task) (c : Claim) (nodes : List Node) → IsClaim c → IsFilled task c.nodes nodes
    → MeetsConditions task c nodes → IsSoundFamily task (family_of c nodes)
