-- The answer of the analysis is unique.
use Rattle.std.specs.Prelude.{ℕ, ◌≡◌, ◌≢◌, Option}
use Rattle.certificate.specs.Claims.{Claim, IsClaim}
use Rattle.round_rules.specs.declared.refusal.Refusal.{Refusal}
use Rattle.round_rules.specs.declared.refusal.Refusal.TheVariants.{Memory}
use Rattle.round_rules.specs.Families.{Family}
use Rattle.round_rules.specs.Solutions.{IsSolution, IsAnswer, IsWhyNot}
use Rattle.local_rules.specs.Site.{Task}

pub record AnswersAreOne : Type 0 where
  -- a solved family has one certificate
  pub solution : (task : Task) (f : Family) (c d : Claim) → IsClaim c → IsClaim d → IsSolution task f c → IsSolution task f d → c ≡ d
  -- so a firmware has one certificate
  pub answer : (task : Task) (steps : Option ℕ) (c d : Claim) → IsClaim c → IsClaim d → IsAnswer task steps c → IsAnswer task steps d → c ≡ d
  -- or one cause for having none, unless memory runs out
  pub why_not : (task : Task) (steps : Option ℕ) (r s : Refusal) → IsWhyNot task steps r → IsWhyNot task steps s
      → r ≢ Memory → s ≢ Memory → r ≡ s
  pub either : (task : Task) (steps : Option ℕ) (c : Claim) (r : Refusal) → IsAnswer task steps c → IsWhyNot task steps r → r ≡ Memory
