-- The result of an analysis: the least certificate with the schedule that trials find, or the reason for having none.
use Rattle.std.specs.Prelude.{ℕ, ◌≡◌, List, Option}
use Rattle.witness_replay.specs.Spelling.{Plan}
use Rattle.certificate.specs.Claims.{Claim, IsClaim}
use Rattle.certificate.specs.Valid.{IsAttained}
use Rattle.round_rules.specs.Solutions.{IsAnswer}
use Rattle.witness_search.specs.declared.waypoint.Waypoint.{Waypoint}
use Rattle.witness_search.specs.Chains.{AreWaypoints}
use Rattle.witness_search.specs.Trials.{IsFound}
use Rattle.local_rules.specs.Site.{Task}

-- The trials along the deepest chain of a certificate find this schedule, the first whose run is as deep as the bound, or none if no run
-- is.
pub record TrialsFind (task : Task) (c : Claim) (found : Option Plan) : Type 0 where
  pub points : List Waypoint
  pub chain : AreWaypoints task c points
  pub first : IsFound task points c.bound found

-- The certificate at which the rounds end within the budget, with the schedule that the trials find, which attains its bound.
pub record IsAnalysis (task : Task) (steps : Option ℕ) (c : Claim) : Type 0 where
  pub least : Claim
  pub claim : IsClaim least
  pub answer : IsAnswer task steps least
  pub found : Option Plan
  pub trials : TrialsFind task least found
  pub attained : IsAttained task least.bound found
  pub is : c ≡ record least { witness = found }
