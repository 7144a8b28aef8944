-- Laws of the search.
use Rattle.std.specs.Prelude.{ℕ, ◌≡◌, ◌≤◌, List, length}
use Rattle.certificate.specs.Claims.{Claim}
use Rattle.witness_search.specs.declared.waypoint.Waypoint.{Waypoint}
use Rattle.witness_search.specs.Chains.{AreWaypoints}
use Rattle.witness_search.specs.Trials.{trial_of}
use Rattle.local_rules.specs.Site.{Task}

-- the list of a certificate's waypoints is unique
abbrev pub WaypointsAreOne : Type 0
WaypointsAreOne = (task : Task) (c : Claim) (points points' : List Waypoint) → AreWaypoints task c points → AreWaypoints task c points' → points ≡ points'

-- a trial has at most 200,000 choices
abbrev pub TrialsAreShort : Type 0
TrialsAreShort = (task : Task) (points : List Waypoint) (bound fill : ℕ) → length (trial_of task points bound fill) ≤ 200000
