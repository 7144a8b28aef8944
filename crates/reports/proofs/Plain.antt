-- The schedule of a report is no float.
use Rattle.std.proofs.Common.{◌≡◌, Option, Some, None, false, refl}
use Rattle.serde_json.specs.Written.{has_float}
use Rattle.witness_replay.specs.Spelling.{Plan}
use Rattle.reports.specs.Json.{witness_data}

pub witness_plain : (o : Option Plan) → has_float (witness_data o) ≡ false
witness_plain None = refl
witness_plain (Some plan) = refl
