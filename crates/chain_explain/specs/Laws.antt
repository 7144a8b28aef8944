-- Laws of explanations.
use Rattle.std.specs.Prelude.{◌≡◌}
use Rattle.certificate.specs.Claims.{Claim, IsClaim}
use Rattle.certificate.specs.Valid.{IsSound}
use Rattle.chain_explain.specs.declared.explanation.Explanation.{Explanation}
use Rattle.chain_explain.specs.Explanation.{IsExplanation}
use Rattle.chain_explain.specs.Told.{Tells}
use Rattle.local_rules.specs.Site.{Task}

-- a certificate has at most one explanation
abbrev pub ExplanationsAreOne : Type 0
ExplanationsAreOne = (task : Task) (c : Claim) (x y : Explanation) → IsClaim c → IsExplanation task c x → IsExplanation task c y → x ≡ y

-- if the conditions of a certificate hold, its explanation accounts for the bytes of its bound
abbrev pub ExplanationsTell : Type 0
ExplanationsTell = (task : Task) (c : Claim) (x : Explanation) → IsSound task c → IsExplanation task c x → Tells task c x
