-- RAMPZ is in no pair.
use Rattle.std.proofs.Common.{◌≡◌, refl, ap, List, Option, Some, None, arith}
use Rattle.std.proofs.lemmas.List.{set_past}
use Rattle.avr_model.specs.State.{RAMPZ}
use Rattle.pair_domain.specs.declared.intervals.Interval.{Interval}
use Rattle.pair_domain.specs.declared.facts.PairFacts.{PairFacts}
use Rattle.pair_domain.specs.Facts.{HasSixteen}
use Rattle.abs_state.specs.declared.values.AbsByte.{AbsByte}
use Rattle.abs_state.specs.Ended.{hull_at, written_hull}

pub bank_stays : (registers : List AbsByte) (x : Option PairFacts) → HasSixteen x → written_hull registers RAMPZ x ≡ x
bank_stays registers None count = refl
bank_stays registers (Some f) count =
    ap (λ (is : List Interval). Some (record f { intervals = is })) (set_past f.intervals 16 (hull_at registers 16) (omega (arith, count)))
