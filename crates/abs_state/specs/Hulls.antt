-- Intervals that lie in the hulls of their registers. Source: own.
use Rattle.std.specs.Prelude.{ℕ, ◌≡◌, ◌<◌, ⊤, List, length, Option, Some, None}
use Rattle.avr_model.specs.State.{REGISTERS}
use Rattle.pair_domain.specs.declared.facts.PairFacts.{PairFacts}
use Rattle.pair_domain.specs.Intervals.{IsIntervalWithin}
use Rattle.pair_domain.specs.Facts.{interval_at}
use Rattle.abs_state.specs.declared.values.AbsByte.{AbsByte}
use Rattle.abs_state.specs.declared.state.AbsState.{AbsState}
use Rattle.abs_state.specs.Values.{root, following_root}
use Rattle.abs_state.specs.Order.{state_join}
use Rattle.abs_state.specs.Frames.{entered}
use Rattle.abs_state.specs.PairsBack.{returned}
use Rattle.abs_state.specs.Formed.{IsWhole}
use Rattle.abs_state.specs.Ended.{hull_at}

-- each interval lies in the hull of its registers
abbrev pub AreInHulls : List AbsByte → Option PairFacts → Type 0
AreInHulls registers None = ⊤
AreInHulls registers (Some f) = (n : ℕ) → n < 16 → IsIntervalWithin (interval_at f.intervals n) (hull_at registers n)

abbrev pub IsInHulls : AbsState → Type 0
IsInHulls s = AreInHulls s.registers s.facts

-- This holds after reset, of a join, at an entry and after a return.
pub record HullsHoldIntervals : Type 0 where
  pub root : IsInHulls root
  pub following_root : IsInHulls following_root
  pub joins : (s t : AbsState) → IsWhole s → IsWhole t → IsInHulls s → IsInHulls t → IsInHulls (state_join s t)
  pub entered : (s : AbsState) → length s.registers ≡ REGISTERS → IsInHulls s → IsInHulls (entered s)
  pub returned : (caller exit t : AbsState) → returned caller exit ≡ Some t → IsInHulls t
