-- Facts that a write ends: tags that name a written register or its pair, the interval of this pair, and tags of written flags. Source:
-- own.
use Rattle.std.specs.Prelude.{ℕ, suc, ◌+◌, ◌*◌, ◌/◌, ◌^◌, ◌==◌, ◌&&◌, ◌||◌, ◌≡◌, ◌<◌, Bool, false, bit_and, nat_lt, if◌then◌else◌, List, [], ◌∷◌, Option, Some, None, slice_set, slice_index}
use Rattle.std.specs.List.{list_any}
use Rattle.avr_model.specs.Sreg.{flag}
use Rattle.sp_domain.specs.Tags.{Origin}
use Rattle.pair_domain.specs.declared.intervals.Interval.{Interval}
use Rattle.pair_domain.specs.declared.facts.PairFacts.{PairFacts}
use Rattle.pair_domain.specs.declared.tags.SumTag.{SumTag}
use Rattle.pair_domain.specs.declared.tags.SumTag.TheVariants as sum
use Rattle.pair_domain.specs.declared.tags.Side.{Side}
use Rattle.pair_domain.specs.declared.tags.Side.TheVariants as side
use Rattle.pair_domain.specs.declared.tags.CompareTag.{CompareTag}
use Rattle.pair_domain.specs.declared.tags.CompareTag.TheVariants as compare
use Rattle.pair_domain.specs.declared.tags.ZeroTag.{ZeroTag}
use Rattle.pair_domain.specs.declared.tags.ZeroTag.TheVariants as zero
use Rattle.pair_domain.specs.Intervals.{whole, hull}
use Rattle.pair_domain.specs.Facts.{IsKnownWithin, HasSixteen, is_followed}
use Rattle.pair_domain.specs.Rank.{KnownFits}
use Rattle.abs_state.specs.declared.values.AbsByte.{AbsByte}
use Rattle.abs_state.specs.Values.{value_at, set_of}
use Rattle.abs_state.specs.Stands.{RegistersStand}
use Rattle.abs_state.specs.Order.{IsByteWithin}
use Rattle.abs_state.specs.Formed.{ByteFits}
use Rattle.abs_state.specs.Laws.{HoldsAt}

-- ---- which registers are written: a test of their numbers

-- membership in a list, and in the set bits of a number
abbrev pub is_one_of : List ℕ → ℕ → Bool
is_one_of written r = list_any (λ n. n == r) written

abbrev pub is_bit_of : ℕ → ℕ → Bool
is_bit_of written r = nat_lt r 64 && (bit_and (written / 2 ^ r) 1 == 1)

-- a register of pair r is in the set
abbrev pub in_pair : (ℕ → Bool) → ℕ → Bool
in_pair written r = written r || written (r + 1)

abbrev pub in_side : (ℕ → Bool) → Side → Bool
in_side written (side.Byte k) = false
in_side written (side.Register q) = written q

-- ---- tags; `by_flags` says whether a flag that the tag speaks of is written

abbrev pub sum_ended : (ℕ → Bool) → Bool → SumTag → SumTag
sum_ended written by_flags sum.None = sum.None
sum_ended written by_flags (sum.Up r a b) = if by_flags || in_pair written r then sum.None else sum.Up r a b
sum_ended written by_flags (sum.Down r a b) = if by_flags || in_pair written r then sum.None else sum.Down r a b

abbrev pub compare_ended : (ℕ → Bool) → Bool → CompareTag → CompareTag
compare_ended written by_flags compare.None = compare.None
compare_ended written by_flags (compare.Byte x y) =
    if by_flags || (written x || in_side written y) then compare.None else compare.Byte x y
compare_ended written by_flags (compare.Pair r y p) =
    if by_flags || (in_pair written r || (in_side written y || written p)) then compare.None else compare.Pair r y p

abbrev pub zero_ended : (ℕ → Bool) → Bool → ZeroTag → ZeroTag
zero_ended written by_flags zero.None = zero.None
zero_ended written by_flags (zero.Byte x) = if by_flags || written x then zero.None else zero.Byte x
zero_ended written by_flags (zero.Pair r) = if by_flags || in_pair written r then zero.None else zero.Pair r

-- ---- intervals, from that of pair 2 n on

unfoldable pub intervals_ended : (ℕ → Bool) → ℕ → List Interval → List Interval
intervals_ended written n [] = []
intervals_ended written n (i ∷ is) = (if in_pair written (2 * n) then whole else i) ∷ intervals_ended written (suc n) is

-- ---- all of it

-- `flags`: one of C, Z and S is written; `carry`: C is written.
abbrev pub facts_ended : (ℕ → Bool) → Bool → Bool → PairFacts → PairFacts
facts_ended written flags carry f =
    record {
      intervals = intervals_ended written 0 f.intervals;
      sum = sum_ended written carry f.sum;
      compare = compare_ended written flags f.compare;
      zero = zero_ended written flags f.zero;
    }

abbrev pub ended : (ℕ → Bool) → Bool → Bool → Option PairFacts → Option PairFacts
ended written flags carry None = None
ended written flags carry (Some f) = Some (facts_ended written flags carry f)

-- the hull of pair 2 n
abbrev pub hull_at : List AbsByte → ℕ → Interval
hull_at registers n = hull (set_of (value_at registers (2 * n))) (set_of (value_at registers (2 * n + 1)))

-- the interval of the pair of register a is the hull of its bytes
abbrev pub written_hull : List AbsByte → ℕ → Option PairFacts → Option PairFacts
written_hull registers a None = None
written_hull registers a (Some f) = Some (record f { intervals = slice_set f.intervals (a / 2) (hull_at registers (a / 2)) })

-- ---- laws

-- the new registers are bytes, and only those in the set are written
pub record AreRegistersWritten (written : ℕ → Bool) (old new : List ℕ) : Type 0 where
  pub kept : (r : ℕ) → written r ≡ false → slice_index new r ≡ slice_index old r
  pub bytes : (r : ℕ) → r < 32 → slice_index new r < 256

-- flags C, Z and S stay unless they are written
pub record AreFlagsWritten (flags carry : Bool) (old new : ℕ) : Type 0 where
  pub carry_kept : carry ≡ false → flag new 0 ≡ flag old 0
  pub others_kept : flags ≡ false → (flag new 0 ≡ flag old 0) × (flag new 1 ≡ flag old 1) × (flag new 4 ≡ flag old 4)

-- Ending facts goes up, fits, is monotone, and gives facts that hold after the write. Likewise the hull of written registers.
pub record WritesEndFacts : Type 0 where
  pub less : (written : ℕ → Bool) (flags carry : Bool) (x : Option PairFacts) → KnownFits x → IsKnownWithin x (ended written flags carry x)
  pub more : (written : ℕ → Bool) (flags carry : Bool) (x y : Option PairFacts) → IsKnownWithin x y
      → IsKnownWithin (ended written flags carry x) (ended written flags carry y)
  pub fits : (written : ℕ → Bool) (flags carry : Bool) (x : Option PairFacts) → KnownFits x → KnownFits (ended written flags carry x)
  pub holds : (written : ℕ → Bool) (flags carry : Bool) (x : Option PairFacts) (old new : List ℕ) (sreg sreg' : ℕ) → AreRegistersWritten written old new
      → AreFlagsWritten flags carry sreg sreg' → HoldsAt x old sreg → HoldsAt (ended written flags carry x) new sreg'
  pub count : (written : ℕ → Bool) (flags carry : Bool) (x : Option PairFacts) → HasSixteen x → HasSixteen (ended written flags carry x)
  pub hull_more : (vs ws : List AbsByte) (a : ℕ) (x y : Option PairFacts) → HasSixteen x → HasSixteen y
      → ((r : ℕ) → r < 32 → IsByteWithin (value_at vs r) (value_at ws r)) → IsKnownWithin x y → IsKnownWithin (written_hull vs a x) (written_hull ws a y)
  pub hull_fits : (registers : List AbsByte) (a : ℕ) (x : Option PairFacts) → ((r : ℕ) → r < 32 → ByteFits (value_at registers r)) → KnownFits x
      → KnownFits (written_hull registers a x)
  pub hull_holds : (o : Origin) (values : List AbsByte) (registers : List ℕ) (a : ℕ) (x : Option PairFacts) (sreg : ℕ) → HasSixteen x
      → RegistersStand o values registers → HoldsAt x registers sreg → HoldsAt (written_hull values a x) registers sreg
  pub followed : (written : ℕ → Bool) (flags carry : Bool) (x : Option PairFacts) → is_followed (ended written flags carry x) ≡ is_followed x
  pub hull_followed : (registers : List AbsByte) (a : ℕ) (x : Option PairFacts) → is_followed (written_hull registers a x) ≡ is_followed x
  pub hull_count : (registers : List AbsByte) (a : ℕ) (x : Option PairFacts) → HasSixteen x → HasSixteen (written_hull registers a x)
