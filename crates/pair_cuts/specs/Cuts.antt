-- The states after a test with a known outcome. A state is none if the outcome is impossible, or nothing is left of a register or a pair.
-- Source: own.
use Rattle.std.specs.Prelude.{ℕ, ◌+◌, ◌-◌, ◌*◌, ◌%◌, ◌==◌, ◌&&◌, Bool, true, false, if◌then◌else◌, List, Option, Some, None, slice_set}
use Rattle.std.specs.Int.{from_bool}
use Rattle.bit_domain.specs.declared.bytes.TriByte.{TriByte}
use Rattle.bit_domain.specs.Tri.{permits, tri_bit}
use Rattle.bit_domain.specs.TriByte.{tri_at, byte_known, byte_with, byte_constant}
use Rattle.bit_domain.specs.Logic.{byte_equal}
use Rattle.bit_domain.specs.Ranges.{ByteSet}
use Rattle.sp_domain.specs.declared.tags.CarryTag.{CarryTag}
use Rattle.sp_domain.specs.declared.tags.CarryTag.TheVariants as carry
use Rattle.pair_domain.specs.declared.intervals.Interval.{Interval}
use Rattle.pair_domain.specs.declared.tags.Side.{Side}
use Rattle.pair_domain.specs.declared.tags.Side.TheVariants as side
use Rattle.pair_domain.specs.declared.tags.CompareTag.{CompareTag}
use Rattle.pair_domain.specs.declared.tags.CompareTag.TheVariants as compare
use Rattle.pair_domain.specs.declared.tags.ZeroTag.{ZeroTag}
use Rattle.pair_domain.specs.declared.tags.ZeroTag.TheVariants as zero
use Rattle.pair_domain.specs.Compare.{off}
use Rattle.pair_domain.specs.Narrow.{narrow}
use Rattle.abs_state.specs.declared.values.AbsByte.{AbsByte}
use Rattle.abs_state.specs.declared.state.AbsState.{AbsState}
use Rattle.abs_state.specs.Values.{value_at, with_bits}
use Rattle.pair_cuts.specs.declared.places.CutPlace.{CutPlace}
use Rattle.pair_cuts.specs.declared.places.CutPlace.TheVariants as place
use Rattle.pair_cuts.specs.declared.outcomes.Outcome.{Outcome}
use Rattle.pair_cuts.specs.Places.{cut_byte, cut_pair, after, known_or_nothing, range_of, interval_of, range_at, narrow_at, narrow_to}
use Rattle.pair_cuts.specs.Outcomes.{left_part, right_part, outcome_of}

-- ---- a number that is k, or isn't

abbrev pub just : ℕ → Interval
just k = record { low = k; high = k }

-- x cut to k if `equal`, else x without k
abbrev pub equal_part : Bool → ℕ → Interval → Option Interval
equal_part true k x = Some (just k)
equal_part false k x = off x (just k)

-- the number at a place is k if `equal`, else it isn't
abbrev pub same_cut : CutPlace → Bool → ℕ → AbsState → Option AbsState
same_cut p equal k s = narrow_to p (equal_part equal k (range_at s p)) s

-- ---- flags

-- the bytes below k, or from k on
abbrev pub below_part : Bool → ℕ → Option Interval
below_part true k = if k == 0 then None else Some (record { low = 0; high = k - 1 })
below_part false k = Some (record { low = k; high = 255 })

abbrev pub less_by : CarryTag → Bool → AbsState → Option AbsState
less_by carry.None b s = Some s
less_by (carry.Borrow j l) b s = Some s
less_by (carry.Sum j l) b s = Some s
less_by (carry.Less r k) b s = narrow_to (place.Byte r) (below_part b k) s

abbrev pub less_cut : ℕ → Bool → AbsState → Option AbsState
less_cut n b s = if n == 0 then less_by s.flags.carry b s else Some s

-- cuts the register or pair of a zero tag to 0, or to other numbers
abbrev pub zero_by : ZeroTag → Bool → AbsState → Option AbsState
zero_by zero.None b s = Some s
zero_by (zero.Byte x) b s = same_cut (place.Byte x) b 0 s
zero_by (zero.Pair r) b s = same_cut (place.Pair r) b 0 s

abbrev pub zero_cut : ℕ → Bool → AbsState → Option AbsState
zero_cut n b s = if n == 1 then zero_by (known_or_nothing s.facts).zero b s else Some s

-- The right side of a comparison of bytes, and its range.
abbrev pub side_place : Side → CutPlace
side_place (side.Byte k) = place.Neither
side_place (side.Register q) = place.Byte q

abbrev pub side_range : List AbsByte → Side → Interval
side_range registers (side.Byte k) = just k
side_range registers (side.Register q) = range_of registers q

-- The right side of a comparison of pairs: the pair of q if the sides are registers q and q + 1, else a range from the least bytes to the
-- greatest.
abbrev pub pair_place : Side → ℕ → CutPlace
pair_place (side.Byte k) p = place.Neither
pair_place (side.Register q) p = if (q % 2 == 0) && (p == q + 1) then place.Pair q else place.Neither

abbrev pub word_range : Interval → Interval → Interval
word_range lo hi = record { low = lo.low + 256 * hi.low; high = lo.high + 256 * hi.high }

abbrev pub pair_range : AbsState → CutPlace → Side → ℕ → Interval
pair_range s place.Neither y p = word_range (side_range s.registers y) (range_of s.registers p)
pair_range s (place.Byte q) y p = word_range (side_range s.registers y) (range_of s.registers p)
pair_range s (place.Pair q) y p = interval_of s.facts q

-- cuts the left side first, and then the right side
abbrev pub narrow_both : CutPlace → CutPlace → Option Interval → Option Interval → AbsState → Option AbsState
narrow_both left right None j s = None
narrow_both left right (Some i) None s = None
narrow_both left right (Some i) (Some j) s = after (narrow_at left i s) (narrow_at right j)

-- cuts both sides, whose ranges are x and y
abbrev pub both_cut : Outcome → ℕ → CutPlace → CutPlace → Interval → Interval → AbsState → Option AbsState
both_cut o half left right x y s = narrow_both left right (left_part o half x y) (right_part o x y) s

abbrev pub compare_by : CompareTag → Outcome → AbsState → Option AbsState
compare_by compare.None o s = Some s
compare_by (compare.Byte x y) o s = both_cut o 128 (place.Byte x) (side_place y) (range_of s.registers x) (side_range s.registers y) s
compare_by (compare.Pair r y p) o s = both_cut o 32768 (place.Pair r) (pair_place y p) (interval_of s.facts r) (pair_range s (pair_place y p) y p) s

abbrev pub compare_told : Option Outcome → AbsState → Option AbsState
compare_told None s = Some s
compare_told (Some o) s = compare_by (known_or_nothing s.facts).compare o s

abbrev pub compare_cut : ℕ → Bool → AbsState → Option AbsState
compare_cut n b s = compare_told (outcome_of n b) s

-- the bits with this bit set or clear; none if it is known to be the other
abbrev pub bit_known : TriByte → ℕ → Bool → Option TriByte
bit_known bits n on = if permits (tri_at bits n) (from_bool on) then Some (byte_with bits n (tri_bit (from_bool on))) else None

abbrev pub flags_known : TriByte → AbsState → Option AbsState
flags_known bits s = Some (record s { flags = record s.flags { bits = bits } })

-- the cuts by the carry tag, by the zero tag and by the compare tag, in this order, and then the flag itself
abbrev pub flag_by : ℕ → Bool → Option TriByte → AbsState → Option AbsState
flag_by n b None s = None
flag_by n b (Some bits) s = after (after (after (less_cut n b s) (zero_cut n b)) (compare_cut n b)) (flags_known bits)

-- The state if flag n, below 7, is b.
abbrev pub flag_cut : ℕ → Bool → AbsState → Option AbsState
flag_cut n b s = flag_by n b (bit_known s.flags.bits n b) s

-- ---- one bit of a register

-- the bytes with the bit set, or clear
abbrev pub bytes_by : Option TriByte → ByteSet → Option ByteSet
bytes_by None b = None
bytes_by (Some bits) b = narrow (record b { bits = bits }) 0 255

abbrev pub with_bit : ℕ → Bool → ByteSet → Option ByteSet
with_bit bit on b = bytes_by (bit_known b.bits bit on) b

-- The state if this bit of register r is set, or clear.
abbrev pub bit_cut : ℕ → ℕ → Bool → AbsState → Option AbsState
bit_cut r bit on s = cut_byte r (with_bit bit on) s

-- ---- two registers that are compared by `cpse`

-- if one register is known, cuts the other: r by d, else d by r
abbrev pub equal_by : ℕ → ℕ → Bool → Option ℕ → Option ℕ → AbsState → Option AbsState
equal_by d r equal (Some k) x s = same_cut (place.Byte d) equal k s
equal_by d r equal None (Some k) s = same_cut (place.Byte r) equal k s
equal_by d r equal None None s = Some s

-- The state if registers d and r are equal, or differ.
abbrev pub equal_cut : ℕ → ℕ → Bool → AbsState → Option AbsState
equal_cut d r equal s =
    if permits (byte_equal (value_at s.registers d).bits (value_at s.registers r).bits) (from_bool equal)
    then equal_by d r equal (byte_constant (value_at s.registers r).bits) (byte_constant (value_at s.registers d).bits) s
    else None

-- ---- the pick of a jump table's entry

-- register 30 is this byte; its tag stays
abbrev pub with_index : ℕ → AbsState → AbsState
with_index byte s = record s { registers = slice_set s.registers 30 (with_bits (value_at s.registers 30).tag (byte_known byte)) }

-- The state if this byte is picked; if pairs aren't followed only the register changes.
abbrev pub pick_cut : ℕ → AbsState → Option AbsState
pick_cut byte s = cut_pair 30 (with_index byte s)
