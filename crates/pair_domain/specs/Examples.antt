-- Worked cases of the definitions.
use Rattle.std.specs.Prelude.{ℕ, ◌≡◌, ◌==◌, refl, true, List, [], ◌∷◌, Option, Some, None, if◌then◌else◌}
use Rattle.bit_domain.specs.declared.bits.Tri.TheVariants.{Zero, Any}
use Rattle.bit_domain.specs.Packed.{packed}
use Rattle.bit_domain.specs.TriByte.{permits_below, byte_of, byte_any}
use Rattle.bit_domain.specs.Logic.{all_below}
use Rattle.bit_domain.specs.Ranges.{ByteSet}
use Rattle.pair_domain.specs.declared.intervals.Interval.{Interval}
use Rattle.pair_domain.specs.declared.tags.SumTag.TheVariants as sum
use Rattle.pair_domain.specs.declared.tags.CompareTag.TheVariants as compare
use Rattle.pair_domain.specs.declared.tags.Side.TheVariants as side
use Rattle.pair_domain.specs.Intervals.{whole, interval_meet, hull}
use Rattle.pair_domain.specs.Tags.{signed_below, sum_join, compare_join}
use Rattle.pair_domain.specs.Narrow.{narrow, least_from, greatest_from}
use Rattle.pair_domain.specs.PairSets.{PairSet, narrow_pair}
use Rattle.pair_domain.specs.Rows.{moved_up, moved_down, pages_up, pages_down, up_tag, down_tag, carried_up, carried_down}
use Rattle.pair_domain.specs.Compare.{left_below, left_from, right_above, right_to, off, left_less, left_not_less}
use Rattle.pair_domain.specs.Marks.{outward}

abbrev from : ℕ → ℕ → Interval
from low high = record { low = low; high = high }

abbrev just : ℕ → ℕ → Option Interval
just low high = Some (from low high)

-- ---- cuts of a byte

-- any byte, and any even one
abbrev any : ByteSet
any = record { bits = byte_any; low = 0; high = 255 }

abbrev even : ByteSet
even = record { bits = byte_of (λ i. if i == 0 then Zero else Any); low = 0; high = 254 }

-- the known bits, their values, and the ends of the range that is left
abbrev told : Option ByteSet → List ℕ
told None = []
told (Some s) = s.bits.known ∷ s.bits.value ∷ s.low ∷ s.high ∷ []

-- from 0x40 to 0x4F the high half is known
high_half_becomes_known : told (narrow any 0x40 0x4F) ≡ 0xF0 ∷ 0x40 ∷ 0x40 ∷ 0x4F ∷ []
unfolding packed all_below permits_below least_from greatest_from
high_half_becomes_known = refl

-- 3 and 6 differ from bit 2 on; an even byte from 3 to 6 is 4 or 6
ends_move_to_members : told (narrow even 3 6) ≡ 0xF9 ∷ 0 ∷ 4 ∷ 6 ∷ []
unfolding packed all_below permits_below least_from greatest_from
ends_move_to_members = refl

-- 5 isn't even
nothing_is_left : told (narrow even 5 5) ≡ []
unfolding packed all_below permits_below least_from greatest_from
nothing_is_left = refl

one_is_left : told (narrow any 5 5) ≡ 0xFF ∷ 5 ∷ 5 ∷ 5 ∷ []
unfolding packed all_below permits_below least_from greatest_from
one_is_left = refl

-- nothing lies from 6 to 5
no_range : told (narrow any 6 5) ≡ []
unfolding packed all_below permits_below least_from greatest_from
no_range = refl

-- ---- cuts of a pair

abbrev any_pair : PairSet
any_pair = record { low = any; high = any; interval = whole }

-- both bytes and the ends of the interval
abbrev told_of_pair : Option PairSet → List (List ℕ)
told_of_pair None = []
told_of_pair (Some p) = told (Some p.low) ∷ told (Some p.high) ∷ (p.interval.low ∷ p.interval.high ∷ []) ∷ []

-- one high byte: the low byte is cut too
one_page : told_of_pair (narrow_pair any_pair (from 0x0123 0x0125))
    ≡ (0xF8 ∷ 0x20 ∷ 0x23 ∷ 0x25 ∷ []) ∷ (0xFF ∷ 1 ∷ 1 ∷ 1 ∷ []) ∷ (0x0123 ∷ 0x0125 ∷ []) ∷ []
unfolding packed all_below permits_below least_from greatest_from
one_page = refl

-- two high bytes: the low byte stays as it was
two_pages : told_of_pair (narrow_pair any_pair (from 0x01F0 0x0210))
    ≡ (0 ∷ 0 ∷ 0 ∷ 255 ∷ []) ∷ (0xFC ∷ 0 ∷ 1 ∷ 2 ∷ []) ∷ (0x01F0 ∷ 0x0210 ∷ []) ∷ []
unfolding packed all_below permits_below least_from greatest_from
two_pages = refl

-- the interval is cut to the hull of the remaining bytes
cut_to_the_hull : told_of_pair (narrow_pair (record { low = any; high = even; interval = whole }) (from 0x0180 0x02FF))
    ≡ (0 ∷ 0 ∷ 0 ∷ 255 ∷ []) ∷ (0xFD ∷ 0 ∷ 2 ∷ 2 ∷ []) ∷ (0x0200 ∷ 0x02FF ∷ []) ∷ []
unfolding packed all_below permits_below least_from greatest_from
cut_to_the_hull = refl

hull_of_any : hull any even ≡ from 0 0xFEFF
hull_of_any = refl

no_common_number : interval_meet (from 0 9) (from 10 19) ≡ None
no_common_number = refl

-- ---- sums and differences

-- a sum is known if all numbers wrap or none does
sum_below : moved_up (from 10 20) 5 ≡ just 15 25
sum_below = refl

sum_wraps_whole : moved_up (from 65535 65535) 1 ≡ just 0 0
sum_wraps_whole = refl

sum_wraps_in_part : moved_up (from 65534 65535) 1 ≡ None
sum_wraps_in_part = refl

difference_below : moved_down (from 1 5) 1 ≡ just 0 4
difference_below = refl

difference_wraps_in_part : moved_down (from 0 5) 1 ≡ None
difference_wraps_in_part = refl

difference_wraps_whole : moved_down (from 0 0) 1 ≡ just 65535 65535
difference_wraps_whole = refl

byte_on_the_high_byte : pages_up (from 0x0110 0x0120) 1 2 ≡ just 0x0210 0x0320
byte_on_the_high_byte = refl

byte_off_the_high_byte : pages_down (from 0x0310 0x0320) 1 2 ≡ just 0x0110 0x0220
byte_off_the_high_byte = refl

-- 0x01F0 to 0x01F8 and a low byte of 0x10: the pair is then 0x0100 to 0x0108 with C, and adding 0 and the carry gives 0x0200 to 0x0208
low_byte_is_added : up_tag 24 (from 0x01F0 0x01F8) 0x10 0x10 ≡ sum.Up 24 0x0300 0x0308
low_byte_is_added = refl

carry_is_added : carried_up 0x0300 0x0308 0 0 ≡ just 0x0200 0x0208
carry_is_added = refl

-- 0x0200 less a low byte from 1 to 3 gives 0x02FF to 0x02FD with C; subtracting 0 and the borrow gives 0x01FD to 0x01FF
low_byte_is_taken_off : down_tag 24 (from 0x0200 0x0200) 1 3 ≡ sum.Down 24 0x02FD 0x02FF
low_byte_is_taken_off = refl

borrow_is_taken_off : carried_down 0x02FD 0x02FF 0 0 ≡ just 0x01FD 0x01FF
borrow_is_taken_off = refl

-- ends that are 65,535 apart aren't kept; ends that are 65,534 apart are
sum_of_any_pair : up_tag 24 whole 5 5 ≡ sum.None
sum_of_any_pair = refl

sum_of_all_but_one : up_tag 24 (from 0 65534) 5 5 ≡ sum.Up 24 261 65795
sum_of_all_but_one = refl

-- ---- joins of tags

joined_sums : sum_join (sum.Up 24 256 300) (sum.Up 24 200 280) ≡ sum.Up 24 200 300
joined_sums = refl

sums_too_far_apart : sum_join (sum.Up 24 256 256) (sum.Up 24 65790 65791) ≡ sum.None
sums_too_far_apart = refl

sums_just_near : sum_join (sum.Up 24 256 256) (sum.Up 24 65789 65790) ≡ sum.Up 24 256 65790
sums_just_near = refl

sum_and_difference : sum_join (sum.Up 24 256 256) (sum.Down 24 256 256) ≡ sum.None
sum_and_difference = refl

sums_of_two_pairs : sum_join (sum.Up 24 256 256) (sum.Up 26 256 256) ≡ sum.None
sums_of_two_pairs = refl

-- a byte and a register with the same number are different sides
sides_differ : compare_join (compare.Byte 24 (side.Byte 3)) (compare.Byte 24 (side.Register 3)) ≡ compare.None
sides_differ = refl

-- ---- cuts by a comparison

below_sixteen : left_below (from 0 255) (from 16 16) ≡ just 0 15
below_sixteen = refl

nothing_is_below_zero : left_below (from 0 255) (from 0 0) ≡ None
nothing_is_below_zero = refl

from_sixteen : left_from (from 0 255) (from 16 16) ≡ just 16 255
from_sixteen = refl

above_three : right_above (from 3 9) (from 0 255) ≡ just 4 255
above_three = refl

up_to_nine : right_to (from 3 9) (from 0 255) ≡ just 0 9
up_to_nine = refl

-- a number that is an end of x is cut off, one inside isn't; an interval of two numbers cuts nothing
off_the_low_end : off (from 0 10) (from 0 0) ≡ just 1 10
off_the_low_end = refl

off_the_high_end : off (from 0 10) (from 10 10) ≡ just 0 9
off_the_high_end = refl

off_inside : off (from 0 10) (from 5 5) ≡ just 0 10
off_inside = refl

off_one_of_two : off (from 0 10) (from 0 1) ≡ just 0 10
off_one_of_two = refl

off_all : off (from 7 7) (from 7 7) ≡ None
off_all = refl

-- -1 is below 0, and 0 isn't below -1
signed_order : signed_below 128 255 0 ≡ true
signed_order = refl

-- of 0 to 127 those signed below 5 remain; all negative numbers are below 5, so nothing is cut; below -1 lie 128 to 254
less_than_five : left_less 128 (from 0 127) (from 5 5) ≡ just 0 4
less_than_five = refl

less_than_five_of_all : left_less 128 (from 0 255) (from 5 5) ≡ just 0 255
less_than_five_of_all = refl

less_than_minus_one : left_less 128 (from 0 255) (from 255 255) ≡ just 128 254
less_than_minus_one = refl

-- the signed greatest of 16 to 240 is 127
less_than_a_mixed_side : left_less 128 (from 100 127) (from 16 240) ≡ just 100 126
less_than_a_mixed_side = refl

nothing_is_less_than_the_least : left_less 128 (from 0 255) (from 128 128) ≡ None
nothing_is_less_than_the_least = refl

not_less_than_five : left_not_less 128 (from 0 255) (from 5 5) ≡ just 5 127
not_less_than_five = refl

not_less_than_minus_one : left_not_less 128 (from 0 255) (from 255 255) ≡ just 0 255
not_less_than_minus_one = refl

-- ---- marks

abbrev marks : List ℕ
marks = 0 ∷ 255 ∷ 256 ∷ 0xFFFF ∷ []

widened : outward marks (from 10 20) ≡ from 0 255
widened = refl

marks_stay : outward marks (from 255 256) ≡ from 255 256
marks_stay = refl

above_all_marks : outward marks (from 257 300) ≡ from 256 0xFFFF
above_all_marks = refl
