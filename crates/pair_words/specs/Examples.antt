-- Worked words.
use Rattle.std.specs.Prelude.{◌≡◌, [], ◌∷◌, List, codes, Some, None, refl}
use Rattle.text_base.specs.Digits.{hex_digits}
use Rattle.line_reading.specs.Letters.{digits_at}
use Rattle.pair_domain.specs.declared.intervals.Interval.{Interval}
use Rattle.pair_domain.specs.declared.tags.SumTag.TheVariants as sum
use Rattle.pair_domain.specs.declared.tags.Side.TheVariants as side
use Rattle.pair_domain.specs.declared.tags.CompareTag.TheVariants as compare
use Rattle.pair_domain.specs.declared.tags.ZeroTag.TheVariants as zero
use Rattle.pair_domain.specs.Intervals.{whole}
use Rattle.pair_words.specs.Spelling.{sum_word, compare_word, intervals_text, intervals_word}
use Rattle.pair_words.specs.Reading.{register_at, pair_at, ends_in, sum_in, side_at, compare_behind, compare_by, compare_in, zero_in, inside_at, interval_at, intervals_at, intervals_in}

-- r25:r24: the pair + 256 + 256 C is from 256 to 4,351
up : sum_word (sum.Up 24 0x100 0x10FF) ≡ codes "u1800100010FF"
unfolding hex_digits
up = refl

up_again : sum_in (codes "u1800100010FF") ≡ Some (sum.Up 24 0x100 0x10FF)
unfolding sum_in ends_in pair_at register_at digits_at
up_again = refl

down_again : sum_in (codes "d00000010FFFF") ≡ Some (sum.Down 0 1 0xFFFF)
unfolding sum_in ends_in pair_at register_at digits_at
down_again = refl

-- ends that are 65,535 apart, ends out of order, and an odd register
too_far : sum_in (codes "d00000000FFFF") ≡ None
unfolding sum_in ends_in pair_at register_at digits_at
too_far = refl

turned : sum_in (codes "u180010100100") ≡ None
unfolding sum_in ends_in pair_at register_at digits_at
turned = refl

no_pair : sum_in (codes "u1900100010FF") ≡ None
unfolding sum_in ends_in pair_at register_at digits_at
no_pair = refl

-- r24 with 10, and r25:r24 with r23:r22
with_byte : compare_word (compare.Byte 24 (side.Byte 10)) ≡ codes "18k0A"
unfolding hex_digits
with_byte = refl

with_pair : compare_word (compare.Pair 24 (side.Register 22) 23) ≡ codes "18r1617"
unfolding hex_digits
with_pair = refl

with_byte_again : compare_in (codes "18k0A") ≡ Some (compare.Byte 24 (side.Byte 10))
unfolding compare_in compare_by compare_behind side_at register_at digits_at
with_byte_again = refl

with_pair_again : compare_in (codes "18r1617") ≡ Some (compare.Pair 24 (side.Register 22) 23)
unfolding compare_in compare_by compare_behind side_at register_at digits_at
with_pair_again = refl

-- an odd register is no pair's, and there is no register 32
odd_left : compare_in (codes "19r1617") ≡ None
unfolding compare_in compare_by compare_behind side_at register_at digits_at
odd_left = refl

no_register : compare_in (codes "18r20") ≡ None
unfolding compare_in compare_by compare_behind side_at register_at digits_at
no_register = refl

zero_pair : zero_in (codes "p18") ≡ Some (zero.Pair 24)
unfolding zero_in pair_at register_at digits_at
zero_pair = refl

zero_odd_pair : zero_in (codes "p19") ≡ None
unfolding zero_in pair_at register_at digits_at
zero_odd_pair = refl

zero_byte : zero_in (codes "b19") ≡ Some (zero.Byte 25)
unfolding zero_in register_at digits_at
zero_byte = refl

-- ---- intervals of three pairs

abbrev to : Interval
to = record { low = 0; high = 0x1FF }

abbrev hulls : List Interval
hulls = whole ∷ to ∷ whole ∷ []

spelled : intervals_word hulls (whole ∷ to ∷ to ∷ []) ≡ codes "04000001FF"
unfolding intervals_text hex_digits
spelled = refl

none_spelled : intervals_word hulls hulls ≡ codes "-"
unfolding intervals_text
none_spelled = refl

read : intervals_in hulls (codes "04000001FF") ≡ Some (whole ∷ to ∷ to ∷ [])
unfolding intervals_in intervals_at interval_at inside_at digits_at
read = refl

none_read : intervals_in hulls (codes "-") ≡ Some hulls
unfolding intervals_in
none_read = refl

-- an interval that equals the hull or leaves it is refused; pairs must ascend
hull_read : intervals_in hulls (codes "02000001FF") ≡ None
unfolding intervals_in intervals_at interval_at inside_at digits_at
hull_read = refl

outside_read : intervals_in hulls (codes "0200000200") ≡ None
unfolding intervals_in intervals_at interval_at inside_at digits_at
outside_read = refl

descending_read : intervals_in hulls (codes "04000001FF00000001FF") ≡ None
unfolding intervals_in intervals_at interval_at inside_at digits_at
descending_read = refl

no_text : intervals_in hulls [] ≡ None
unfolding intervals_in
no_text = refl
