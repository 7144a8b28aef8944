-- Worked instructions, each computed.
use Rattle.std.specs.Prelude.{ℕ, ◌≡◌, refl, List, [], ◌∷◌, Option, Some, None, slice_set}
use Rattle.avr_model.specs.declared.instruction.Instr.TheVariants as i
use Rattle.avr_model.specs.declared.instruction.BinaryOp.TheVariants as binary
use Rattle.avr_model.specs.declared.instruction.ImmediateOp.TheVariants as immediate
use Rattle.avr_model.specs.declared.instruction.Pointer.TheVariants as pointer
use Rattle.bit_domain.specs.declared.bits.Tri.TheVariants.{Zero, One}
use Rattle.bit_domain.specs.declared.bytes.TriByte.{TriByte}
use Rattle.bit_domain.specs.Packed.{packed}
use Rattle.bit_domain.specs.Logic.{all_below}
use Rattle.bit_domain.specs.TriByte.{permits_below, byte_any, byte_known}
use Rattle.pair_domain.specs.declared.intervals.Interval.{Interval}
use Rattle.pair_domain.specs.declared.tags.SumTag.{SumTag}
use Rattle.pair_domain.specs.declared.tags.SumTag.TheVariants as sum
use Rattle.pair_domain.specs.declared.tags.CompareTag.{CompareTag}
use Rattle.pair_domain.specs.declared.tags.CompareTag.TheVariants as compare
use Rattle.pair_domain.specs.declared.tags.ZeroTag.{ZeroTag}
use Rattle.pair_domain.specs.declared.tags.ZeroTag.TheVariants as zero
use Rattle.pair_domain.specs.declared.tags.Side.TheVariants as side
use Rattle.pair_domain.specs.declared.facts.PairFacts.{PairFacts}
use Rattle.pair_domain.specs.Facts.{nothing, interval_at}
use Rattle.pair_domain.specs.Narrow.{least_from, greatest_from}
use Rattle.abs_state.specs.declared.values.AbsByte.{AbsByte}
use Rattle.abs_state.specs.declared.state.AbsState.{AbsState}
use Rattle.abs_state.specs.Values.{root, following_root, value_at, known, unknown}
use Rattle.abs_state.specs.Ended.{intervals_ended}
use Rattle.pair_rules.specs.declared.told.Told.TheVariants as told
use Rattle.pair_rules.specs.Hulls.{ended_by}
use Rattle.pair_rules.specs.Flash.{count_below, joined_below, pair_permits, flash_known}
use Rattle.pair_rules.specs.Told.{told_by}
use Rattle.pair_rules.specs.Tags.{sum_of, compare_of, zero_of, facts_tagged}
use Rattle.pair_rules.specs.Values.{doubled, z_of, rampz_of, retold}
use Rattle.pair_rules.specs.Refined.{refined}
use Rattle.avr_model.specs.Devices.{Image, M328, image_of}

abbrev from : ℕ → ℕ → Interval
from low high = record { low = low; high = high }

-- only the interval of pair 2 n is known
abbrev lies : ℕ → Interval → PairFacts
lies n j = record nothing { intervals = slice_set nothing.intervals n j }

-- only a tag is known
abbrev summed : SumTag → PairFacts
summed t = record nothing { sum = t }

abbrev compared : CompareTag → PairFacts
compared t = record nothing { compare = t }

abbrev zeroed : ZeroTag → PairFacts
zeroed t = record nothing { zero = t }

-- register 16 is a byte from 1 to 3, and other registers are unknown
abbrev small : AbsByte
small = record unknown { low = 1; high = 3 }

abbrev registers : List AbsByte
registers = slice_set root.registers 16 small

-- ---- what is told

word_grows : told_by registers (lies 12 (from 10 20)) (i.Adiw 12 5) ≡ told.Computed 12 (from 15 25)
word_grows = refl

word_falls : told_by registers (lies 12 (from 10 20)) (i.Sbiw 12 10) ≡ told.Computed 12 (from 0 10)
word_falls = refl

-- some of the numbers wrap
word_wraps : told_by registers (lies 12 (from 10 20)) (i.Sbiw 12 11) ≡ told.Nothing
word_wraps = refl

pair_is_copied : told_by registers (lies 12 (from 10 20)) (i.Movw 15 12) ≡ told.Kept 15 (from 10 20)
pair_is_copied = refl

pair_is_kept : told_by registers (lies 12 (from 10 20)) (i.Binary binary.And 25 25) ≡ told.Kept 12 (from 10 20)
pair_is_kept = refl

pair_is_lost : told_by registers (lies 12 (from 10 20)) (i.Binary binary.And 25 24) ≡ told.Nothing
pair_is_lost = refl

-- a byte from 1 to 3 added to the high byte, and subtracted from it
high_byte_grows : told_by registers (lies 12 (from 0x0110 0x0120)) (i.Binary binary.Add 25 16) ≡ told.Computed 12 (from 0x0210 0x0420)
high_byte_grows = refl

high_byte_falls : told_by registers (lies 12 (from 0x0310 0x0320)) (i.Binary binary.Sub 25 16) ≡ told.Computed 12 (from 0x0010 0x0220)
high_byte_falls = refl

high_byte_less_a_number : told_by registers (lies 12 (from 0x0310 0x0320)) (i.Immediate immediate.Subi 25 2) ≡ told.Computed 12 (from 0x0110 0x0120)
high_byte_less_a_number = refl

-- the sum of the low bytes alone gives no interval
low_byte_tells_nothing : told_by registers (lies 12 (from 0x0110 0x0120)) (i.Binary binary.Add 24 16) ≡ told.Nothing
low_byte_tells_nothing = refl

carry_comes_in : told_by registers (summed (sum.Up 24 0x0300 0x0308)) (i.Binary binary.Adc 25 16) ≡ told.Computed 12 (from 0x0300 0x0508)
carry_comes_in = refl

borrow_comes_in : told_by registers (summed (sum.Down 24 0x02FD 0x02FF)) (i.Immediate immediate.Sbci 25 0) ≡ told.Computed 12 (from 0x01FD 0x01FF)
borrow_comes_in = refl

-- the carry of another pair or of the low byte, and a borrow in place of a carry
carry_of_another_pair : told_by registers (summed (sum.Up 26 0x0300 0x0308)) (i.Binary binary.Adc 25 16) ≡ told.Nothing
carry_of_another_pair = refl

carry_at_a_low_byte : told_by registers (summed (sum.Up 23 0x0300 0x0308)) (i.Binary binary.Adc 24 16) ≡ told.Nothing
carry_at_a_low_byte = refl

borrow_of_a_sum : told_by registers (summed (sum.Up 24 0x0300 0x0308)) (i.Immediate immediate.Sbci 25 0) ≡ told.Nothing
borrow_of_a_sum = refl

product_lies_between : told_by registers nothing (i.Binary binary.Mul 16 24) ≡ told.Computed 0 (from 0 765)
unfolding packed
product_lies_between = refl

pointer_grows : told_by registers (lies 13 (from 256 300)) (i.Ld 0 pointer.XPlus) ≡ told.Computed 13 (from 257 301)
pointer_grows = refl

pointer_falls : told_by registers (lies 14 (from 256 300)) (i.St pointer.MinusY 0) ≡ told.Computed 14 (from 255 299)
pointer_falls = refl

pointer_stays : told_by registers (lies 13 (from 256 300)) (i.Ld 0 pointer.X) ≡ told.Nothing
pointer_stays = refl

-- ---- tags

low_bytes_are_added : sum_of registers (lies 12 (from 0x01F0 0x01F8)) (i.Binary binary.Add 24 16) ≡ sum.Up 24 0x02F1 0x02FB
low_bytes_are_added = refl

low_byte_falls : sum_of registers (lies 12 (from 0x0200 0x0200)) (i.Binary binary.Sub 24 16) ≡ sum.Down 24 0x02FD 0x02FF
low_byte_falls = refl

-- the ends are too far apart, or the register is a high byte
any_pair_has_no_sum : sum_of registers nothing (i.Binary binary.Add 24 16) ≡ sum.None
any_pair_has_no_sum = refl

high_byte_has_no_sum : sum_of registers (lies 12 (from 0 9)) (i.Immediate immediate.Subi 25 1) ≡ sum.None
high_byte_has_no_sum = refl

compared_with_a_number : compare_of nothing (i.Immediate immediate.Cpi 24 7) ≡ compare.Byte 24 (side.Byte 7)
compared_with_a_number = refl

high_bytes_compared : compare_of (compared (compare.Byte 24 (side.Byte 7))) (i.Binary binary.Cpc 25 17) ≡ compare.Pair 24 (side.Byte 7) 17
high_bytes_compared = refl

high_bytes_of_another : compare_of (compared (compare.Byte 22 (side.Byte 7))) (i.Binary binary.Cpc 25 17) ≡ compare.None
high_bytes_of_another = refl

-- registers 23 and 24 are no pair
no_pair_compared : compare_of (compared (compare.Byte 23 (side.Byte 7))) (i.Binary binary.Cpc 24 17) ≡ compare.None
no_pair_compared = refl

both_bytes_are_zero : zero_of (zeroed (zero.Byte 24)) (i.Binary binary.Sbc 25 1) ≡ zero.Pair 24
both_bytes_are_zero = refl

one_byte_is_zero : zero_of (zeroed (zero.Byte 22)) (i.Immediate immediate.Sbci 25 1) ≡ zero.None
one_byte_is_zero = refl

word_is_zero : zero_of nothing (i.Adiw 12 1) ≡ zero.Pair 24
word_is_zero = refl

-- `cp` ends the zero tag of a register, and `ldi` ends nothing
comparison_ends_zero : (facts_tagged registers nothing (i.Binary binary.Cp 24 16) (zeroed (zero.Byte 20))).zero ≡ zero.None
comparison_ends_zero = refl

zero_is_kept : (facts_tagged registers nothing (i.Immediate immediate.Ldi 24 0) (zeroed (zero.Byte 20))).zero ≡ zero.Byte 20
zero_is_kept = refl

-- ---- values

-- the known bits and their values
abbrev bits_of : TriByte → List ℕ
bits_of t = t.known ∷ t.value ∷ []

byte_is_doubled : bits_of (doubled (byte_known 0xC1) Zero) ≡ 0xFF ∷ 0x82 ∷ []
unfolding packed
byte_is_doubled = refl

carry_is_the_lowest_bit : bits_of (doubled byte_any One) ≡ 1 ∷ 1 ∷ []
unfolding packed
carry_is_the_lowest_bit = refl

-- Z is from 2 to 4: three bytes of flash, 0x10, 0x12 and 0x13
abbrev table : Image
table = image_of M328 (0 ∷ 0x1210 ∷ 0x0013 ∷ [])

abbrev z_small : AbsByte
z_small = record unknown { low = 2; high = 4 }

abbrev z_state : AbsState
z_state = record following_root { registers = slice_set (slice_set root.registers 30 z_small) 31 (known 0) }

three_numbers : count_below (pair_permits (z_of z_state nothing)) 9 ≡ 3
unfolding count_below packed permits_below
three_numbers = refl

-- the interval has one of the permitted numbers
one_number : count_below (pair_permits (z_of z_state (lies 15 (from 4 9)))) 9 ≡ 1
unfolding count_below packed permits_below
one_number = refl

abbrev told_of : Option AbsByte → List ℕ
told_of None = []
told_of (Some v) = v.bits.known ∷ v.bits.value ∷ v.low ∷ v.high ∷ []

bytes_are_joined : told_of (joined_below (pair_permits (z_of z_state nothing)) (flash_known table) 9) ≡ 0xFC ∷ 0x10 ∷ 0x10 ∷ 0x13 ∷ []
unfolding joined_below packed permits_below
bytes_are_joined = refl

-- `elpm` reads from the bank in RAMPZ; if that isn't known, the plain value of r5 stays
abbrev banked : AbsByte → AbsState
banked v = record z_state { registers = slice_set z_state.registers 32 v }

bank_is_known : rampz_of (banked (known 1)) ≡ Some 1
unfolding packed
bank_is_known = refl

bank_is_unknown : rampz_of (banked unknown) ≡ None
unfolding packed
bank_is_unknown = refl

unknown_bank_is_plain : retold table (banked unknown) nothing (i.ElpmZ 5) root ≡ Some root
unfolding packed
unknown_bank_is_plain = refl

-- ---- a whole row: `adiw r24, 5` where r24 is from 1 to 3 and r25 is 1

abbrev marks : List ℕ
marks = 0 ∷ 255 ∷ 256 ∷ 300 ∷ 0xFFFF ∷ []

abbrev before : AbsState
before = record { registers = slice_set (slice_set root.registers 24 small) 25 (known 1); flags = root.flags; slots = []; facts = Some (lies 12 (from 257 259)) }

-- the state by the plain rules: nothing is known of the pair
abbrev behind : AbsState
behind = record { registers = root.registers; flags = root.flags; slots = []; facts = ended_by (i.Adiw 12 5) before.facts }

-- the pair of a zero tag
abbrev zero_told : ZeroTag → ℕ
zero_told zero.None = 99
zero_told (zero.Byte x) = 98
zero_told (zero.Pair r) = r

abbrev facts_of : Option PairFacts → List ℕ
facts_of None = []
facts_of (Some f) = (interval_at f.intervals 12).low ∷ (interval_at f.intervals 12).high ∷ zero_told f.zero ∷ []

-- the interval and the zero tag, and the ranges of the low and the high byte
abbrev row_of : Option AbsState → List (List ℕ)
row_of None = []
row_of (Some u) = facts_of u.facts ∷ told_of (Some (value_at u.registers 24)) ∷ told_of (Some (value_at u.registers 25)) ∷ []

-- 262 to 264 is widened to 256 to 300: the high byte is 1 and the low byte from 0 to 44
row_is_refined : row_of (refined marks table (i.Adiw 12 5) before behind) ≡ (256 ∷ 300 ∷ 24 ∷ []) ∷ (0xC0 ∷ 0 ∷ 0 ∷ 44 ∷ []) ∷ (0xFF ∷ 1 ∷ 1 ∷ 1 ∷ []) ∷ []
unfolding packed all_below permits_below least_from greatest_from intervals_ended
row_is_refined = refl

-- without pairs nothing is refined
row_is_plain : row_of (refined marks table (i.Adiw 12 5) root behind) ≡ row_of (Some behind)
row_is_plain = refl
