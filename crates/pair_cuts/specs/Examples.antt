-- Worked cases of the cuts.
use Rattle.std.specs.Prelude.{ℕ, ◌≡◌, ◌/◌, refl, true, false, List, [], ◌∷◌, Option, Some, None, slice_set}
use Rattle.bit_domain.specs.Packed.{packed}
use Rattle.bit_domain.specs.TriByte.{permits_below, byte_any}
use Rattle.bit_domain.specs.Logic.{all_below}
use Rattle.sp_domain.specs.declared.tags.CarryTag.{CarryTag}
use Rattle.sp_domain.specs.declared.tags.CarryTag.TheVariants as carry
use Rattle.pair_domain.specs.declared.tags.Side.TheVariants as side
use Rattle.pair_domain.specs.declared.tags.CompareTag.{CompareTag}
use Rattle.pair_domain.specs.declared.tags.CompareTag.TheVariants as compare
use Rattle.pair_domain.specs.declared.tags.ZeroTag.{ZeroTag}
use Rattle.pair_domain.specs.declared.tags.ZeroTag.TheVariants as zero
use Rattle.pair_domain.specs.Facts.{nothing}
use Rattle.pair_domain.specs.Narrow.{least_from, greatest_from}
use Rattle.abs_state.specs.declared.state.AbsState.{AbsState}
use Rattle.abs_state.specs.Values.{value_at, unknown, known, root, following_root}
use Rattle.pair_cuts.specs.Places.{interval_of}
use Rattle.pair_cuts.specs.Cuts.{flag_cut, bit_cut, equal_cut, pick_cut}

-- ---- states: nothing is known of the flags; a register from low to high, a known one, an interval of a pair, a tag

abbrev start : AbsState
start = record following_root { flags = record { entry = false; bits = byte_any; carry = carry.None } }

abbrev from : ℕ → ℕ → ℕ → AbsState → AbsState
from r low high s = record s { registers = slice_set s.registers r (record unknown { low = low; high = high }) }

abbrev is : ℕ → ℕ → AbsState → AbsState
is r x s = record s { registers = slice_set s.registers r (known x) }

abbrev paired : ℕ → ℕ → ℕ → AbsState
paired r low high = record start { facts = Some (record nothing { intervals = slice_set nothing.intervals (r / 2) (record { low = low; high = high }) }) }

abbrev less : CarryTag → AbsState
less c = record start { flags = record { entry = false; bits = byte_any; carry = c } }

abbrev zeroed : ZeroTag → AbsState
zeroed z = record start { facts = Some (record nothing { zero = z }) }

abbrev compared : CompareTag → AbsState
compared c = record start { facts = Some (record nothing { compare = c }) }

-- the range of register r, the interval of its pair, and the known flags with their values
abbrev shown : ℕ → Option AbsState → List (List ℕ)
shown r None = []
shown r (Some s) =
    ((value_at s.registers r).low ∷ (value_at s.registers r).high ∷ [])
    ∷ ((interval_of s.facts r).low ∷ (interval_of s.facts r).high ∷ []) ∷ (s.flags.bits.known ∷ s.flags.bits.value ∷ []) ∷ []

-- ---- C tells whether r24 is below 16

is_below : shown 24 (flag_cut 0 true (less (carry.Less 24 16))) ≡ (0 ∷ 15 ∷ []) ∷ (0 ∷ 0xFF0F ∷ []) ∷ (1 ∷ 1 ∷ []) ∷ []
unfolding packed all_below permits_below least_from greatest_from
is_below = refl

is_not_below : shown 24 (flag_cut 0 false (less (carry.Less 24 16))) ≡ (16 ∷ 255 ∷ []) ∷ (16 ∷ 0xFFFF ∷ []) ∷ (1 ∷ 0 ∷ []) ∷ []
unfolding packed all_below permits_below least_from greatest_from
is_not_below = refl

nothing_is_below_zero : shown 24 (flag_cut 0 true (less (carry.Less 24 0))) ≡ []
unfolding packed all_below permits_below least_from greatest_from
nothing_is_below_zero = refl

-- C of the root's state is 0
flag_is_known : shown 24 (flag_cut 0 true following_root) ≡ []
unfolding packed all_below permits_below least_from greatest_from
flag_is_known = refl

-- N is cut alone
flag_alone : shown 24 (flag_cut 2 true (less (carry.Less 24 16))) ≡ (0 ∷ 255 ∷ []) ∷ (0 ∷ 0xFFFF ∷ []) ∷ (4 ∷ 4 ∷ []) ∷ []
unfolding packed all_below permits_below least_from greatest_from
flag_alone = refl

-- ---- Z tells whether a register or a pair is 0

byte_is_zero : shown 25 (flag_cut 1 true (zeroed (zero.Byte 25))) ≡ (0 ∷ 0 ∷ []) ∷ (0 ∷ 255 ∷ []) ∷ (2 ∷ 2 ∷ []) ∷ []
unfolding packed all_below permits_below least_from greatest_from
byte_is_zero = refl

byte_is_not_zero : shown 25 (flag_cut 1 false (zeroed (zero.Byte 25))) ≡ (1 ∷ 255 ∷ []) ∷ (256 ∷ 0xFFFF ∷ []) ∷ (2 ∷ 0 ∷ []) ∷ []
unfolding packed all_below permits_below least_from greatest_from
byte_is_not_zero = refl

pair_is_zero : shown 24 (flag_cut 1 true (zeroed (zero.Pair 24))) ≡ (0 ∷ 0 ∷ []) ∷ (0 ∷ 0 ∷ []) ∷ (2 ∷ 2 ∷ []) ∷ []
unfolding packed all_below permits_below least_from greatest_from
pair_is_zero = refl

pair_is_not_zero : shown 24 (flag_cut 1 false (zeroed (zero.Pair 24))) ≡ (0 ∷ 255 ∷ []) ∷ (1 ∷ 0xFFFF ∷ []) ∷ (2 ∷ 0 ∷ []) ∷ []
unfolding packed all_below permits_below least_from greatest_from
pair_is_not_zero = refl

-- ---- r24 was compared with 16

byte_below : shown 24 (flag_cut 0 true (compared (compare.Byte 24 (side.Byte 16)))) ≡ (0 ∷ 15 ∷ []) ∷ (0 ∷ 0xFF0F ∷ []) ∷ (1 ∷ 1 ∷ []) ∷ []
unfolding packed all_below permits_below least_from greatest_from
byte_below = refl

byte_not_below : shown 24 (flag_cut 0 false (compared (compare.Byte 24 (side.Byte 16)))) ≡ (16 ∷ 255 ∷ []) ∷ (16 ∷ 0xFFFF ∷ []) ∷ (1 ∷ 0 ∷ []) ∷ []
unfolding packed all_below permits_below least_from greatest_from
byte_not_below = refl

byte_equal : shown 24 (flag_cut 1 true (compared (compare.Byte 24 (side.Byte 16)))) ≡ (16 ∷ 16 ∷ []) ∷ (16 ∷ 0xFF10 ∷ []) ∷ (2 ∷ 2 ∷ []) ∷ []
unfolding packed all_below permits_below least_from greatest_from
byte_equal = refl

byte_differs : shown 24 (flag_cut 1 false (from 24 16 20 (compared (compare.Byte 24 (side.Byte 16))))) ≡ (17 ∷ 20 ∷ []) ∷ (17 ∷ 0xFF14 ∷ []) ∷ (2 ∷ 0 ∷ []) ∷ []
unfolding packed all_below permits_below least_from greatest_from
byte_differs = refl

byte_less : shown 24 (flag_cut 4 true (from 24 0 127 (compared (compare.Byte 24 (side.Byte 16))))) ≡ (0 ∷ 15 ∷ []) ∷ (0 ∷ 0xFF0F ∷ []) ∷ (16 ∷ 16 ∷ []) ∷ []
unfolding packed all_below permits_below least_from greatest_from
byte_less = refl

byte_not_less : shown 24 (flag_cut 4 false (compared (compare.Byte 24 (side.Byte 16)))) ≡ (16 ∷ 127 ∷ []) ∷ (16 ∷ 0xFF7F ∷ []) ∷ (16 ∷ 0 ∷ []) ∷ []
unfolding packed all_below permits_below least_from greatest_from
byte_not_less = refl

nothing_is_left : shown 24 (flag_cut 0 true (from 24 16 20 (compared (compare.Byte 24 (side.Byte 16))))) ≡ []
unfolding packed all_below permits_below least_from greatest_from
nothing_is_left = refl

-- ---- r24, from 3 to 9, was compared with r22: both are cut

abbrev two : AbsState
two = from 24 3 9 (compared (compare.Byte 24 (side.Register 22)))

right_above_left : shown 22 (flag_cut 0 true two) ≡ (4 ∷ 255 ∷ []) ∷ (4 ∷ 0xFFFF ∷ []) ∷ (1 ∷ 1 ∷ []) ∷ []
unfolding packed all_below permits_below least_from greatest_from
right_above_left = refl

right_up_to_left : shown 22 (flag_cut 0 false two) ≡ (0 ∷ 9 ∷ []) ∷ (0 ∷ 0xFF09 ∷ []) ∷ (1 ∷ 0 ∷ []) ∷ []
unfolding packed all_below permits_below least_from greatest_from
right_up_to_left = refl

right_is_left : shown 22 (flag_cut 1 true two) ≡ (3 ∷ 9 ∷ []) ∷ (3 ∷ 0xFF09 ∷ []) ∷ (2 ∷ 2 ∷ []) ∷ []
unfolding packed all_below permits_below least_from greatest_from
right_is_left = refl

left_is_not_right : shown 24 (flag_cut 1 false (is 22 9 two)) ≡ (3 ∷ 8 ∷ []) ∷ (3 ∷ 0xFF08 ∷ []) ∷ (2 ∷ 0 ∷ []) ∷ []
unfolding packed all_below permits_below least_from greatest_from
left_is_not_right = refl

-- a signed comparison does not cut the right side
right_stays : shown 22 (flag_cut 4 true two) ≡ (0 ∷ 255 ∷ []) ∷ (0 ∷ 0xFFFF ∷ []) ∷ (16 ∷ 16 ∷ []) ∷ []
unfolding packed all_below permits_below least_from greatest_from
right_stays = refl

-- ---- pair 24 was compared with a number, with another pair, and with two registers that are none

number_below : shown 24 (flag_cut 0 true (is 1 2 (compared (compare.Pair 24 (side.Byte 0) 1)))) ≡ (0 ∷ 255 ∷ []) ∷ (0 ∷ 511 ∷ []) ∷ (1 ∷ 1 ∷ []) ∷ []
unfolding packed all_below permits_below least_from greatest_from
number_below = refl

number_equal : shown 24 (flag_cut 1 true (is 1 2 (compared (compare.Pair 24 (side.Byte 7) 1)))) ≡ (7 ∷ 7 ∷ []) ∷ (519 ∷ 519 ∷ []) ∷ (2 ∷ 2 ∷ []) ∷ []
unfolding packed all_below permits_below least_from greatest_from
number_equal = refl

-- nothing is signed below 0x8000
number_not_less : shown 24 (flag_cut 4 true (is 1 0x80 (compared (compare.Pair 24 (side.Byte 0) 1)))) ≡ []
unfolding packed all_below permits_below least_from greatest_from
number_not_less = refl

pair_above : shown 22 (flag_cut 0 true (from 25 1 1 (compared (compare.Pair 24 (side.Register 22) 23)))) ≡ (0 ∷ 255 ∷ []) ∷ (1 ∷ 0xFFFF ∷ []) ∷ (1 ∷ 1 ∷ []) ∷ []
unfolding packed all_below permits_below least_from greatest_from
pair_above = refl

no_pair_above : shown 22 (flag_cut 0 true (is 25 1 (compared (compare.Pair 24 (side.Register 22) 1)))) ≡ (0 ∷ 255 ∷ []) ∷ (0 ∷ 0xFFFF ∷ []) ∷ (1 ∷ 1 ∷ []) ∷ []
unfolding packed all_below permits_below least_from greatest_from
no_pair_above = refl

-- registers 23 and 24 are no pair
odd_pair_above : shown 22 (flag_cut 0 true (is 25 1 (compared (compare.Pair 24 (side.Register 23) 24)))) ≡ (0 ∷ 255 ∷ []) ∷ (0 ∷ 0xFFFF ∷ []) ∷ (1 ∷ 1 ∷ []) ∷ []
unfolding packed all_below permits_below least_from greatest_from
odd_pair_above = refl

-- ---- a bit

bit_is_on : shown 24 (bit_cut 24 7 true start) ≡ (128 ∷ 255 ∷ []) ∷ (128 ∷ 0xFFFF ∷ []) ∷ (0 ∷ 0 ∷ []) ∷ []
unfolding packed all_below permits_below least_from greatest_from
bit_is_on = refl

bit_is_off : shown 25 (bit_cut 25 7 false start) ≡ (0 ∷ 127 ∷ []) ∷ (0 ∷ 0x7FFF ∷ []) ∷ (0 ∷ 0 ∷ []) ∷ []
unfolding packed all_below permits_below least_from greatest_from
bit_is_off = refl

bit_is_known : shown 24 (bit_cut 24 0 true (is 24 6 start)) ≡ []
unfolding packed all_below permits_below least_from greatest_from
bit_is_known = refl

-- the bytes from 6 to 9 with bit 3 set are 8 and 9
bit_moves_the_range : shown 24 (bit_cut 24 3 true (from 24 6 9 start)) ≡ (8 ∷ 9 ∷ []) ∷ (8 ∷ 0xFF09 ∷ []) ∷ (0 ∷ 0 ∷ []) ∷ []
unfolding packed all_below permits_below least_from greatest_from
bit_moves_the_range = refl

-- ---- `cpse r24, r22`

right_is_known : shown 24 (equal_cut 24 22 true (is 22 5 start)) ≡ (5 ∷ 5 ∷ []) ∷ (5 ∷ 0xFF05 ∷ []) ∷ (0 ∷ 0 ∷ []) ∷ []
unfolding packed all_below permits_below least_from greatest_from
right_is_known = refl

right_is_another : shown 24 (equal_cut 24 22 false (from 24 5 9 (is 22 5 start))) ≡ (6 ∷ 9 ∷ []) ∷ (6 ∷ 0xFF09 ∷ []) ∷ (0 ∷ 0 ∷ []) ∷ []
unfolding packed all_below permits_below least_from greatest_from
right_is_another = refl

left_is_known : shown 22 (equal_cut 24 22 true (is 24 5 start)) ≡ (5 ∷ 5 ∷ []) ∷ (5 ∷ 0xFF05 ∷ []) ∷ (0 ∷ 0 ∷ []) ∷ []
unfolding packed all_below permits_below least_from greatest_from
left_is_known = refl

none_is_known : shown 22 (equal_cut 24 22 true (from 24 3 9 start)) ≡ (0 ∷ 255 ∷ []) ∷ (0 ∷ 0xFFFF ∷ []) ∷ (0 ∷ 0 ∷ []) ∷ []
unfolding packed all_below permits_below least_from greatest_from
none_is_known = refl

both_are_known : shown 22 (equal_cut 24 22 true (is 24 4 (is 22 5 start))) ≡ []
unfolding packed all_below permits_below least_from greatest_from
both_are_known = refl

-- ---- a pick

picked : shown 30 (pick_cut 7 start) ≡ (7 ∷ 7 ∷ []) ∷ (7 ∷ 0xFF07 ∷ []) ∷ (0 ∷ 0 ∷ []) ∷ []
unfolding packed all_below permits_below least_from greatest_from
picked = refl

picked_outside : shown 30 (pick_cut 7 (paired 30 0 5)) ≡ []
unfolding packed all_below permits_below least_from greatest_from
picked_outside = refl

-- if pairs aren't followed, only the register changes
picked_alone : shown 30 (pick_cut 7 root) ≡ (7 ∷ 7 ∷ []) ∷ (0 ∷ 0xFFFF ∷ []) ∷ (127 ∷ 0 ∷ []) ∷ []
unfolding packed all_below permits_below least_from greatest_from
picked_alone = refl
