-- Worked rows of the definitions.
use Rattle.std.specs.Prelude.{ℕ, ◌≡◌, ◌==◌, refl, true, false, List, [], ◌∷◌, Some, None, if◌then◌else◌}
use Rattle.std.specs.declared.cmp.Ordering.TheVariants.{Less, Greater}
use Rattle.avr_model.specs.Devices.{M48, M328, ramend, device_row}
use Rattle.avr_model.specs.State.{filled}
use Rattle.avr_model.specs.declared.assumption.Entry.{Entry}
use Rattle.avr_model.specs.declared.assumption.Entry.TheVariants.{Masks, Never, Recur}
use Rattle.avr_model.specs.Assumptions.{is_never, recur_line}
use Rattle.avr_model.specs.Bits.{all_below, any_below, number_of}
use Rattle.avr_model.specs.Vectors.{are_among, enable_places, enable_place_at, has_enable_place}
use Rattle.bit_domain.specs.declared.bits.Tri.TheVariants.{Zero, Any}
use Rattle.bit_domain.specs.Packed.{packed}
use Rattle.bit_domain.specs.TriByte.{byte_of, byte_known, byte_any}
use Rattle.bit_domain.specs.Numbers.{numbers_of}
use Rattle.node_keys.specs.declared.keys.Kind.TheVariants.{Call, Vector}
use Rattle.node_keys.specs.declared.keys.InstKey.{InstKey}
use Rattle.node_keys.specs.declared.keys.High.TheVariants.{Known, Tag}
use Rattle.node_keys.specs.declared.keys.SpForm.{SpForm}
use Rattle.node_keys.specs.declared.keys.SpForm.TheVariants.{Closed, Open}
use Rattle.node_keys.specs.declared.keys.NodeKey.{NodeKey}
use Rattle.node_keys.specs.Keys.{offset_of, root_inst, entry_key, cut_at, inst_numbers, node_numbers}
use Rattle.node_keys.specs.Order.{inst_cmp, node_cmp, same_node}
use Rattle.node_keys.specs.Place.{SpIs, AtNode}
use Rattle.node_keys.specs.Splits.{common_tri, enable_tri, splits}
use Rattle.node_keys.specs.Wakes.{may_have, may_enable_barred, may_enable_other, widened, without}

-- ---- keys

offset_of_open : offset_of (Open 5 (Tag 7)) ≡ 5
offset_of_open = refl

-- TIMER0_OVF, with INT0 and INT1 enabled
abbrev timer : InstKey
timer = record { kind = Vector 17; entry = 32; masks = 3; i = false }

numbers_of_timer : node_numbers (entry_key timer) ≡ 2 ∷ 17 ∷ 32 ∷ 3 ∷ 0 ∷ 32 ∷ 3 ∷ 0 ∷ 0 ∷ 0 ∷ 0 ∷ 0 ∷ 0 ∷ 0 ∷ 0 ∷ []
unfolding node_numbers inst_numbers
numbers_of_timer = refl

-- ---- instances that a `recur` line cuts

abbrev called : ℕ → InstKey
called entry = record { kind = Call; entry = entry; masks = 0; i = false }

call_is_cut : cut_at (Recur 3 8 ∷ []) (called 3) ≡ Some 8
unfolding cut_at recur_line
call_is_cut = refl

other_call_is_whole : cut_at (Recur 3 8 ∷ []) (called 4) ≡ None
unfolding cut_at recur_line
other_call_is_whole = refl

-- neither an interrupt nor reset is a call
handler_is_whole : cut_at (Recur 32 8 ∷ []) timer ≡ None
unfolding cut_at
handler_is_whole = refl

root_is_whole : cut_at (Recur 0 8 ∷ []) root_inst ≡ None
unfolding cut_at
root_is_whole = refl

-- ---- order

root_before_call : inst_cmp root_inst (record { kind = Call; entry = 0; masks = 0; i = false }) ≡ Less
unfolding inst_cmp inst_numbers
root_before_call = refl

-- a call orders before an interrupt, whatever the entries
call_before_vector : inst_cmp (record { kind = Call; entry = 99; masks = 0; i = true }) timer ≡ Less
unfolding inst_cmp inst_numbers
call_before_vector = refl

abbrev root_at : ℕ → SpForm → NodeKey
root_at pc sp = record { inst = root_inst; pc = pc; masks = 0; i = false; delay = false; sp = sp; pick = None }

-- the instance is compared before the program counter
instance_before_pc : node_cmp (root_at 99 (Closed 0)) (entry_key timer) ≡ Less
unfolding node_cmp node_numbers inst_numbers
instance_before_pc = refl

closed_before_open : node_cmp (root_at 9 (Closed 300)) (root_at 9 (Open 0 (Known 8))) ≡ Less
unfolding node_cmp node_numbers inst_numbers
closed_before_open = refl

tag_after_known : node_cmp (root_at 9 (Open 4 (Tag 0))) (root_at 9 (Open 4 (Known 8))) ≡ Greater
unfolding node_cmp node_numbers inst_numbers
tag_after_known = refl

-- no pick orders before any pick
no_pick_first : node_cmp (root_at 9 (Closed 3)) (record (root_at 9 (Closed 3)) { pick = Some 0 }) ≡ Less
unfolding node_cmp node_numbers inst_numbers
no_pick_first = refl

one_node : same_node (root_at 9 (Closed 3)) (root_at 9 (Closed 3)) ≡ true
unfolding same_node node_cmp node_numbers inst_numbers
one_node = refl

-- ---- places

-- a machine after reset is at the root's first node
at_reset : AtNode false (ramend M328) (filled M328 0x55) (entry_key root_inst)
unfolding device_row
at_reset = record { pc = refl; enables = refl; i = refl; delay = refl; sp = (refl, refl) }

-- SPH is written with the high byte of 0x08FF - 0x100, and SPL is still that of 0x08FF - 2
half_written : SpIs (ramend M328) true 0x07FD (Open 2 (Tag 0x100))
unfolding device_row
half_written = (refl, refl, refl)

-- ---- splits: INT0 and INT1 have their enable bits 0 and 1 at address 0x3D, PCINT0 has its at 0x68

any_byte : splits M328 4 0x3D byte_any ≡ 4 ∷ 5 ∷ 6 ∷ 7 ∷ []
unfolding device_row numbers_of enable_tri packed enable_place_at enable_places common_tri any_below
any_byte = refl

known_byte : splits M328 5 0x3D (byte_known 2) ≡ 6 ∷ []
unfolding device_row numbers_of enable_tri packed enable_place_at enable_places common_tri any_below
known_byte = refl

-- an even byte clears INT0 and may leave INT1
even_byte : splits M328 1 0x3D (byte_of (λ i. if i == 0 then Zero else Any)) ≡ 0 ∷ 2 ∷ []
unfolding device_row numbers_of enable_tri packed enable_place_at enable_places common_tri any_below
even_byte = refl

-- TIMER1 has four enable bits, of vectors 11 to 14; bit 5 is that of the capture
four_bits : splits M328 0 0x6F (byte_of (λ i. if i == 5 then Zero else Any)) ≡ 0 ∷ 1024 ∷ 2048 ∷ 3072 ∷ 4096 ∷ 5120 ∷ 6144 ∷ 7168 ∷ []
unfolding device_row numbers_of enable_tri packed enable_place_at enable_places common_tri any_below
four_bits = refl

no_enable_bits : splits M328 5 0x0100 byte_any ≡ 5 ∷ []
unfolding device_row numbers_of enable_tri packed enable_place_at enable_places common_tri any_below
no_enable_bits = refl

-- ---- what may be enabled

less_enabled : are_among 1 5 ≡ true
unfolding are_among all_below
less_enabled = refl

another_enabled : are_among 2 5 ≡ false
unfolding are_among all_below
another_enabled = refl

-- INT0's word 2 has a `never` line: vectors other than INT0
abbrev no_INT0 : List Entry
no_INT0 = Masks ∷ Never 2 ∷ []

all_but_INT0 : widened M328 no_INT0 0 ≡ 0x1FFFFFE
unfolding device_row widened number_of is_never has_enable_place enable_places
all_but_INT0 = refl

-- INT0 stays among the vectors that may be enabled
with_INT0 : widened M328 no_INT0 1 ≡ 0x1FFFFFF
unfolding device_row widened number_of is_never has_enable_place enable_places
with_INT0 = refl

-- on the ATmega48PA the word 2 is INT1's
all_but_INT1 : widened M48 no_INT0 0 ≡ 0x1FFFFFD
unfolding device_row widened number_of is_never has_enable_place enable_places
all_but_INT1 = refl

any_enables_INT0 : may_enable_barred M328 no_INT0 0x3D byte_any ≡ true
unfolding device_row may_enable_barred packed is_never enable_places may_have any_below
any_enables_INT0 = refl

two_enables_INT1_alone : may_enable_barred M328 no_INT0 0x3D (byte_known 2) ≡ false
unfolding device_row may_enable_barred packed is_never enable_places may_have any_below
two_enables_INT1_alone = refl

two_enables_another : may_enable_other M328 no_INT0 (λ a. a == 0x3D) (byte_known 2) ≡ true
unfolding device_row may_enable_other packed is_never enable_places may_have any_below
two_enables_another = refl

one_enables_no_other : may_enable_other M328 no_INT0 (λ a. a == 0x3D) (byte_known 1) ≡ false
unfolding device_row may_enable_other packed is_never enable_places may_have any_below
one_enables_no_other = refl

-- if INT1's enable bit reads 0, it leaves a set of what may be enabled, and contradicts a set of what is enabled
reads_zero : without M328 true (Some 3) 7 ≡ 5
unfolding device_row number_of
reads_zero = refl

reads_zero_exactly : without M328 false (Some 3) 5 ≡ 5
reads_zero_exactly = refl
