-- Worked nodes of a device without SPH, the ATtiny2313A, each computed.
use Rattle.std.specs.Prelude.{ℕ, ◌-◌, ◌≡◌, false, List, [], ◌∷◌, None, map, replicate, refl, slice_set}
use Rattle.avr_model.specs.declared.device.Device.{Device}
use Rattle.avr_model.specs.Assumptions.{is_frame}
use Rattle.avr_model.specs.Bits.{any_below, all_below}
use Rattle.avr_model.specs.Devices.{device_row, Image, image_of}
use Rattle.avr_model.specs.Masks.{reads_masks}
use Rattle.avr_model.specs.Sites.{is_scratch, table_site, ijmp_from}
use Rattle.avr_model.specs.Table.{decoded}
use Rattle.avr_model.specs.Vectors.{enable_places, held_of, enable_of, enable_place_at, is_moving}
use Rattle.bit_domain.specs.Packed.{packed}
use Rattle.bit_domain.specs.Numbers.{numbers_of}
use Rattle.bit_domain.specs.Sums.{carry_into, borrow_into}
use Rattle.bit_domain.specs.TriByte.{byte_any, byte_known, permits_below}
use Rattle.sp_domain.specs.declared.tags.Tag.{Tag}
use Rattle.sp_domain.specs.declared.tags.Tag.TheVariants as tag
use Rattle.sp_domain.specs.declared.tags.CarryTag.TheVariants as carry
use Rattle.sp_domain.specs.declared.slots.Slot.TheVariants.{Free, Guarded}
use Rattle.abs_state.specs.declared.values.AbsByte.{AbsByte}
use Rattle.abs_state.specs.declared.state.AbsState.{AbsState}
use Rattle.abs_state.specs.Values.{root, value_at, unknown, known}
use Rattle.abs_state.specs.Frames.{entered}
use Rattle.node_keys.specs.declared.keys.NodeKey.{NodeKey}
use Rattle.node_keys.specs.declared.keys.Kind.TheVariants.{Root, Call}
use Rattle.node_keys.specs.declared.keys.SpForm.{SpForm}
use Rattle.node_keys.specs.declared.keys.SpForm.TheVariants.{Closed}
use Rattle.node_keys.specs.Splits.{common_tri, enable_tri}
use Rattle.local_rules.specs.declared.local.NodeFault.{NodeFault}
use Rattle.local_rules.specs.declared.local.NodeFault.TheVariants.{UntrackedSp}
use Rattle.local_rules.specs.Raw.{Raw}
use Rattle.local_rules.specs.Registers.{with_bits}
use Rattle.local_rules.specs.Settling.{settled_state, settled_values}
use Rattle.local_rules.specs.Reads.{read_at}
use Rattle.local_rules.specs.Writes.{written_at}
use Rattle.local_rules.specs.Site.{task_with}
use Rattle.local_rules.specs.Local.{raw}

-- flash of 1,024 words, SRAM of 128 bytes from 0x60 on
abbrev small : Device
small = record { index = 85 }

abbrev firmware : ℕ → ℕ → Image
firmware w0 w1 = image_of small (w0 ∷ w1 ∷ replicate 1022 0xFFFF)

abbrev in_root : ℕ → NodeKey
in_root offset = record { inst = record { kind = Root; entry = 0; masks = 0; i = false }; pc = 0; masks = 0; i = false; delay = false; sp = Closed offset; pick = None }

abbrev in_call : ℕ → NodeKey
in_call offset = record { inst = record { kind = Call; entry = 0; masks = 0; i = false }; pc = 0; masks = 0; i = false; delay = false; sp = Closed offset; pick = None }

-- a frame whose second slot holds 7, with r28 the low byte of base - j and r29 as given
abbrev with_frame : ℕ → ℕ → AbsByte → AbsState
with_frame offset j high =
    record (entered root) {
      registers = slice_set (slice_set (entered root).registers 28 (with_bits (tag.SpLo j) byte_any)) 29 high;
      slots = Free ∷ Guarded (known 7) ∷ replicate (offset - 2) Free;
    }

abbrev values : ℕ → Raw → List AbsByte
values d r = map (λ n. value_at n.state.registers d) r.moves

abbrev tags : ℕ → Raw → List Tag
tags d r = map (λ n. (value_at n.state.registers d).tag) r.moves

abbrev ways : Raw → List (ℕ × SpForm)
ways r = map (λ n. (n.key.pc, n.key.sp)) r.moves

abbrev faults : Raw → List NodeFault
faults r = r.faults

-- `ldd r16, Y+0x05` from base - 6: beside its low byte, 0 is its high byte
reads_slot : values 16 (raw (task_with (firmware 0x810D 0xFFFF) []) (in_call 6) (with_frame 6 6 (known 0))) ≡ known 7 ∷ []
unfolding raw table_site ijmp_from is_scratch any_below all_below decoded device_row read_at packed reads_masks settled_state settled_values
reads_slot = refl

-- below the stack pointer, and beside another byte, nothing is known
reads_below : values 16 (raw (task_with (firmware 0x810D 0xFFFF) []) (in_call 5) (with_frame 5 6 (known 0))) ≡ unknown ∷ []
unfolding raw table_site ijmp_from is_scratch any_below all_below decoded device_row read_at packed reads_masks settled_state settled_values
reads_below = refl

reads_beside_one : values 16 (raw (task_with (firmware 0x810D 0xFFFF) []) (in_call 6) (with_frame 6 6 (known 1))) ≡ unknown ∷ []
unfolding raw table_site ijmp_from is_scratch any_below all_below decoded device_row read_at packed reads_masks settled_state settled_values
reads_beside_one = refl

-- the tag of another address does not count
reads_beside_another : values 16 (raw (task_with (firmware 0x810D 0xFFFF) []) (in_call 6) (with_frame 6 6 (with_bits (tag.SpHi 262) byte_any))) ≡ unknown ∷ []
unfolding raw table_site ijmp_from is_scratch any_below all_below decoded device_row read_at packed reads_masks settled_state settled_values
reads_beside_another = refl

-- `sbiw r28, 5` moves the low byte; the high byte of an address below the stack pointer is unknown
moves_low : tags 28 (raw (task_with (firmware 0x9725 0xFFFF) []) (in_call 6) (with_frame 6 6 (known 0))) ≡ tag.SpLo 11 ∷ []
unfolding raw table_site ijmp_from is_scratch any_below all_below decoded device_row packed reads_masks settled_state settled_values
moves_low = refl

moves_high : tags 29 (raw (task_with (firmware 0x9725 0xFFFF) []) (in_call 6) (with_frame 6 6 (known 0))) ≡ tag.None ∷ []
unfolding raw table_site ijmp_from is_scratch any_below all_below decoded device_row packed reads_masks settled_state settled_values
moves_high = refl

-- `adiw r28, 2`, to base - 4, which is above the stack pointer, so that its high byte is 0
moves_up : values 29 (raw (task_with (firmware 0x9622 0xFFFF) []) (in_call 6) (with_frame 6 6 (known 0))) ≡ known 0 ∷ []
unfolding raw table_site ijmp_from is_scratch any_below all_below decoded device_row packed reads_masks settled_state settled_values permits_below carry_into borrow_into
moves_up = refl

-- `sbci r29, 0` after the low byte of base - 6 less 4, where the stack pointer is base - 12
abbrev borrowed : AbsState
borrowed = record (with_frame 12 10 (known 0)) { flags = record root.flags { carry = carry.Borrow 6 4 } }

borrows_high : values 29 (raw (task_with (firmware 0x40D0 0xFFFF) []) (in_call 12) borrowed) ≡ known 0 ∷ []
unfolding raw table_site ijmp_from is_scratch any_below all_below decoded device_row packed reads_masks is_frame settled_state settled_values permits_below carry_into borrow_into
borrows_high = refl

-- `nop`: a byte that can't be 0 is no high byte of a base
ends_impossible : ways (raw (task_with (firmware 0x0000 0xFFFF) []) (in_call 6) (with_frame 6 6 (with_bits (tag.SpHi 3) (byte_known 1)))) ≡ []
unfolding raw table_site ijmp_from is_scratch any_below all_below decoded device_row packed reads_masks settled_state settled_values permits_below carry_into borrow_into
ends_impossible = refl

-- `out 0x3d, r28` sets the whole stack pointer; a number from 0x80 on would be above the base
sets_all : ways (raw (task_with (firmware 0xBFCD 0xFFFF) []) (in_call 6) (with_frame 6 127 (known 0))) ≡ (1, Closed 127) ∷ []
unfolding raw table_site ijmp_from is_scratch any_below all_below decoded device_row written_at reads_masks settled_state settled_values
sets_all = refl

sets_above : faults (raw (task_with (firmware 0xBFCD 0xFFFF) []) (in_call 6) (with_frame 6 128 (known 0))) ≡ UntrackedSp 0 ∷ []
unfolding raw table_site ijmp_from is_scratch any_below all_below decoded device_row written_at reads_masks settled_state settled_values
sets_above = refl

-- in the root, to 0xBF: 32 bytes below the end of SRAM
abbrev at_bf : AbsState
at_bf = record root { registers = slice_set root.registers 28 (known 0xBF) }

sets_root : ways (raw (task_with (firmware 0xBFCD 0xFFFF) []) (in_root 0) at_bf) ≡ (1, Closed 32) ∷ []
unfolding raw table_site ijmp_from is_scratch any_below all_below decoded device_row written_at packed reads_masks settled_state settled_values
sets_root = refl

-- `out 0x3e, r29` writes no stack pointer, and `in r29, 0x3e` reads none
writes_other : ways (raw (task_with (firmware 0xBFDE 0xFFFF) []) (in_call 6) (with_frame 6 6 (known 0))) ≡ (1, Closed 6) ∷ []
unfolding raw table_site ijmp_from is_scratch any_below all_below decoded device_row written_at enable_places enable_place_at enable_of numbers_of enable_tri common_tri packed reads_masks settled_state settled_values
writes_other = refl

reads_other : values 29 (raw (task_with (firmware 0xB7DE 0xFFFF) []) (in_call 6) (with_frame 6 6 (known 0))) ≡ unknown ∷ []
unfolding raw table_site ijmp_from is_scratch any_below all_below decoded device_row read_at enable_places held_of is_moving packed reads_masks settled_state settled_values
reads_other = refl

-- `rcall .+0` before `in r28, 0x3d` makes room for a return address of two bytes
makes_room : ways (raw (task_with (firmware 0xD000 0xB7CD) []) (in_call 6) (with_frame 6 6 (known 0))) ≡ (1, Closed 8) ∷ []
unfolding raw table_site ijmp_from is_scratch any_below all_below decoded device_row reads_masks settled_state settled_values
makes_room = refl
