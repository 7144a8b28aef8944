-- Worked nodes with the line `masks`, each computed.
use Rattle.std.specs.Prelude.{ℕ, ◌≡◌, false, List, [], ◌∷◌, None, map, replicate, refl, slice_set}
use Rattle.avr_model.specs.declared.assumption.Entry.{Entry}
use Rattle.avr_model.specs.declared.assumption.Entry.TheVariants.{Masks, Store, Never}
use Rattle.avr_model.specs.Assumptions.{has_masks, store_line, is_proved, is_freed, is_never, is_fixed_site}
use Rattle.avr_model.specs.Bits.{any_below, all_below, number_of}
use Rattle.avr_model.specs.Devices.{device_row, M328, image_of}
use Rattle.avr_model.specs.Masks.{reads_masks, admits_enables}
use Rattle.avr_model.specs.Sites.{is_scratch, is_fixed, path_behind, is_loaded_behind, table_site, ijmp_from}
use Rattle.avr_model.specs.Table.{length_of, decoded}
use Rattle.avr_model.specs.Vectors.{enable_places, enable_place_at, held_of, enable_of, has_enable_place, is_moving}
use Rattle.bit_domain.specs.declared.bits.Tri.{Tri}
use Rattle.bit_domain.specs.declared.bits.Tri.TheVariants.{Zero, One, Any}
use Rattle.bit_domain.specs.Numbers.{numbers_of}
use Rattle.bit_domain.specs.Packed.{packed}
use Rattle.bit_domain.specs.TriByte.{tri_at, permits_below}
use Rattle.sp_domain.specs.declared.tags.Tag.TheVariants as tag
use Rattle.sp_domain.specs.declared.slots.Slot.TheVariants.{Free}
use Rattle.abs_state.specs.declared.state.AbsState.{AbsState}
use Rattle.abs_state.specs.Values.{root, value_at, unknown, known}
use Rattle.abs_state.specs.Frames.{entered}
use Rattle.node_keys.specs.declared.keys.NodeKey.{NodeKey}
use Rattle.node_keys.specs.declared.keys.Kind.TheVariants.{Call}
use Rattle.node_keys.specs.declared.keys.SpForm.TheVariants.{Closed}
use Rattle.node_keys.specs.Splits.{common_tri, enable_tri}
use Rattle.node_keys.specs.Wakes.{may_have, may_enable_other, widened}
use Rattle.local_rules.specs.Raw.{Raw}
use Rattle.local_rules.specs.Registers.{with_bits}
use Rattle.local_rules.specs.Settling.{settled_state, settled_values}
use Rattle.local_rules.specs.Reads.{read_at}
use Rattle.local_rules.specs.Writes.{written_at, may_wake}
use Rattle.local_rules.specs.Site.{task_with}
use Rattle.local_rules.specs.Local.{raw}

-- a node at word 0 of a call's frame with two pushed bytes; these vectors are enabled, or may be
abbrev node : ℕ → NodeKey
node masks = record { inst = record { kind = Call; entry = 0; masks = 0; i = false }; pc = 0; masks = masks; i = false; delay = false; sp = Closed 2; pick = None }

abbrev pushed : AbsState
pushed = record (entered root) { slots = Free ∷ Free ∷ [] }

-- one register is a known number
abbrev holding : ℕ → ℕ → AbsState
holding r n = record pushed { registers = slice_set pushed.registers r (known n) }

-- r28 and r29 point at the last pushed byte
abbrev pointing : AbsState
pointing = record pushed { registers = slice_set (slice_set pushed.registers 28 (with_bits (tag.SpLo 2) unknown.bits)) 29 (with_bits (tag.SpHi 2) unknown.bits) }

-- the successors of one or two words there
abbrev leads : ℕ → ℕ → List Entry → ℕ → AbsState → Raw
leads w0 w1 A masks s = raw (task_with (image_of M328 (w0 ∷ w1 ∷ replicate 16382 0xFFFF)) A) (node masks) s

-- the words of successors, and the vectors there
abbrev ways : Raw → List (ℕ × ℕ)
ways r = map (λ n. (n.key.pc, n.key.masks)) r.moves

-- ---- reads

-- the last three bits of r16
abbrev bits_read : Raw → List (Tri × Tri × Tri)
bits_read r = map (λ n. (tri_at (value_at n.state.registers 16).bits 2, tri_at (value_at n.state.registers 16).bits 1, tri_at (value_at n.state.registers 16).bits 0)) r.moves

-- `lds r16, 0x006E`: of TIMSK0's three enable bits the second is that of vector 15
reads_exactly : bits_read (leads 0x9100 0x006E [] 8192 pushed) ≡ (Zero, One, Zero) ∷ []
unfolding raw table_site ijmp_from is_scratch any_below all_below decoded device_row read_at held_of enable_of enable_places packed reads_masks has_masks length_of settled_state settled_values
reads_exactly = refl

reads_what_may_be : bits_read (leads 0x9100 0x006E (Masks ∷ []) 8192 pushed) ≡ (Zero, Any, Zero) ∷ []
unfolding raw table_site ijmp_from is_scratch any_below all_below decoded device_row read_at held_of enable_of enable_places packed reads_masks has_masks length_of is_moving settled_state settled_values
reads_what_may_be = refl

-- `in r16, 0x35`: the second bit of MCUCR is IVSEL
reads_no_moved_vectors : bits_read (leads 0xB705 0xFFFF (Masks ∷ []) 1 pushed) ≡ (Any, Zero, Any) ∷ []
unfolding raw table_site ijmp_from is_scratch any_below all_below decoded device_row read_at held_of is_moving enable_places packed reads_masks has_masks settled_state settled_values
reads_no_moved_vectors = refl

-- without the line nothing is known of it
reads_any_vectors : bits_read (leads 0xB705 0xFFFF [] 1 pushed) ≡ (Any, Any, Any) ∷ []
unfolding raw table_site ijmp_from is_scratch any_below all_below decoded device_row read_at held_of is_moving enable_places packed reads_masks has_masks settled_state settled_values
reads_any_vectors = refl

-- ---- skips: `sbic 0x1D, 0` and `sbis 0x1D, 0` of vector 2's enable bit

skips_exactly : ways (leads 0x99E8 0xFFFF [] 1 pushed) ≡ (1, 1) ∷ []
unfolding raw table_site ijmp_from is_scratch any_below all_below decoded device_row read_at held_of enable_of enable_places packed reads_masks has_masks length_of number_of settled_state settled_values
skips_exactly = refl

skips_or_not : ways (leads 0x99E8 0xFFFF (Masks ∷ []) 1 pushed) ≡ (1, 1) ∷ (2, 0) ∷ []
unfolding raw table_site ijmp_from is_scratch any_below all_below decoded device_row read_at held_of enable_of enable_places packed reads_masks has_masks length_of number_of is_moving settled_state settled_values
skips_or_not = refl

skips_where_set : ways (leads 0x9BE8 0xFFFF (Masks ∷ []) 1 pushed) ≡ (1, 0) ∷ (2, 1) ∷ []
unfolding raw table_site ijmp_from is_scratch any_below all_below decoded device_row read_at held_of enable_of enable_places packed reads_masks has_masks length_of number_of is_moving settled_state settled_values
skips_where_set = refl

-- the enable bit of a vector outside the set is 0
skips_once : ways (leads 0x99E8 0xFFFF (Masks ∷ []) 2 pushed) ≡ (2, 2) ∷ []
unfolding raw table_site ijmp_from is_scratch any_below all_below decoded device_row read_at held_of enable_of enable_places packed reads_masks has_masks length_of number_of is_moving settled_state settled_values
skips_once = refl

-- ---- one bit is written: `sbi 0x1D, 1` and `cbi 0x1D, 0`

turns_on : ways (leads 0x9AE9 0xFFFF (Masks ∷ []) 1 pushed) ≡ (1, 3) ∷ []
unfolding raw table_site ijmp_from is_scratch any_below all_below decoded device_row read_at written_at held_of enable_of enable_places packed reads_masks has_masks length_of number_of numbers_of enable_tri enable_place_at common_tri settled_state settled_values
turns_on = refl

turns_off : ways (leads 0x98E8 0xFFFF (Masks ∷ []) 3 pushed) ≡ (1, 2) ∷ []
unfolding raw table_site ijmp_from is_scratch any_below all_below decoded device_row read_at written_at held_of enable_of enable_places packed reads_masks has_masks length_of number_of numbers_of enable_tri enable_place_at common_tri settled_state settled_values
turns_off = refl

-- ---- stores: `st X, r0`, where X isn't known

stores_nowhere : ways (leads 0x920C 0xFFFF [] 1 pushed) ≡ (1, 1) ∷ []
unfolding raw table_site ijmp_from is_scratch is_fixed path_behind is_loaded_behind is_proved is_freed is_fixed_site store_line any_below all_below decoded length_of device_row packed may_wake admits_enables reads_masks has_masks settled_state settled_values
stores_nowhere = refl

-- with the line all 25 vectors of the ATmega328P may be enabled afterwards
stores_anywhere : ways (leads 0x920C 0xFFFF (Masks ∷ []) 1 pushed) ≡ (1, 1) ∷ (1, 33554431) ∷ []
unfolding raw table_site ijmp_from is_scratch is_fixed path_behind is_loaded_behind is_proved is_freed is_fixed_site store_line any_below all_below decoded length_of device_row packed may_wake admits_enables reads_masks has_masks may_enable_other may_have enable_places widened has_enable_place number_of is_never permits_below settled_state settled_values
stores_anywhere = refl

-- but not a vector whose word has a `never` line
stores_but_never : ways (leads 0x920C 0xFFFF (Masks ∷ Never 2 ∷ []) 2 pushed) ≡ (1, 2) ∷ (1, 33554430) ∷ []
unfolding raw table_site ijmp_from is_scratch is_fixed path_behind is_loaded_behind is_proved is_freed is_fixed_site store_line any_below all_below decoded length_of device_row packed may_wake admits_enables reads_masks has_masks may_enable_other may_have enable_places widened has_enable_place number_of is_never permits_below settled_state settled_values
stores_but_never = refl

-- nothing is enabled if the byte has no enable bit, or X points into SRAM
stores_zero : ways (leads 0x920C 0xFFFF (Masks ∷ []) 1 (holding 0 0)) ≡ (1, 1) ∷ []
unfolding raw table_site ijmp_from is_scratch is_fixed path_behind is_loaded_behind is_proved is_freed is_fixed_site store_line any_below all_below decoded length_of device_row packed may_wake admits_enables reads_masks has_masks may_enable_other may_have enable_places widened has_enable_place number_of is_never permits_below settled_state settled_values
stores_zero = refl

stores_into_memory : ways (leads 0x920C 0xFFFF (Masks ∷ []) 1 (holding 27 1)) ≡ (1, 1) ∷ []
unfolding raw table_site ijmp_from is_scratch is_fixed path_behind is_loaded_behind is_proved is_freed is_fixed_site store_line any_below all_below decoded length_of device_row packed may_wake admits_enables reads_masks has_masks may_enable_other may_have enable_places widened has_enable_place number_of is_never permits_below settled_state settled_values
stores_into_memory = refl

-- a `store` line at the site: the listed addresses, as without `masks`
stores_listed : ways (leads 0x920C 0xFFFF (Masks ∷ Store 0 (0 ∷ []) ∷ []) 1 pushed) ≡ (1, 1) ∷ (1, 1) ∷ []
unfolding raw table_site ijmp_from is_scratch is_fixed path_behind is_loaded_behind is_proved is_freed is_fixed_site store_line any_below all_below decoded length_of device_row packed may_wake admits_enables reads_masks has_masks written_at permits_below settled_state settled_values
stores_listed = refl

-- `std Y+1, r0` writes a slot of the frame, and `std Y+3, r0` one above it
stores_own_slot : ways (leads 0x8209 0xFFFF (Masks ∷ []) 1 pointing) ≡ (1, 1) ∷ []
unfolding raw table_site ijmp_from is_scratch is_fixed path_behind is_loaded_behind is_proved is_freed is_fixed_site store_line any_below all_below decoded length_of device_row packed may_wake admits_enables reads_masks has_masks may_enable_other may_have enable_places widened has_enable_place number_of is_never permits_below settled_state settled_values
stores_own_slot = refl

stores_above : ways (leads 0x820B 0xFFFF (Masks ∷ []) 1 pointing) ≡ (1, 1) ∷ (1, 33554431) ∷ []
unfolding raw table_site ijmp_from is_scratch is_fixed path_behind is_loaded_behind is_proved is_freed is_fixed_site store_line any_below all_below decoded length_of device_row packed may_wake admits_enables reads_masks has_masks may_enable_other may_have enable_places widened has_enable_place number_of is_never permits_below settled_state settled_values
stores_above = refl
