-- Worked nodes of the ATtiny1614, whose I/O begins at data address 0 and whose registers have no data addresses, each computed.
use Rattle.std.specs.Prelude.{ℕ, ◌≡◌, false, List, [], ◌∷◌, None, map, replicate, refl, slice_set}
use Rattle.avr_model.specs.Assumptions.{has_masks}
use Rattle.avr_model.specs.Bits.{any_below, all_below}
use Rattle.avr_model.specs.Devices.{device_row, Image, T1614, image_of}
use Rattle.avr_model.specs.Masks.{reads_masks}
use Rattle.avr_model.specs.Sites.{is_scratch, table_site, ijmp_from}
use Rattle.avr_model.specs.Table.{decoded, length_of}
use Rattle.avr_model.specs.Vectors.{enable_places, held_of, enable_place_at, is_moving}
use Rattle.bit_domain.specs.Packed.{packed}
use Rattle.bit_domain.specs.Numbers.{numbers_of}
use Rattle.sp_domain.specs.declared.tags.Tag.{Tag}
use Rattle.sp_domain.specs.declared.tags.Tag.TheVariants as tag
use Rattle.sp_domain.specs.declared.slots.Slot.TheVariants.{Free}
use Rattle.abs_state.specs.declared.values.AbsByte.{AbsByte}
use Rattle.abs_state.specs.declared.state.AbsState.{AbsState}
use Rattle.abs_state.specs.Values.{root, value_at, unknown, known}
use Rattle.abs_state.specs.Frames.{entered}
use Rattle.node_keys.specs.declared.keys.NodeKey.{NodeKey}
use Rattle.node_keys.specs.declared.keys.High.TheVariants.{Tag as Tagged}
use Rattle.node_keys.specs.declared.keys.Kind.TheVariants.{Call}
use Rattle.node_keys.specs.declared.keys.SpForm.{SpForm}
use Rattle.node_keys.specs.declared.keys.SpForm.TheVariants.{Closed, Open}
use Rattle.node_keys.specs.Splits.{common_tri, enable_tri}
use Rattle.local_rules.specs.Raw.{Raw}
use Rattle.local_rules.specs.Registers.{with_bits}
use Rattle.local_rules.specs.Settling.{settled_state, settled_values}
use Rattle.local_rules.specs.Reads.{read_at}
use Rattle.local_rules.specs.Writes.{written_at}
use Rattle.local_rules.specs.Site.{task_with}
use Rattle.local_rules.specs.Local.{raw}

-- flash of 8,192 words
abbrev firmware : ℕ → ℕ → Image
firmware w0 w1 = image_of T1614 (w0 ∷ w1 ∷ replicate 8190 0xFFFF)

abbrev in_call : SpForm → NodeKey
in_call sp = record { inst = record { kind = Call; entry = 0; masks = 0; i = false }; pc = 0; masks = 0; i = false; delay = false; sp = sp; pick = None }

-- two bytes are pushed, r29 is the high byte of base - 34, and r0 is 7
abbrev pushed : AbsState
pushed =
    record (entered root) {
      registers = slice_set (slice_set (entered root).registers 29 (with_bits (tag.SpHi 34) unknown.bits)) 0 (known 7);
      slots = replicate 2 Free;
    }

abbrev ways : Raw → List (ℕ × SpForm)
ways r = map (λ n. (n.key.pc, n.key.sp)) r.moves

abbrev tags : ℕ → Raw → List Tag
tags d r = map (λ n. (value_at n.state.registers d).tag) r.moves

abbrev values : ℕ → Raw → List AbsByte
values d r = map (λ n. value_at n.state.registers d) r.moves

-- `in r28, 0x3d` and `lds r28, 0x003d` read the low byte of the stack pointer, `in r28, 0x3e` the high one
reads_low : tags 28 (raw (task_with (firmware 0xB7CD 0xFFFF) []) (in_call (Closed 2)) pushed) ≡ tag.SpLo 2 ∷ []
unfolding raw table_site ijmp_from is_scratch any_below all_below decoded device_row read_at settled_state settled_values
reads_low = refl

loads_low : tags 28 (raw (task_with (firmware 0x91C0 0x003D) []) (in_call (Closed 2)) pushed) ≡ tag.SpLo 2 ∷ []
unfolding raw table_site ijmp_from is_scratch any_below all_below decoded device_row read_at settled_state settled_values
loads_low = refl

reads_high : tags 28 (raw (task_with (firmware 0xB7CE 0xFFFF) []) (in_call (Closed 2)) pushed) ≡ tag.SpHi 2 ∷ []
unfolding raw table_site ijmp_from is_scratch any_below all_below decoded device_row read_at settled_state settled_values
reads_high = refl

-- `in r28, 0x3f` reads the flags of the entry
reads_flags : tags 28 (raw (task_with (firmware 0xB7CF 0xFFFF) []) (in_call (Closed 2)) pushed) ≡ tag.EntryFlags ∷ []
unfolding raw table_site ijmp_from is_scratch any_below all_below decoded device_row read_at settled_state settled_values
reads_flags = refl

-- 0x005d is another address of I/O, and 0 is not that of r0
loads_other : values 28 (raw (task_with (firmware 0x91C0 0x005D) []) (in_call (Closed 2)) pushed) ≡ unknown ∷ []
unfolding raw table_site ijmp_from is_scratch any_below all_below decoded device_row read_at enable_places held_of is_moving packed reads_masks has_masks length_of settled_state settled_values
loads_other = refl

loads_no_register : values 28 (raw (task_with (firmware 0x91C0 0x0000) []) (in_call (Closed 2)) pushed) ≡ unknown ∷ []
unfolding raw table_site ijmp_from is_scratch any_below all_below decoded device_row read_at enable_places held_of is_moving packed reads_masks has_masks length_of settled_state settled_values
loads_no_register = refl

-- `sts 0x003e, r29` opens the pair, `sts 0x005e, r29` and `sts 0x001d, r0` change nothing
opens : ways (raw (task_with (firmware 0x93D0 0x003E) []) (in_call (Closed 2)) pushed) ≡ (2, Open 2 (Tagged 34)) ∷ []
unfolding raw table_site ijmp_from is_scratch any_below all_below decoded device_row written_at length_of settled_state settled_values
opens = refl

stores_other : ways (raw (task_with (firmware 0x93D0 0x005E) []) (in_call (Closed 2)) pushed) ≡ (2, Closed 2) ∷ []
unfolding raw table_site ijmp_from is_scratch any_below all_below decoded device_row written_at enable_places enable_place_at numbers_of enable_tri common_tri packed length_of settled_state settled_values
stores_other = refl

stores_no_register : tags 29 (raw (task_with (firmware 0x9200 0x001D) []) (in_call (Closed 2)) pushed) ≡ tag.SpHi 34 ∷ []
unfolding raw table_site ijmp_from is_scratch any_below all_below decoded device_row written_at enable_places enable_place_at numbers_of enable_tri common_tri packed length_of settled_state settled_values
stores_no_register = refl
