-- Worked nodes on devices of other rows: where SRAM begins, and how places enable vectors.
use Rattle.std.specs.Prelude.{ℕ, ◌≡◌, true, false, List, [], ◌∷◌, None, map, replicate, refl, slice_set}
use Rattle.avr_model.specs.declared.device.Device.{Device}
use Rattle.avr_model.specs.declared.assumption.Entry.{Entry}
use Rattle.avr_model.specs.declared.assumption.Entry.TheVariants.{Never}
use Rattle.avr_model.specs.Assumptions.{has_masks, is_never}
use Rattle.avr_model.specs.Bits.{any_below, all_below, number_of}
use Rattle.avr_model.specs.Devices.{device_row, Image, image_of}
use Rattle.avr_model.specs.Masks.{reads_masks}
use Rattle.avr_model.specs.Sites.{is_scratch, table_site, ijmp_from}
use Rattle.avr_model.specs.Table.{length_of, decoded}
use Rattle.avr_model.specs.Vectors.{enable_places, enable_place_at, held_of, enable_of, is_moving, is_enabled, has_enable_place}
use Rattle.bit_domain.specs.declared.bits.Tri.{Tri}
use Rattle.bit_domain.specs.declared.bits.Tri.TheVariants.{Zero, Any}
use Rattle.bit_domain.specs.Numbers.{numbers_of}
use Rattle.bit_domain.specs.Packed.{packed}
use Rattle.bit_domain.specs.TriByte.{tri_at}
use Rattle.abs_state.specs.declared.state.AbsState.{AbsState}
use Rattle.abs_state.specs.Values.{root, value_at, known}
use Rattle.node_keys.specs.declared.keys.NodeKey.{NodeKey}
use Rattle.node_keys.specs.declared.keys.Kind.{Kind}
use Rattle.node_keys.specs.declared.keys.Kind.TheVariants.{Root, Call}
use Rattle.node_keys.specs.declared.keys.SpForm.{SpForm}
use Rattle.node_keys.specs.declared.keys.SpForm.TheVariants.{Closed, Open}
use Rattle.node_keys.specs.declared.keys.High.TheVariants.{Tag as Tagged}
use Rattle.node_keys.specs.Splits.{common_tri, enable_tri}
use Rattle.local_rules.specs.declared.local.NodeFault.{NodeFault}
use Rattle.local_rules.specs.declared.local.NodeFault.TheVariants.{UntrackedSp}
use Rattle.local_rules.specs.Raw.{Raw}
use Rattle.local_rules.specs.Settling.{settled_state, settled_values}
use Rattle.local_rules.specs.Reads.{read_at}
use Rattle.local_rules.specs.Writes.{written_at}
use Rattle.local_rules.specs.Site.{task_with}
use Rattle.local_rules.specs.Local.{may_come, raw}

-- SRAM begins at 0x60, and two bits of one address enable vector 3
abbrev tiny461 : Device
tiny461 = record { index = 64 }

-- six bits of an address enable vector 2
abbrev pwm81 : Device
pwm81 = record { index = 11 }

-- vector 12 stays enabled
abbrev usb82 : Device
usb82 = record { index = 17 }

-- no known bit enables vector 26
abbrev tiny828 : Device
tiny828 = record { index = 66 }

-- firmware of one or two words, followed by erased words
abbrev small : ℕ → ℕ → Image
small w0 w1 = image_of tiny461 (w0 ∷ w1 ∷ replicate 2046 0xFFFF)

abbrev middle : Device → ℕ → ℕ → Image
middle device w0 w1 = image_of device (w0 ∷ w1 ∷ replicate 4094 0xFFFF)

-- a node at word 0, with these vectors that may be enabled
abbrev at_0 : Kind → ℕ → SpForm → NodeKey
at_0 kind masks sp = record { inst = record { kind = kind; entry = 0; masks = 0; i = false }; pc = 0; masks = masks; i = false; delay = false; sp = sp; pick = None }

-- `in r29, 0x3e` reads 1, since the stack begins at 0x015F
abbrev ranges : Raw → List (ℕ × ℕ)
ranges r = map (λ n. ((value_at n.state.registers 29).low, (value_at n.state.registers 29).high)) r.moves

reads_top : ranges (raw (task_with (small 0xB7DE 0xFFFF) []) (at_0 Root 0 (Closed 0)) root) ≡ (1, 1) ∷ []
unfolding raw table_site ijmp_from is_scratch any_below all_below decoded read_at packed device_row settled_state settled_values
reads_top = refl

-- `lds r16, 0x005B`: bit 7 is the enable bit of vector 14, bit 6 that of vector 2, which may be enabled; bits 5 and 4 both enable vector 3,
-- and no read tells them
abbrev bits_read : Raw → List (Tri × Tri × Tri × Tri)
bits_read r =
    map
    (λ n. (
      tri_at (value_at n.state.registers 16).bits 7,
      tri_at (value_at n.state.registers 16).bits 6,
      tri_at (value_at n.state.registers 16).bits 5,
      tri_at (value_at n.state.registers 16).bits 4,
    ))
    r.moves

reads_held : bits_read (raw (task_with (small 0x9100 0x005B) []) (at_0 Root 1 (Closed 0)) root) ≡ (Zero, Any, Any, Any) ∷ []
unfolding raw table_site ijmp_from is_scratch any_below all_below decoded device_row read_at held_of is_moving enable_places packed reads_masks has_masks length_of settled_state settled_values
reads_held = refl

abbrev enables : Raw → List ℕ
enables r = map (λ n. n.key.masks) r.moves

-- `sts 0x005B, r16` of an unknown byte: vectors 2, 3 and 14
splits_places : enables (raw (task_with (small 0x9300 0x005B) []) (at_0 Root 0 (Closed 0)) root) ≡ 0 ∷ 1 ∷ 2 ∷ 3 ∷ 4096 ∷ 4097 ∷ 4098 ∷ 4099 ∷ []
unfolding raw table_site ijmp_from is_scratch any_below all_below decoded device_row written_at numbers_of enable_tri enable_place_at enable_places common_tri packed length_of settled_state settled_values
splits_places = refl

-- `sbi 0x13, 2` enables vector 2; `cbi 0x13, 2` leaves it, since the other bits of its place enable it too
one_bit_enables : enables (raw (task_with (middle pwm81 0x9A9A 0xFFFF) []) (at_0 Root 0 (Closed 0)) root) ≡ 1 ∷ []
unfolding raw table_site ijmp_from is_scratch any_below all_below decoded device_row read_at written_at enable_of numbers_of enable_tri enable_place_at enable_places common_tri packed settled_state settled_values
one_bit_enables = refl

others_enable : enables (raw (task_with (middle pwm81 0x989A 0xFFFF) []) (at_0 Root 1 (Closed 0)) root) ≡ 1 ∷ []
unfolding raw table_site ijmp_from is_scratch any_below all_below decoded device_row read_at written_at enable_of numbers_of enable_tri enable_place_at enable_places common_tri packed settled_state settled_values
others_enable = refl

-- `sts 0x00E2, r1` of 0 leaves vector 12 enabled, and of 1 enables it
abbrev holding : ℕ → AbsState
holding n = record root { registers = slice_set root.registers 1 (known n) }

stays_enabled : enables (raw (task_with (middle usb82 0x9210 0x00E2) []) (at_0 Root 1024 (Closed 0)) (holding 0)) ≡ 1024 ∷ []
unfolding raw table_site ijmp_from is_scratch any_below all_below decoded device_row written_at numbers_of enable_tri enable_place_at enable_places common_tri packed length_of settled_state settled_values
stays_enabled = refl

becomes_enabled : enables (raw (task_with (middle usb82 0x9210 0x00E2) []) (at_0 Root 0 (Closed 0)) (holding 1)) ≡ 1024 ∷ []
unfolding raw table_site ijmp_from is_scratch any_below all_below decoded device_row written_at numbers_of enable_tri enable_place_at enable_places common_tri packed length_of settled_state settled_values
becomes_enabled = refl

-- while the stack pointer is half written, vector 26 may come, whatever is enabled
abbrev waiting : Device → List Entry → List NodeFault
waiting device A = (raw (task_with (middle device 0x0000 0xFFFF) A) (record (at_0 Call 0 (Open 0 (Tagged 2))) { i = true }) root).faults

may_come_always : waiting tiny828 [] ≡ UntrackedSp 0 ∷ []
unfolding raw table_site ijmp_from is_scratch may_come is_enabled has_enable_place enable_places is_never any_below all_below decoded device_row number_of settled_state settled_values
may_come_always = refl

is_never_entered : waiting tiny828 (Never 25 ∷ []) ≡ []
unfolding raw table_site ijmp_from is_scratch may_come is_enabled has_enable_place enable_places is_never any_below all_below decoded device_row number_of settled_state settled_values
is_never_entered = refl

none_may_come : waiting usb82 [] ≡ []
unfolding raw table_site ijmp_from is_scratch may_come is_enabled has_enable_place enable_places is_never any_below all_below decoded device_row number_of settled_state settled_values
none_may_come = refl
