-- Worked nodes at sites with lines, each computed.
use Rattle.std.specs.Prelude.{ℕ, ◌≡◌, true, false, List, [], ◌∷◌, None, map, replicate, refl, slice_set}
use Rattle.avr_model.specs.declared.assumption.Entry.{Entry}
use Rattle.avr_model.specs.declared.assumption.Entry.TheVariants.{Prove, Free, Never, Frame, Scratch}
use Rattle.avr_model.specs.Assumptions.{store_line, is_proved, is_freed, is_never, is_frame, has_scratch, is_fixed_site, has_masks}
use Rattle.avr_model.specs.Masks.{reads_masks, admits_enables}
use Rattle.avr_model.specs.Vectors.{is_enabled, has_enable_place, enable_places}
use Rattle.avr_model.specs.Bits.{any_below, all_below}
use Rattle.avr_model.specs.Devices.{device_row, M328, image_of}
use Rattle.avr_model.specs.Sites.{is_scratch, is_fixed, path_behind, is_loaded_behind, table_site, ijmp_from}
use Rattle.avr_model.specs.Table.{length_of, decoded}
use Rattle.bit_domain.specs.Packed.{packed}
use Rattle.bit_domain.specs.TriByte.{byte_any}
use Rattle.sp_domain.specs.declared.tags.Tag.{Tag}
use Rattle.sp_domain.specs.declared.tags.Tag.TheVariants as tag
use Rattle.sp_domain.specs.declared.tags.CarryTag.{CarryTag}
use Rattle.sp_domain.specs.declared.tags.CarryTag.TheVariants as carry
use Rattle.sp_domain.specs.declared.slots.Slot.{Slot}
use Rattle.sp_domain.specs.declared.slots.Slot.TheVariants.{Free as Unguarded, Guarded}
use Rattle.sp_domain.specs.Slots.{slot_at}
use Rattle.abs_state.specs.declared.values.AbsByte.{AbsByte}
use Rattle.abs_state.specs.declared.state.AbsState.{AbsState}
use Rattle.abs_state.specs.Values.{root, value_at, known}
use Rattle.abs_state.specs.Frames.{entered}
use Rattle.node_keys.specs.declared.keys.NodeKey.{NodeKey}
use Rattle.node_keys.specs.declared.keys.Kind.TheVariants.{Call}
use Rattle.node_keys.specs.declared.keys.SpForm.{SpForm}
use Rattle.node_keys.specs.declared.keys.SpForm.TheVariants.{Closed, Open}
use Rattle.node_keys.specs.declared.keys.High.TheVariants.{Tag as Tagged}
use Rattle.local_rules.specs.declared.local.NodeFault.{NodeFault}
use Rattle.local_rules.specs.declared.local.NodeFault.TheVariants.{UntrackedSp, UnknownPointer}
use Rattle.local_rules.specs.Raw.{Raw}
use Rattle.local_rules.specs.Registers.{with_bits}
use Rattle.local_rules.specs.Settling.{settled_state, settled_values}
use Rattle.local_rules.specs.Writes.{may_wake}
use Rattle.local_rules.specs.Site.{task_with}
use Rattle.local_rules.specs.Local.{raw, may_come}

-- ---- `frame` lines

-- a node of a call's frame with two pushed bytes, at word 0
abbrev in_call : SpForm → NodeKey
in_call sp = record { inst = record { kind = Call; entry = 0; masks = 0; i = false }; pc = 0; masks = 0; i = false; delay = false; sp = sp; pick = None }

-- r28 and r29 have these tags, r24 this number, r1 is 0, and C has this tag
abbrev state_of : Tag → Tag → ℕ → CarryTag → AbsState
state_of lo hi n c = record {
  registers = slice_set (slice_set (slice_set (slice_set (entered root).registers 28 (with_bits lo byte_any)) 29 (with_bits hi byte_any)) 24 (known n)) 1 (known 0);
  flags = record { entry = false; bits = byte_any; carry = c };
  slots = Unguarded ∷ Unguarded ∷ [];
  facts = None;
}

-- the successors of one word there, with and without the line
abbrev lined : ℕ → AbsState → Raw
lined word s = raw (task_with (image_of M328 (word ∷ replicate 16383 0xFFFF)) (Frame 0 ∷ [])) (in_call (Closed 2)) s

abbrev plain : ℕ → AbsState → Raw
plain word s = raw (task_with (image_of M328 (word ∷ replicate 16383 0xFFFF)) (Frame 1 ∷ [])) (in_call (Closed 2)) s

-- the tag of a register, and that of C
abbrev says : ℕ → Raw → List (Tag × CarryTag)
says d r = map (λ n. ((value_at n.state.registers d).tag, n.state.flags.carry)) r.moves

-- base - 290 and 32
abbrev large : AbsState
large = state_of (tag.SpLo 34) (tag.SpHi 290) 32 carry.None

-- `add r28, r24`
gives_low : says 28 (lined 0x0FC8 large) ≡ (tag.SpLo 2, carry.Sum 34 32) ∷ []
unfolding raw table_site ijmp_from is_scratch any_below all_below decoded device_row packed is_frame settled_state settled_values
gives_low = refl

-- `add r28, r24` without the line
gives_nothing : says 28 (plain 0x0FC8 large) ≡ (tag.None, carry.None) ∷ []
unfolding raw table_site ijmp_from is_scratch any_below all_below decoded device_row packed is_frame settled_state settled_values
gives_nothing = refl

-- `add r24, r28` follows r28
gives_second : says 24 (lined 0x0F8C large) ≡ (tag.SpLo 2, carry.Sum 34 32) ∷ []
unfolding raw table_site ijmp_from is_scratch any_below all_below decoded device_row packed is_frame settled_state settled_values
gives_second = refl

-- `add r28, r28`
gives_twice : says 28 (lined 0x0FCC large) ≡ (tag.None, carry.None) ∷ []
unfolding raw table_site ijmp_from is_scratch any_below all_below decoded device_row packed is_frame settled_state settled_values
gives_twice = refl

-- `add r28, r25` of an unknown byte
gives_unknown : says 28 (lined 0x0FC9 large) ≡ (tag.None, carry.None) ∷ []
unfolding raw table_site ijmp_from is_scratch any_below all_below decoded device_row packed is_frame settled_state settled_values
gives_unknown = refl

-- `add r24, r1` follows r24, which does not belong to the frame pointer
follows_one : says 24 (lined 0x0D81 (record large { registers = slice_set large.registers 24 (with_bits (tag.SpLo 9) byte_any) })) ≡ (tag.SpLo 9, carry.Sum 9 0) ∷ []
unfolding raw table_site ijmp_from is_scratch any_below all_below decoded device_row packed is_frame settled_state settled_values
follows_one = refl

-- then `adc r29, r1`, and `adc r29, r24` from base - 290 and one page more
gives_high : says 29 (lined 0x1DD1 (state_of (tag.SpLo 2) (tag.SpHi 290) 1 (carry.Sum 34 32))) ≡ (tag.SpHi 258, carry.None) ∷ []
unfolding raw table_site ijmp_from is_scratch any_below all_below decoded device_row packed is_frame settled_state settled_values
gives_high = refl

gives_page : says 29 (lined 0x1FD8 (state_of (tag.SpLo 2) (tag.SpHi 290) 1 (carry.Sum 34 32))) ≡ (tag.SpHi 2, carry.None) ∷ []
unfolding raw table_site ijmp_from is_scratch any_below all_below decoded device_row packed is_frame settled_state settled_values
gives_page = refl

-- after the carry of another byte, and after a borrow
gives_no_high : says 29 (lined 0x1DD1 (state_of (tag.SpLo 2) (tag.SpHi 290) 1 (carry.Sum 35 32))) ≡ (tag.None, carry.None) ∷ []
unfolding raw table_site ijmp_from is_scratch any_below all_below decoded device_row packed is_frame settled_state settled_values
gives_no_high = refl

gives_no_borrow : says 29 (lined 0x1DD1 (state_of (tag.SpLo 2) (tag.SpHi 290) 1 (carry.Borrow 34 32))) ≡ (tag.None, carry.None) ∷ []
unfolding raw table_site ijmp_from is_scratch any_below all_below decoded device_row packed is_frame settled_state settled_values
gives_no_borrow = refl

-- `add r29, r24` with 255 subtracts a page, so does `sub r29, r24` with 1; `subi r29, 0xFF` adds one
moves_page : says 29 (lined 0x0FD8 (state_of (tag.SpLo 2) (tag.SpHi 258) 255 carry.None)) ≡ (tag.SpHi 514, carry.None) ∷ []
unfolding raw table_site ijmp_from is_scratch any_below all_below decoded device_row packed is_frame settled_state settled_values
moves_page = refl

takes_page : says 29 (lined 0x1BD8 (state_of (tag.SpLo 2) (tag.SpHi 2) 1 carry.None)) ≡ (tag.SpHi 258, carry.None) ∷ []
unfolding raw table_site ijmp_from is_scratch any_below all_below decoded device_row packed is_frame settled_state settled_values
takes_page = refl

less_page : says 29 (lined 0x5FDF (state_of (tag.SpLo 2) (tag.SpHi 258) 1 carry.None)) ≡ (tag.SpHi 2, carry.None) ∷ []
unfolding raw table_site ijmp_from is_scratch any_below all_below decoded device_row packed is_frame settled_state settled_values
less_page = refl

less_plain : says 29 (plain 0x5FDF (state_of (tag.SpLo 2) (tag.SpHi 258) 1 carry.None)) ≡ (tag.None, carry.None) ∷ []
unfolding raw table_site ijmp_from is_scratch any_below all_below decoded device_row packed is_frame settled_state settled_values
less_plain = refl

-- `subi r28, 32` is the same with and without the line
less_low : says 28 (lined 0x52C0 (state_of (tag.SpLo 2) (tag.SpHi 2) 1 carry.None)) ≡ (tag.SpLo 34, carry.Borrow 2 32) ∷ []
unfolding raw table_site ijmp_from is_scratch any_below all_below decoded device_row packed is_frame settled_state settled_values
less_low = refl

-- `inc r29` and `dec r29` keep C and its tag; `inc r28` carries nothing into the high byte
steps_up : says 29 (lined 0x95D3 (state_of (tag.SpLo 2) (tag.SpHi 258) 1 (carry.Sum 1 1))) ≡ (tag.SpHi 2, carry.Sum 1 1) ∷ []
unfolding raw table_site ijmp_from is_scratch any_below all_below decoded device_row packed is_frame settled_state settled_values
steps_up = refl

steps_down : says 29 (lined 0x95DA (state_of (tag.SpLo 2) (tag.SpHi 2) 1 (carry.Sum 1 1))) ≡ (tag.SpHi 258, carry.Sum 1 1) ∷ []
unfolding raw table_site ijmp_from is_scratch any_below all_below decoded device_row packed is_frame settled_state settled_values
steps_down = refl

steps_low : says 28 (lined 0x95C3 (state_of (tag.SpLo 2) (tag.SpHi 2) 1 carry.None)) ≡ (tag.None, carry.None) ∷ []
unfolding raw table_site ijmp_from is_scratch any_below all_below decoded device_row packed is_frame settled_state settled_values
steps_low = refl

-- ---- `free` lines: `ldi r26, 0`, `ldi r27, 1` and `st X, r0`, at the store, where X isn't known

abbrev storing : List Entry → Raw
storing A = raw (task_with (image_of M328 (0xE0A0 ∷ 0xE0B1 ∷ 0x920C ∷ replicate 16381 0xFFFF)) A) (record (in_call (Closed 0)) { pc = 2 }) (entered root)

abbrev leads : Raw → List ℕ × List NodeFault
leads r = (map (λ n. n.key.pc) r.moves, r.faults)

is_fixed_by_words : leads (storing []) ≡ ([], UnknownPointer 2 ∷ [])
unfolding raw table_site ijmp_from is_scratch is_fixed path_behind is_loaded_behind is_proved is_freed is_fixed_site store_line any_below all_below decoded length_of device_row packed settled_state settled_values
is_fixed_by_words = refl

is_freed_there : leads (storing (Free 2 ∷ [])) ≡ (3 ∷ [], [])
unfolding raw table_site ijmp_from is_scratch is_fixed path_behind is_loaded_behind is_proved is_freed is_fixed_site store_line any_below all_below decoded length_of device_row packed may_wake admits_enables reads_masks has_masks settled_state settled_values
is_freed_there = refl

is_freed_elsewhere : leads (storing (Free 1 ∷ [])) ≡ ([], UnknownPointer 2 ∷ [])
unfolding raw table_site ijmp_from is_scratch is_fixed path_behind is_loaded_behind is_proved is_freed is_fixed_site store_line any_below all_below decoded length_of device_row packed settled_state settled_values
is_freed_elsewhere = refl

-- a `prove` line fixes the site nevertheless
is_proved_too : leads (storing (Prove 2 ∷ Free 2 ∷ [])) ≡ ([], UnknownPointer 2 ∷ [])
unfolding raw table_site ijmp_from is_scratch is_fixed path_behind is_loaded_behind is_proved is_freed is_fixed_site store_line any_below all_below decoded length_of device_row packed settled_state settled_values
is_proved_too = refl

-- ---- `never` lines: while the pair is open, with TIMER0 COMPA's and OVF's vectors enabled at words 28 and 32

abbrev waiting : List Entry → List NodeFault
waiting A = (raw (task_with (image_of M328 (0x0000 ∷ replicate 16383 0xFFFF)) A) (record (in_call (Open 0 (Tagged 2))) { i = true; masks = 40960 }) root).faults

may_be_entered : waiting [] ≡ UntrackedSp 0 ∷ []
unfolding raw table_site ijmp_from is_scratch may_come is_enabled has_enable_place enable_places is_never any_below all_below decoded device_row settled_state settled_values
may_be_entered = refl

one_may_be_entered : waiting (Never 28 ∷ []) ≡ UntrackedSp 0 ∷ []
unfolding raw table_site ijmp_from is_scratch may_come is_enabled has_enable_place enable_places is_never any_below all_below decoded device_row settled_state settled_values
one_may_be_entered = refl

none_may_be_entered : waiting (Never 28 ∷ Never 32 ∷ []) ≡ []
unfolding raw table_site ijmp_from is_scratch may_come is_enabled has_enable_place enable_places is_never any_below all_below decoded device_row settled_state settled_values
none_may_be_entered = refl

-- these are numbers of vectors, not their words
others_are_never_entered : waiting (Never 15 ∷ Never 17 ∷ []) ≡ UntrackedSp 0 ∷ []
unfolding raw table_site ijmp_from is_scratch may_come is_enabled has_enable_place enable_places is_never any_below all_below decoded device_row settled_state settled_values
others_are_never_entered = refl

-- ---- `scratch` lines

-- the third slot of a frame with two
abbrev pushed : Raw → List (Slot AbsByte)
pushed r = map (λ n. slot_at n.state.slots 2) r.moves

-- `push r0` at word 0
abbrev pushes : List Entry → AbsState → Raw
pushes A s = raw (task_with (image_of M328 (0x920F ∷ replicate 16383 0xFFFF)) A) (in_call (Closed 2)) s

keeps_nothing : pushed (pushes (Scratch 0 ∷ []) large) ≡ Unguarded ∷ []
unfolding raw table_site ijmp_from is_scratch any_below all_below decoded device_row has_scratch settled_state settled_values
keeps_nothing = refl

-- without the line at this site
keeps_byte : pushed (pushes (Scratch 1 ∷ []) large) ≡ Guarded (value_at large.registers 0) ∷ []
unfolding raw table_site ijmp_from is_scratch any_below all_below decoded device_row has_scratch settled_state settled_values
keeps_byte = refl
