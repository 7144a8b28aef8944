-- Worked nodes, each computed.
use Rattle.std.specs.Prelude.{ℕ, ◌≡◌, Bool, true, false, List, [], ◌∷◌, length, Option, Some, None, map, replicate, refl, slice_set}
use Rattle.avr_model.specs.declared.assumption.Entry.TheVariants.{Jump}
use Rattle.avr_model.specs.Assumptions.{jump_line, is_frame}
use Rattle.avr_model.specs.Bits.{any_below, all_below}
use Rattle.avr_model.specs.Devices.{device_row, Image, M328, image_of, M48}
use Rattle.avr_model.specs.Sites.{is_scratch, table_site, ijmp_from}
use Rattle.avr_model.specs.Table.{length_of, decoded}
use Rattle.avr_model.specs.Vectors.{enable_places, enable_place_at}
use Rattle.bit_domain.specs.Packed.{packed}
use Rattle.bit_domain.specs.TriByte.{byte_known, byte_any, permits_below}
use Rattle.bit_domain.specs.Numbers.{numbers_of}
use Rattle.sp_domain.specs.declared.tags.Tag.{Tag}
use Rattle.sp_domain.specs.declared.tags.Tag.TheVariants as tag
use Rattle.sp_domain.specs.declared.tags.CarryTag.{CarryTag}
use Rattle.sp_domain.specs.declared.tags.CarryTag.TheVariants as carry
use Rattle.sp_domain.specs.declared.slots.Slot.TheVariants.{Free}
use Rattle.abs_state.specs.declared.state.AbsState.{AbsState}
use Rattle.abs_state.specs.Values.{root, value_at, unknown, known}
use Rattle.abs_state.specs.Frames.{entered}
use Rattle.node_keys.specs.declared.keys.NodeKey.{NodeKey}
use Rattle.node_keys.specs.declared.keys.Kind.TheVariants.{Root, Call}
use Rattle.node_keys.specs.declared.keys.SpForm.{SpForm}
use Rattle.node_keys.specs.declared.keys.SpForm.TheVariants.{Closed, Open}
use Rattle.node_keys.specs.declared.keys.High.TheVariants.{Tag as Tagged}
use Rattle.node_keys.specs.Splits.{common_tri, enable_tri}
use Rattle.local_rules.specs.declared.local.NodeFault.{NodeFault}
use Rattle.local_rules.specs.declared.local.NodeFault.TheVariants.{UnresolvedJump, UntrackedSp, Unsupported, TooDeep}
use Rattle.local_rules.specs.Raw.{Raw}
use Rattle.local_rules.specs.Registers.{with_bits}
use Rattle.local_rules.specs.Settling.{settled_state, settled_values}
use Rattle.local_rules.specs.Reads.{read_at}
use Rattle.local_rules.specs.Writes.{written_at}
use Rattle.local_rules.specs.Site.{task_with}
use Rattle.local_rules.specs.Local.{below, raw}

-- a firmware of one or two words, followed by erased words
abbrev firmware : ℕ → ℕ → Image
firmware w0 w1 = image_of M328 (w0 ∷ w1 ∷ replicate 16382 0xFFFF)

-- a node at word 0 of the root's frame, or of a call's
abbrev in_root : SpForm → NodeKey
in_root sp = record { inst = record { kind = Root; entry = 0; masks = 0; i = false }; pc = 0; masks = 0; i = false; delay = false; sp = sp; pick = None }

abbrev in_call : SpForm → NodeKey
in_call sp = record { inst = record { kind = Call; entry = 0; masks = 0; i = false }; pc = 0; masks = 0; i = false; delay = false; sp = sp; pick = None }

-- states of the call's frame: with two pushed bytes, and with r28 and r29 tagged as well
abbrev pushed : AbsState
pushed = record (entered root) { slots = Free ∷ Free ∷ [] }

abbrev with_frame : ℕ → ℕ → AbsState
with_frame j k = record pushed { registers = slice_set (slice_set (entered root).registers 28 (with_bits (tag.SpLo j) unknown.bits)) 29 (with_bits (tag.SpHi k) unknown.bits) }

-- what the rows show: the places of keys, tags of a register, faults
abbrev ways : Raw → List (ℕ × SpForm)
ways r = map (λ n. (n.key.pc, n.key.sp)) r.moves

abbrev tags : ℕ → Raw → List Tag
tags d r = map (λ n. (value_at n.state.registers d).tag) r.moves

abbrev faults : Raw → List NodeFault
faults r = r.faults

-- `in r28, 0x3d` and `in r29, 0x3e` read the stack pointer as base - 2
reads_low : tags 28 (raw (task_with (firmware 0xB7CD 0xFFFF) []) (in_call (Closed 2)) pushed) ≡ tag.SpLo 2 ∷ []
unfolding raw table_site ijmp_from is_scratch any_below all_below decoded device_row read_at settled_state settled_values
reads_low = refl

reads_high : tags 29 (raw (task_with (firmware 0xB7DE 0xFFFF) []) (in_call (Closed 2)) pushed) ≡ tag.SpHi 2 ∷ []
unfolding raw table_site ijmp_from is_scratch any_below all_below decoded device_row read_at settled_state settled_values
reads_high = refl

-- `sbiw r28, 32` makes it base - 34
moves_down : tags 29 (raw (task_with (firmware 0x97A0 0xFFFF) []) (in_call (Closed 2)) (with_frame 2 2)) ≡ tag.SpHi 34 ∷ []
unfolding raw table_site ijmp_from is_scratch any_below all_below decoded device_row settled_state settled_values
moves_down = refl

-- `out 0x3e, r29` opens the pair, and `out 0x3d, r28` closes it at the new offset
opens : ways (raw (task_with (firmware 0xBFDE 0xFFFF) []) (in_call (Closed 2)) (with_frame 34 34)) ≡ (1, Open 2 (Tagged 34)) ∷ []
unfolding raw table_site ijmp_from is_scratch any_below all_below decoded device_row written_at settled_state settled_values
opens = refl

closes : ways (raw (task_with (firmware 0xBFCD 0xFFFF) []) (in_call (Open 2 (Tagged 34))) (with_frame 34 34)) ≡ (1, Closed 34) ∷ []
unfolding raw table_site ijmp_from is_scratch any_below all_below decoded device_row written_at settled_state settled_values
closes = refl

-- the high byte of another offset cannot be followed
loses_track : faults (raw (task_with (firmware 0xBFCD 0xFFFF) []) (in_call (Open 2 (Tagged 35))) (with_frame 34 34)) ≡ UntrackedSp 0 ∷ []
unfolding raw table_site ijmp_from is_scratch any_below all_below decoded device_row written_at settled_state settled_values
loses_track = refl

-- a pop at the base, a push of the 2,049th byte, an erased word
pops_too_far : faults (raw (task_with (firmware 0x900F 0xFFFF) []) (in_root (Closed 0)) root) ≡ UntrackedSp 0 ∷ []
unfolding raw table_site ijmp_from is_scratch any_below all_below decoded device_row settled_state settled_values
pops_too_far = refl

pushes_too_far : faults (raw (task_with (firmware 0x920F 0xFFFF) []) (in_root (Closed 2048)) root) ≡ TooDeep 0 2049 ∷ []
unfolding raw table_site ijmp_from is_scratch any_below all_below decoded device_row settled_state settled_values
pushes_too_far = refl

is_erased : faults (raw (task_with (firmware 0xFFFF 0xFFFF) []) (in_root (Closed 0)) root) ≡ Unsupported 0 ∷ []
unfolding raw table_site ijmp_from is_scratch any_below all_below decoded device_row settled_state settled_values
is_erased = refl

-- `sei` with I clear delays interrupts by one instruction
abbrev delays : Raw → List (Bool × Bool)
delays r = map (λ n. (n.key.i, n.key.delay)) r.moves

turns_on : delays (raw (task_with (firmware 0x9478 0xFFFF) []) (in_root (Closed 0)) root) ≡ (true, true) ∷ []
unfolding raw table_site ijmp_from is_scratch any_below all_below decoded device_row settled_state settled_values
turns_on = refl

stays_on : delays (raw (task_with (firmware 0x9478 0xFFFF) []) (record (in_root (Closed 0)) { i = true }) root) ≡ (true, false) ∷ []
unfolding raw table_site ijmp_from is_scratch any_below all_below decoded device_row settled_state settled_values
stays_on = refl

-- `sts 0x006E, r16` of an unknown byte: TIMSK0 has three enable bits
abbrev enables : Raw → List ℕ
enables r = map (λ n. n.key.masks) r.moves

splits_enables : enables (raw (task_with (firmware 0x9300 0x006E) []) (in_root (Closed 0)) root) ≡ 0 ∷ 8192 ∷ 16384 ∷ 24576 ∷ 32768 ∷ 40960 ∷ 49152 ∷ 57344 ∷ []
unfolding raw table_site ijmp_from is_scratch any_below all_below decoded device_row written_at numbers_of enable_tri enable_place_at enable_places common_tri packed settled_state settled_values
splits_enables = refl

-- `eor r0, r0` sets Z whatever r0 holds, and `brbc 1` then has one successor
abbrev zero_known : AbsState
zero_known = record root { flags = record root.flags { bits = byte_known 2 } }

branches_once : ways (raw (task_with (firmware 0xF409 0xFFFF) []) (in_root (Closed 0)) zero_known) ≡ (1, Closed 0) ∷ []
unfolding raw table_site ijmp_from is_scratch any_below all_below decoded device_row packed settled_state settled_values
branches_once = refl

clears_all : tags 0 (raw (task_with (firmware 0x2400 0xFFFF) []) (in_call (Closed 2)) pushed) ≡ tag.None ∷ []
unfolding raw table_site ijmp_from is_scratch any_below all_below decoded device_row is_frame settled_state settled_values
clears_all = refl

-- ---- what C says of a register

abbrev carries : Raw → List CarryTag
carries r = map (λ n. n.state.flags.carry) r.moves

-- the range of a register at each successor
abbrev ranges : ℕ → Raw → List (ℕ × ℕ × ℕ)
ranges d r = map (λ n. (n.key.pc, (value_at n.state.registers d).low, (value_at n.state.registers d).high)) r.moves

-- r16 is below 4 exactly if C is 1
abbrev compared : AbsState
compared = record root { flags = record root.flags { bits = byte_any; carry = carry.Less 16 4 } }

-- the same state with zeros in r1 and r2
abbrev zeros : AbsState
zeros = record compared { registers = slice_set (slice_set root.registers 1 (known 0)) 2 (known 0) }

-- `cpi r16, 4`
compares : carries (raw (task_with (firmware 0x3004 0xFFFF) []) (in_root (Closed 0)) root) ≡ carry.Less 16 4 ∷ []
unfolding raw table_site ijmp_from is_scratch any_below all_below decoded device_row is_frame settled_state settled_values
compares = refl

-- `cp r16, r1` with a known r1, and `cp` of r1 with an unknown register
compares_known : carries (raw (task_with (firmware 0x1501 0xFFFF) []) (in_root (Closed 0)) zeros) ≡ carry.Less 16 0 ∷ []
unfolding raw table_site ijmp_from is_scratch any_below all_below decoded device_row packed is_frame settled_state settled_values
compares_known = refl

compares_unknown : carries (raw (task_with (firmware 0x1610 0xFFFF) []) (in_root (Closed 0)) zeros) ≡ carry.None ∷ []
unfolding raw table_site ijmp_from is_scratch any_below all_below decoded device_row packed is_frame settled_state settled_values
compares_unknown = refl

-- `brbc 0, .+2`: from 4 on it skips two words, below 4 it goes to the next one
cuts : ranges 16 (raw (task_with (firmware 0xF410 0xFFFF) []) (in_root (Closed 0)) compared) ≡ (3, 4, 255) ∷ (1, 0, 3) ∷ []
unfolding raw table_site ijmp_from is_scratch any_below all_below decoded device_row packed settled_state settled_values
cuts = refl

-- r16 is below 8
abbrev compared_again : AbsState
compared_again = record compared {
  registers = slice_set root.registers 16 (record unknown { high = 3 });
  flags = record compared.flags { carry = carry.Less 16 8 };
}

-- `brbc 0, .+1` leads to the next word alone
leads_once : ranges 16 (raw (task_with (firmware 0xF408 0xFFFF) []) (in_root (Closed 0)) compared_again) ≡ (1, 0, 3) ∷ []
unfolding raw table_site ijmp_from is_scratch any_below all_below decoded device_row packed settled_state settled_values
leads_once = refl

-- `inc r16` writes the register, `inc r17` another one, `sec` writes C
forgets : carries (raw (task_with (firmware 0x9503 0xFFFF) []) (in_root (Closed 0)) compared) ≡ carry.None ∷ []
unfolding raw table_site ijmp_from is_scratch any_below all_below decoded device_row is_frame settled_state settled_values
forgets = refl

remembers : carries (raw (task_with (firmware 0x9513 0xFFFF) []) (in_root (Closed 0)) compared) ≡ carry.Less 16 4 ∷ []
unfolding raw table_site ijmp_from is_scratch any_below all_below decoded device_row is_frame settled_state settled_values
remembers = refl

sets_carry : carries (raw (task_with (firmware 0x9408 0xFFFF) []) (in_root (Closed 0)) compared) ≡ carry.None ∷ []
unfolding raw table_site ijmp_from is_scratch any_below all_below decoded device_row settled_state settled_values
sets_carry = refl

-- `sts 0x0010, r0` writes r16 by its address and ends its tag
forgets_by_address : carries (raw (task_with (firmware 0x9200 0x0010) []) (in_root (Closed 0)) compared) ≡ carry.None ∷ []
unfolding raw table_site ijmp_from is_scratch any_below all_below decoded device_row written_at settled_state settled_values
forgets_by_address = refl

-- `cpc r1, r2` keeps the tag for two zeros, and ends it for unknown bytes
keeps_under_zeros : carries (raw (task_with (firmware 0x0412 0xFFFF) []) (in_root (Closed 0)) zeros) ≡ carry.Less 16 4 ∷ []
unfolding raw table_site ijmp_from is_scratch any_below all_below decoded device_row packed is_frame settled_state settled_values
keeps_under_zeros = refl

ends_under_unknown : carries (raw (task_with (firmware 0x0412 0xFFFF) []) (in_root (Closed 0)) compared) ≡ carry.None ∷ []
unfolding raw table_site ijmp_from is_scratch any_below all_below decoded device_row packed is_frame settled_state settled_values
ends_under_unknown = refl

-- `mov r0, r16` and `and r16, r16` keep the range
copies_range : ranges 0 (raw (task_with (firmware 0x2E00 0xFFFF) []) (in_root (Closed 0)) compared_again) ≡ (1, 0, 3) ∷ []
unfolding raw table_site ijmp_from is_scratch any_below all_below decoded device_row packed is_frame settled_state settled_values
copies_range = refl

keeps_range : ranges 16 (raw (task_with (firmware 0x2300 0xFFFF) []) (in_root (Closed 0)) compared_again) ≡ (1, 0, 3) ∷ []
unfolding raw table_site ijmp_from is_scratch any_below all_below decoded device_row packed is_frame settled_state settled_values
keeps_range = refl

-- ---- on the ATmega48PA, which has 2,048 words of flash, 512 bytes of SRAM and no `jmp`

abbrev small : ℕ → ℕ → Image
small w0 w1 = image_of M48 (w0 ∷ w1 ∷ replicate 2046 0xFFFF)

-- `rjmp .-2` at word 0 goes to the last word
leads_round : ways (raw (task_with (small 0xCFFE 0xFFFF) []) (in_root (Closed 0)) root) ≡ (2047, Closed 0) ∷ []
unfolding raw table_site ijmp_from is_scratch any_below all_below decoded device_row settled_state settled_values
leads_round = refl

has_no_jmp : faults (raw (task_with (small 0x940C 0x0000) []) (in_root (Closed 0)) root) ≡ Unsupported 0 ∷ []
unfolding raw table_site ijmp_from is_scratch any_below all_below decoded device_row settled_state settled_values
has_no_jmp = refl

-- `sbrc r1, 0` of a zero skips both words of a `jmp`
skips_both : ways (raw (task_with (small 0xFC10 0x940C) []) (in_root (Closed 0)) zeros) ≡ (3, Closed 0) ∷ []
unfolding raw table_site ijmp_from is_scratch any_below all_below decoded length_of packed device_row settled_state settled_values
skips_both = refl

-- a node behind the last word, and one with an offset above 512
lies_behind : faults (raw (task_with (small 0x0000 0x0000) []) (record (in_root (Closed 0)) { pc = 2048 }) root) ≡ Unsupported 2048 ∷ []
unfolding raw table_site ijmp_from is_scratch any_below all_below decoded device_row settled_state settled_values
lies_behind = refl

is_too_deep : faults (raw (task_with (small 0x0000 0x0000) []) (in_root (Closed 513)) root) ≡ TooDeep 0 513 ∷ []
unfolding raw table_site ijmp_from is_scratch any_below all_below decoded device_row settled_state settled_values
is_too_deep = refl

pushes_past_512 : faults (raw (task_with (small 0x920F 0xFFFF) []) (in_root (Closed 512)) root) ≡ TooDeep 0 513 ∷ []
unfolding raw table_site ijmp_from is_scratch any_below all_below decoded device_row settled_state settled_values
pushes_past_512 = refl

-- `in r29, 0x3e` reads 2, since the stack begins at 0x02FF
reads_top : ranges 29 (raw (task_with (small 0xB7DE 0xFFFF) []) (in_root (Closed 0)) root) ≡ (1, 2, 2) ∷ []
unfolding raw table_site ijmp_from is_scratch any_below all_below decoded read_at packed device_row settled_state settled_values
reads_top = refl

-- Z is 0x0803
abbrev pointing : AbsState
pointing = record root { registers = slice_set (slice_set root.registers 30 (known 3)) 31 (known 8) }

-- a line that lists 0x0803 permits no word of this device
lists_none : ways (raw (task_with (small 0x9409 0xFFFF) (Jump 0 (0x0803 ∷ []) ∷ [])) (in_root (Closed 0)) pointing) ≡ []
unfolding raw table_site ijmp_from is_scratch any_below all_below decoded jump_line numbers_of packed device_row settled_state settled_values
lists_none = refl

-- `ijmp` to 0x0803 leads to word 3
leads_within : ways (raw (task_with (small 0x9409 0xFFFF) []) (in_root (Closed 0)) pointing) ≡ (3, Closed 0) ∷ []
unfolding raw table_site ijmp_from is_scratch any_below all_below decoded jump_line numbers_of packed device_row settled_state settled_values
leads_within = refl

-- ---- jump tables: subi r30, sbci r31 and ijmp

abbrev jump_table : Image
jump_table = image_of M328 (0x5FE9 ∷ 0x4FFF ∷ 0x9409 ∷ replicate 16381 0xFFFF)

-- r30 is at most this byte
abbrev indexed : ℕ → AbsState
indexed high = record root { registers = slice_set root.registers 30 (record unknown { high = high }) }

abbrev picked_at : Raw → List (ℕ × Option ℕ)
picked_at r = map (λ n. (n.key.pc, n.key.pick)) r.moves

splits_by_index : picked_at (raw (task_with jump_table []) (in_root (Closed 0)) (indexed 2)) ≡ (1, Some 0) ∷ (1, Some 1) ∷ (1, Some 2) ∷ []
unfolding raw table_site ijmp_from below permits_below jump_line is_scratch any_below all_below decoded device_row packed settled_state settled_values
splits_by_index = refl

-- 64 members are split, 65 aren't
splits_64 : length (raw (task_with jump_table []) (in_root (Closed 0)) (indexed 63)).moves ≡ 64
unfolding raw table_site ijmp_from below permits_below jump_line is_scratch any_below all_below decoded device_row packed settled_state settled_values
splits_64 = refl

refuses_65 : faults (raw (task_with jump_table []) (in_root (Closed 0)) (indexed 64)) ≡ UnresolvedJump 2 ∷ []
unfolding raw table_site ijmp_from below permits_below jump_line is_scratch any_below all_below decoded device_row packed settled_state settled_values
refuses_65 = refl

-- a `jump` line of the `ijmp`, or a pick in the key, prevents the split
is_lined : picked_at (raw (task_with jump_table (Jump 2 (3 ∷ []) ∷ [])) (in_root (Closed 0)) (indexed 64)) ≡ (1, None) ∷ []
unfolding raw table_site ijmp_from jump_line is_scratch any_below all_below decoded device_row settled_state settled_values
is_lined = refl

keeps_its_pick : picked_at (raw (task_with jump_table []) (record (in_root (Closed 0)) { pick = Some 1 }) (indexed 64)) ≡ (1, Some 1) ∷ []
unfolding raw table_site ijmp_from is_scratch any_below all_below decoded device_row settled_state settled_values
keeps_its_pick = refl

-- after the `ijmp` there is no pick
ends_its_pick : picked_at (raw (task_with (firmware 0x9409 0xFFFF) []) (record (in_root (Closed 0)) { pick = Some 1 }) (record root { registers = slice_set (slice_set root.registers 30 (known 3)) 31 (known 0) })) ≡ (3, None) ∷ []
unfolding raw table_site ijmp_from is_scratch any_below all_below decoded numbers_of packed device_row jump_line settled_state settled_values
ends_its_pick = refl
