-- Worked nodes, each computed: targets and tags. The rows of `node_table` cover bits.
use Rattle.std.specs.Prelude.{ℕ, ◌+◌, ◌≡◌, Bool, true, false, List, [], ◌∷◌, map, replicate, refl, slice_set, Option, Some, None}
use Rattle.avr_model.specs.declared.assumption.Entry.TheVariants.{Jump, Store}
use Rattle.avr_model.specs.Devices.{device_row, Image, M328, image_of}
use Rattle.avr_model.specs.Bits.{any_below, all_below}
use Rattle.avr_model.specs.Sites.{is_scratch, is_fixed, path_behind, is_loaded_behind, table_site, ijmp_from}
use Rattle.avr_model.specs.Assumptions.{jump_line, store_line, is_proved, is_freed, is_never, is_frame, is_fixed_site, has_masks}
use Rattle.avr_model.specs.Masks.{reads_masks, admits_enables}
use Rattle.avr_model.specs.Table.{decoded}
use Rattle.avr_model.specs.Vectors.{is_enabled, has_enable_place, enable_place_at, enable_places}
use Rattle.bit_domain.specs.Packed.{packed}
use Rattle.bit_domain.specs.TriByte.{byte_known, permits_below}
use Rattle.bit_domain.specs.Numbers.{numbers_of}
use Rattle.sp_domain.specs.declared.tags.Tag.{Tag}
use Rattle.sp_domain.specs.declared.tags.Tag.TheVariants as tag
use Rattle.sp_domain.specs.declared.tags.CarryTag.{CarryTag}
use Rattle.sp_domain.specs.declared.tags.CarryTag.TheVariants as carry
use Rattle.sp_domain.specs.declared.slots.Slot.TheVariants.{Guarded}
use Rattle.abs_state.specs.declared.values.AbsByte.{AbsByte}
use Rattle.abs_state.specs.declared.state.AbsState.{AbsState}
use Rattle.abs_state.specs.Values.{root, value_at, unknown, known}
use Rattle.node_keys.specs.declared.keys.NodeKey.{NodeKey}
use Rattle.node_keys.specs.declared.keys.Kind.TheVariants.{Call}
use Rattle.node_keys.specs.declared.keys.SpForm.{SpForm}
use Rattle.node_keys.specs.declared.keys.SpForm.TheVariants.{Closed, Open}
use Rattle.node_keys.specs.declared.keys.High.TheVariants.{Tag as Tagged}
use Rattle.node_keys.specs.Splits.{common_tri, enable_tri}
use Rattle.local_rules.specs.declared.local.CallSite.{CallSite}
use Rattle.local_rules.specs.declared.local.Exit.{Exit}
use Rattle.local_rules.specs.declared.local.NodeFault.{NodeFault}
use Rattle.local_rules.specs.declared.local.NodeFault.TheVariants.{UntrackedSp, TooDeep}
use Rattle.local_rules.specs.Faults.{least}
use Rattle.local_rules.specs.Raw.{Raw}
use Rattle.local_rules.specs.Registers.{with_bits}
use Rattle.local_rules.specs.Settling.{settled_state}
use Rattle.local_rules.specs.Reads.{read_at}
use Rattle.local_rules.specs.Writes.{written_at, may_wake}
use Rattle.local_rules.specs.Flow.{site}
use Rattle.local_rules.specs.Local.{raw, may_come}
use Rattle.local_rules.specs.Site.{task_with}

-- a firmware of one or two words, and erased words behind them
abbrev firmware : ℕ → ℕ → Image
firmware w0 w1 = image_of M328 (w0 ∷ w1 ∷ replicate 16382 0xFFFF)

-- a node at word 0 of a call's frame, with the flag I
abbrev in_call : SpForm → NodeKey
in_call sp = record { inst = record { kind = Call; entry = 0; masks = 0; i = true }; pc = 0; masks = 0; i = true; delay = false; sp = sp; pick = None }

-- two registers hold these values
abbrev with_pair : ℕ → AbsByte → AbsByte → AbsState
with_pair r lo hi = record root { registers = slice_set (slice_set root.registers r lo) (r + 1) hi }

abbrev from_base : ℕ → ℕ → AbsState
from_base j k = with_pair 28 (with_bits (tag.SpLo j) unknown.bits) (with_bits (tag.SpHi k) unknown.bits)

-- what the rows show
abbrev words : Raw → List ℕ
words r = map (λ n. n.key.pc) r.moves

abbrev tags : ℕ → Raw → List Tag
tags d r = map (λ n. (value_at n.state.registers d).tag) r.moves

abbrev carries : Raw → List CarryTag
carries r = map (λ n. n.state.flags.carry) r.moves

abbrev entries : Raw → List Bool
entries r = map (λ n. n.state.flags.entry) r.moves

abbrev enables : Raw → List ℕ
enables r = map (λ n. n.key.masks) r.moves

abbrev calls : Raw → List CallSite
calls r = r.calls

abbrev leaves : Raw → Option Exit
leaves r = r.exit

abbrev faults : Raw → List NodeFault
faults r = r.faults

-- `subi r28, 32` of the low byte of base - 5 leaves its borrow for `sbci r29, 1`
leaves_its_borrow : carries (raw (task_with (firmware 0x52C0 0xFFFF) []) (in_call (Closed 0)) (from_base 5 5)) ≡ carry.Borrow 5 32 ∷ []
unfolding raw table_site ijmp_from is_scratch any_below all_below decoded device_row is_frame settled_state
leaves_its_borrow = refl

abbrev borrowing : AbsState
borrowing = record (from_base 37 5) { flags = record root.flags { carry = carry.Borrow 5 32 } }

takes_the_borrow : tags 29 (raw (task_with (firmware 0x40D1 0xFFFF) []) (in_call (Closed 0)) borrowing) ≡ tag.SpHi 293 ∷ []
unfolding raw table_site ijmp_from is_scratch any_below all_below decoded device_row is_frame settled_state
takes_the_borrow = refl

-- `out 0x3f, r29` of the flags of the entry restores them
restores_flags : entries (raw (task_with (firmware 0xBFDF 0xFFFF) []) (in_call (Closed 0)) (with_pair 28 unknown (with_bits tag.EntryFlags (byte_known 128)))) ≡ true ∷ []
unfolding raw table_site ijmp_from is_scratch any_below all_below decoded device_row written_at packed settled_state
restores_flags = refl

-- `ldd r16, Y+1` at base - 1 reads the slot at the base
abbrev with_slot : AbsState
with_slot = record (from_base 1 1) { slots = Guarded (with_bits (tag.Entry 4) unknown.bits) ∷ [] }

reads_a_slot : tags 16 (raw (task_with (firmware 0x8109 0xFFFF) []) (in_call (Closed 1)) with_slot) ≡ tag.Entry 4 ∷ []
unfolding raw table_site ijmp_from is_scratch any_below all_below decoded device_row read_at packed settled_state
reads_a_slot = refl

-- `st X, r16` of an unknown byte, with X = 0x003D, and 0x003D and 0x005D listed: nothing changes, or the two enable bits do
stores_at_listed : enables (raw (task_with (firmware 0x930C 0xFFFF) (Store 0 (0x3D ∷ 0x5D ∷ []) ∷ [])) (in_call (Closed 0)) (with_pair 26 (known 0x3D) (known 0))) ≡ 0 ∷ 0 ∷ 1 ∷ 2 ∷ 3 ∷ []
unfolding raw table_site ijmp_from is_scratch is_fixed path_behind is_loaded_behind is_proved is_freed is_fixed_site store_line any_below all_below decoded device_row written_at numbers_of enable_tri enable_place_at enable_places common_tri packed permits_below may_wake admits_enables reads_masks has_masks settled_state
stores_at_listed = refl

-- `ijmp` with Z = 5 goes to the one listed word that Z permits
jumps_to_listed : words (raw (task_with (firmware 0x9409 0xFFFF) (Jump 0 (5 ∷ 7 ∷ []) ∷ [])) (in_call (Closed 0)) (with_pair 30 (known 5) (known 0))) ≡ 5 ∷ []
unfolding raw table_site ijmp_from is_scratch jump_line any_below all_below decoded device_row numbers_of packed settled_state
jumps_to_listed = refl

-- `call 0x0010`, `ret` and `reti`
calls_a_word : calls (raw (task_with (firmware 0x940E 0x0010) []) (in_call (Closed 0)) root) ≡ site 16 2 ∷ []
unfolding raw table_site ijmp_from is_scratch any_below all_below decoded device_row settled_state
calls_a_word = refl

returns : leaves (raw (task_with (firmware 0x9508 0xFFFF) []) (in_call (Closed 0)) root) ≡ Some (record { masks = 0; i = true; delay = false })
unfolding raw table_site ijmp_from is_scratch any_below all_below decoded device_row settled_state
returns = refl

returns_from_interrupt : leaves (raw (task_with (firmware 0x9518 0xFFFF) []) (record (in_call (Closed 0)) { i = false }) root) ≡ Some (record { masks = 0; i = true; delay = true })
unfolding raw table_site ijmp_from is_scratch any_below all_below decoded device_row settled_state
returns_from_interrupt = refl

-- an interrupt may come while the stack pointer is half written
hangs : faults (raw (task_with (firmware 0x0000 0xFFFF) []) (record (in_call (Open 0 (Tagged 2))) { masks = 32768 }) root) ≡ UntrackedSp 0 ∷ []
unfolding raw table_site ijmp_from is_scratch any_below all_below decoded device_row may_come is_never is_enabled has_enable_place enable_places settled_state
hangs = refl

-- of two depths the smaller one is the fault
tells_the_least : least (TooDeep 16 2050) (TooDeep 16 2049 ∷ []) ≡ TooDeep 16 2049
tells_the_least = refl
