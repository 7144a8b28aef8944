-- Jumps, branches, skips, calls, returns, pushes and pops. Source: own.
use Rattle.std.specs.Prelude.{ℕ, zero, suc, ◌+◌, ◌-◌, ◌==◌, Bool, true, false, nat_lt, nat_le, min, max, if◌then◌else◌, List, [], ◌∷◌, ◌++◌, map, filter, take, length, replicate, Option, Some, None}
use Rattle.avr_model.specs.declared.device.Device.{Device}
use Rattle.avr_model.specs.declared.assumption.Entry.{Entry}
use Rattle.avr_model.specs.Devices.{Image, size_of, width, limit_width, back_of}
use Rattle.avr_model.specs.Image.{word_at}
use Rattle.avr_model.specs.Table.{length_of}
use Rattle.avr_model.specs.Assumptions.{jump_line, lists}
use Rattle.avr_model.specs.State.{EIND}
use Rattle.avr_model.specs.Vectors.{held_of}
use Rattle.bit_domain.specs.declared.bits.Tri.{Tri}
use Rattle.bit_domain.specs.declared.bits.Tri.TheVariants.{Zero, One, Any}
use Rattle.bit_domain.specs.declared.bytes.TriByte.{TriByte}
use Rattle.bit_domain.specs.Tri.{tri_not}
use Rattle.bit_domain.specs.TriByte.{tri_at, byte_known}
use Rattle.bit_domain.specs.Numbers.{PointerBits, numbers_of, pointer_bit, targets_of}
use Rattle.sp_domain.specs.declared.tags.CarryTag.{CarryTag}
use Rattle.sp_domain.specs.declared.tags.CarryTag.TheVariants as carry
use Rattle.sp_domain.specs.declared.slots.Slot.{Slot}
use Rattle.sp_domain.specs.declared.slots.Slot.TheVariants.{Free, Guarded}
use Rattle.sp_domain.specs.Slots.{slot_at}
use Rattle.abs_state.specs.declared.values.AbsByte.{AbsByte}
use Rattle.abs_state.specs.declared.state.AbsState.{AbsState}
use Rattle.node_keys.specs.declared.keys.NodeKey.{NodeKey}
use Rattle.node_keys.specs.declared.keys.Kind.{Kind}
use Rattle.node_keys.specs.declared.keys.Kind.TheVariants.{Root, Call, Vector}
use Rattle.node_keys.specs.declared.keys.SpForm.{SpForm}
use Rattle.node_keys.specs.declared.keys.SpForm.TheVariants.{Closed, Open}
use Rattle.node_keys.specs.Wakes.{without}
use Rattle.local_rules.specs.Site.{Site}
use Rattle.local_rules.specs.declared.local.Node.{Node}
use Rattle.local_rules.specs.declared.local.CallSite.{CallSite}
use Rattle.local_rules.specs.declared.local.Exit.{Exit}
use Rattle.local_rules.specs.declared.local.NodeFault.TheVariants.{UnresolvedJump, UntrackedSp, TooDeep}
use Rattle.local_rules.specs.Raw.{Raw, nowhere, moves_to, one, two, fails, all_of, enters, untracked_if, leaves_by, at_word, off_table, further, next, turning_to}
use Rattle.local_rules.specs.Registers.{value, bits, set, carry_bit}
use Rattle.local_rules.specs.Reads.{value_of}

-- ---- branches and skips

-- one successor if the condition is known, else two, each at its key; the state stays
abbrev pub branch_by : Tri → NodeKey → NodeKey → AbsState → Raw
branch_by One taken other s = one taken s
branch_by Zero taken other s = one other s
branch_by Any taken other s = two other taken s

abbrev pub branch : Tri → NodeKey → AbsState → ℕ → ℕ → Raw
branch t k s taken other = branch_by t (off_table k taken) (off_table k other) s

-- the word past the next instruction, which has one or two words
abbrev pub past : Image → Site → ℕ
past image at = further at.device at.key (1 + length_of (word_at image (at.key.pc + 1)))

-- past the next instruction with one key, and to it with the other
abbrev pub skipping : Image → Site → NodeKey → NodeKey → Tri → Raw
skipping image at k l t = branch_by t (off_table k (past image at)) (off_table l (further at.device at.key 1)) at.state

-- skips with the same key if the condition holds
abbrev pub skip_if : Image → Site → Tri → Raw
skip_if image at t = skipping image at at.key at.key t

-- The key after this bit of an address reads 0. If reads give it as a vector's enable bit and `may`, the vector is removed.
abbrev pub reading_zero : Device → Bool → NodeKey → ℕ → ℕ → NodeKey
reading_zero device may k a b = record k { masks = without device may (held_of device a b) k.masks }

-- flag n; I is in the key
abbrev pub flag_at : NodeKey → AbsState → ℕ → Tri
flag_at k s n = if n == 7 then (if k.i then One else Zero) else tri_at s.flags.bits n

-- ---- branches on C

-- the value with its range cut to numbers below n, or from n on; none if the range becomes empty
abbrev pub part_of : Bool → AbsByte → ℕ → Option AbsByte
part_of true v n = if nat_lt v.low n then Some (record v { high = min v.high (n - 1) }) else None
part_of false v n = if nat_le n v.high then Some (record v { low = max v.low n }) else None

abbrev pub with_value : AbsState → ℕ → Option AbsByte → Option AbsState
with_value s r None = None
with_value s r (Some v) = Some (record s { registers = set s r v })

-- the state if C has this value
abbrev pub where_carry : CarryTag → AbsState → Bool → Option AbsState
where_carry carry.None s c = Some s
where_carry (carry.Borrow j l) s c = Some s
where_carry (carry.Sum j l) s c = Some s
where_carry (carry.Less r n) s c = with_value s r (part_of c (value s r) n)

abbrev pub going_where : NodeKey → Option AbsState → ℕ → Raw
going_where k None pc = nowhere
going_where k (Some s) pc = turning_to k s pc

-- to a word, where C has this value
abbrev pub carry_to : NodeKey → AbsState → Bool → ℕ → Raw
carry_to k s c pc = going_where k (where_carry s.flags.carry s c) pc

-- to one word if C is 1, and to the other if it is 0
abbrev pub carry_branch : Tri → NodeKey → AbsState → ℕ → ℕ → Raw
carry_branch One k s set clear = carry_to k s true set
carry_branch Zero k s set clear = carry_to k s false clear
carry_branch Any k s set clear = all_of (carry_to k s false clear ∷ carry_to k s true set ∷ [])

-- to one word if flag n is 1, and to the other if it is 0; `other` for flags but C
abbrev pub flag_branch : ℕ → Node → ℕ → ℕ → Raw → Raw
flag_branch n m set clear other = if n == 0 then carry_branch (carry_bit m.state) m.key m.state set clear else other

-- to the word `taken` if flag n is as given, and else to the other
abbrev pub flag_turn : Bool → ℕ → Node → ℕ → ℕ → Raw
flag_turn true n m taken other = flag_branch n m taken other (branch (flag_at m.key m.state n) m.key m.state taken other)
flag_turn false n m taken other = flag_branch n m other taken (branch (tri_not (flag_at m.key m.state n)) m.key m.state taken other)

-- ---- where an indirect transfer leads

-- the words of permitted targets, modulo the number of words, ascending
abbrev pub words_on : Device → PointerBits → List ℕ
words_on device p = numbers_of (pointer_bit p) (width device)

-- the listed words that the bits permit; without a line all permitted ones, if the targets below the limit of texts are few
abbrev pub targets_by : Device → Option (List ℕ) → PointerBits → Option (List ℕ)
targets_by device None p = if nat_le (length (targets_of (limit_width device) p)) 64 then Some (words_on device p) else None
targets_by device (Some listed) p = Some (filter (lists (words_on device p)) listed)

-- Z with this third byte
abbrev pub z_with : AbsState → TriByte → PointerBits
z_with s bank = record { low = bits s 30; high = bits s 31; bank = bank }

-- `ijmp` and `icall` go to words below 65,536
abbrev pub targets_at : List Entry → Site → Option (List ℕ)
targets_at A at = targets_by at.device (jump_line A at.key.pc) (z_with at.state (byte_known 0))

-- `eijmp` and `eicall` go to words of the bank that EIND chooses
abbrev pub far_targets_at : List Entry → Site → Option (List ℕ)
far_targets_at A at = targets_by at.device (jump_line A at.key.pc) (z_with at.state (bits at.state EIND))

abbrev pub jumping : Option (List ℕ) → NodeKey → AbsState → Raw
jumping None k s = fails (UnresolvedJump k.pc)
jumping (Some targets) k s = moves_to (map (λ t. record { key = off_table k t; state = s }) targets)

abbrev pub ijmp_row : List Entry → Site → Raw
ijmp_row A at = jumping (targets_at A at) at.key at.state

abbrev pub eijmp_row : List Entry → Site → Raw
eijmp_row A at = jumping (far_targets_at A at) at.key at.state

-- ---- the stack

abbrev pub is_half_written : SpForm → Bool
is_half_written (Closed offset) = false
is_half_written (Open offset h) = true

-- if the stack pointer is whole; a return, push or pop with a half-written one is a fault
abbrev pub at_closed : SpForm → ℕ → (ℕ → Raw) → Raw
at_closed (Closed offset) pc f = f offset
at_closed (Open offset h) pc f = fails (UntrackedSp pc)

abbrev pub if_room : Device → ℕ → ℕ → Raw → Raw
if_room device n pc r = if nat_le n (size_of device) then r else fails (TooDeep pc n)

-- A scratch push makes a free slot, and any other a guarded one.
abbrev pub pushed_slot : Bool → AbsByte → Slot AbsByte
pushed_slot true v = Free
pushed_slot false v = Guarded v

abbrev pub pushing : Bool → Site → ℕ → ℕ → Raw
pushing scratch at r offset =
    if_room at.device (offset + 1) at.key.pc
    (one (record (next at.device at.key) { sp = Closed (offset + 1) }) (record at.state { slots = at.state.slots ++ pushed_slot scratch (value at.state r) ∷ [] }))

abbrev pub popping : Site → ℕ → ℕ → Raw
popping at d zero = fails (UntrackedSp at.key.pc)
popping at d (suc n) =
    one (record (next at.device at.key) { sp = Closed n })
    (record at.state { registers = set at.state d (value_of (slot_at at.state.slots n)); slots = take n at.state.slots })

abbrev pub push_row : Bool → Site → ℕ → Raw
push_row scratch at r = at_closed at.key.sp at.key.pc (pushing scratch at r)

abbrev pub pop_row : Site → ℕ → Raw
pop_row at d = at_closed at.key.sp at.key.pc (popping at d)

-- a call of the next word only makes room on the stack, for a return address, and stays in its frame
abbrev pub making_room : Site → ℕ → ℕ → Raw
making_room at target offset =
    if_room at.device (offset + back_of at.device) at.key.pc
    (one (record (at_word at.key target) { sp = Closed (offset + back_of at.device) })
    (record at.state { slots = at.state.slots ++ replicate (back_of at.device) Free }))

abbrev pub room_row : Site → ℕ → Raw
room_row at target = at_closed at.key.sp at.key.pc (making_room at target)

abbrev pub site : ℕ → ℕ → CallSite
site target back = record { entry = target; back = back }

-- A call of these words that returns to the word `back`. A half-written stack pointer is a fault.
abbrev pub calling : NodeKey → ℕ → List ℕ → Raw
calling k back targets = untracked_if (is_half_written k.sp) k.pc (enters (map (λ t. site t back) targets))

abbrev pub indirect_call : Device → Option (List ℕ) → NodeKey → Raw
indirect_call device None k = untracked_if (is_half_written k.sp) k.pc (fails (UnresolvedJump k.pc))
indirect_call device (Some targets) k = calling k (further device k 1) targets

abbrev pub icall_row : List Entry → Site → Raw
icall_row A at = indirect_call at.device (targets_at A at) at.key

abbrev pub eicall_row : List Entry → Site → Raw
eicall_row A at = indirect_call at.device (far_targets_at A at) at.key

abbrev pub relative_call : Bool → Site → ℕ → Raw
relative_call true at target = room_row at target
relative_call false at target = calling at.key (further at.device at.key 1) (target ∷ [])

-- a return at this offset, in this kind of instance
abbrev pub returning : Exit → ℕ → Kind → ℕ → Raw
returning x pc kind (suc n) = fails (UntrackedSp pc)
returning x pc Root zero = fails (UntrackedSp pc)
returning x pc Call zero = leaves_by x
returning x pc (Vector v) zero = leaves_by x

abbrev pub return_row : Site → Exit → Raw
return_row at x = at_closed at.key.sp at.key.pc (returning x at.key.pc at.key.inst.kind)

-- `ret` keeps I; `reti` sets it, and one more instruction executes before any interrupt
abbrev pub ret_exit : NodeKey → Exit
ret_exit k = record { masks = k.masks; i = k.i; delay = false }

abbrev pub reti_exit : NodeKey → Exit
reti_exit k = record { masks = k.masks; i = true; delay = true }
