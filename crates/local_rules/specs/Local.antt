-- The successors of a node in its own frame. Source: own.
use Rattle.std.specs.Prelude.{ℕ, zero, suc, ◌+◌, ◌*◌, ◌&&◌, ◌||◌, Bool, true, false, not, nat_lt, nat_le, if◌then◌else◌, List, [], ◌∷◌, ◌++◌, length, map, filter, flat_map, Option, Some, None, Result, Ok, Err, slice_set}
use Rattle.std.specs.declared.cmp.Ordering.{Ordering}
use Rattle.std.specs.declared.cmp.Ordering.TheVariants.{Less, Equal, Greater}
use Rattle.avr_model.specs.declared.device.Device.{Device}
use Rattle.avr_model.specs.declared.assumption.Entry.{Entry}
use Rattle.avr_model.specs.declared.instruction.Instr.{Instr}
use Rattle.avr_model.specs.declared.instruction.Instr.TheVariants as i
use Rattle.avr_model.specs.declared.instruction.BinaryOp.{BinaryOp}
use Rattle.avr_model.specs.declared.instruction.BinaryOp.TheVariants as binary
use Rattle.avr_model.specs.declared.instruction.ImmediateOp.{ImmediateOp}
use Rattle.avr_model.specs.declared.instruction.UnaryOp.{UnaryOp}
use Rattle.avr_model.specs.declared.instruction.Pointer.{Pointer}
use Rattle.avr_model.specs.declared.instruction.Pointer.TheVariants as pointer
use Rattle.avr_model.specs.declared.operation.Mul.TheVariants as product
use Rattle.avr_model.specs.Devices.{Image, words_of, size_of, wrapped, device_of}
use Rattle.avr_model.specs.Marks.{marks}
use Rattle.avr_model.specs.Text.{far, near}
use Rattle.avr_model.specs.Assumptions.{jump_line, is_never, is_frame, has_scratch}
use Rattle.avr_model.specs.Masks.{reads_masks}
use Rattle.avr_model.specs.Bits.{any_below}
use Rattle.avr_model.specs.Vectors.{is_enabled, last_vector, vector_word}
use Rattle.avr_model.specs.Sites.{instruction_at, is_scratch, table_site, base_register, pointer_register}
use Rattle.avr_model.specs.Effects.{port}
use Rattle.avr_model.specs.State.{RAMPZ}
use Rattle.bit_domain.specs.declared.bits.Tri.TheVariants.{Zero, One}
use Rattle.bit_domain.specs.Tri.{tri_not}
use Rattle.bit_domain.specs.TriByte.{tri_at, byte_with}
use Rattle.bit_domain.specs.Logic.{byte_equal}
use Rattle.abs_state.specs.declared.values.AbsByte.{AbsByte}
use Rattle.abs_state.specs.declared.state.AbsState.{AbsState}
use Rattle.pair_domain.specs.declared.facts.PairFacts.{PairFacts}
use Rattle.abs_state.specs.Values.{untagged}
use Rattle.abs_state.specs.Order.{state_join}
use Rattle.node_keys.specs.declared.keys.NodeKey.{NodeKey}
use Rattle.node_keys.specs.declared.keys.SpForm.{SpForm}
use Rattle.node_keys.specs.declared.keys.SpForm.TheVariants.{Closed, Open}
use Rattle.node_keys.specs.Keys.{offset_of}
use Rattle.node_keys.specs.Order.{node_cmp}
use Rattle.local_rules.specs.Site.{Task, Site, site_at}
use Rattle.local_rules.specs.declared.local.Local.{Local}
use Rattle.local_rules.specs.declared.local.Node.{Node}
use Rattle.local_rules.specs.declared.local.NodeFault.{NodeFault}
use Rattle.local_rules.specs.declared.local.NodeFault.TheVariants.{UnresolvedJump, Unsupported}
use Rattle.pair_rules.specs.Refined.{refined}
use Rattle.pair_cuts.specs.Cuts.{flag_cut, bit_cut, equal_cut, pick_cut}
use Rattle.local_rules.specs.Faults.{least}
use Rattle.local_rules.specs.Raw.{Raw, nowhere, fails, all_of, untracked_if, too_deep_if, at_word, next, further, going_to, going_on, setting}
use Rattle.local_rules.specs.HighBytes.{SpView, view_of}
use Rattle.local_rules.specs.Registers.{value, bits, set, going_with, going_by, before, pair_copied, bit_loaded, bit_stored, product_row, wide_row, pair_moved, flag_row}
use Rattle.local_rules.specs.FrameLines.{binary_at, immediate_at, unary_at}
use Rattle.local_rules.specs.Permitted.{may_be}
use Rattle.local_rules.specs.Banks.{extended_constant, stepped_bank}
use Rattle.local_rules.specs.Settling.{settled_state, settling, node_where}
use Rattle.local_rules.specs.Reads.{read_at, kept_bits, pointed, pair_constant, read_pointed, flash_value}
use Rattle.local_rules.specs.Writes.{ByteWrite, write_at, written_at, pointer_write}
use Rattle.local_rules.specs.Flow.{past, skipping, skip_if, reading_zero, flag_turn, going_where, ijmp_row, icall_row, eijmp_row, eicall_row, push_row, pop_row, relative_call, calling, return_row, ret_exit, reti_exit}
use Rattle.local_rules.specs.declared.pointers.Pointed.{Pointed}

-- ---- registers

abbrev pub immediate_row : Bool → Site → ImmediateOp → ℕ → ℕ → Raw
immediate_row line at op d n = going_with at (immediate_at (view_of at) line at.state op d n)

abbrev pub unary_row : Bool → Site → UnaryOp → ℕ → Raw
unary_row line at op d = going_with at (unary_at line at.state op d)

-- `cpse` skips if the registers are equal
abbrev pub equal_skip : Image → Site → ℕ → ℕ → Raw
equal_skip image at d r = skip_if image at (byte_equal (bits at.state d) (bits at.state r))

abbrev pub binary_row : Task → Site → BinaryOp → ℕ → ℕ → Raw
binary_row task at op d r = going_by at (binary_at (view_of at) (is_frame task.assumptions at.key.pc) at.state op d r) (equal_skip task.flash at d r)

-- ---- loads and stores

-- the value at a data address, and the key after this bit of the address reads 0
abbrev pub reading : List Entry → Site → ℕ → AbsByte
reading A at a = read_at at.device (reads_masks at.device A) at.key at.state a

abbrev pub zeroing : List Entry → Site → ℕ → ℕ → NodeKey
zeroing A at a b = reading_zero at.device (reads_masks at.device A) at.key a b

-- the change of a pointer before the access: -P subtracts one
abbrev pub step_before : Pointer → ℕ
step_before pointer.ZPlus = 0
step_before pointer.MinusZ = 65535
step_before pointer.YPlus = 0
step_before pointer.MinusY = 65535
step_before pointer.X = 0
step_before pointer.XPlus = 0
step_before pointer.MinusX = 65535

-- the registers with the pointer as after the instruction
abbrev pub pointer_moved : SpView → Pointer → AbsState → List AbsByte
pointer_moved view pointer.ZPlus s = pair_moved view s 30 true 1
pointer_moved view pointer.MinusZ s = pair_moved view s 30 false 1
pointer_moved view pointer.YPlus s = pair_moved view s 28 true 1
pointer_moved view pointer.MinusY s = pair_moved view s 28 false 1
pointer_moved view pointer.X s = s.registers
pointer_moved view pointer.XPlus s = pair_moved view s 26 true 1
pointer_moved view pointer.MinusX s = pair_moved view s 26 false 1

-- The register gets the byte that is read; no successor if nothing can be read.
abbrev pub loading : Site → List AbsByte → ℕ → Option AbsByte → Raw
loading at registers d None = nowhere
loading at registers d (Some v) = setting at (slice_set registers d v) at.state.flags

-- `in`, of one word, and `lds`, of two, from a data address
abbrev pub read_row : List Entry → Site → ℕ → ℕ → ℕ → Raw
read_row A at n d a = going_to at.key (record at.state { registers = set at.state d (reading A at a) }) (further at.device at.key n)

-- `lpm` with the registers as given
abbrev pub lpm_row : Image → Site → List AbsByte → ℕ → Raw
lpm_row image at registers d = loading at registers d (Some (flash_value image (pair_constant at.state 30)))

-- `elpm` with the registers as given
abbrev pub elpm_row : Image → Site → List AbsByte → ℕ → Raw
elpm_row image at registers d = loading at registers d (Some (flash_value image (extended_constant at.state)))

-- the registers with Z, and with it RAMPZ, as behind Z+
abbrev pub extended_moved : Site → List AbsByte
extended_moved at = slice_set (pair_moved (view_of at) at.state 30 true 1) RAMPZ (stepped_bank at.device at.state)

-- loads from the address of a pointer; other registers are as given
abbrev pub pointer_load : List Entry → Site → List AbsByte → ℕ → Pointed → Raw
pointer_load A at registers d p = loading at registers d (read_pointed at.device (reads_masks at.device A) at.key at.state p)

-- the register r, written after the instruction, where the state is otherwise as given
abbrev pub register_write : Site → AbsState → ℕ → ByteWrite
register_write at after r = write_at at.device at.key.pc (next at.device at.key) after (value at.state r)

-- `out`, of one word, and `sts`, of two, to a data address
abbrev pub known_write : Site → Bool → ℕ → ℕ → Raw
known_write at is_out a r =
    written_at
    (write_at at.device at.key.pc (at_word at.key (further at.device at.key (if is_out then 1 else 2))) at.state (value at.state r))
    is_out a

abbrev pub store_row : Task → Site → Pointer → ℕ → Raw
store_row task at p r =
    pointer_write task at.state (pointer_register p) (step_before p) (register_write at (record at.state { registers = pointer_moved (view_of at) p at.state }) r)

-- Sets or clears one bit of an I/O address. Other enable bits stay as in the key.
abbrev pub bit_row : Site → ℕ → ℕ → Bool → Raw
bit_row at a b on =
    written_at
    (write_at at.device at.key.pc (next at.device at.key) at.state (untagged (byte_with (kept_bits at.device at.key.masks a) b (if on then One else Zero))))
    false a

-- ---- the whole table, in three parts

-- skips if this bit of an I/O address is as given
abbrev pub bit_skip : Task → Site → ℕ → ℕ → Bool → Raw
bit_skip task at a b true = skipping task.flash at at.key (zeroing task.assumptions at a b) (tri_at (reading task.assumptions at a).bits b)
bit_skip task at a b false = skipping task.flash at (zeroing task.assumptions at a b) at.key (tri_not (tri_at (reading task.assumptions at a).bits b))

abbrev pub node_of : Site → Node
node_of at = record { key = at.key; state = at.state }

-- control flow, and instructions without operands
abbrev pub flow_row : Task → Bool → Site → Instr → Raw
flow_row task scratch at i.Ijmp = ijmp_row task.assumptions at
flow_row task scratch at i.Icall = icall_row task.assumptions at
flow_row task scratch at i.Eijmp = eijmp_row task.assumptions at
flow_row task scratch at i.Eicall = eicall_row task.assumptions at
flow_row task scratch at i.Ret = return_row at (ret_exit at.key)
flow_row task scratch at i.Reti = return_row at (reti_exit at.key)
flow_row task scratch at (i.Jmp t) = going_to at.key at.state (wrapped at.device t)
flow_row task scratch at (i.Call t) = calling at.key (further at.device at.key 2) (wrapped at.device t ∷ [])
flow_row task scratch at (i.Rjmp t) = going_to at.key at.state (wrapped at.device (far at.key.pc t))
flow_row task scratch at (i.Rcall t) = relative_call scratch at (wrapped at.device (far at.key.pc t))
flow_row task scratch at (i.Brbs n t) = flag_turn true n (node_of at) (wrapped at.device (near at.key.pc t)) (further at.device at.key 1)
flow_row task scratch at (i.Brbc n t) = flag_turn false n (node_of at) (wrapped at.device (near at.key.pc t)) (further at.device at.key 1)
flow_row task scratch at (i.Sbic a b) = bit_skip task at (port at.device a) b false
flow_row task scratch at (i.Sbis a b) = bit_skip task at (port at.device a) b true
flow_row task scratch at (i.Sbrc r b) = skip_if task.flash at (tri_not (tri_at (bits at.state r) b))
flow_row task scratch at (i.Sbrs r b) = skip_if task.flash at (tri_at (bits at.state r) b)
-- nop, sleep, break and wdr
flow_row task scratch at _ = going_on at

-- loads, stores and I/O
abbrev pub memory_row : Task → Bool → Site → Instr → Raw
memory_row task scratch at (i.Ldd d b q) = pointer_load task.assumptions at at.state.registers d (pointed (view_of at) at.state (base_register b) q)
memory_row task scratch at (i.Std b q r) = pointer_write task at.state (base_register b) q (register_write at at.state r)
memory_row task scratch at (i.Lds d a) = read_row task.assumptions at 2 d a
memory_row task scratch at (i.Sts a r) = known_write at false a r
memory_row task scratch at (i.Ld d p) = pointer_load task.assumptions at (pointer_moved (view_of at) p at.state) d (pointed (view_of at) at.state (pointer_register p) (step_before p))
memory_row task scratch at (i.St p r) = store_row task at p r
memory_row task scratch at (i.LpmZ d) = lpm_row task.flash at at.state.registers d
memory_row task scratch at (i.LpmZPlus d) = lpm_row task.flash at (pair_moved (view_of at) at.state 30 true 1) d
memory_row task scratch at i.Lpm = lpm_row task.flash at at.state.registers 0
memory_row task scratch at (i.ElpmZ d) = elpm_row task.flash at at.state.registers d
memory_row task scratch at (i.ElpmZPlus d) = elpm_row task.flash at (extended_moved at) d
memory_row task scratch at i.Elpm = elpm_row task.flash at at.state.registers 0
memory_row task scratch at (i.Pop d) = pop_row at d
memory_row task scratch at (i.Push r) = push_row (scratch || has_scratch task.assumptions at.key.pc) at r
memory_row task scratch at (i.In d a) = read_row task.assumptions at 1 d (port at.device a)
memory_row task scratch at (i.Out a r) = known_write at true (port at.device a) r
memory_row task scratch at (i.Cbi a b) = bit_row at (port at.device a) b false
memory_row task scratch at (i.Sbi a b) = bit_row at (port at.device a) b true
memory_row task scratch at instr = flow_row task scratch at instr

-- The successors of an instruction; `scratch` says that its pushes make a compiler's small frame.
abbrev pub row_of : Task → Bool → Site → Instr → Raw
row_of task scratch at (i.Movw d r) = going_with at (pair_copied at.state (2 * d) (2 * r))
row_of task scratch at (i.Muls d r) = product_row at product.Muls d r
row_of task scratch at (i.Mulsu d r) = product_row at product.Mulsu d r
row_of task scratch at (i.Fmul d r) = product_row at product.Fmul d r
row_of task scratch at (i.Fmuls d r) = product_row at product.Fmuls d r
row_of task scratch at (i.Fmulsu d r) = product_row at product.Fmulsu d r
row_of task scratch at (i.Binary op d r) = binary_row task at op d r
row_of task scratch at (i.Immediate op d n) = immediate_row (is_frame task.assumptions at.key.pc) at op d n
row_of task scratch at (i.Unary op d) = unary_row (is_frame task.assumptions at.key.pc) at op d
row_of task scratch at (i.Adiw d n) = wide_row at true (2 * d) n
row_of task scratch at (i.Sbiw d n) = wide_row at false (2 * d) n
row_of task scratch at (i.Bset n) = flag_row at n true
row_of task scratch at (i.Bclr n) = flag_row at n false
row_of task scratch at (i.Bld d b) = going_with at (bit_loaded at.state d b)
row_of task scratch at (i.Bst d b) = going_with at (bit_stored at.state d b)
row_of task scratch at instr = memory_row task scratch at instr

-- Only a branch on C and `cpc` read the carry tag of a register, and they set no register. So the tag ends before the row, if the
-- instruction sets that register; so do facts on pairs. Behind it high bytes are settled.
abbrev pub plain_row : Task → Bool → Site → Instr → Raw
plain_row task scratch at instr = settling (view_of at) (row_of task scratch (record at { state = before instr at.state }) instr)

-- ---- where pairs are followed

-- to one word if flag n is 1, and to the other if it is 0
abbrev pub cut_branch : ℕ → NodeKey → AbsState → ℕ → ℕ → Raw
cut_branch n k s set clear = all_of (going_where k (flag_cut n false s) clear ∷ going_where k (flag_cut n true s) set ∷ [])

-- past the next instruction with one state, and to it with the other
abbrev pub cut_skip : Image → Site → Option AbsState → Option AbsState → Raw
cut_skip image at skips stays = all_of (going_where at.key stays (further at.device at.key 1) ∷ going_where at.key skips (past image at) ∷ [])

-- the successors by the plain rules, refined by the transfer function of pairs; none if nothing is left
abbrev pub refined_nodes : Image → Instr → AbsState → List Node → List Node
refined_nodes image instr s nodes = flat_map (λ (n : Node). node_where n.key (refined (marks image) image instr s n.state)) nodes

abbrev pub refining : Image → Instr → AbsState → Raw → Raw
refining image instr s r = record r { moves = refined_nodes image instr s r.moves }

-- The pointer moves first, and its pair is refined. Then the byte is stored, possibly to a register of the pointer.
abbrev pub storing : Task → Site → Pointer → ℕ → Option AbsState → Raw
storing task at p r None = nowhere
storing task at p r (Some moved) = pointer_write task at.state (pointer_register p) (step_before p) (register_write at moved r)

abbrev pub refined_if : Task → Instr → AbsState → Option AbsState → Option AbsState
refined_if task instr s None = None
refined_if task instr s (Some moved) = refined (marks task.flash) task.flash instr s moved

abbrev pub paired_store : Task → Site → Pointer → ℕ → Raw
paired_store task at p r =
    storing task at p r
    (refined_if task (i.St p r) at.state
    (settled_state (view_of at) (record (before (i.St p r) at.state) { registers = pointer_moved (view_of at) p at.state })))

-- branches on flags 0 to 6
abbrev pub paired_branch : ℕ → Node → ℕ → ℕ → Raw → Raw
paired_branch n m set clear other = if nat_lt n 7 then cut_branch n m.key m.state set clear else other

-- `cpse` skips if the registers are equal
abbrev pub paired_binary : BinaryOp → Raw → Raw → Raw
paired_binary binary.Cpse cut other = cut
paired_binary _ cut other = other

-- Branches and skips cut the state by their outcome. Other rows are the plain ones, refined.
abbrev pub paired_row : Task → Bool → Site → Instr → Raw
paired_row task scratch at (i.Brbs n t) =
    paired_branch n (node_of at) (wrapped at.device (near at.key.pc t)) (further at.device at.key 1) (plain_row task scratch at (i.Brbs n t))
paired_row task scratch at (i.Brbc n t) =
    paired_branch n (node_of at) (further at.device at.key 1) (wrapped at.device (near at.key.pc t)) (plain_row task scratch at (i.Brbc n t))
paired_row task scratch at (i.Sbrc r b) = cut_skip task.flash at (bit_cut r b false at.state) (bit_cut r b true at.state)
paired_row task scratch at (i.Sbrs r b) = cut_skip task.flash at (bit_cut r b true at.state) (bit_cut r b false at.state)
paired_row task scratch at (i.Binary op d r) =
    paired_binary op (cut_skip task.flash at (equal_cut d r true at.state) (equal_cut d r false at.state))
    (refining task.flash (i.Binary op d r) at.state (plain_row task scratch at (i.Binary op d r)))
paired_row task scratch at (i.St p r) = paired_store task at p r
paired_row task scratch at instr = refining task.flash instr at.state (plain_row task scratch at instr)

-- the row with pairs, or the plain row
abbrev pub row_by : Option PairFacts → Task → Bool → Site → Instr → Raw
row_by None task scratch at instr = plain_row task scratch at instr
row_by (Some f) task scratch at instr = paired_row task scratch at instr

abbrev pub row_at : Task → Bool → Site → Option Instr → Raw
row_at task scratch at None = fails (Unsupported at.key.pc)
row_at task scratch at (Some instr) = row_by at.state.facts task scratch at instr

-- ---- the node

-- some enabled vector's word has no `never` line
unfoldable pub may_come : Device → List Entry → ℕ → Bool
may_come device A masks = any_below (last_vector device + 1) (λ v. is_enabled device masks v && not (is_never A (vector_word device v)))

-- an interrupt may come while the stack pointer is half written
abbrev pub is_hung : Device → List Entry → NodeKey → SpForm → Bool
is_hung device A k (Closed offset) = false
is_hung device A k (Open offset h) = k.i && not k.delay && may_come device A k.masks

-- the instruction of a node; none behind the device's flash
abbrev pub fetched : Device → Image → ℕ → Option Instr
fetched device image pc = if nat_lt pc (words_of device) then instruction_at image pc else None

-- ---- jump tables

-- the numbers below n, ascending
unfoldable pub below : ℕ → List ℕ
below zero = []
below (suc n) = below n ++ n ∷ []

-- the possible bytes of r30
abbrev pub picks : AbsState → List ℕ
picks s = filter (may_be (value s 30)) (below 256)

-- the key with this byte picked
abbrev pub picking : NodeKey → ℕ → NodeKey
picking k byte = record k { pick = Some byte }

-- the row of the state in which r30 is this byte; none if nothing is left of the state
abbrev pub picked_row : (NodeKey → AbsState → Raw) → NodeKey → Option AbsState → Raw
picked_row row k None = nowhere
picked_row row k (Some s) = row k s

-- the word of the `ijmp`, if its site has no `jump` line
abbrev pub unless_lined : Option (List ℕ) → ℕ → Option ℕ
unless_lined None jump = Some jump
unless_lined (Some listed) jump = None

abbrev pub unlined : List Entry → Option ℕ → Option ℕ
unlined A None = None
unlined A (Some jump) = unless_lined (jump_line A jump) jump

-- The word of the `ijmp` at which a node splits: at a table site of flash, unless an entry is picked already.
abbrev pub split_site : Task → ℕ → Option ℕ → Option ℕ
split_site task pc None = if nat_lt pc (words_of (device_of task.flash)) then unlined task.assumptions (table_site task.flash pc) else None
split_site task pc (Some byte) = None

-- A node that splits has the successors of each possible byte of r30, picked. With more than 64 bytes its `ijmp` is unresolved.
abbrev pub splitting : Option ℕ → (NodeKey → AbsState → Raw) → NodeKey → AbsState → Raw
splitting None row k s = row k s
splitting (Some jump) row k s =
    if nat_le (length (picks s)) 64 then all_of (map (λ byte. picked_row row (picking k byte) (pick_cut byte s)) (picks s)) else fails (UnresolvedJump jump)

-- the successors of a node by its instruction, on this device
abbrev pub fetched_row : Task → Site → Raw
fetched_row task at = row_at task (is_scratch task.flash at.key.pc) at (fetched at.device task.flash at.key.pc)

abbrev pub row_in : Device → Task → NodeKey → AbsState → Raw
row_in device task k s = fetched_row task (site_at device k s)

-- with the word of the `ijmp` at which the node splits, if it does
abbrev pub split_by : Option ℕ → Task → Site → Raw
split_by jump task at = splitting jump (row_in at.device task) at.key at.state

abbrev pub split_row : Task → Site → Raw
split_row task at = split_by (split_site task at.key.pc at.key.pick) task at

-- the successors with the fault of a node that is too deep
abbrev pub deep_row : Task → Site → Raw
deep_row task at = too_deep_if (nat_lt (size_of at.device) (offset_of at.key.sp)) at.key.pc (offset_of at.key.sp) (split_row task at)

-- all successors of a node, with all its faults, on the image's device
unfoldable pub raw : Task → NodeKey → AbsState → Raw
raw task k s = untracked_if (is_hung (device_of task.flash) task.assumptions k k.sp) k.pc (deep_row task (site_at (device_of task.flash) k s))

-- ---- successors of one key are joined

abbrev pub place_by : Ordering → Node → Node → List Node → List Node → List Node
place_by Less n m ms placed = n ∷ m ∷ ms
place_by Equal n m ms placed = record { key = m.key; state = state_join m.state n.state } ∷ ms
place_by Greater n m ms placed = m ∷ placed

-- inserts a node into an ascending list; a node with the same key joins its state
unfoldable pub placed : Node → List Node → List Node
placed n [] = n ∷ []
placed n (m ∷ ms) = place_by (node_cmp n.key m.key) n m ms (placed n ms)

-- inserts these nodes into an ascending list one after the other
unfoldable pub joined_onto : List Node → List Node → List Node
joined_onto done [] = done
joined_onto done (n ∷ ns) = joined_onto (placed n done) ns

abbrev pub settled : Raw → List NodeFault → Result Local NodeFault
settled r [] = Ok (record { same = joined_onto [] r.moves; calls = r.calls; exit = r.exit })
settled r (f ∷ fs) = Err (least f fs)

-- The joined successors, calls and return of a node, or the fault that counts.
unfoldable pub local : Task → NodeKey → AbsState → Result Local NodeFault
local task k s = settled (raw task k s) (raw task k s).faults
