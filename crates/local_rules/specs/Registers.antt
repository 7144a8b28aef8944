-- Instructions that work on registers and flags alone. A result has a tag only if a rule here says so. Source: own; bits and flags follow
-- the Instruction Set Manual DS40002198.
use Rattle.std.specs.Prelude.{ℕ, ◌+◌, ◌%◌, ◌==◌, Bool, true, false, not, if◌then◌else◌, List, Option, Some, None, slice_set}
use Rattle.std.specs.List.{list_any}
use Rattle.avr_model.specs.declared.instruction.Instr.{Instr}
use Rattle.avr_model.specs.declared.instruction.BinaryOp.{BinaryOp}
use Rattle.avr_model.specs.declared.instruction.BinaryOp.TheVariants as binary
use Rattle.avr_model.specs.declared.instruction.ImmediateOp.{ImmediateOp}
use Rattle.avr_model.specs.declared.instruction.ImmediateOp.TheVariants as immediate
use Rattle.avr_model.specs.declared.instruction.UnaryOp.{UnaryOp}
use Rattle.avr_model.specs.declared.instruction.UnaryOp.TheVariants as unary
use Rattle.avr_model.specs.declared.operation.Logic.{Logic}
use Rattle.avr_model.specs.declared.operation.Logic.TheVariants as logic
use Rattle.avr_model.specs.declared.operation.Shift.{Shift}
use Rattle.avr_model.specs.declared.operation.Shift.TheVariants as shift
use Rattle.avr_model.specs.declared.operation.Mul.{Mul}
use Rattle.avr_model.specs.declared.operation.Mul.TheVariants as product
use Rattle.avr_model.specs.State.{minus16}
use Rattle.avr_model.specs.Written.{written}
use Rattle.bit_domain.specs.declared.bits.Tri.{Tri}
use Rattle.bit_domain.specs.declared.bits.Tri.TheVariants.{Zero, One}
use Rattle.bit_domain.specs.declared.bytes.TriByte.{TriByte}
use Rattle.bit_domain.specs.TriByte.{tri_at, byte_of, byte_known, byte_with, byte_constant}
use Rattle.abs_alu.specs.Sums.{abs_add, abs_sub}
use Rattle.abs_alu.specs.Bitwise.{abs_logic, abs_com, abs_step_one, abs_shift}
use Rattle.abs_alu.specs.Product.{abs_mul}
use Rattle.abs_alu.specs.Words.{abs_wide}
use Rattle.sp_domain.specs.declared.tags.Tag.{Tag}
use Rattle.sp_domain.specs.declared.tags.Tag.TheVariants as tag
use Rattle.sp_domain.specs.declared.tags.CarryTag.{CarryTag}
use Rattle.sp_domain.specs.declared.tags.CarryTag.TheVariants as carry
use Rattle.sp_domain.specs.Tags.{pair_below, low_less, borrow_of, high_less}
use Rattle.abs_state.specs.declared.values.AbsByte.{AbsByte}
use Rattle.abs_state.specs.declared.values.AbsFlags.{AbsFlags}
use Rattle.abs_state.specs.declared.state.AbsState.{AbsState}
use Rattle.abs_state.specs.Values.{value_at, untagged, known}
use Rattle.abs_state.specs.Ended.{is_one_of, ended}
pub use Rattle.abs_state.specs.Values.{with_bits}
use Rattle.local_rules.specs.Site.{Site}
use Rattle.local_rules.specs.declared.computed.Computed.{Computed}
use Rattle.abs_state.specs.FlagsSet.{sets_flags, sets_carry}
use Rattle.local_rules.specs.Raw.{Raw, setting, next, one}
use Rattle.local_rules.specs.HighBytes.{SpView, view_of, low_number, carry_number, seen_high}

-- ---- operands and results

abbrev pub value : AbsState → ℕ → AbsByte
value s r = value_at s.registers r

abbrev pub bits : AbsState → ℕ → TriByte
bits s r = (value s r).bits

-- the carry flag
abbrev pub carry_bit : AbsState → Tri
carry_bit s = tri_at s.flags.bits 0

abbrev pub set : AbsState → ℕ → AbsByte → List AbsByte
set s d v = slice_set s.registers d v

-- sets registers r and r + 1, the low byte first
abbrev pub set_pair : List AbsByte → ℕ → AbsByte → AbsByte → List AbsByte
set_pair registers r lo hi = slice_set (slice_set registers r lo) (r + 1) hi

-- The carry tag of a register ends when that register is written.
abbrev pub forgotten : List ℕ → CarryTag → CarryTag
forgotten written carry.None = carry.None
forgotten written (carry.Borrow j l) = carry.Borrow j l
forgotten written (carry.Sum j l) = carry.Sum j l
forgotten written (carry.Less r k) = if list_any (λ n. n == r) written then carry.None else carry.Less r k

-- Ends the facts on written registers and flags: on any flag but I, and on C.
abbrev pub forgetting : List ℕ → Bool → Bool → AbsState → AbsState
forgetting written flags carry s =
    record s { flags = record s.flags { carry = forgotten written s.flags.carry }; facts = ended (is_one_of written) flags carry s.facts }

-- the state with the facts that survive the instruction
abbrev pub before : Instr → AbsState → AbsState
before instr s = forgetting (written instr) (sets_flags instr) (sets_carry instr) s

-- Written flags, C among them. They are no longer those of the entry.
abbrev pub with_carry : TriByte → CarryTag → AbsFlags
with_carry b c = record { entry = false; bits = b; carry = c }

-- written flags without C
abbrev pub but_carry : AbsState → TriByte → AbsFlags
but_carry s b = with_carry b s.flags.carry

-- the result of an instruction that sets registers and flags alone
abbrev pub both_set : List AbsByte → AbsFlags → Computed
both_set registers flags = record { registers = registers; flags = flags }

abbrev pub going_with : Site → Computed → Raw
going_with at c = setting at c.registers c.flags

-- continues with a computed result, if there is one
abbrev pub going_by : Site → Option Computed → Raw → Raw
going_by at None other = other
going_by at (Some c) other = going_with at c

-- sets one register; the flags stay
abbrev pub register_set : AbsState → ℕ → AbsByte → Computed
register_set s d v = both_set (set s d v) s.flags

-- ---- sums and differences

-- a sum, with the tags of result and carry
abbrev pub sum_tagged : AbsState → ℕ → TriByte → Tri → Tag × CarryTag → Computed
sum_tagged s d b c tags =
    let r = abs_add (bits s d) b c s.flags.bits in
    both_set (set s d (with_bits tags.0 r.0)) (with_carry r.1 tags.1)

abbrev pub sum_after : AbsState → ℕ → TriByte → Tri → Computed
sum_after s d b c = sum_tagged s d b c (tag.None, carry.None)

-- A difference has two operands, and a borrow with whether a result of 0 keeps Z. A comparison sets the flags alone, and the carry tag.
abbrev pub compare_after : AbsState → TriByte × TriByte → Tri × Bool → CarryTag → Computed
compare_after s operands borrow c = both_set s.registers (with_carry (abs_sub operands.0 operands.1 borrow.0 borrow.1 s.flags.bits).1 c)

-- the carry tag after a comparison with a known number: the register is below it
abbrev pub less_than : ℕ → Option ℕ → CarryTag
less_than d None = carry.None
less_than d (Some n) = carry.Less d n

-- comparing two equal numbers with a borrow keeps C, and the carry tag of a register
abbrev pub less_alone : CarryTag → CarryTag
less_alone carry.None = carry.None
less_alone (carry.Borrow j l) = carry.None
less_alone (carry.Sum j l) = carry.None
less_alone (carry.Less r n) = carry.Less r n

abbrev pub less_kept : Option ℕ → Option ℕ → CarryTag → CarryTag
less_kept None b c = carry.None
less_kept (Some x) None c = carry.None
less_kept (Some x) (Some y) c = if x == y then less_alone c else carry.None

-- a difference, with the tags of result and borrow
abbrev pub difference_after : AbsState → ℕ → TriByte × TriByte → Tri × Bool → Tag × CarryTag → Computed
difference_after s d operands borrow tags =
    let r = abs_sub operands.0 operands.1 borrow.0 borrow.1 s.flags.bits in
    both_set (set s d (with_bits tags.0 r.0)) (with_carry r.1 tags.1)

-- Subtracts a known number from the low byte of base - j, and from the high byte of base - k with the borrow of the low one.
abbrev pub low_tag : Tag → Option ℕ → Tag
low_tag t None = tag.None
low_tag t (Some l) = low_less t l

abbrev pub borrow_tag : Tag → Option ℕ → CarryTag
borrow_tag t None = carry.None
borrow_tag t (Some l) = borrow_of t l

abbrev pub high_tag : Tag → Option ℕ → CarryTag → Tag
high_tag t None c = tag.None
high_tag t (Some m) c = high_less t m c

-- a register less itself is 0, whatever it holds: computed as 0 - 0
abbrev pub or_nothing : ℕ → ℕ → TriByte → TriByte
or_nothing d r b = if d == r then byte_known 0 else b

abbrev pub sub_after : AbsState → ℕ → TriByte → TriByte → Option ℕ → Computed
sub_after s d a b number = difference_after s d (a, b) (Zero, false) (low_tag (value s d).tag number, borrow_tag (value s d).tag number)

abbrev pub sbc_after : SpView → AbsState → ℕ → TriByte → Option ℕ → Computed
sbc_after view s d b number =
    difference_after s d (bits s d, b) (carry_bit s, true)
    (high_tag (seen_high view (carry_number s.flags.carry) (value s d)) number s.flags.carry, carry.None)

-- ---- bit by bit

-- a bit operation; `and` and `or` of a register with itself keep the whole value
abbrev pub logic_after : AbsState → Logic → ℕ → TriByte × TriByte → Bool → Computed
logic_after s op d operands same =
    let r = abs_logic op operands.0 operands.1 s.flags.bits in
    both_set (set s d (if same then value s d else untagged r.0)) (but_carry s r.1)

-- a register plus or less 1, with the tag of the result
abbrev pub step_tagged : AbsState → Bool → ℕ → Tag → Computed
step_tagged s up d t =
    let r = abs_step_one up (bits s d) s.flags.bits in
    both_set (set s d (with_bits t r.0)) (but_carry s r.1)

abbrev pub step_after : AbsState → Bool → ℕ → Computed
step_after s up d = step_tagged s up d tag.None

abbrev pub shift_after : AbsState → Shift → ℕ → Computed
shift_after s op d =
    let r = abs_shift op (bits s d) s.flags.bits in
    both_set (set s d (untagged r.0)) (with_carry r.1 carry.None)

abbrev pub com_after : AbsState → ℕ → Computed
com_after s d =
    let r = abs_com (bits s d) s.flags.bits in
    both_set (set s d (untagged r.0)) (with_carry r.1 carry.None)

-- the halves of a byte exchanged
abbrev pub swapped : TriByte → TriByte
swapped b = byte_of (λ i. tri_at b ((i + 4) % 8))

-- ---- words

abbrev pub product_after : AbsState → Mul → ℕ → ℕ → Computed
product_after s op d r =
    let p = abs_mul op (bits s d) (bits s r) s.flags.bits in
    both_set (set_pair s.registers 0 (untagged p.0.0) (untagged p.0.1)) (with_carry p.1 carry.None)

abbrev pub product_row : Site → Mul → ℕ → ℕ → Raw
product_row at op d r = going_with at (product_after at.state op d r)

-- copies registers r and r + 1 to d and d + 1
abbrev pub pair_copied : AbsState → ℕ → ℕ → Computed
pair_copied s d r = both_set (set_pair s.registers d (value s r) (value s (r + 1))) s.flags

-- a pair plus or less a number: its bits, and its tags if it is base - k
abbrev pub down_by : Bool → ℕ → ℕ
down_by up n = if up then minus16 0 n else n

-- the tag of register r + 1 beside register r
abbrev pub high_tag_of : SpView → AbsState → ℕ → Tag
high_tag_of view s r = seen_high view (low_number (value s r).tag) (value s (r + 1))

abbrev pub pair_tags : SpView → AbsState → ℕ → Bool → ℕ → Tag × Tag
pair_tags view s d up n = pair_below (value s d).tag (high_tag_of view s d) (down_by up n)

abbrev pub pair_moved : SpView → AbsState → ℕ → Bool → ℕ → List AbsByte
pair_moved view s d up n =
    let p = abs_wide up (bits s d, bits s (d + 1)) n s.flags.bits in
    set_pair s.registers d (with_bits (pair_tags view s d up n).0 p.0.0) (with_bits (pair_tags view s d up n).1 p.0.1)

abbrev pub wide_after : SpView → AbsState → Bool → ℕ → ℕ → Computed
wide_after view s up d n =
    both_set (pair_moved view s d up n) (with_carry (abs_wide up (bits s d, bits s (d + 1)) n s.flags.bits).1 carry.None)

abbrev pub wide_row : Site → Bool → ℕ → ℕ → Raw
wide_row at up d n = going_with at (wide_after (view_of at) at.state up d n)

-- ---- flags

-- I is in the key
abbrev pub interrupts_row : Site → Bool → Raw
interrupts_row at true = one (record (next at.device at.key) { i = true; delay = not at.key.i }) at.state
interrupts_row at false = one (record (next at.device at.key) { i = false }) at.state

abbrev pub tri_of_bool : Bool → Tri
tri_of_bool true = One
tri_of_bool false = Zero

-- the carry tag ends if C is written
abbrev pub carry_tag_at : AbsState → ℕ → CarryTag
carry_tag_at s n = if n == 0 then carry.None else s.flags.carry

abbrev pub flag_after : AbsState → ℕ → Bool → Computed
flag_after s n on = both_set s.registers (with_carry (byte_with s.flags.bits n (tri_of_bool on)) (carry_tag_at s n))

-- the result, unless the flag is I
abbrev pub flag_unless_i : AbsState → ℕ → Bool → Option Computed
flag_unless_i s n on = if n == 7 then None else Some (flag_after s n on)

abbrev pub flag_row : Site → ℕ → Bool → Raw
flag_row at n on = if n == 7 then interrupts_row at on else going_with at (flag_after at.state n on)

-- copies T to bit b of register d, and that bit to T
abbrev pub bit_loaded : AbsState → ℕ → ℕ → Computed
bit_loaded s d b = register_set s d (untagged (byte_with (bits s d) b (tri_at s.flags.bits 6)))

abbrev pub bit_stored : AbsState → ℕ → ℕ → Computed
bit_stored s d b = both_set s.registers (with_carry (byte_with s.flags.bits 6 (tri_at (bits s d) b)) s.flags.carry)

-- ---- by the operation

abbrev pub immediate_after : SpView → AbsState → ImmediateOp → ℕ → ℕ → Computed
immediate_after view s immediate.Cpi d n = compare_after s (bits s d, byte_known n) (Zero, false) (carry.Less d n)
immediate_after view s immediate.Sbci d n = sbc_after view s d (byte_known n) (Some n)
immediate_after view s immediate.Subi d n = sub_after s d (bits s d) (byte_known n) (Some n)
immediate_after view s immediate.Ori d n = logic_after s logic.Or d (bits s d, byte_known n) false
immediate_after view s immediate.Andi d n = logic_after s logic.And d (bits s d, byte_known n) false
immediate_after view s immediate.Ldi d n = register_set s d (known n)

abbrev pub unary_after : AbsState → UnaryOp → ℕ → Computed
unary_after s unary.Com d = com_after s d
unary_after s unary.Neg d = difference_after s d (byte_known 0, bits s d) (Zero, false) (tag.None, carry.None)
unary_after s unary.Swap d = register_set s d (untagged (swapped (bits s d)))
unary_after s unary.Inc d = step_after s true d
unary_after s unary.Asr d = shift_after s shift.Asr d
unary_after s unary.Lsr d = shift_after s shift.Lsr d
unary_after s unary.Ror d = shift_after s shift.Ror d
unary_after s unary.Dec d = step_after s false d

-- all instructions of two registers but `cpse`
abbrev pub binary_after : SpView → AbsState → BinaryOp → ℕ → ℕ → Option Computed
binary_after view s binary.Cpc d r = Some (compare_after s (bits s d, bits s r) (carry_bit s, true) (less_kept (byte_constant (bits s d)) (byte_constant (bits s r)) s.flags.carry))
binary_after view s binary.Sbc d r = Some (sbc_after view s d (bits s r) (byte_constant (bits s r)))
binary_after view s binary.Add d r = Some (sum_after s d (bits s r) Zero)
binary_after view s binary.Cpse d r = None
binary_after view s binary.Cp d r = Some (compare_after s (bits s d, bits s r) (Zero, false) (less_than d (byte_constant (bits s r))))
binary_after view s binary.Sub d r = Some (sub_after s d (or_nothing d r (bits s d)) (or_nothing d r (bits s r)) (byte_constant (bits s r)))
binary_after view s binary.Adc d r = Some (sum_after s d (bits s r) (carry_bit s))
binary_after view s binary.And d r = Some (logic_after s logic.And d (bits s d, bits s r) (d == r))
binary_after view s binary.Eor d r = Some (logic_after s logic.Eor d (or_nothing d r (bits s d), or_nothing d r (bits s r)) false)
binary_after view s binary.Or d r = Some (logic_after s logic.Or d (bits s d, bits s r) (d == r))
binary_after view s binary.Mov d r = Some (register_set s d (value s r))
binary_after view s binary.Mul d r = Some (product_after s product.Mul d r)
