-- What an instruction computes at a site with a `frame` line. Bits, ranges, flags and other registers are as without it; the register
-- that it sets, and C, also get tags of base - k. The line assumes nothing: the tags hold in every run. Source: own.
use Rattle.std.specs.Prelude.{ℕ, ◌==◌, ◌&&◌, ◌||◌, Bool, true, false, not, if◌then◌else◌, Option, Some, None}
use Rattle.avr_model.specs.declared.instruction.BinaryOp.{BinaryOp}
use Rattle.avr_model.specs.declared.instruction.BinaryOp.TheVariants as binary
use Rattle.avr_model.specs.declared.instruction.ImmediateOp.{ImmediateOp}
use Rattle.avr_model.specs.declared.instruction.ImmediateOp.TheVariants as immediate
use Rattle.avr_model.specs.declared.instruction.UnaryOp.{UnaryOp}
use Rattle.avr_model.specs.declared.instruction.UnaryOp.TheVariants as unary
use Rattle.bit_domain.specs.declared.bits.Tri.TheVariants.{Zero}
use Rattle.bit_domain.specs.declared.bytes.TriByte.{TriByte}
use Rattle.bit_domain.specs.TriByte.{byte_known, byte_constant}
use Rattle.sp_domain.specs.declared.tags.Tag.{Tag}
use Rattle.sp_domain.specs.declared.tags.Tag.TheVariants as tag
use Rattle.sp_domain.specs.declared.tags.CarryTag.{CarryTag}
use Rattle.sp_domain.specs.declared.tags.CarryTag.TheVariants as carry
use Rattle.sp_domain.specs.Tags.{high_moved, byte_more, byte_less, carry_of, high_more}
use Rattle.abs_state.specs.declared.state.AbsState.{AbsState}
use Rattle.local_rules.specs.declared.computed.Computed.{Computed}
use Rattle.local_rules.specs.HighBytes.{SpView, carry_number, seen_high}
use Rattle.local_rules.specs.Registers.{value, bits, carry_bit, borrow_tag, sum_tagged, step_tagged, difference_after, binary_after, immediate_after, unary_after}

-- ---- the operands of a sum

-- r28 and r29 are the frame pointer by the convention of compilers
abbrev pub is_frame_pointer : ℕ → Bool
is_frame_pointer r = (r == 28) || (r == 29)

-- A sum follows its first register, or the second if only that belongs to the frame pointer. Registers decide, not their values:
-- otherwise a greater state would follow another register.
abbrev pub is_second : ℕ → ℕ → Bool
is_second d r = is_frame_pointer r && not (is_frame_pointer d)

abbrev pub followed : ℕ → ℕ → ℕ
followed d r = if is_second d r then r else d

-- the other register of the sum
abbrev pub added : ℕ → ℕ → ℕ
added d r = if is_second d r then d else r

-- ---- tags, where the other operand is known

abbrev pub more_tag : Tag → Option ℕ → Tag
more_tag t None = tag.None
more_tag t (Some n) = byte_more t n

abbrev pub sum_tag : Tag → Option ℕ → CarryTag
sum_tag t None = carry.None
sum_tag t (Some n) = carry_of t n

abbrev pub high_more_tag : Tag → Option ℕ → CarryTag → Tag
high_more_tag t None c = tag.None
high_more_tag t (Some n) c = high_more t n c

abbrev pub less_tag : Tag → Option ℕ → Tag
less_tag t None = tag.None
less_tag t (Some n) = byte_less t n

-- ---- by the operation

-- the tag of the followed register, and the number of the other
abbrev pub tag_followed : AbsState → ℕ → ℕ → Tag
tag_followed s d r = (value s (followed d r)).tag

abbrev pub number_added : AbsState → ℕ → ℕ → Option ℕ
number_added s d r = byte_constant (bits s (added d r))

abbrev pub framed_add : AbsState → ℕ → ℕ → Computed
framed_add s d r =
    sum_tagged s d (bits s r) Zero (more_tag (tag_followed s d r) (number_added s d r), sum_tag (tag_followed s d r) (number_added s d r))

abbrev pub framed_adc : SpView → AbsState → ℕ → ℕ → Computed
framed_adc view s d r =
    sum_tagged s d (bits s r) (carry_bit s)
    (high_more_tag (seen_high view (carry_number s.flags.carry) (value s (followed d r))) (number_added s d r) s.flags.carry, carry.None)

abbrev pub framed_sub : AbsState → ℕ → TriByte → Option ℕ → Computed
framed_sub s d b number = difference_after s d (bits s d, b) (Zero, false) (less_tag (value s d).tag number, borrow_tag (value s d).tag number)

abbrev pub framed_step : AbsState → Bool → ℕ → Computed
framed_step s up d = step_tagged s up d (high_moved (value s d).tag up 1)

abbrev pub framed_binary : SpView → AbsState → BinaryOp → ℕ → ℕ → Option Computed
framed_binary view s binary.Cpc d r = binary_after view s binary.Cpc d r
framed_binary view s binary.Sbc d r = binary_after view s binary.Sbc d r
framed_binary view s binary.Add d r = Some (framed_add s d r)
framed_binary view s binary.Cpse d r = binary_after view s binary.Cpse d r
framed_binary view s binary.Cp d r = binary_after view s binary.Cp d r
framed_binary view s binary.Sub d r = Some (framed_sub s d (bits s r) (byte_constant (bits s r)))
framed_binary view s binary.Adc d r = Some (framed_adc view s d r)
framed_binary view s binary.And d r = binary_after view s binary.And d r
framed_binary view s binary.Eor d r = binary_after view s binary.Eor d r
framed_binary view s binary.Or d r = binary_after view s binary.Or d r
framed_binary view s binary.Mov d r = binary_after view s binary.Mov d r
framed_binary view s binary.Mul d r = binary_after view s binary.Mul d r

abbrev pub framed_immediate : SpView → AbsState → ImmediateOp → ℕ → ℕ → Computed
framed_immediate view s immediate.Cpi d n = immediate_after view s immediate.Cpi d n
framed_immediate view s immediate.Sbci d n = immediate_after view s immediate.Sbci d n
framed_immediate view s immediate.Subi d n = framed_sub s d (byte_known n) (Some n)
framed_immediate view s immediate.Ori d n = immediate_after view s immediate.Ori d n
framed_immediate view s immediate.Andi d n = immediate_after view s immediate.Andi d n
framed_immediate view s immediate.Ldi d n = immediate_after view s immediate.Ldi d n

abbrev pub framed_unary : AbsState → UnaryOp → ℕ → Computed
framed_unary s unary.Com d = unary_after s unary.Com d
framed_unary s unary.Neg d = unary_after s unary.Neg d
framed_unary s unary.Swap d = unary_after s unary.Swap d
framed_unary s unary.Inc d = framed_step s true d
framed_unary s unary.Asr d = unary_after s unary.Asr d
framed_unary s unary.Lsr d = unary_after s unary.Lsr d
framed_unary s unary.Ror d = unary_after s unary.Ror d
framed_unary s unary.Dec d = framed_step s false d

-- ---- what is computed, where `line` says that the site has a `frame` line

-- the line has no effect on an instruction whose two registers are the same
abbrev pub is_followed : Bool → ℕ → ℕ → Bool
is_followed line d r = line && not (d == r)

abbrev pub binary_at : SpView → Bool → AbsState → BinaryOp → ℕ → ℕ → Option Computed
binary_at view line s op d r = if is_followed line d r then framed_binary view s op d r else binary_after view s op d r

abbrev pub immediate_at : SpView → Bool → AbsState → ImmediateOp → ℕ → ℕ → Computed
immediate_at view line s op d n = if line then framed_immediate view s op d n else immediate_after view s op d n

abbrev pub unary_at : Bool → AbsState → UnaryOp → ℕ → Computed
unary_at line s op d = if line then framed_unary s op d else unary_after s op d
