-- Which instructions set flags. Source: Instruction Set Manual DS40002198.
use Rattle.std.specs.Prelude.{◌==◌, not, Bool, true, false}
use Rattle.avr_model.specs.declared.instruction.Instr.{Instr}
use Rattle.avr_model.specs.declared.instruction.Instr.TheVariants as i
use Rattle.avr_model.specs.declared.instruction.BinaryOp.{BinaryOp}
use Rattle.avr_model.specs.declared.instruction.BinaryOp.TheVariants as binary
use Rattle.avr_model.specs.declared.instruction.ImmediateOp.{ImmediateOp}
use Rattle.avr_model.specs.declared.instruction.ImmediateOp.TheVariants as immediate
use Rattle.avr_model.specs.declared.instruction.UnaryOp.{UnaryOp}
use Rattle.avr_model.specs.declared.instruction.UnaryOp.TheVariants as unary

-- ---- any flag but I

abbrev pub sets_by_binary : BinaryOp → Bool
sets_by_binary binary.Cpse = false
sets_by_binary binary.Mov = false
sets_by_binary _ = true

abbrev pub sets_by_immediate : ImmediateOp → Bool
sets_by_immediate immediate.Ldi = false
sets_by_immediate _ = true

abbrev pub sets_by_unary : UnaryOp → Bool
sets_by_unary unary.Swap = false
sets_by_unary _ = true

abbrev pub sets_flags : Instr → Bool
sets_flags (i.Muls d r) = true
sets_flags (i.Mulsu d r) = true
sets_flags (i.Fmul d r) = true
sets_flags (i.Fmuls d r) = true
sets_flags (i.Fmulsu d r) = true
sets_flags (i.Binary op d r) = sets_by_binary op
sets_flags (i.Immediate op d k) = sets_by_immediate op
sets_flags (i.Unary op d) = sets_by_unary op
sets_flags (i.Adiw d k) = true
sets_flags (i.Sbiw d k) = true
sets_flags (i.Bset s) = not (s == 7)
sets_flags (i.Bclr s) = not (s == 7)
sets_flags (i.Bst d b) = true
sets_flags _ = false

-- ---- C

abbrev pub carries_by_binary : BinaryOp → Bool
carries_by_binary binary.Cpse = false
carries_by_binary binary.And = false
carries_by_binary binary.Eor = false
carries_by_binary binary.Or = false
carries_by_binary binary.Mov = false
carries_by_binary _ = true

abbrev pub carries_by_immediate : ImmediateOp → Bool
carries_by_immediate immediate.Ori = false
carries_by_immediate immediate.Andi = false
carries_by_immediate immediate.Ldi = false
carries_by_immediate _ = true

abbrev pub carries_by_unary : UnaryOp → Bool
carries_by_unary unary.Swap = false
carries_by_unary unary.Inc = false
carries_by_unary unary.Dec = false
carries_by_unary _ = true

abbrev pub sets_carry : Instr → Bool
sets_carry (i.Muls d r) = true
sets_carry (i.Mulsu d r) = true
sets_carry (i.Fmul d r) = true
sets_carry (i.Fmuls d r) = true
sets_carry (i.Fmulsu d r) = true
sets_carry (i.Binary op d r) = carries_by_binary op
sets_carry (i.Immediate op d k) = carries_by_immediate op
sets_carry (i.Unary op d) = carries_by_unary op
sets_carry (i.Adiw d k) = true
sets_carry (i.Sbiw d k) = true
sets_carry (i.Bset s) = s == 0
sets_carry (i.Bclr s) = s == 0
sets_carry _ = false
