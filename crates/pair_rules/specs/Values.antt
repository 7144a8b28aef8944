-- Register values that are refined if pairs are followed: a doubled byte, and a byte of flash. Source: own.
use Rattle.std.specs.Prelude.{ℕ, ◌-◌, ◌*◌, ◌==◌, Bool, if◌then◌else◌, Option, Some, None, slice_set}
use Rattle.avr_model.specs.declared.instruction.Instr.{Instr}
use Rattle.avr_model.specs.declared.instruction.Instr.TheVariants as i
use Rattle.avr_model.specs.declared.instruction.BinaryOp.{BinaryOp}
use Rattle.avr_model.specs.declared.instruction.BinaryOp.TheVariants as binary
use Rattle.avr_model.specs.Devices.{Image}
use Rattle.avr_model.specs.State.{RAMPZ}
use Rattle.bit_domain.specs.declared.bits.Tri.{Tri}
use Rattle.bit_domain.specs.declared.bits.Tri.TheVariants.{Zero}
use Rattle.bit_domain.specs.declared.bytes.TriByte.{TriByte}
use Rattle.bit_domain.specs.TriByte.{tri_at, byte_of, byte_constant}
use Rattle.pair_domain.specs.declared.facts.PairFacts.{PairFacts}
use Rattle.pair_domain.specs.PairSets.{PairSet}
use Rattle.abs_state.specs.declared.values.AbsByte.{AbsByte}
use Rattle.abs_state.specs.declared.state.AbsState.{AbsState}
use Rattle.abs_state.specs.Values.{value_at, untagged}
use Rattle.abs_state.specs.Cuts.{pair_of}
use Rattle.pair_rules.specs.Flash.{pair_permits, few_in_flash, flash_joined}

abbrev pub with_value : AbsState → ℕ → AbsByte → AbsState
with_value t d v = record t { registers = slice_set t.registers d v }

-- ---- a byte and itself, and a carry

-- each bit moved one place up, with a new lowest bit
abbrev pub doubled : TriByte → Tri → TriByte
doubled b low = byte_of (λ k. if k == 0 then low else tri_at b (k - 1))

-- the register after `add` or `adc` with itself
abbrev pub doubled_value : AbsState → ℕ → Tri → AbsByte
doubled_value s d low = untagged (doubled (value_at s.registers d).bits low)

abbrev pub doubled_by : AbsState → BinaryOp → ℕ → AbsState → AbsState
doubled_by s binary.Add d t = with_value t d (doubled_value s d Zero)
doubled_by s binary.Adc d t = with_value t d (doubled_value s d (tri_at s.flags.bits 0))
doubled_by s _ d t = t

-- ---- bytes of flash

-- none if no number is permitted
abbrev pub with_joined : AbsState → ℕ → Option AbsByte → Option AbsState
with_joined t d None = None
with_joined t d (Some v) = Some (with_value t d v)

-- the join of the bytes if few numbers are permitted and all are in flash, else the plain value
abbrev pub flash_read : Image → ℕ → AbsState → ℕ → (ℕ → Bool) → Option AbsState
flash_read image from t d permits = if few_in_flash image from permits then with_joined t d (flash_joined image from permits) else Some t

-- the number in RAMPZ, if it is known
abbrev pub rampz_of : AbsState → Option ℕ
rampz_of s = byte_constant (value_at s.registers RAMPZ).bits

-- `elpm`: from the bank that RAMPZ chooses, if it is known
abbrev pub extended_read : Image → Option ℕ → AbsState → ℕ → (ℕ → Bool) → Option AbsState
extended_read image None t d permits = Some t
extended_read image (Some bank) t d permits = flash_read image (65536 * bank) t d permits

-- the registers and interval of Z before the instruction
abbrev pub z_of : AbsState → PairFacts → PairSet
z_of s f = pair_of s.registers f.intervals 15

-- ---- by the instruction: s is the state before it, and t what the plain rules leave

abbrev pub retold : Image → AbsState → PairFacts → Instr → AbsState → Option AbsState
retold image s f (i.Binary op d r) t = Some (if d == r then doubled_by s op d t else t)
retold image s f (i.LpmZ d) t = flash_read image 0 t d (pair_permits (z_of s f))
retold image s f (i.LpmZPlus d) t = flash_read image 0 t d (pair_permits (z_of s f))
retold image s f i.Lpm t = flash_read image 0 t 0 (pair_permits (z_of s f))
retold image s f (i.ElpmZ d) t = extended_read image (rampz_of s) t d (pair_permits (z_of s f))
retold image s f (i.ElpmZPlus d) t = extended_read image (rampz_of s) t d (pair_permits (z_of s f))
retold image s f i.Elpm t = extended_read image (rampz_of s) t 0 (pair_permits (z_of s f))
retold image s f _ t = Some t
