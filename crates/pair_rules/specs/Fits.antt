-- Premises of the laws on an instruction and on the state by the plain rules. Source: own.
use Rattle.std.specs.Prelude.{ℕ, ◌+◌, ◌*◌, ◌≡◌, ◌<◌, ⊤, true, Some, if◌then◌else◌}
use Rattle.avr_model.specs.declared.instruction.Instr.{Instr}
use Rattle.avr_model.specs.declared.instruction.Instr.TheVariants as i
use Rattle.avr_model.specs.declared.instruction.BinaryOp.{BinaryOp}
use Rattle.avr_model.specs.declared.instruction.BinaryOp.TheVariants as binary
use Rattle.avr_model.specs.Devices.{Image}
use Rattle.bit_domain.specs.declared.bits.Tri.TheVariants.{Zero}
use Rattle.bit_domain.specs.TriByte.{tri_at}
use Rattle.pair_domain.specs.declared.facts.PairFacts.{PairFacts}
use Rattle.pair_domain.specs.PairSets.{PairSet}
use Rattle.abs_state.specs.declared.values.AbsByte.{AbsByte}
use Rattle.abs_state.specs.declared.state.AbsState.{AbsState}
use Rattle.abs_state.specs.Values.{value_at, unknown}
use Rattle.abs_state.specs.Order.{IsByteWithin}
use Rattle.pair_rules.specs.Hulls.{ended_by}
use Rattle.pair_rules.specs.Flash.{pair_permits, flash_known, is_flash}
use Rattle.pair_rules.specs.Values.{doubled_value, z_of, rampz_of}

-- Registers are among r0 to r31, pairs among the 16, and immediate numbers are bytes, as in each row of the instruction table.
abbrev pub HasRegisters : Instr → Type 0
HasRegisters (i.Movw d r) = (d < 16) × (r < 16)
HasRegisters (i.Binary op d r) = (d < 32) × (r < 32)
HasRegisters (i.Immediate op d k) = (d < 32) × (k < 256)
HasRegisters (i.Ldd d b q) = d < 32
HasRegisters (i.Lds d a) = d < 32
HasRegisters (i.Ld d p) = d < 32
HasRegisters (i.LpmZ d) = d < 32
HasRegisters (i.LpmZPlus d) = d < 32
HasRegisters (i.ElpmZ d) = d < 32
HasRegisters (i.ElpmZPlus d) = d < 32
HasRegisters (i.Pop d) = d < 32
HasRegisters (i.Unary op d) = d < 32
HasRegisters (i.Adiw d k) = (d < 16) × (k < 256)
HasRegisters (i.Sbiw d k) = (d < 16) × (k < 256)
HasRegisters (i.In d a) = d < 32
HasRegisters (i.Bld d b) = d < 32
HasRegisters _ = ⊤

-- the value of a byte of flash, as it is read
abbrev pub flash_at : Image → ℕ → AbsByte
flash_at image z = if is_flash image z then flash_known image z else unknown

-- the value is above each byte of flash at a permitted number of the pair, behind the address `from`
abbrev pub CoversFlash : Image → ℕ → PairSet → AbsByte → Type 0
CoversFlash image from p v = (z : ℕ) → z < 65536 → pair_permits p z ≡ true → IsByteWithin (flash_at image (from + z)) v

-- the same, for the bank that RAMPZ chooses if it is known
abbrev pub CoversExtended : Image → AbsState → PairSet → AbsByte → Type 0
CoversExtended image s p v = (bank : ℕ) → rampz_of s ≡ Some bank → CoversFlash image (65536 * bank) p v

abbrev pub CoversDoubled : AbsState → BinaryOp → ℕ → AbsByte → Type 0
CoversDoubled s binary.Add d v = IsByteWithin (doubled_value s d Zero) v
CoversDoubled s binary.Adc d v = IsByteWithin (doubled_value s d (tri_at s.flags.bits 0)) v
CoversDoubled s _ d v = ⊤

-- the register that t sets is above the refined value
abbrev pub CoversTold : Image → AbsState → Instr → AbsState → Type 0
CoversTold image s (i.Binary op d r) t = d ≡ r → CoversDoubled s op d (value_at t.registers d)
CoversTold image s (i.LpmZ d) t = (f : PairFacts) → CoversFlash image 0 (z_of s f) (value_at t.registers d)
CoversTold image s (i.LpmZPlus d) t = (f : PairFacts) → CoversFlash image 0 (z_of s f) (value_at t.registers d)
CoversTold image s i.Lpm t = (f : PairFacts) → CoversFlash image 0 (z_of s f) (value_at t.registers 0)
CoversTold image s (i.ElpmZ d) t = (f : PairFacts) → CoversExtended image s (z_of s f) (value_at t.registers d)
CoversTold image s (i.ElpmZPlus d) t = (f : PairFacts) → CoversExtended image s (z_of s f) (value_at t.registers d)
CoversTold image s i.Elpm t = (f : PairFacts) → CoversExtended image s (z_of s f) (value_at t.registers 0)
CoversTold image s _ t = ⊤

-- t is a state by the plain rules after s: its facts are those of s without the ended ones, and its values are above the refined ones
pub record IsPlain (image : Image) (instr : Instr) (s t : AbsState) : Type 0 where
  pub facts : t.facts ≡ ended_by instr s.facts
  pub value : CoversTold image s instr t
