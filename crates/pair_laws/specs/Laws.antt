-- Laws of the transfer functions of the pair domain.
use Rattle.std.specs.Prelude.{ℕ, ◌+◌, ◌*◌, ◌≡◌, ◌<◌, Bool, true, false, List, length, Some, slice_index}
use Rattle.std.specs.List.{All}
use Rattle.avr_model.specs.declared.device.Device.{Device}
use Rattle.avr_model.specs.declared.instruction.Instr.{Instr}
use Rattle.avr_model.specs.Sites.{instruction_at}
use Rattle.avr_model.specs.State.{State, REGISTERS}
use Rattle.avr_model.specs.Effects.{effect_of}
use Rattle.avr_model.specs.Step.{with_registers}
use Rattle.avr_model.specs.Written.{written}
use Rattle.avr_model.specs.Devices.{Image}
use Rattle.bit_domain.specs.declared.bits.Tri.{Tri}
use Rattle.bit_domain.specs.declared.bytes.TriByte.{TriByte}
use Rattle.bit_domain.specs.TriByte.{byte_constant}
use Rattle.sp_domain.specs.Tags.{Origin}
use Rattle.sp_domain.specs.declared.tags.Tag.{Tag}
use Rattle.sp_domain.specs.declared.tags.Tag.TheVariants as tag
use Rattle.pair_domain.specs.PairSets.{PairSet, PairStands}
use Rattle.abs_alu.specs.Sums.{abs_add}
use Rattle.abs_state.specs.declared.state.AbsState.{AbsState}
use Rattle.abs_state.specs.Values.{value_at, set_of, untagged, unknown, with_bits}
use Rattle.abs_state.specs.Stands.{FlagsStand, RegistersStand}
use Rattle.abs_state.specs.Order.{IsByteWithin, IsStateWithin}
use Rattle.abs_state.specs.Formed.{IsFormed, IsUntagged, TagsFit}
use Rattle.abs_state.specs.Laws.{HoldsAt}
use Rattle.abs_state.specs.Ended.{is_one_of}
use Rattle.abs_state.specs.Hulls.{IsInHulls}
use Rattle.abs_state.specs.Banks.{IsStateWith}
use Rattle.pair_rules.specs.Hulls.{ended_by}
use Rattle.pair_rules.specs.Flash.{pair_permits}
use Rattle.pair_rules.specs.Fits.{HasRegisters, flash_at, CoversFlash, IsPlain}
use Rattle.pair_rules.specs.Refined.{refined}
use Rattle.pair_rules.specs.Values.{doubled}

abbrev pub AreRegisterBytes : List ℕ → Type 0
AreRegisterBytes registers = (r : ℕ) → slice_index registers r < 256

-- the registers and the status register after an instruction, before a byte is stored
abbrev pub registers_set : Image → Bool → State → Instr → ℕ → ℕ → List ℕ
registers_set image still m instr b1 b2 = with_registers m.registers (effect_of image still m instr b1 b2).registers

abbrev pub sreg_set : Image → Bool → State → Instr → ℕ → ℕ → ℕ
sreg_set image still m instr b1 b2 = (effect_of image still m instr b1 b2).sreg

-- ---- what laws of the rows ask for

-- the registers of each instruction of a program are among the 32
pub record OperandsFit : Type 0 where
  pub fit : (image : Image) (pc : ℕ) (instr : Instr) → instruction_at image pc ≡ Some instr → HasRegisters instr

-- The plain sum of a byte with itself is above the doubled byte. A plain read of flash is above each byte at a permitted number of the
-- pair.
pub record ValuesAreCovered : Type 0 where
  pub doubled : (bits flags : TriByte) (carry : Tri) → IsByteWithin (untagged (doubled bits carry)) (with_bits tag.None (abs_add bits bits carry flags).0)
  pub constant : (image : Image) (from : ℕ) (p : PairSet) (x y : ℕ) → byte_constant p.low.bits ≡ Some x → byte_constant p.high.bits ≡ Some y
      → CoversFlash image from p (flash_at image (from + (x + 256 * y)))
  pub unknown : (image : Image) (from : ℕ) (p : PairSet) → CoversFlash image from p unknown
  pub permits : (p : PairSet) (x y : ℕ) → PairStands p x y → pair_permits p (x + 256 * y) ≡ true

-- ---- refined states

-- the state holds of the machine before the instruction
pub record IsBefore (o : Origin) (s : AbsState) (m : State) : Type 0 where
  pub count : length m.registers ≡ REGISTERS
  pub bytes : AreRegisterBytes m.registers
  pub registers : RegistersStand o s.registers m.registers
  pub flags : FlagsStand o s.flags m.sreg
  pub facts : HoldsAt s.facts m.registers m.sreg

-- the plain state holds after the instruction, before a byte is stored
pub record IsBehind (o : Origin) (t : AbsState) (rs : List ℕ) (sreg : ℕ) : Type 0 where
  pub registers : RegistersStand o t.registers rs
  pub facts : HoldsAt t.facts rs sreg

-- flags and slots are the same
pub record IsLike (t u : AbsState) : Type 0 where
  pub flags : u.flags ≡ t.flags
  pub slots : u.slots ≡ t.slots

-- If the state before the instruction and the plain one after it hold, the refined one exists and holds.
pub record RefinedHolds : Type 0 where
  pub holds : (marks : List ℕ) (image : Image) (still : Bool) (o : Origin) (m : State) (instr : Instr) (b1 b2 n k : ℕ) (s t : AbsState) → All (λ w. w < 65536) image.words
      → HasRegisters instr → IsFormed s n → IsFormed t k → IsBefore o s m → IsBehind o t (registers_set image still m instr b1 b2) (sreg_set image still m instr b1 b2)
      → (u : AbsState) × (refined marks image instr s t ≡ Some u) × IsBehind o u (registers_set image still m instr b1 b2) (sreg_set image still m instr b1 b2)

-- The refined state is within the plain one, with the same flags and slots. It is monotone, and formed if the plain one is.
pub record RefinedIsOrdered : Type 0 where
  pub like : (marks : List ℕ) (image : Image) (instr : Instr) (s t u : AbsState) → refined marks image instr s t ≡ Some u → IsLike t u
  pub under : (marks : List ℕ) (image : Image) (instr : Instr) (n k : ℕ) (s t u : AbsState) → HasRegisters instr → IsFormed s n → IsFormed t k
      → IsPlain image instr s t → refined marks image instr s t ≡ Some u → IsStateWithin u t
  pub more : (marks : List ℕ) (image : Image) (instr : Instr) (n k : ℕ) (s s' t t' u : AbsState) → HasRegisters instr → IsFormed s n → IsFormed s' n → IsFormed t k
      → IsFormed t' k → IsPlain image instr s t → IsPlain image instr s' t' → IsStateWithin s s' → IsStateWithin t t' → refined marks image instr s t ≡ Some u
      → (u' : AbsState) × (refined marks image instr s' t' ≡ Some u') × IsStateWithin u u'
  pub formed : (marks : List ℕ) (image : Image) (instr : Instr) (n k : ℕ) (s t u : AbsState) → HasRegisters instr → IsFormed s n → IsFormed t k
      → refined marks image instr s t ≡ Some u → IsFormed u k
  pub tags : (marks : List ℕ) (image : Image) (instr : Instr) (n k : ℕ) (s t u : AbsState) → HasRegisters instr → IsFormed s n → IsFormed t k → TagsFit t
      → refined marks image instr s t ≡ Some u → TagsFit u
  pub untagged : (marks : List ℕ) (image : Image) (instr : Instr) (n k : ℕ) (s t u : AbsState) → HasRegisters instr → IsFormed s n → IsFormed t k → IsUntagged t
      → refined marks image instr s t ≡ Some u → IsUntagged u
  pub of : (good : Tag → Bool) (device : Device) (is_root : Bool) (marks : List ℕ) (image : Image) (instr : Instr) (n k : ℕ) (s t u : AbsState) → good tag.None ≡ true
      → HasRegisters instr → IsFormed s n → IsFormed t k → IsStateWith good device is_root t → refined marks image instr s t ≡ Some u → IsStateWith good device is_root u
  -- registers that are not written keep their sets
  pub hulls : (marks : List ℕ) (image : Image) (instr : Instr) (n k : ℕ) (s t u : AbsState) → HasRegisters instr → IsFormed s n → IsFormed t k
      → t.facts ≡ ended_by instr s.facts
      → ((r : ℕ) → r < 32 → is_one_of (written instr) r ≡ false → set_of (value_at t.registers r) ≡ set_of (value_at s.registers r)) → IsInHulls s
      → refined marks image instr s t ≡ Some u → IsInHulls u
