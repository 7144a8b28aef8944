-- Facts on pairs that survive an instruction hold after its registers and flags are set.
use Rattle.std.proofs.Common.{◌≡◌, ◌≢◌, refl, sym, ◌∙◌, ⊎_elim, ℕ, ◌<◌, ◌==◌, Bool, true, false, not, List, [], ◌∷◌, Contains, arith, eq-eqb}
use Rattle.std.proofs.lemmas.Bool.{or_parts}
use Rattle.std.proofs.lemmas.Bool.Decides.{nat_tests}
use Rattle.basics.specs.Items.{none_in, first_or_further}
use Rattle.avr_model.specs.declared.instruction.Instr.{Instr}
use Rattle.avr_model.specs.declared.instruction.Instr.TheVariants as i
use Rattle.avr_model.specs.declared.instruction.BinaryOp.{BinaryOp}
use Rattle.avr_model.specs.declared.instruction.BinaryOp.TheVariants as binary
use Rattle.avr_model.specs.declared.instruction.ImmediateOp.{ImmediateOp}
use Rattle.avr_model.specs.declared.instruction.ImmediateOp.TheVariants as immediate
use Rattle.avr_model.specs.declared.instruction.UnaryOp.{UnaryOp}
use Rattle.avr_model.specs.declared.instruction.UnaryOp.TheVariants as unary
use Rattle.avr_model.specs.Bits.{with_bit}
use Rattle.avr_model.specs.Sreg.{flag}
use Rattle.avr_model.specs.Written.{written}
use Rattle.avr_model.specs.State.{State}
use Rattle.avr_model.specs.Effects.{effect_of, binary_effect, immediate_effect, unary_effect}
use Rattle.avr_model.specs.Step.{with_registers}
use Rattle.avr_model.specs.Devices.{Image}
use Rattle.avr_decode.proofs.AllLaws.{registers_are_written}
use Rattle.sp_domain.specs.Tags.{Origin}
use Rattle.abs_state.specs.declared.state.AbsState.{AbsState}
use Rattle.abs_state.specs.Laws.{HoldsAt}
use Rattle.abs_state.specs.Ended.{is_one_of}
use Rattle.abs_state.proofs.AllLaws.{writes_end_facts}
use Rattle.node_keys.specs.declared.keys.NodeKey.{NodeKey}
use Rattle.abs_state.specs.FlagsSet.{sets_by_binary, sets_by_immediate, sets_by_unary, sets_flags, carries_by_binary, carries_by_immediate, carries_by_unary, sets_carry}
use Rattle.local_rules.specs.Registers.{before}
use Rattle.local_laws.proofs.Bare.{InBareFrame}
use Rattle.local_rules.specs.Machine.{AreWords}
use Rattle.local_laws.proofs.Alu.{result_carry}
use Rattle.local_laws.proofs.Bits.{with_bit_other}
use Rattle.local_laws.proofs.Bytes.{byte_in_list}
use Rattle.local_laws.proofs.EffectSizes.{row_fits}
use Rattle.local_laws.proofs.Machine.{with_stay}
use Rattle.local_laws.proofs.Sized.{IsInstrSized}

-- ---- flags that are written

apart : (s n : ℕ) → (s == n) ≡ false → n ≢ s
apart s n e same = let hit : (s == n) ≡ true = eq-eqb s n (sym same) in absurd (let no = sym hit ∙ e in cc)

-- a bit that is I keeps C, Z and S
seven : (s n : ℕ) → n < 7 → not (s == 7) ≡ false → n ≢ s
seven s n lt e same = let is : s ≡ 7 = grind (arith, nat_tests) in omega (arith, lt, is, same)

abbrev KeepsFlags : ℕ → ℕ → Type 0
KeepsFlags old new = (flag new 0 ≡ flag old 0) × (flag new 1 ≡ flag old 1) × (flag new 4 ≡ flag old 4)

module _ (image : Image) (still : Bool) (m : State) (b1 b2 : ℕ) where
  binary_carry : (op : BinaryOp) (d r : ℕ) → carries_by_binary op ≡ false → flag (binary_effect image m op d r).sreg 0 ≡ flag m.sreg 0
  binary_carry binary.Cpc d r e = absurd (cc)
  binary_carry binary.Sbc d r e = absurd (cc)
  binary_carry binary.Add d r e = absurd (cc)
  binary_carry binary.Cpse d r e = refl
  binary_carry binary.Cp d r e = absurd (cc)
  binary_carry binary.Sub d r e = absurd (cc)
  binary_carry binary.Adc d r e = absurd (cc)
  binary_carry binary.And d r e = result_carry _ false _ m.sreg
  binary_carry binary.Eor d r e = result_carry _ false _ m.sreg
  binary_carry binary.Or d r e = result_carry _ false _ m.sreg
  binary_carry binary.Mov d r e = refl
  binary_carry binary.Mul d r e = absurd (cc)

  immediate_carry : (op : ImmediateOp) (d n : ℕ) → carries_by_immediate op ≡ false → flag (immediate_effect m op d n).sreg 0 ≡ flag m.sreg 0
  immediate_carry immediate.Cpi d n e = absurd (cc)
  immediate_carry immediate.Sbci d n e = absurd (cc)
  immediate_carry immediate.Subi d n e = absurd (cc)
  immediate_carry immediate.Ori d n e = result_carry _ false _ m.sreg
  immediate_carry immediate.Andi d n e = result_carry _ false _ m.sreg
  immediate_carry immediate.Ldi d n e = refl

  unary_carry : (op : UnaryOp) (d : ℕ) → carries_by_unary op ≡ false → flag (unary_effect m op d).sreg 0 ≡ flag m.sreg 0
  unary_carry unary.Com d e = absurd (cc)
  unary_carry unary.Neg d e = absurd (cc)
  unary_carry unary.Swap d e = refl
  unary_carry unary.Inc d e = result_carry _ _ _ m.sreg
  unary_carry unary.Asr d e = absurd (cc)
  unary_carry unary.Lsr d e = absurd (cc)
  unary_carry unary.Ror d e = absurd (cc)
  unary_carry unary.Dec d e = result_carry _ _ _ m.sreg

  carry_kept : (instr : Instr) → sets_carry instr ≡ false → flag (effect_of image still m instr b1 b2).sreg 0 ≡ flag m.sreg 0
  carry_kept (i.Muls d r) e = absurd (cc)
  carry_kept (i.Mulsu d r) e = absurd (cc)
  carry_kept (i.Fmul d r) e = absurd (cc)
  carry_kept (i.Fmuls d r) e = absurd (cc)
  carry_kept (i.Fmulsu d r) e = absurd (cc)
  carry_kept (i.Binary op d r) e = binary_carry op d r e
  carry_kept (i.Immediate op d n) e = immediate_carry op d n e
  carry_kept (i.Unary op d) e = unary_carry op d e
  carry_kept (i.Adiw d n) e = absurd (cc)
  carry_kept (i.Sbiw d n) e = absurd (cc)
  carry_kept (i.Bset s) e = with_bit_other m.sreg s true 0 (omega arith) (apart s 0 e)
  carry_kept (i.Bclr s) e = with_bit_other m.sreg s false 0 (omega arith) (apart s 0 e)
  carry_kept (i.Bst d b) e = with_bit_other m.sreg 6 _ 0 (omega arith) (λ same. omega arith)
  carry_kept i.Reti e = with_bit_other m.sreg 7 true 0 (omega arith) (λ same. omega arith)
  carry_kept instr e = refl

  binary_flags : (op : BinaryOp) (d r : ℕ) → sets_by_binary op ≡ false → KeepsFlags m.sreg (binary_effect image m op d r).sreg
  binary_flags binary.Cpc d r e = absurd (cc)
  binary_flags binary.Sbc d r e = absurd (cc)
  binary_flags binary.Add d r e = absurd (cc)
  binary_flags binary.Cpse d r e = (refl, refl, refl)
  binary_flags binary.Cp d r e = absurd (cc)
  binary_flags binary.Sub d r e = absurd (cc)
  binary_flags binary.Adc d r e = absurd (cc)
  binary_flags binary.And d r e = absurd (cc)
  binary_flags binary.Eor d r e = absurd (cc)
  binary_flags binary.Or d r e = absurd (cc)
  binary_flags binary.Mov d r e = (refl, refl, refl)
  binary_flags binary.Mul d r e = absurd (cc)

  immediate_flags : (op : ImmediateOp) (d n : ℕ) → sets_by_immediate op ≡ false → KeepsFlags m.sreg (immediate_effect m op d n).sreg
  immediate_flags immediate.Cpi d n e = absurd (cc)
  immediate_flags immediate.Sbci d n e = absurd (cc)
  immediate_flags immediate.Subi d n e = absurd (cc)
  immediate_flags immediate.Ori d n e = absurd (cc)
  immediate_flags immediate.Andi d n e = absurd (cc)
  immediate_flags immediate.Ldi d n e = (refl, refl, refl)

  unary_flags : (op : UnaryOp) (d : ℕ) → sets_by_unary op ≡ false → KeepsFlags m.sreg (unary_effect m op d).sreg
  unary_flags unary.Com d e = absurd (cc)
  unary_flags unary.Neg d e = absurd (cc)
  unary_flags unary.Swap d e = (refl, refl, refl)
  unary_flags unary.Inc d e = absurd (cc)
  unary_flags unary.Asr d e = absurd (cc)
  unary_flags unary.Lsr d e = absurd (cc)
  unary_flags unary.Ror d e = absurd (cc)
  unary_flags unary.Dec d e = absurd (cc)

  bit_flags : (s : ℕ) (on : Bool) → not (s == 7) ≡ false → KeepsFlags m.sreg (with_bit m.sreg s on)
  bit_flags s on e =
      (with_bit_other m.sreg s on 0 (omega arith) (seven s 0 (omega arith) e), with_bit_other m.sreg s on 1 (omega arith) (seven s 1 (omega arith) e), with_bit_other m.sreg s on 4 (omega arith) (seven s 4 (omega arith) e))

  flags_kept : (instr : Instr) → sets_flags instr ≡ false → KeepsFlags m.sreg (effect_of image still m instr b1 b2).sreg
  flags_kept (i.Muls d r) e = absurd (cc)
  flags_kept (i.Mulsu d r) e = absurd (cc)
  flags_kept (i.Fmul d r) e = absurd (cc)
  flags_kept (i.Fmuls d r) e = absurd (cc)
  flags_kept (i.Fmulsu d r) e = absurd (cc)
  flags_kept (i.Binary op d r) e = binary_flags op d r e
  flags_kept (i.Immediate op d n) e = immediate_flags op d n e
  flags_kept (i.Unary op d) e = unary_flags op d e
  flags_kept (i.Adiw d n) e = absurd (cc)
  flags_kept (i.Sbiw d n) e = absurd (cc)
  flags_kept (i.Bset s) e = bit_flags s true e
  flags_kept (i.Bclr s) e = bit_flags s false e
  flags_kept (i.Bst d b) e = absurd (cc)
  flags_kept i.Reti e = bit_flags 7 true refl
  flags_kept instr e = (refl, refl, refl)

-- ---- registers that are written

not_among : (ns : List ℕ) (r : ℕ) → is_one_of ns r ≡ false → Contains ns r → ⊥
not_among [] r e h = none_in r h
not_among (n ∷ ns) r e h =
    let parts = or_parts (n == r) (is_one_of ns r) e in
    ⊎_elim (λ same. let hit : (n == r) ≡ true = eq-eqb n r (sym same) in absurd (let no = sym hit ∙ parts.0 in cc)) (λ more. not_among ns r parts.1 more) (first_or_further n r ns h)

pub held : {may : Bool} (image : Image) (still : Bool) (m : State) (o : Origin) (k : NodeKey) (s : AbsState) (b1 b2 : ℕ) (instr : Instr) → AreWords image → b1 < 256 → b2 < 256 → IsInstrSized instr → InBareFrame may m o k s
    → HoldsAt (before instr s).facts (with_registers m.registers (effect_of image still m instr b1 b2).registers) (effect_of image still m instr b1 b2).sreg
held image still m o k s b1 b2 instr are small1 small2 sized at =
    let e = effect_of image still m instr b1 b2 in
    let fits = row_fits m at.machine image are still b1 b2 small1 small2 instr sized in
    let bytes = with_stay e.registers m.registers fits.registers (record { count = at.machine.count_registers; each = at.machine.register_bytes }) in
    writes_end_facts.holds (is_one_of (written instr)) (sets_flags instr) (sets_carry instr) s.facts m.registers (with_registers m.registers e.registers) m.sreg e.sreg
    (record {
      kept = λ r other. registers_are_written.others_stay image still m instr b1 b2 r (not_among (written instr) r other);
      bytes = λ r lt. byte_in_list (with_registers m.registers e.registers) r bytes.each;
    }) (record { carry_kept = carry_kept image still m b1 b2 instr; others_kept = flags_kept image still m b1 b2 instr }) at.facts
