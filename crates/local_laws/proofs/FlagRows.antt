-- Rows that set one flag or one bit.
use Rattle.std.proofs.Common.{◌≡◌, refl, sym, ap, subst, ℕ, ◌%◌, ◌≢◌, ◌==◌, Bool, true, false, not, ◌&&◌, if◌then◌else◌, [], arith}
use Rattle.std.specs.Int.{from_bool}
use Rattle.std.proofs.lemmas.Bool.Decides.{nat_tests}
use Rattle.avr_model.specs.Bits.{with_bit}
use Rattle.avr_model.specs.Sreg.{flag}
use Rattle.avr_model.specs.State.{State, register, t_flag, i_flag}
use Rattle.avr_model.specs.Effects.{setting, set, flag_effect}
use Rattle.bit_domain.specs.Tri.{Permits}
use Rattle.bit_domain.specs.TriByte.{tri_at, byte_with}
use Rattle.sp_domain.specs.declared.tags.Tag.TheVariants as tag
use Rattle.sp_domain.specs.declared.tags.CarryTag.TheVariants as carry_tag
use Rattle.sp_domain.specs.Tags.{Origin, CarryHolds, LessHolds}
use Rattle.abs_state.specs.declared.state.AbsState.{AbsState}
use Rattle.abs_state.specs.Values.{untagged}
use Rattle.abs_state.specs.Stands.{FlagsStand}
use Rattle.node_keys.specs.declared.keys.NodeKey.{NodeKey}
use Rattle.local_rules.specs.Raw.{next, setting as node_setting}
use Rattle.local_rules.specs.Registers.{bits, set as node_set, with_carry, interrupts_row, tri_of_bool, carry_tag_at, flag_row}
use Rattle.local_laws.proofs.Bare.{InBareFrame}
use Rattle.local_laws.proofs.Landing.{FollowsWhere}
use Rattle.abs_state.proofs.AllLaws.{bits_make_values, entry_same, has_flags}
use Rattle.local_laws.proofs.Less.{Spares}
use Rattle.local_laws.proofs.Bits.{with_bit_small, with_bit_7_low, with_bit_other, with_bit_same, has_with, permits_flag}
use Rattle.local_laws.proofs.Frame.{only, same_frame, sets, next_is}
use Rattle.local_laws.proofs.Alu.{register_bits, moves}
use Rattle.local_rules.specs.Site.{site_at}

tri_may : (on : Bool) → Permits (tri_of_bool on) (from_bool on)
tri_may true = refl
tri_may false = refl

module _ {may : Bool} (m : State) (o : Origin) (k : NodeKey) (s : AbsState) (at : InBareFrame may m o k s) where
  -- only the key has I
  pub flags_but_i : (sreg : ℕ) → sreg % 128 ≡ m.sreg % 128 → flag sreg 0 ≡ flag m.sreg 0 → FlagsStand o s.flags sreg
  flags_but_i sreg same carry =
      record {
        entry = entry_same o s.flags.entry m.sreg sreg same at.stands.flags.entry;
        bits = has_flags s.flags.bits m.sreg sreg at.node.formed.bit_7 (sym same) at.stands.flags.bits;
        carry = subst (CarryHolds o s.flags.carry) (sym carry) at.stands.flags.carry;
      }

  pub with_i_stands : (on : Bool) → FlagsStand o s.flags (with_bit m.sreg 7 on)
  with_i_stands on = flags_but_i (with_bit m.sreg 7 on) (with_bit_7_low m.sreg on) (with_bit_other m.sreg 7 on 0 (omega arith) (λ e. omega arith))

  with_i_less : (on : Bool) → LessHolds m.registers s.flags.carry (flag (with_bit m.sreg 7 on) 0)
  with_i_less on = subst (LessHolds m.registers s.flags.carry) (sym (with_bit_other m.sreg 7 on 0 (omega arith) (λ e. omega arith))) at.stands.less

  module _ (guarded : Bool) (b1 b2 : ℕ) where
    interrupts_covered : (on : Bool) → FollowsWhere may m o s.facts k guarded b1 b2 (flag_effect m 7 on) (interrupts_row (site_at m.device k s) on)
    interrupts_covered true =
        only m o k s at guarded b1 b2 (flag_effect m 7 true) (record { key = record (next m.device k) { i = true; delay = not k.i }; state = s }) refl
        (same_frame m o k s at guarded (flag_effect m 7 true) (record { key = record (next m.device k) { i = true; delay = not k.i }; state = s }) refl refl refl refl refl
        (next_is m o k s at) at.place.enables (with_bit_same m.sreg 7 true (omega arith)) (ap not at.place.i) at.stands.registers (with_i_stands true) (with_i_less true) (λ held. held))
    interrupts_covered false =
        only m o k s at guarded b1 b2 (flag_effect m 7 false) (record { key = record (next m.device k) { i = false }; state = s }) refl
        (same_frame m o k s at guarded (flag_effect m 7 false) (record { key = record (next m.device k) { i = false }; state = s }) refl refl refl refl refl
        (next_is m o k s at) at.place.enables (with_bit_same m.sreg 7 false (omega arith)) refl at.stands.registers (with_i_stands false) (with_i_less false) (λ held. held))

    carry_at : (n : ℕ) (on none : Bool) → (n == 0) ≡ none → CarryHolds o (if none then carry_tag.None else s.flags.carry) (flag (with_bit m.sreg n on) 0)
    carry_at n on true e = tt
    carry_at n on false e =
        let ne : 0 ≢ n = grind (arith, nat_tests) in
        subst (CarryHolds o s.flags.carry) (sym (with_bit_other m.sreg n on 0 (omega arith) ne)) at.stands.flags.carry

    less_at : (n : ℕ) (on none : Bool) → (n == 0) ≡ none → LessHolds m.registers (if none then carry_tag.None else s.flags.carry) (flag (with_bit m.sreg n on) 0)
    less_at n on true e = tt
    less_at n on false e =
        let ne : 0 ≢ n = grind (arith, nat_tests) in
        subst (LessHolds m.registers s.flags.carry) (sym (with_bit_other m.sreg n on 0 (omega arith) ne)) at.stands.less

    flag_by : (n : ℕ) (on is_i : Bool) → (n == 7) ≡ is_i
        → FollowsWhere may m o s.facts k guarded b1 b2 (record (setting m [] (with_bit m.sreg n on)) { delay = is_i && on && not (i_flag m) })
        (if is_i then interrupts_row (site_at m.device k s) on else node_setting (site_at m.device k s) s.registers (with_carry (byte_with s.flags.bits n (tri_of_bool on)) (carry_tag_at s n)))
    flag_by n on true e =
        let is : 7 ≡ n = grind (arith, nat_tests) in
        subst (λ x. FollowsWhere may m o s.facts k guarded b1 b2 (record (setting m [] (with_bit m.sreg x on)) { delay = true && on && not (i_flag m) }) (interrupts_row (site_at m.device k s) on)) is (interrupts_covered on)
    flag_by n on false e =
        let ne : 7 ≢ n = grind (arith, nat_tests) in
        sets m o k s at guarded b1 b2 [] (with_bit m.sreg n on) s.registers (with_carry (byte_with s.flags.bits n (tri_of_bool on)) (carry_tag_at s n))
        (with_bit_other m.sreg n on 7 (omega arith) ne) at.stands.registers
        (record { entry = tt; bits = has_with s.flags.bits m.sreg n (tri_of_bool on) on at.stands.flags.bits (tri_may on); carry = carry_at n on (n == 0) refl })
        (less_at n on (n == 0) refl)

    pub flag_covered : (n : ℕ) (on : Bool) → FollowsWhere may m o s.facts k guarded b1 b2 (flag_effect m n on) (flag_row (site_at m.device k s) n on)
    flag_covered n on = flag_by n on (n == 7) refl

    pub bld_covered : (d b : ℕ) → Spares s.flags.carry d
        → FollowsWhere may m o s.facts k guarded b1 b2 (setting m (set d (with_bit (register m d) b (t_flag m))) m.sreg) (node_setting (site_at m.device k s) (node_set s d (untagged (byte_with (bits s d) b (tri_at s.flags.bits 6)))) s.flags)
    bld_covered d b spare =
        moves m o k s at guarded b1 b2 d (with_bit (register m d) b (t_flag m)) (untagged (byte_with (bits s d) b (tri_at s.flags.bits 6)))
        (bits_make_values.stands o tag.None (byte_with (bits s d) b (tri_at s.flags.bits 6)) (with_bit (register m d) b (t_flag m)) (with_bit_small (register m d) b (t_flag m)) tt
        (has_with (bits s d) (register m d) b (tri_at s.flags.bits 6) (t_flag m) (register_bits m o k s at d) (permits_flag s.flags.bits m.sreg 6 at.stands.flags.bits))) spare

    pub bst_covered : (d b : ℕ)
        → FollowsWhere may m o s.facts k guarded b1 b2 (setting m [] (with_bit m.sreg 6 (flag (register m d) b))) (node_setting (site_at m.device k s) s.registers (with_carry (byte_with s.flags.bits 6 (tri_at (bits s d) b)) s.flags.carry))
    bst_covered d b =
        sets m o k s at guarded b1 b2 [] (with_bit m.sreg 6 (flag (register m d) b)) s.registers (with_carry (byte_with s.flags.bits 6 (tri_at (bits s d) b)) s.flags.carry)
        (with_bit_other m.sreg 6 (flag (register m d) b) 7 (omega arith) (λ e. omega arith)) at.stands.registers
        (record {
          entry = tt;
          bits = has_with s.flags.bits m.sreg 6 (tri_at (bits s d) b) (flag (register m d) b) at.stands.flags.bits (permits_flag (bits s d) (register m d) b (register_bits m o k s at d));
          carry = subst (CarryHolds o s.flags.carry) (sym (with_bit_other m.sreg 6 (flag (register m d) b) 0 (omega arith) (λ e. omega arith))) at.stands.flags.carry;
        })
        (subst (LessHolds m.registers s.flags.carry) (sym (with_bit_other m.sreg 6 (flag (register m d) b) 0 (omega arith) (λ e. omega arith))) at.stands.less)
