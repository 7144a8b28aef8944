-- The high byte of an address in the frame: what is read of it holds.
use Rattle.std.proofs.Common.{◌≡◌, refl, ap, subst, ℕ, ◌+◌, ◌<◌, ◌≤◌, ◌&&◌, ◌||◌, nat_le, if◌then◌else◌, Bool, true, false, Option, Some, None, arith, eqb-true, leb-true}
use Rattle.std.proofs.lemmas.Bool.{and_parts}
use Rattle.avr_model.proofs.AllLaws.{devices_are_alike}
use Rattle.avr_model.specs.Devices.{io_end, has_sph}
use Rattle.avr_model.specs.State.{State, register, high, minus16}
use Rattle.bit_domain.specs.TriByte.{byte_constant}
use Rattle.sp_domain.specs.declared.tags.Tag.{Tag}
use Rattle.sp_domain.specs.declared.tags.Tag.TheVariants as tag
use Rattle.sp_domain.specs.Tags.{Origin, TagHolds, is_same_tag}
use Rattle.abs_state.specs.declared.values.AbsByte.{AbsByte}
use Rattle.abs_state.specs.declared.state.AbsState.{AbsState}
use Rattle.abs_state.specs.Stands.{ByteStands}
use Rattle.node_keys.specs.declared.keys.NodeKey.{NodeKey}
use Rattle.node_keys.specs.Keys.{offset_of}
use Rattle.local_rules.specs.HighBytes.{SpView, view_by, is_zero, beside, seen_high}
use Rattle.local_rules.specs.Registers.{value}
use Rattle.local_laws.proofs.Bare.{InBareFrame}
use Rattle.local_laws.proofs.Bits.{constant_is}
use Rattle.local_laws.proofs.Frame.{register_stands}

pub zero_is : (c : Option ℕ) → is_zero c ≡ true → c ≡ Some 0
zero_is None e = absurd (cc)
zero_is (Some n) e = ap Some (eqb-true n 0 e)

pub same_high : (t : Tag) (j : ℕ) → is_same_tag t (tag.SpHi j) ≡ true → t ≡ tag.SpHi j
same_high tag.None j e = absurd (cc)
same_high (tag.Entry r) j e = absurd (cc)
same_high tag.EntryFlags j e = absurd (cc)
same_high (tag.SpLo k) j e = absurd (cc)
same_high (tag.SpHi k) j e = ap tag.SpHi (eqb-true k j e)

-- from the stack pointer up to the base the high byte is 0, if the base is a byte
high_zero : (base offset io n : ℕ) → offset + io ≤ base → base < 256 → n ≤ offset → high (minus16 base n) ≡ 0
high_zero base offset io n room small le = omega arith

beside_holds : (o : Origin) (offset : ℕ) → ((n : ℕ) → n ≤ offset → high (minus16 o.base n) ≡ 0) → (j : Option ℕ) (v : AbsByte) (x : ℕ) → ByteStands o v x
    → TagHolds o (beside offset j v) x
beside_holds o offset zero None v x h = tt
beside_holds o offset zero (Some j) v x h = by (is_same_tag v.tag (tag.SpHi j)) (is_zero (byte_constant v.bits) && nat_le j offset) refl refl
  where
    by : (same none : Bool) → is_same_tag v.tag (tag.SpHi j) ≡ same → (is_zero (byte_constant v.bits) && nat_le j offset) ≡ none
        → TagHolds o (if same || none then tag.SpHi j else tag.None) x
    by true none is is' = subst (λ t. TagHolds o t x) (same_high v.tag j is) h.tag
    by false true is is' =
        let parts = and_parts (is_zero (byte_constant v.bits)) (nat_le j offset) is' in
        let here : x ≡ 0 = constant_is v.bits x 0 (zero_is (byte_constant v.bits) parts.0) h.small h.bits in
        let there : high (minus16 o.base j) ≡ 0 = zero j (leb-true j offset parts.1) in
        omega (arith, here, there)
    by false false is is' = tt

-- what is read of a byte holds of it
pub seen_holds : (o : Origin) (view : SpView) → (view.high ≡ false → (n : ℕ) → n ≤ view.offset → high (minus16 o.base n) ≡ 0) → (j : Option ℕ) (v : AbsByte) (x : ℕ)
    → ByteStands o v x → TagHolds o (seen_high view j v) x
seen_holds o view zero j v x h = by view.high refl
  where
    by : (has_high : Bool) → view.high ≡ has_high → TagHolds o (if has_high then v.tag else beside view.offset j v) x
    by true is = h.tag
    by false is = beside_holds o view.offset (zero is) j v x h

module _ {may : Bool} (m : State) (o : Origin) (k : NodeKey) (s : AbsState) (at : InBareFrame may m o k s) where
  -- without SPH, in the frame the high byte is 0
  pub base_high : has_sph m.device ≡ false → (n : ℕ) → n ≤ offset_of k.sp → high (minus16 o.base n) ≡ 0
  base_high none n le = high_zero o.base (offset_of k.sp) (io_end m.device) n (at.room (at.sees none)) (omega (arith, at.top, devices_are_alike.low_end m.device none)) le

  -- the tag that is read of a register
  pub seen_stands : (j : Option ℕ) (r : ℕ) → TagHolds o (seen_high (view_by m.device k) j (value s r)) (register m r)
  seen_stands j r = seen_holds o (view_by m.device k) base_high j (value s r) (register m r) (register_stands m o k s at r)
