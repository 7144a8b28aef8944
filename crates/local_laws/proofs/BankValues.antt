-- RAMPZ and EIND: the value of a byte that is written to them, and of RAMPZ behind `elpm`, holds.
use Rattle.std.proofs.Common.{◌≡◌, refl, sym, ◌∙◌, ap, subst, ℕ, ◌+◌, ◌*◌, ◌<◌, ◌==◌, Bool, true, false, nat_lt, if◌then◌else◌, Option, Some, None, slice_index, bit_and, min, arith, eqb-true}
use Rattle.std.specs.Int.{bit_at}
use Rattle.std.proofs.lemmas.Bool.Decides.{nat_tests}
use Rattle.std.proofs.lemmas.Nat.Bits.{bit_at-lt, bit_at_and}
use Rattle.abs_alu.proofs.AllLaws.{any_has}
use Rattle.avr_model.proofs.AllLaws.{devices_are_alike}
use Rattle.avr_model.specs.declared.device.Device.{Device}
use Rattle.avr_model.specs.State.{State, RAMPZ, EIND, register, pair, bank_most, kept_of}
use Rattle.avr_model.specs.Effects.{stepped_bank, extended_byte}
use Rattle.bit_domain.specs.declared.bits.Tri.TheVariants.{Zero}
use Rattle.bit_domain.specs.declared.bytes.TriByte.{TriByte}
use Rattle.bit_domain.specs.Lattice.{byte_join}
use Rattle.bit_domain.specs.Tri.{Permits}
use Rattle.bit_domain.specs.TriByte.{Has, tri_at, byte_any, byte_known, byte_constant}
use Rattle.bit_domain.proofs.AllLaws.{bytes_are_sets, lattice_is_of_sets}
use Rattle.sp_domain.specs.declared.tags.Tag.{Tag}
use Rattle.sp_domain.specs.declared.tags.Tag.TheVariants as tag
use Rattle.sp_domain.specs.Tags.{Origin, TagHolds, is_same_tag}
use Rattle.abs_state.specs.declared.values.AbsByte.{AbsByte}
use Rattle.abs_state.specs.declared.state.AbsState.{AbsState}
use Rattle.abs_state.specs.Stands.{ByteStands}
use Rattle.abs_state.proofs.AllLaws.{bits_make_values}
use Rattle.node_keys.specs.declared.keys.NodeKey.{NodeKey}
use Rattle.local_rules.specs.Machine.{AreBanks}
use Rattle.local_rules.specs.Registers.{value, bits, with_bits}
use Rattle.local_rules.specs.Reads.{pair_constant}
use Rattle.local_rules.specs.Permitted.{permits_bytes}
use Rattle.local_rules.specs.Banks.{bank_bits, own_tag, bank_value, stored_value, extended_of, extended_constant, next_bank, joined_bank, stepped_bank as node_bank}
use Rattle.local_laws.proofs.Bare.{InBareFrame}
use Rattle.local_laws.proofs.BankSizes.{stepped_most, IsPlace, low as at_low, rampz as at_rampz, eind as at_eind, kept_most, kept_small, kept_rampz, kept_eind}
use Rattle.local_laws.proofs.Bits.{constant_is}
use Rattle.local_laws.proofs.Frame.{register_stands}
use Rattle.local_laws.proofs.Alu.{register_byte, register_bits}
use Rattle.local_laws.proofs.Permitted.{bytes_permitted}
use Rattle.local_laws.proofs.PointerReads.{pair_constant_is}

-- ---- a byte that is written

pub same_entry : (t : Tag) (r : ℕ) → is_same_tag t (tag.Entry r) ≡ true → t ≡ tag.Entry r
same_entry tag.None r e = absurd (cc)
same_entry (tag.Entry n) r e = ap tag.Entry (eqb-true n r e)
same_entry tag.EntryFlags r e = absurd (cc)
same_entry (tag.SpLo k) r e = absurd (cc)
same_entry (tag.SpHi k) r e = absurd (cc)

-- the bits hold of the number that is kept
pub bank_has : (device : Device) (r : ℕ) (t : TriByte) (x : ℕ) → kept_of device r x ≡ bit_and x (bank_most device r) → Has t x → Has (bank_bits device r t) (kept_of device r x)
bank_has device r t x is h =
    subst (Has (bank_bits device r t)) (sym is)
    (bytes_are_sets.built (λ i. if bit_at (bank_most device r) i == 1 then tri_at t i else Zero) (bit_and x (bank_most device r)) (λ i lt.
    subst (Permits (if bit_at (bank_most device r) i == 1 then tri_at t i else Zero)) (sym (bit_at_and x (bank_most device r) i)) (by i lt (bit_at (bank_most device r) i == 1) refl)))
  where
    one_is : (n : ℕ) → (n == 1) ≡ true → (b : ℕ) → b < 2 → min b n ≡ b
    one_is n e b small = let is : n ≡ 1 = eqb-true n 1 e in omega (arith, is, small)

    none_is : (n : ℕ) → n < 2 → (n == 1) ≡ false → (b : ℕ) → min b n ≡ 0
    none_is n small e b = let is : n ≡ 0 = grind (arith, nat_tests) in omega (arith, is)

    by : (i : ℕ) → i < 8 → (on : Bool) → (bit_at (bank_most device r) i == 1) ≡ on → Permits (if on then tri_at t i else Zero) (min (bit_at x i) (bit_at (bank_most device r) i))
    by i lt true e = subst (Permits (tri_at t i)) (sym (one_is (bit_at (bank_most device r) i) e (bit_at x i) (bit_at-lt x i))) (h i lt)
    by i lt false e = none_is (bit_at (bank_most device r) i) (bit_at-lt (bank_most device r) i) e (bit_at x i)

bank_stands : (device : Device) (o : Origin) (r : ℕ) (v : AbsByte) (x : ℕ) → kept_of device r x ≡ bit_and x (bank_most device r)
    → kept_of device r (slice_index o.registers r) ≡ slice_index o.registers r → ByteStands o v x → ByteStands o (bank_value device r v) (kept_of device r x)
bank_stands device o r v x is kept h =
    bits_make_values.stands o (own_tag r v.tag) (bank_bits device r v.bits) (kept_of device r x) (kept_small device r x h.small) (by (is_same_tag v.tag (tag.Entry r)) refl)
    (bank_has device r v.bits x is h.bits)
  where
    by : (own : Bool) → is_same_tag v.tag (tag.Entry r) ≡ own → TagHolds o (if own then v.tag else tag.None) (kept_of device r x)
    by true e =
        let same = same_entry v.tag r e in
        let entry : x ≡ slice_index o.registers r = subst (λ t. TagHolds o t x) same h.tag in
        subst (λ t. TagHolds o t (kept_of device r x)) (sym same) (ap (kept_of device r) entry ∙ kept)
    by false e = tt

-- what a register holds of a byte that is written by its address
pub stored_stands : (device : Device) (o : Origin) (r : ℕ) (v : AbsByte) (x : ℕ) → AreBanks device o.registers → IsPlace device r → ByteStands o v x
    → ByteStands o (stored_value device r v) (kept_of device r x)
stored_stands device o r v x banks (at_low lt) h =
    let is : nat_lt r 32 ≡ true = grind (arith, nat_tests) in
    subst (λ (b : Bool). ByteStands o (if b then with_bits v.tag v.bits else bank_value device r v) (if b then x else bit_and x (bank_most device r))) (sym is)
    (bits_make_values.stands o v.tag v.bits x h.small h.tag h.bits)
stored_stands device o r v x banks (at_rampz has same) h =
    subst (λ n. ByteStands o (stored_value device n v) (kept_of device n x)) (sym same)
    (bank_stands device o RAMPZ v x refl (kept_rampz device (slice_index o.registers RAMPZ) banks.rampz) h)
stored_stands device o r v x banks (at_eind has same) h =
    subst (λ n. ByteStands o (stored_value device n v) (kept_of device n x)) (sym same)
    (bank_stands device o EIND v x refl (kept_eind device (slice_index o.registers EIND) banks.eind) h)

-- ---- `elpm`

extended_by : (bank z : Option ℕ) (n w x : ℕ) → ((b : ℕ) → bank ≡ Some b → n ≡ b) → ((c : ℕ) → z ≡ Some c → w ≡ c) → extended_of bank z ≡ Some x → 65536 * n + w ≡ x
extended_by None z n w x is is' e = absurd (cc)
extended_by (Some b) None n w x is is' e = absurd (cc)
extended_by (Some b) (Some c) n w x is is' e = let sum : 65536 * b + c ≡ x = cc in omega (arith, is b refl, is' c refl, sum)

module _ {may : Bool} (m : State) (o : Origin) (k : NodeKey) (s : AbsState) (at : InBareFrame may m o k s) where
  rampz_is : (b : ℕ) → byte_constant (bits s RAMPZ) ≡ Some b → register m RAMPZ ≡ b
  rampz_is b e = constant_is (bits s RAMPZ) (register m RAMPZ) b e (register_byte m o k s at RAMPZ) (register_bits m o k s at RAMPZ)

  -- the address of a byte of flash
  pub extended_is : (x : ℕ) → extended_constant s ≡ Some x → extended_byte m ≡ x
  extended_is x e = extended_by (byte_constant (bits s RAMPZ)) (pair_constant s 30) (register m RAMPZ) (pair m 30) x rampz_is (pair_constant_is m o k s at 30) e

  next_has : (c : Option ℕ) → ((b : ℕ) → c ≡ Some b → register m RAMPZ ≡ b) → Has (next_bank m.device c) (kept_of m.device RAMPZ (register m RAMPZ + 1))
  next_has None is = bank_has m.device RAMPZ byte_any (register m RAMPZ + 1) refl (any_has (register m RAMPZ + 1))
  next_has (Some b) is =
      let small : kept_of m.device RAMPZ (b + 1) < 256 = omega (arith, kept_most m.device RAMPZ (b + 1) (omega arith), devices_are_alike.most_rampz m.device) in
      subst (λ n. Has (byte_known (kept_of m.device RAMPZ (b + 1))) (kept_of m.device RAMPZ (n + 1))) (sym (is b refl))
      ((bytes_are_sets.known (kept_of m.device RAMPZ (b + 1)) (kept_of m.device RAMPZ (b + 1)) small small).1 refl)

  abbrev next : TriByte
  next = next_bank m.device (byte_constant (bits s RAMPZ))

  -- the join holds of what was there, and of the next number
  either_has : (last : Bool) → Has (byte_join (bits s RAMPZ) next) (if last then kept_of m.device RAMPZ (register m RAMPZ + 1) else register m RAMPZ)
  either_has true =
      (lattice_is_of_sets.joins (bits s RAMPZ) next).second (kept_of m.device RAMPZ (register m RAMPZ + 1)) kept_byte (next_has (byte_constant (bits s RAMPZ)) rampz_is)
    where
      kept_byte : kept_of m.device RAMPZ (register m RAMPZ + 1) < 256
      kept_byte = omega (arith, kept_most m.device RAMPZ (register m RAMPZ + 1) (omega arith), devices_are_alike.most_rampz m.device)
  either_has false = (lattice_is_of_sets.joins (bits s RAMPZ) next).first (register m RAMPZ) (register_byte m o k s at RAMPZ) (register_bits m o k s at RAMPZ)

  joined_has : (c : Option ℕ) → ((z : ℕ) → c ≡ Some z → pair m 30 ≡ z) → Has (joined_bank c (bits s RAMPZ) next) (stepped_bank m)
  joined_has None is = either_has (pair m 30 == 65535)
  joined_has (Some z) is = subst (λ w. Has (if z == 65535 then next else byte_join (bits s RAMPZ) next) (if w == 65535 then kept_of m.device RAMPZ (register m RAMPZ + 1) else register m RAMPZ)) (sym (is z refl)) (by (z == 65535))
    where
      by : (last : Bool) → Has (if last then next else byte_join (bits s RAMPZ) next) (if last then kept_of m.device RAMPZ (register m RAMPZ + 1) else register m RAMPZ)
      by true = next_has (byte_constant (bits s RAMPZ)) rampz_is
      by false = either_has false

  -- RAMPZ behind `elpm` through Z+
  pub stepped_stands : ByteStands o (node_bank m.device s) (stepped_bank m)
  stepped_stands = by (permits_bytes s 30 65535) refl
    where
      small : stepped_bank m < 256
      small = omega (arith, stepped_most m at.machine, devices_are_alike.most_rampz m.device)

      by : (b : Bool) → permits_bytes s 30 65535 ≡ b
          → ByteStands o (if b then with_bits tag.None (joined_bank (pair_constant s 30) (bits s RAMPZ) next) else value s RAMPZ) (stepped_bank m)
      by true e =
          bits_make_values.stands o tag.None (joined_bank (pair_constant s 30) (bits s RAMPZ) next) (stepped_bank m) small tt
          (joined_has (pair_constant s 30) (pair_constant_is m o k s at 30))
      by false e =
          let apart : (pair m 30 == 65535) ≡ false = not_last (pair m 30 == 65535) refl in
          subst (λ (b : Bool). ByteStands o (value s RAMPZ) (if b then kept_of m.device RAMPZ (register m RAMPZ + 1) else register m RAMPZ)) (sym apart) (register_stands m o k s at RAMPZ)
        where
          not_last : (b : Bool) → (pair m 30 == 65535) ≡ b → b ≡ false
          not_last false is = refl
          not_last true is =
              let last : pair m 30 ≡ 65535 = eqb-true (pair m 30) 65535 is in
              let may_be : permits_bytes s 30 65535 ≡ true = subst (λ w. permits_bytes s 30 w ≡ true) last (bytes_permitted m o k s at 30) in
              absurd (let no = sym may_be ∙ e in cc)
