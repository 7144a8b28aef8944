-- The state if one bit of a register is set, or clear.
use Rattle.std.proofs.Common.{◌≡◌, refl, sym, ◌∙◌, ap, subst, ℕ, ◌+◌, ◌*◌, ◌/◌, ◌%◌, ◌<◌, Bool, true, false, Option, Some, None, arith}
use Rattle.std.specs.Prelude.{◌==◌, if◌then◌else◌}
use Rattle.std.specs.Int.{bit_at, from_bool}
use Rattle.std.proofs.lemmas.Bool.{eqb-true, eqb-false}
use Rattle.bit_domain.specs.declared.bytes.TriByte.{TriByte}
use Rattle.bit_domain.specs.Tri.{Permits}
use Rattle.bit_domain.specs.TriByte.{tri_at}
use Rattle.bit_domain.specs.Ranges.{ByteSet}
use Rattle.pair_domain.specs.declared.facts.PairFacts.{PairFacts}
use Rattle.pair_domain.specs.Narrow.{narrow}
use Rattle.pair_domain.specs.PairSets.{PairSet, with_low, with_high}
use Rattle.pair_domain.proofs.AllLaws.{narrowing_cuts}
use Rattle.abs_state.specs.declared.state.AbsState.{AbsState}
use Rattle.abs_state.specs.Values.{value_at}
use Rattle.abs_state.specs.Cuts.{pair_of, cut_known}
use Rattle.pair_cuts.specs.Places.{on_byte}
use Rattle.pair_cuts.specs.Cuts.{bit_known, bytes_by, with_bit, bit_cut}
use Rattle.pair_laws.specs.CutLaws.{BitsAreCut}
use Rattle.pair_laws.proofs.Steps.{with_was}
use Rattle.pair_laws.proofs.Bytes.{IsByteCut, IsByteMonotone, set_through, low_was, high_was}
use Rattle.pair_laws.proofs.Places.{even_half, byte_keeps, byte_leaves, byte_more}
use Rattle.pair_laws.proofs.Flags.{with_on, known_was, known_some, known_has, known_less, known_more, may_more}

-- the byte's set with other bits
abbrev bits_set : ByteSet → TriByte → ByteSet
bits_set b bits = record b { bits = bits }

bytes_was : (x : Option TriByte) (b m : ByteSet) → bytes_by x b ≡ Some m → (bits : TriByte) × ((x ≡ Some bits) × (narrow (bits_set b bits) 0 255 ≡ Some m))
bytes_was None b m e = absurd (cc)
bytes_was (Some bits) b m e = (bits, (refl, e))

bit_was : (bit : ℕ) (on : Bool) (b m : ByteSet) → with_bit bit on b ≡ Some m → Permits (tri_at b.bits bit) (from_bool on) × (narrow (bits_set b (with_on b.bits bit on)) 0 255 ≡ Some m)
bit_was bit on b m e =
    let was = bytes_was (bit_known b.bits bit on) b m e in
    let known = known_was b.bits was.0 bit on was.1.0 in
    (known.0, subst (λ (bits : TriByte). narrow (bits_set b bits) 0 255 ≡ Some m) (sym known.1) was.1.1)

with_bit_cuts : (bit : ℕ) (on : Bool) → bit < 8 → IsByteCut (λ x. bit_at x bit ≡ from_bool on) (with_bit bit on)
with_bit_cuts bit on lt = record {
  keeps = λ b x h is.
      let may : Permits (tri_at b.bits bit) (from_bool on) = subst (Permits (tri_at b.bits bit)) is (h.bits bit lt) in
      let m =
      narrowing_cuts.keeps (bits_set b (with_on b.bits bit on)) 0 255 x (record { bits = known_has b.bits bit on x h.bits is; low = h.low; high = h.high; small = h.small }) (omega arith)
      (omega (arith, h.small)) in
      (m.0, (ap (λ (y : Option TriByte). bytes_by y b) (known_some b.bits bit on may) ∙ m.1.0, m.1.1));
  under = λ b m e.
      let was = bit_was bit on b m e in
      set_through m (bits_set b (with_on b.bits bit on)) b (narrowing_cuts.under (bits_set b (with_on b.bits bit on)) m 0 255 was.1).0
      (record { bits = known_less b.bits bit on was.0; low = omega arith; high = omega arith });
  fits = λ b m fits e. (narrowing_cuts.fits (bits_set b (with_on b.bits bit on)) m 0 255 (omega arith) (bit_was bit on b m e).1).0;
}

with_bit_more : (bit : ℕ) (on : Bool) → bit < 8 → IsByteMonotone (with_bit bit on) (with_bit bit on)
with_bit_more bit on lt b b' m le e =
    let was = bit_was bit on b m e in
    let may = may_more b.bits b'.bits bit (from_bool on) lt le.bits was.0 in
    let n =
    narrowing_cuts.more (bits_set b (with_on b.bits bit on)) (bits_set b' (with_on b'.bits bit on)) m 0 255 0 255 (omega arith)
    (record { bits = known_more b.bits b'.bits bit on le.bits; low = le.low; high = le.high }) (omega arith) (omega arith) was.1 in
    (n.0, (ap (λ (y : Option TriByte). bytes_by y b') (known_some b'.bits bit on may) ∙ n.1.0, n.1.1))

-- if something is left of a pair, the bit of its byte may have this value
module _ (s : AbsState) (f : PairFacts) (r bit : ℕ) (on : Bool) where
  abbrev here : PairSet
  here = pair_of s.registers f.intervals (r / 2)

  abbrev MayAt : ℕ → Type 0
  MayAt k = Permits (tri_at (value_at s.registers k).bits bit) (from_bool on)

  may_by : (even : Bool) → (r % 2 == 0) ≡ even → (p : PairSet) → (if even then with_low here (with_bit bit on here.low) else with_high here (with_bit bit on here.high)) ≡ Some p → MayAt r
  may_by true even p e =
      let was = low_was here p (with_bit bit on here.low) e in
      subst MayAt (even_half r (eqb-true (r % 2) 0 even)) (bit_was bit on here.low was.0 was.1.0).0
  may_by false even p e =
      let was = high_was here p (with_bit bit on here.high) e in
      let ne : r % 2 ≡ 0 → ⊥ = eqb-false (r % 2) 0 even in
      let same : 2 * (r / 2) + 1 ≡ r = omega (arith, ne) in
      subst MayAt same (bit_was bit on here.high was.0 was.1.0).0

bit_may : (r bit : ℕ) (on : Bool) (s t : AbsState) (f : PairFacts) → s.facts ≡ Some f → bit_cut r bit on s ≡ Some t → Permits (tri_at (value_at s.registers r).bits bit) (from_bool on)
bit_may r bit on s t f is e =
    let cut : cut_known (on_byte r (with_bit bit on)) s (r / 2) (Some f) ≡ Some t =
    subst (λ (x : Option PairFacts). cut_known (on_byte r (with_bit bit on)) s (r / 2) x ≡ Some t) is e in
    let was = with_was s t f (r / 2) (on_byte r (with_bit bit on) (pair_of s.registers f.intervals (r / 2))) cut in
    may_by s f r bit on (r % 2 == 0) refl was.0 was.1.0

pub bits_are_cut : BitsAreCut
bits_are_cut = record {
  keeps = λ r bit on m lt small is. byte_keeps (λ x. bit_at x bit ≡ from_bool on) (with_bit bit on) (with_bit_cuts bit on small) r lt m is;
  leaves = λ r bit on lt small. byte_leaves (λ x. bit_at x bit ≡ from_bool on) (with_bit bit on) (with_bit_cuts bit on small) r lt;
  more = λ r bit on lt small. byte_more (λ x. bit_at x bit ≡ from_bool on) (with_bit bit on) (with_bit bit on) (with_bit_cuts bit on small) (with_bit_more bit on small) r lt;
  may = bit_may;
}
