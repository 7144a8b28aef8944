-- The splits are what writing the members of the byte leaves.
use Rattle.std.proofs.Common.{◌≡◌, ◌∙◌, sym, ap, subst, refl, inl, inr, ℕ, zero, suc, ◌+◌, ◌-◌, ◌^◌, ◌<◌, ◌==◌, ◌&&◌, ◌||◌, arith, Bool, true, false, cond, Option, Some, None}
use Rattle.std.specs.Prelude.{Contains}
use Rattle.std.specs.Int.{bit_at, from_bool}
use Rattle.std.proofs.lemmas.Bool.{cases_Bool, cases_eq}
use Rattle.std.proofs.lemmas.Nat.Bits.{bit_at-lt}
use Rattle.avr_model.specs.declared.device.Device.{Device}
use Rattle.avr_model.specs.declared.rows.EnablePlace.{EnablePlace}
use Rattle.avr_model.specs.Vectors.{enable_count, is_sticky, has_common, has_enables, enable_place_at, enable_of, written_enable, written_enables}
use Rattle.avr_model.specs.Bits.{number_of}
use Rattle.bit_domain.specs.declared.bits.Tri.{Tri}
use Rattle.bit_domain.specs.declared.bits.Tri.TheVariants.{Zero, One, Any}
use Rattle.bit_domain.specs.declared.bytes.TriByte.{TriByte}
use Rattle.bit_domain.specs.Tri.{Permits, tri_bit}
use Rattle.bit_domain.specs.TriByte.{tri_at, Has, IsWithin}
use Rattle.bit_domain.specs.Numbers.{IsPermitted}
use Rattle.bit_domain.proofs.AllLaws.{numbers_are_permitted, permits-tri_bit}
use Rattle.vector_table.proofs.AllLaws.{numbers_are_their_bits, enables_are_vectors, common_at}
use Rattle.node_keys.specs.Splits.{is_one, common_tri, enable_in, enable_tri, splits, IsWritten}
use Rattle.node_keys.specs.Laws.{SplitsAreWrites}
use Rattle.node_keys.proofs.Commons.{some_one, some_any, by_tests, one_there, any_there, not_one, zero_there, no_common, common_permits}
use Rattle.node_keys.proofs.Few.{few_splits}
use Rattle.node_keys.proofs.Steps.{left, left_first, left_all, left_known}

-- ---- known bits

permits_alone : (b c : ℕ) → b < 2 → Permits (tri_bit b) c → c ≡ b
permits_alone zero c h p = p
permits_alone (suc zero) c h p = p
permits_alone (suc (suc b)) c h p = absurd (omega arith)

or_true : (b : Bool) → from_bool (b || true) ≡ 1
or_true true = refl
or_true false = refl

or_false : (b : Bool) → (b || false) ≡ b
or_false true = refl
or_false false = refl

-- ---- a member's write is a split

permits_written : (value : TriByte) (byte old : ℕ) (o : Option EnablePlace) → Has value byte → old < 2
    → Permits (enable_in o value old) (written_enable o byte old)
permits_written value byte old None has small = permits-tri_bit old small
permits_written value byte old (Some p) has small = by (is_sticky p.enable && (old == 1)) refl
  where
    by : (s : Bool) → (is_sticky p.enable && (old == 1)) ≡ s
        → Permits (enable_in (Some p) value old) (from_bool (has_common byte p.mask || (is_sticky p.enable && (old == 1))))
    by true e = rw e (or_true (has_common byte p.mask))
    by false e = rw e (subst (λ (b : Bool). Permits (common_tri value p.mask) (from_bool b)) (sym (or_false (has_common byte p.mask))) (common_permits value p.mask byte has))

from_written : (d : Device) (m address : ℕ) (value : TriByte) (n : ℕ) → IsWritten d m address value n → IsPermitted (enable_tri d m address value) (enable_count d) n
unfolding enable_tri
from_written d m address value n w = record {
  small = subst (λ (x : ℕ). x < 2 ^ enable_count d) (sym w.left) (enables_are_vectors.written d m address w.byte);
  bits = λ k lt.
      subst (Permits (enable_in (enable_place_at d (k + 2) address) value (bit_at m k)))
      (sym (ap (λ (x : ℕ). bit_at x k) w.left ∙ enables_are_vectors.bit_written d m address w.byte k lt))
      (permits_written value w.byte (bit_at m k) (enable_place_at d (k + 2) address) w.member (bit_at-lt m k));
}

-- ---- a split is the write of some member: of the byte whose unknown bits are the enable bits of the split, and else 0

abbrev bit_of : Option ℕ → ℕ → ℕ
bit_of None n = 0
bit_of (Some v) n = bit_at n (v - 2)

abbrev picked : Tri → Option ℕ → ℕ → ℕ
picked Zero o n = 0
picked One o n = 1
picked Any o n = bit_of o n

of_small : (o : Option ℕ) (n : ℕ) → bit_of o n < 2
of_small None n = omega arith
of_small (Some v) n = bit_at-lt n (v - 2)

picked_small : (t : Tri) (o : Option ℕ) (n : ℕ) → picked t o n < 2
picked_small Zero o n = omega arith
picked_small One o n = omega arith
picked_small Any o n = of_small o n

has_picked : (t : Tri) (o : Option ℕ) (n : ℕ) → Permits t (picked t o n)
has_picked Zero o n = refl
has_picked One o n = refl
has_picked Any o n = tt

abbrev bit_for : Device → ℕ → TriByte → ℕ → ℕ → ℕ
bit_for d address value n b = picked (tri_at value b) (enable_of d address b) n

abbrev byte_for : Device → ℕ → TriByte → ℕ → ℕ
byte_for d address value n = number_of 8 (bit_for d address value n)

bits_small : (d : Device) (address : ℕ) (value : TriByte) (n b : ℕ) → b < 8 → bit_for d address value n b < 2
bits_small d address value n b lt = picked_small (tri_at value b) (enable_of d address b) n

bit_is : (d : Device) (address : ℕ) (value : TriByte) (n b : ℕ) → b < 8 → bit_at (byte_for d address value n) b ≡ bit_for d address value n b
bit_is d address value n b lt = numbers_are_their_bits.bits 8 (bit_for d address value n) (bits_small d address value n) b lt

less_two : (k : ℕ) → k + 2 - 2 ≡ k
less_two k = omega arith

-- an unknown bit of a place's mask is the split's enable bit
any_is : (d : Device) (address : ℕ) (value : TriByte) (n k b : ℕ) (p : EnablePlace) → b < 8 → enable_place_at d (k + 2) address ≡ Some p → bit_at p.mask b ≡ 1 → tri_at value b ≡ Any
    → bit_at (byte_for d address value n) b ≡ bit_at n k
any_is d address value n k b p lt is one any =
    bit_is d address value n b lt
    ∙ (λ i. picked (any i) (enables_are_vectors.enabled d (k + 2) address b p lt is one i) n)
    ∙ ap (bit_at n) (less_two k)

one_is : (d : Device) (address : ℕ) (value : TriByte) (n b : ℕ) → b < 8 → tri_at value b ≡ One → bit_at (byte_for d address value n) b ≡ 1
one_is d address value n b lt is = bit_is d address value n b lt ∙ ap (λ (t : Tri). picked t (enable_of d address b) n) is

zero_is : (d : Device) (address : ℕ) (value : TriByte) (n b : ℕ) → b < 8 → tri_at value b ≡ Zero → bit_at (byte_for d address value n) b ≡ 0
zero_is d address value n b lt is = bit_is d address value n b lt ∙ ap (λ (t : Tri). picked t (enable_of d address b) n) is

none_is_one : (d : Device) (address : ℕ) (value : TriByte) (n k b : ℕ) (p : EnablePlace) → b < 8 → enable_place_at d (k + 2) address ≡ Some p → bit_at p.mask b ≡ 1 → bit_at n k ≡ 0
    → (t : Tri) → tri_at value b ≡ t → is_one t ≡ false → bit_at (byte_for d address value n) b ≡ 0
none_is_one d address value n k b p lt is one none Zero e h = zero_is d address value n b lt e
none_is_one d address value n k b p lt is one none One e h = absurd (cc)
none_is_one d address value n k b p lt is one none Any e h = any_is d address value n k b p lt is one e ∙ none

left_common : (d : Device) (address : ℕ) (value : TriByte) (n k : ℕ) (p : EnablePlace) → enable_place_at d (k + 2) address ≡ Some p
    → Permits (common_tri value p.mask) (bit_at n k) → bit_at n k ≡ from_bool (has_common (byte_for d address value n) p.mask)
left_common d address value n k p is permitted = elim (cases_Bool (some_one value p.mask)) [
  | inl one ↦
      let f = one_there value p.mask one in
      let some = common_at (byte_for d address value n) p.mask f.0 f.1.0 (one_is d address value n f.0 f.1.0 f.1.1.0) f.1.1.1 in
      subst (λ (t : Tri). Permits t (bit_at n k)) (by_tests value p.mask true (some_any value p.mask) one refl) permitted ∙ sym (ap from_bool some)
  | inr none ↦ elim (cases_Bool (some_any value p.mask)) [
    | inl any ↦ elim (cases_eq (bit_at n k) 1) [
      | inl on ↦
          let f = any_there value p.mask any in
          let some = common_at (byte_for d address value n) p.mask f.0 f.1.0 (any_is d address value n k f.0 p f.1.0 is f.1.1.1 f.1.1.0 ∙ on) f.1.1.1 in
          on ∙ sym (ap from_bool some)
      | inr off ↦
          let small = bit_at-lt n k in
          let zero_bit : bit_at n k ≡ 0 = omega arith in
          zero_bit ∙ sym (ap from_bool (no_common (byte_for d address value n) p.mask (λ b lt at.
          none_is_one d address value n k b p lt is at zero_bit (tri_at value b) refl (not_one value p.mask b none lt at))))
    ]
    | inr known ↦
        subst (λ (t : Tri). Permits t (bit_at n k)) (by_tests value p.mask false false none known) permitted
        ∙ sym (ap from_bool (no_common (byte_for d address value n) p.mask (λ b lt at. zero_is d address value n b lt (zero_there value p.mask b none known lt at))))
  ]
]

left_picked : (d : Device) (m address : ℕ) (value : TriByte) (n k : ℕ) (o : Option EnablePlace) → enable_place_at d (k + 2) address ≡ o
    → Permits (enable_in o value (bit_at m k)) (bit_at n k)
    → bit_at n k ≡ written_enable o (byte_for d address value n) (bit_at m k)
left_picked d m address value n k None is p = permits_alone (bit_at m k) (bit_at n k) (bit_at-lt m k) p
left_picked d m address value n k (Some p) is permitted = elim (cases_Bool (is_sticky p.enable && (bit_at m k == 1))) [
  | inl stuck ↦
      subst (λ (s : Bool). Permits (cond s One (common_tri value p.mask)) (bit_at n k)) stuck permitted
      ∙ sym ((λ i. from_bool (has_common (byte_for d address value n) p.mask || stuck i)) ∙ or_true (has_common (byte_for d address value n) p.mask))
  | inr free ↦
      left_common d address value n k p is (subst (λ (s : Bool). Permits (cond s One (common_tri value p.mask)) (bit_at n k)) free permitted)
      ∙ sym ((λ i. from_bool (has_common (byte_for d address value n) p.mask || free i)) ∙ ap from_bool (or_false (has_common (byte_for d address value n) p.mask)))
]

to_written : (d : Device) (m address : ℕ) (value : TriByte) (n : ℕ) → IsPermitted (enable_tri d m address value) (enable_count d) n → IsWritten d m address value n
unfolding enable_tri written_enables
to_written d m address value n p = record {
  byte = byte_for d address value n;
  small = numbers_are_their_bits.below 8 (bit_for d address value n) (bits_small d address value n);
  member = λ b lt. subst (Permits (tri_at value b)) (sym (bit_is d address value n b lt)) (has_picked (tri_at value b) (enable_of d address b) n);
  left =
      numbers_are_their_bits.same (enable_count d) n (λ k. written_enable (enable_place_at d (k + 2) address) (byte_for d address value n) (bit_at m k)) p.small
      (λ k lt. left_picked d m address value n k (enable_place_at d (k + 2) address) refl (p.bits k lt));
}

-- ---- the law

is_member : (d : Device) (m address : ℕ) (value : TriByte) (n : ℕ) → Contains (splits d m address value) n → IsWritten d m address value n
is_member d m address value n here = to_written d m address value n ((numbers_are_permitted.members (enable_tri d m address value) (enable_count d) n).0 here)

has_member : (d : Device) (m address : ℕ) (value : TriByte) (n : ℕ) → IsWritten d m address value n → Contains (splits d m address value) n
has_member d m address value n w = (numbers_are_permitted.members (enable_tri d m address value) (enable_count d) n).1 (from_written d m address value n w)

more_written : (d : Device) (m address : ℕ) (t u : TriByte) (n : ℕ) → IsWithin t u → IsWritten d m address t n → IsWritten d m address u n
more_written d m address t u n within w = record { byte = w.byte; small = w.small; member = within w.byte w.small w.member; left = w.left }

all_known : (d : Device) (m address : ℕ) (value : TriByte) → has_enables d address ≡ false → (n : ℕ)
    → left m (enable_tri d m address value) n ≡ left m (enable_tri d m address value) 0
unfolding enable_tri
all_known d m address value h zero = refl
all_known d m address value h (suc n) =
    left_known m (enable_tri d m address value) n (ap (λ (o : Option EnablePlace). enable_in o value (bit_at m n)) (enables_are_vectors.none d (n + 2) address h))
    ∙ all_known d m address value h n

pub splits_are_writes : SplitsAreWrites
splits_are_writes = record {
  members = λ d m address value n. (is_member d m address value n, has_member d m address value n);
  ascending = λ d m address value. numbers_are_permitted.ascending (enable_tri d m address value) (enable_count d);
  few = few_splits;
  more = λ d m address t u n within here. has_member d m address u n (more_written d m address t u n within (is_member d m address t n here));
  alone = λ d m address value small h.
      sym (left_all (enable_count d) m (enable_tri d m address value) small) ∙ all_known d m address value h (enable_count d) ∙ left_first m (enable_tri d m address value);
}
