-- RAMPZ and EIND: what is stored to them, and RAMPZ behind `elpm`, are monotone.
use Rattle.std.proofs.Common.{◌≡◌, ◌≢◌, refl, sym, ap, ◌∙◌, subst, subst₂, ℕ, ◌+◌, ◌*◌, ◌<◌, ◌==◌, ◌&&◌, nat_lt, nat_le, Bool, true, false, Option, Some, None, if◌then◌else◌, arith, eq-eqb}
use Rattle.std.specs.Int.{bit_at}
use Rattle.std.proofs.lemmas.Bool.Decides.{nat_tests}
use Rattle.std.proofs.lemmas.Nat.Bits.{bit_at_and, bit_at-lt}
use Rattle.basics.specs.Booleans.{all_three}
use Rattle.abs_alu.proofs.AllLaws.{same_within}
use Rattle.avr_model.specs.declared.device.Device.{Device}
use Rattle.avr_model.specs.State.{RAMPZ, bank_most, kept_of}
use Rattle.bit_domain.specs.declared.bits.Tri.{Tri}
use Rattle.bit_domain.specs.declared.bits.Tri.TheVariants.{Zero, Any}
use Rattle.bit_domain.specs.declared.bytes.TriByte.{TriByte}
use Rattle.bit_domain.specs.Tri.{IsTriWithin, tri_bit}
use Rattle.bit_domain.specs.TriByte.{tri_at, has, IsWithin, byte_any, byte_known, byte_constant}
use Rattle.bit_domain.specs.Lattice.{byte_join}
use Rattle.bit_domain.specs.Ranges.{least_of, most_of}
use Rattle.bit_domain.proofs.AllLaws.{bytes_are_their_bits, bytes_are_sets, lattice_is_of_sets, lattice_is_monotone, ranges_fit, tests_tell_members}
use Rattle.sp_domain.specs.declared.tags.Tag.{Tag}
use Rattle.sp_domain.specs.declared.tags.Tag.TheVariants as tag
use Rattle.sp_domain.specs.Tags.{IsTagWithin, is_same_tag}
use Rattle.abs_state.specs.declared.values.AbsByte.{AbsByte}
use Rattle.abs_state.specs.declared.state.AbsState.{AbsState}
use Rattle.abs_state.specs.Formed.{ByteFits}
use Rattle.abs_state.specs.Values.{untagged}
use Rattle.node_keys.specs.declared.keys.NodeKey.{NodeKey}
use Rattle.node_keys.specs.declared.keys.Kind.{Kind}
use Rattle.node_keys.specs.Keys.{offset_of}
use Rattle.local_rules.specs.Banks.{bank_bits, own_tag, bank_value, stored_value, extended_of, extended_constant, next_bank, joined_bank, stepped_bank}
use Rattle.local_rules.specs.Cover.{IsKey}
use Rattle.local_rules.specs.Permitted.{may_be, permits_bytes}
use Rattle.local_rules.specs.Reads.{word_of, pair_constant}
use Rattle.local_rules.specs.Registers.{value, bits}
use Rattle.local_laws.proofs.MonotoneAlu.{reg, reg_bits}
use Rattle.local_laws.proofs.MonotonePermits.{bytes_more}
use Rattle.local_laws.proofs.MonotoneReads.{constants}
use Rattle.local_laws.proofs.MonotoneValues.{IsLess, IsStateLess, IsSameWhere, none_of, if_tag_of, bit_within, constant_is, constant_tells, bits_less, untagged_less, below_bits, if_less}

-- ---- what a register holds of a byte

entry_is : (t : Tag) (r : ℕ) → is_same_tag t (tag.Entry r) ≡ true → t ≡ tag.Entry r
entry_is tag.None r e = cc
entry_is (tag.Entry q) r e = let is : q ≡ r = grind (arith, nat_tests) in ap tag.Entry is
entry_is tag.EntryFlags r e = cc
entry_is (tag.SpLo j) r e = cc
entry_is (tag.SpHi k) r e = cc

own_within : (r : ℕ) (t u : Tag) → IsTagWithin t u → IsTagWithin (own_tag r t) (own_tag r u)
own_within r t u le = by (is_same_tag t (tag.Entry r)) (is_same_tag u (tag.Entry r)) same
  where
    same : is_same_tag u (tag.Entry r) ≡ true → is_same_tag t (tag.Entry r) ≡ true
    same e =
        let is : t ≡ tag.Entry r = subst (IsTagWithin t) (entry_is u r e) le in
        ap (λ (x : Tag). is_same_tag x (tag.Entry r)) is ∙ eq-eqb r r refl

    by : (a b : Bool) → (b ≡ true → a ≡ true) → IsTagWithin (if a then t else tag.None) (if b then u else tag.None)
    by true true h = le
    by a false h = tt
    by false true h = let no : false ≡ true = h refl in absurd (cc)

if_tri_same : (b : Bool) (t u v : Tri) → IsTriWithin t u → IsTriWithin (if b then t else v) (if b then u else v)
if_tri_same true t u v h = h
if_tri_same false t u v h = λ n p. p

pub bank_within : (device : Device) (r : ℕ) (b c : TriByte) → IsWithin b c → IsWithin (bank_bits device r b) (bank_bits device r c)
bank_within device r b c le =
    bytes_are_sets.built_within (λ i. if bit_at (bank_most device r) i == 1 then tri_at b i else Zero) (λ i. if bit_at (bank_most device r) i == 1 then tri_at c i else Zero)
    (λ i lt. if_tri_same (bit_at (bank_most device r) i == 1) (tri_at b i) (tri_at c i) Zero (bit_within b c i lt le))

pub bank_less : (device : Device) (kind : Kind) (r : ℕ) (v w : AbsByte) → IsLess kind v w → IsLess kind (bank_value device r v) (bank_value device r w)
bank_less device kind r v w h =
    bits_less kind (own_tag r v.tag) (own_tag r w.tag) (bank_bits device r v.bits) (bank_bits device r w.bits)
    (if_tag_of kind (is_same_tag v.tag (tag.Entry r)) v.tag tag.None h.good (none_of kind)) (own_within r v.tag w.tag h.within.tag) (bank_within device r v.bits w.bits h.within.bits)

pub stored_less : (device : Device) (kind : Kind) (r : ℕ) (v w : AbsByte) → IsLess kind v w → IsLess kind (stored_value device r v) (stored_value device r w)
stored_less device kind r v w h =
    if_less kind (nat_lt r 32) _ _ _ _ (bits_less kind v.tag w.tag v.bits w.bits h.good h.within.tag h.within.bits) (bank_less device kind r v w h)

-- ---- RAMPZ plus 1

through : (b c d : TriByte) → IsWithin b c → IsWithin c d → IsWithin b d
through b c d le le' = λ x small has. le' x small (le x small has)

-- a number that RAMPZ keeps is one that it can hold
pub kept_within : (device : Device) (n : ℕ) → IsWithin (byte_known (kept_of device RAMPZ n)) (bank_bits device RAMPZ byte_any)
kept_within device n =
    bytes_are_sets.built_within (λ i. tri_bit (bit_at (kept_of device RAMPZ n) i)) (λ i. if bit_at (bank_most device RAMPZ) i == 1 then tri_at byte_any i else Zero)
    (λ i lt. by i lt (bit_at (bank_most device RAMPZ) i == 1) refl)
  where
    by : (i : ℕ) → i < 8 → (one : Bool) → (bit_at (bank_most device RAMPZ) i == 1) ≡ one
        → IsTriWithin (tri_bit (bit_at (kept_of device RAMPZ n) i)) (if one then tri_at byte_any i else Zero)
    by i lt true e = subst (IsTriWithin (tri_bit (bit_at (kept_of device RAMPZ n) i))) (sym (bytes_are_their_bits.has_bits (λ _. Any) i lt)) (λ m p. tt)
    by i lt false e =
        let both : bit_at (kept_of device RAMPZ n) i ≡ _ = bit_at_and n (bank_most device RAMPZ) i in
        let small = bit_at-lt (bank_most device RAMPZ) i in
        let none : bit_at (kept_of device RAMPZ n) i ≡ 0 = grind (arith, nat_tests) in
        subst (λ (x : ℕ). IsTriWithin (tri_bit x) Zero) (sym none) (λ m p. p)

next_within : (device : Device) (f g : Option ℕ) → IsSameWhere f g → IsWithin (next_bank device f) (next_bank device g)
next_within device None None h = same_within (bank_bits device RAMPZ byte_any)
next_within device (Some bank) None h = kept_within device (bank + 1)
next_within device f (Some bank) h = subst (λ (x : Option ℕ). IsWithin (next_bank device x) (next_bank device (Some bank))) (sym (h bank refl)) (same_within (next_bank device (Some bank)))

if_below : (b : Bool) (next was over : TriByte) → IsWithin next over → IsWithin was over → IsWithin (if b then next else was) over
if_below true next was over h k = h
if_below false next was over h k = k

if_both : (b : Bool) (next was next' was' : TriByte) → IsWithin next next' → IsWithin was was' → IsWithin (if b then next else was) (if b then next' else was')
if_both true next was next' was' h k = h
if_both false next was next' was' h k = k

module _ (was was' next next' : TriByte) (le : IsWithin was was') (le' : IsWithin next next') where
  joins : IsWithin (byte_join was next) (byte_join was' next')
  joins = lattice_is_monotone.joins was next was' next' le le'

  joined_within : (f g : Option ℕ) → IsSameWhere f g → IsWithin (joined_bank f was next) (joined_bank g was' next')
  joined_within None None h = joins
  joined_within (Some z) None h =
      if_below (z == 65535) next (byte_join was next) (byte_join was' next') (through next next' (byte_join was' next') le' (lattice_is_of_sets.joins was' next').second) joins
  joined_within f (Some z) h =
      subst (λ (x : Option ℕ). IsWithin (joined_bank x was next) (joined_bank (Some z) was' next')) (sym (h z refl)) (if_both (z == 65535) next (byte_join was next) next' (byte_join was' next') le' joins)

-- the old value is below the joined one, unless Z is known to be 65,535
old_within : (f : Option ℕ) (was next : TriByte) → f ≢ Some 65535 → IsWithin was (joined_bank f was next)
old_within None was next ne = (lattice_is_of_sets.joins was next).first
old_within (Some z) was next ne = by (z == 65535) refl
  where
    by : (b : Bool) → (z == 65535) ≡ b → IsWithin was (if b then next else byte_join was next)
    by true e = let is : z ≡ 65535 = grind (arith, nat_tests) in absurd (ne (ap Some is))
    by false e = (lattice_is_of_sets.joins was next).first

-- ---- Z at the end of a bank

-- a value whose bits are all 1 permits 255
may_be_most : (v : AbsByte) → ByteFits v → byte_constant v.bits ≡ Some 255 → may_be v 255 ≡ true
may_be_most v fit e =
    let is : v.bits ≡ byte_known 255 = (constant_is v.bits 255 e).0 in
    let member = bytes_are_sets.member (byte_known 255) in
    let least : least_of v.bits ≡ 255 = ap least_of is ∙ (bytes_are_sets.known 255 (byte_known 255).value (omega arith) member.0).0 member.1 in
    let most : most_of v.bits < 256 = ranges_fit.most v.bits in
    let low : nat_le v.low 255 ≡ true = grind (arith, nat_tests, fit.ordered, fit.high, most) in
    let high : nat_le 255 v.high ≡ true = grind (arith, nat_tests, fit.low, fit.ordered, least) in
    all_three (has v.bits 255) _ _ (ap (λ (b : TriByte). has b 255) is ∙ (tests_tell_members.bytes (byte_known 255) 255).1 ((bytes_are_sets.known 255 255 (omega arith) (omega arith)).1 refl)) low high

-- both bytes of the greatest word are 255
word_most : (f g : Option ℕ) → ((n : ℕ) → f ≡ Some n → n < 256) → ((n : ℕ) → g ≡ Some n → n < 256) → word_of f g ≡ Some 65535 → (f ≡ Some 255) × (g ≡ Some 255)
word_most None g small small' e = absurd (cc)
word_most (Some x) None small small' e = absurd (cc)
word_most (Some x) (Some y) small small' e =
    let is : x + 256 * y ≡ 65535 = cc in
    let lt = small x refl in
    let lt' = small' y refl in
    let one : x ≡ 255 = omega (arith, is, lt, lt') in
    let other : y ≡ 255 = omega (arith, is, lt, lt') in
    (ap Some one, ap Some other)

module _ (device : Device) (k : NodeKey) (at : IsKey device k) (s t : AbsState) (le : IsStateLess k.inst.kind (offset_of k.sp) s t) where
  pub extended_tells : IsSameWhere (extended_constant s) (extended_constant t)
  extended_tells =
      by (byte_constant (bits s RAMPZ)) (byte_constant (bits t RAMPZ)) (pair_constant s 30) (pair_constant t 30) (constant_tells (bits s RAMPZ) (bits t RAMPZ) (reg_bits device k at s t le RAMPZ))
      (constants device k at s t le 30)
    where
      by : (f g f' g' : Option ℕ) → IsSameWhere f g → IsSameWhere f' g' → IsSameWhere (extended_of f f') (extended_of g g')
      by f None f' g' h h' n e = cc
      by f (Some x) f' None h h' n e = cc
      by f (Some x) f' (Some y) h h' n e = subst₂ (λ (a b : Option ℕ). extended_of a b ≡ Some n) (sym (h x refl)) (sym (h' y refl)) e

  -- a lesser Z that is 65,535 is permitted to be
  most_permitted : pair_constant s 30 ≡ Some 65535 → permits_bytes s 30 65535 ≡ true
  most_permitted e =
      let both = word_most (byte_constant (bits s 30)) (byte_constant (bits s 31)) (λ n is. (constant_is (bits s 30) n is).1) (λ n is. (constant_is (bits s 31) n is).1) e in
      let lo = may_be_most (value s 30) (reg device k at s t le 30).ranged both.0 in
      let hi = may_be_most (value s 31) (reg device k at s t le 31).ranged both.1 in
      by (may_be (value s 30) 255) (may_be (value s 31) 255) lo hi
    where
      by : (a b : Bool) → a ≡ true → b ≡ true → a && b ≡ true
      by true true h h' = refl
      by true false h h' = h'
      by false b h h' = h

  abbrev stepped : AbsState → TriByte
  stepped u = joined_bank (pair_constant u 30) (bits u RAMPZ) (next_bank device (byte_constant (bits u RAMPZ)))

  abbrev kind : Kind
  kind = k.inst.kind

  stepped_within : IsWithin (stepped s) (stepped t)
  stepped_within =
      joined_within (bits s RAMPZ) (bits t RAMPZ) _ _ (reg_bits device k at s t le RAMPZ)
      (next_within device (byte_constant (bits s RAMPZ)) (byte_constant (bits t RAMPZ)) (constant_tells (bits s RAMPZ) (bits t RAMPZ) (reg_bits device k at s t le RAMPZ)))
      (pair_constant s 30) (pair_constant t 30) (constants device k at s t le 30)

  -- where the lesser Z isn't at the end of a bank
  unstepped : permits_bytes s 30 65535 ≡ false → IsLess kind (value s RAMPZ) (untagged (stepped t))
  unstepped e =
      let bank = reg device k at s t le RAMPZ in
      let ne : pair_constant t 30 ≢ Some 65535 = λ is. (let yes = most_permitted (constants device k at s t le 30 65535 is) in let no : false ≡ true = sym e ∙ yes in cc) in
      below_bits kind (value s RAMPZ) (stepped t) bank.good bank.ranged
      (through (bits s RAMPZ) (bits t RAMPZ) (stepped t) bank.within.bits (old_within (pair_constant t 30) (bits t RAMPZ) (next_bank device (byte_constant (bits t RAMPZ))) ne))

  pub stepped_less : IsLess kind (stepped_bank device s) (stepped_bank device t)
  stepped_less =
      by (permits_bytes s 30 65535) (permits_bytes t 30 65535) refl (bytes_more s t 30 65535 (reg device k at s t le 30).within (reg device k at s t le 31).within)
    where
      by : (a b : Bool) → permits_bytes s 30 65535 ≡ a → (a ≡ true → b ≡ true) → IsLess kind (if a then untagged (stepped s) else value s RAMPZ) (if b then untagged (stepped t) else value t RAMPZ)
      by true true e more = untagged_less kind (stepped s) (stepped t) stepped_within
      by true false e more = let no : false ≡ true = more refl in absurd (cc)
      by false true e more = unstepped e
      by false false e more = reg device k at s t le RAMPZ
