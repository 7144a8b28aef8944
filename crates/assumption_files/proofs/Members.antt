-- The possible targets of an indirect transfer.
use Rattle.std.proofs.Common.{◌≡◌, ◌∙◌, sym, ap, subst, refl, ℕ, zero, suc, ◌+◌, ◌-◌, ◌*◌, ◌/◌, ◌%◌, ◌^◌, ◌<◌, ◌≤◌, arith, inl, inr, true, false, ltb, List, [], ◌∷◌, map, length, length-append, get_or, add-one, max, Result, Ok, Err}
use Rattle.std.specs.Int.{bit_at}
use Rattle.std.specs.List.{All, Contains}
use Rattle.std.specs.Result.{IsErr, IsOk}
use Rattle.std.proofs.Math.Pow.{pow_mono}
use Rattle.std.proofs.lemmas.Bool.{cases_lt, cases_eq, false≢true}
use Rattle.std.proofs.lemmas.Bool.Decides.{nat_tests}
use Rattle.std.proofs.lemmas.List.{length-map, get_or_default}
use Rattle.std.proofs.lemmas.Nat.Bits.{bit_at_cat_low, bit_at_cat_high}
use Rattle.avr_model.specs.declared.device.Device.{Device}
use Rattle.avr_model.specs.Devices.{width, limit_of, limit_width}
use Rattle.avr_model.proofs.AllLaws.{devices_are_alike}
use Rattle.bit_domain.specs.declared.bits.Tri.{Tri}
use Rattle.bit_domain.specs.declared.bits.Tri.TheVariants.{Zero, One, Any}
use Rattle.bit_domain.specs.Tri.{Permits}
use Rattle.bit_domain.specs.TriByte.{tri_at, Has}
use Rattle.bit_domain.specs.Numbers.{PointerBits, with_top, numbers_of, pointer_bit, IsPermitted}
use Rattle.bit_domain.specs.Laws.{BytesAreSets, NumbersArePermitted}
use Rattle.assumption_files.specs.Targets.{most_targets, KeepsTargets, IsGiven, IsPointerWithin, TargetsAreThoseOfMembers}

-- ---- the bits of a pointer, and of a number of three bytes

pointer_low : (p : PointerBits) (i : ℕ) → i < 8 → pointer_bit p i ≡ tri_at p.low i
pointer_low p i lt = let low : ltb i 8 ≡ true = grind (arith, nat_tests) in rw low refl

pointer_high : (p : PointerBits) (i : ℕ) → i < 8 → pointer_bit p (8 + i) ≡ tri_at p.high i
pointer_high p i lt =
    let not_low : ltb (8 + i) 8 ≡ false = grind (arith, nat_tests) in
    let high : ltb (8 + i) 16 ≡ true = grind (arith, nat_tests) in
    let back : (8 + i) - 8 ≡ i = omega arith in
    rw (not_low, high, back) refl

pointer_bank : (p : PointerBits) (i : ℕ) → pointer_bit p (16 + i) ≡ tri_at p.bank i
pointer_bank p i =
    let not_low : ltb (16 + i) 8 ≡ false = grind (arith, nat_tests) in
    let not_high : ltb (16 + i) 16 ≡ false = grind (arith, nat_tests) in
    let back : (16 + i) - 16 ≡ i = omega arith in
    rw (not_low, not_high, back) refl

low_bits : (n i : ℕ) → i < 8 → bit_at n i ≡ bit_at (n % 256) i
low_bits n i lt =
    let parts : n ≡ n / 256 * 2 ^ 8 + n % 256 = omega arith in
    ap (λ (m : ℕ). bit_at m i) parts ∙ bit_at_cat_low (n / 256) 8 (n % 256) i lt

bits_above : (n i : ℕ) → bit_at n (8 + i) ≡ bit_at (n / 256) i
bits_above n i =
    let parts : n ≡ n / 256 * 2 ^ 8 + n % 256 = omega arith in
    let back : (8 + i) - 8 ≡ i = omega arith in
    ap (λ (m : ℕ). bit_at m (8 + i)) parts ∙ bit_at_cat_high (n / 256) 8 (n % 256) (8 + i) (omega arith) (omega arith) ∙ ap (bit_at (n / 256)) back

high_bits : (n i : ℕ) → i < 8 → bit_at n (8 + i) ≡ bit_at (n / 256 % 256) i
high_bits n i lt = bits_above n i ∙ low_bits (n / 256) i lt

bank_bits : (n i : ℕ) → bit_at n (16 + i) ≡ bit_at (n / 256 / 256) i
bank_bits n i = let twice : 16 + i ≡ 8 + (8 + i) = omega arith in ap (bit_at n) twice ∙ bits_above n (8 + i) ∙ bits_above (n / 256) i

-- the pointer permits bit i of the number
abbrev IsBit : PointerBits → ℕ → ℕ → Type 0
IsBit p n i = Permits (pointer_bit p i) (bit_at n i)

moved : (a b : Tri) (m n : ℕ) → a ≡ b → m ≡ n → Permits a m → Permits b n
moved a b m n e f h = subst (λ (t : Tri). Permits t n) e (subst (Permits a) f h)

-- the three bytes of the number are members of those of the pointer
record AreIn (p : PointerBits) (n : ℕ) : Type 0 where
  low : Has p.low (n % 256)
  high : Has p.high (n / 256 % 256)
  bank : Has p.bank (n / 256 / 256)

bits_in : (p : PointerBits) (n i : ℕ) → AreIn p n → i < 24 → IsBit p n i
bits_in p n i h lt = elim (cases_lt i 8) [
  | inl low ↦ moved _ _ _ _ (sym (pointer_low p i low)) (sym (low_bits n i low)) (h.low i low)
  | inr above ↦ elim (cases_lt i 16) [
    | inl high ↦
        let back : 8 + (i - 8) ≡ i = omega arith in
        let below : i - 8 < 8 = omega arith in
        subst (IsBit p n) back (moved _ _ _ _ (sym (pointer_high p (i - 8) below)) (sym (high_bits n (i - 8) below)) (h.high (i - 8) below))
    | inr top ↦
        let back : 16 + (i - 16) ≡ i = omega arith in
        let below : i - 16 < 8 = omega arith in
        subst (IsBit p n) back (moved _ _ _ _ (sym (pointer_bank p (i - 16))) (sym (bank_bits n (i - 16))) (h.bank (i - 16) below))
  ]
]

in_bits : (p : PointerBits) (n : ℕ) → ((i : ℕ) → i < 24 → IsBit p n i) → AreIn p n
in_bits p n h = record {
  low = λ i lt. moved _ _ _ _ (pointer_low p i lt) (low_bits n i lt) (h i (omega arith));
  high = λ i lt. moved _ _ _ _ (pointer_high p i lt) (high_bits n i lt) (h (8 + i) (omega arith));
  bank = λ i lt. moved _ _ _ _ (pointer_bank p i) (bank_bits n i) (h (16 + i) (omega arith));
}

-- ---- the first bits of a number of three bytes

record PartsPart (n : ℕ) : Type 0 where
  most : n ≤ 24
  bits : (m i : ℕ) → i < n → bit_at m i ≡ bit_at (m % 2 ^ n) i
  small : (m : ℕ) → m % 2 ^ n < 2 ^ n
  whole : (m : ℕ) → m ≡ m / 2 ^ n * 2 ^ n + m % 2 ^ n
  inside : (t w : ℕ) → t < 2 ^ n → w < 16777216 → w / 2 ^ n * 2 ^ n + t < 16777216
  is : (t w : ℕ) → t < 2 ^ n → (w / 2 ^ n * 2 ^ n + t) % 2 ^ n ≡ t

parts_14 : PartsPart 14
parts_14 = record {
  most = omega arith;
  bits = λ m i lt.
      let parts : m ≡ m / 16384 * 2 ^ 14 + m % 16384 = omega arith in
      ap (λ (x : ℕ). bit_at x i) parts ∙ bit_at_cat_low (m / 16384) 14 (m % 16384) i lt;
  small = λ m. omega arith;
  whole = λ m. omega arith;
  inside = λ t w lt small. omega arith;
  is = λ t w lt. omega arith;
}

parts_15 : PartsPart 15
parts_15 = record {
  most = omega arith;
  bits = λ m i lt.
      let parts : m ≡ m / 32768 * 2 ^ 15 + m % 32768 = omega arith in
      ap (λ (x : ℕ). bit_at x i) parts ∙ bit_at_cat_low (m / 32768) 15 (m % 32768) i lt;
  small = λ m. omega arith;
  whole = λ m. omega arith;
  inside = λ t w lt small. omega arith;
  is = λ t w lt. omega arith;
}

parts_16 : PartsPart 16
parts_16 = record {
  most = omega arith;
  bits = λ m i lt.
      let parts : m ≡ m / 65536 * 2 ^ 16 + m % 65536 = omega arith in
      ap (λ (x : ℕ). bit_at x i) parts ∙ bit_at_cat_low (m / 65536) 16 (m % 65536) i lt;
  small = λ m. omega arith;
  whole = λ m. omega arith;
  inside = λ t w lt small. omega arith;
  is = λ t w lt. omega arith;
}

parts_17 : PartsPart 17
parts_17 = record {
  most = omega arith;
  bits = λ m i lt.
      let parts : m ≡ m / 131072 * 2 ^ 17 + m % 131072 = omega arith in
      ap (λ (x : ℕ). bit_at x i) parts ∙ bit_at_cat_low (m / 131072) 17 (m % 131072) i lt;
  small = λ m. omega arith;
  whole = λ m. omega arith;
  inside = λ t w lt small. omega arith;
  is = λ t w lt. omega arith;
}

parts_from : (n : ℕ) → 14 ≤ n → n ≤ 17 → PartsPart n
parts_from n least most = elim (cases_eq n 14) [
  | inl e ↦ subst PartsPart (sym e) parts_14
  | inr more ↦ elim (cases_eq n 15) [
    | inl e ↦ subst PartsPart (sym e) parts_15
    | inr other ↦ elim (cases_eq n 16) [
      | inl e ↦ subst PartsPart (sym e) parts_16
      | inr last ↦ let e : 17 ≡ n = omega arith in subst PartsPart e parts_17
    ]
  ]
]

-- how many bits a word address in a device's texts has
pub least_limit : (d : Device) → 14 ≤ limit_width d
least_limit d = omega arith

pub most_limit : (d : Device) → limit_width d ≤ 17
most_limit d = let most = devices_are_alike.most_width d in omega arith

limit_is : (d : Device) → limit_of d ≡ 2 ^ limit_width d
limit_is d = by (width d)
  where
    by : (w : ℕ) → max 16384 (2 ^ w) ≡ 2 ^ max 14 w
    by w = elim (cases_lt w 14) [
      | inl below ↦
          let small : 2 ^ w ≤ 2 ^ 14 = pow_mono (let le : w ≤ 14 = omega arith in le) in
          let width_is : max 14 w ≡ 14 = omega arith in
          let here : max 16384 (2 ^ w) ≡ 16384 = omega (arith, small) in
          here ∙ sym (ap (λ (x : ℕ). 2 ^ x) width_is)
      | inr above ↦
          let great : 2 ^ 14 ≤ 2 ^ w = pow_mono above in
          let width_is : max 14 w ≡ w = omega arith in
          let here : max 16384 (2 ^ w) ≡ 2 ^ w = omega (arith, great) in
          here ∙ sym (ap (λ (x : ℕ). 2 ^ x) width_is)
    ]

-- ---- a permitted word is that of members, and the other way round

-- some number of the pointer
abbrev some_number : PointerBits → ℕ
some_number p = p.low.value + 256 * p.high.value + 65536 * p.bank.value

module _ (k : BytesAreSets) (p : PointerBits) where
  some_in : AreIn p (some_number p)
  some_in =
      let low = k.member p.low in
      let high = k.member p.high in
      let bank = k.member p.bank in
      let x : p.low.value ≡ some_number p % 256 = omega (arith, low.0) in
      let y : p.high.value ≡ some_number p / 256 % 256 = omega (arith, low.0, high.0) in
      let z : p.bank.value ≡ some_number p / 256 / 256 = omega (arith, low.0, high.0) in
      record { low = subst (Has p.low) x low.1; high = subst (Has p.high) y high.1; bank = subst (Has p.bank) z bank.1 }

  some_small : some_number p < 16777216
  some_small = omega (arith, (k.member p.low).0, (k.member p.high).0, (k.member p.bank).0)

module _ (n : ℕ) (parts : PartsPart n) where
  -- the number with the word's bits below n, and the others of another number
  whole_bits : (p : PointerBits) (t w : ℕ) → IsPermitted (pointer_bit p) n t → AreIn p w → (i : ℕ) → i < 24 → IsBit p (w / 2 ^ n * 2 ^ n + t) i
  whole_bits p t w h members i lt = elim (cases_lt i n) [
    | inl below ↦ subst (Permits (pointer_bit p i)) (sym (bit_at_cat_low (w / 2 ^ n) n t i below)) (h.bits i below)
    | inr above ↦
        let same : bit_at (w / 2 ^ n * 2 ^ n + t) i ≡ bit_at w i =
        bit_at_cat_high (w / 2 ^ n) n t i h.small above
        ∙ sym (bit_at_cat_high (w / 2 ^ n) n (w % 2 ^ n) i (parts.small w) above)
        ∙ ap (λ (m : ℕ). bit_at m i) (sym (parts.whole w)) in
        subst (Permits (pointer_bit p i)) (sym same) (bits_in p w i members lt)
  ]

  whole_from : BytesAreSets → (p : PointerBits) (t : ℕ) → IsPermitted (pointer_bit p) n t → (m : ℕ) × ((m < 16777216) × (AreIn p m × (m % 2 ^ n ≡ t)))
  whole_from k p t h =
      let w : ℕ = some_number p in (
        w / 2 ^ n * 2 ^ n + t,
        (
          parts.inside t w h.small (some_small k p),
          (in_bits p (w / 2 ^ n * 2 ^ n + t) (whole_bits p t w h (some_in k p)), parts.is t w h.small),
        ),
      )

  permitted_from : (p : PointerBits) (t m : ℕ) → AreIn p m → m % 2 ^ n ≡ t → IsPermitted (pointer_bit p) n t
  permitted_from p t m members is = record {
    small = subst (λ (x : ℕ). x < 2 ^ n) is (parts.small m);
    bits = λ i lt.
        let same : bit_at m i ≡ bit_at t i = parts.bits m i lt ∙ ap (λ (x : ℕ). bit_at x i) is in
        let most = parts.most in
        subst (Permits (pointer_bit p i)) same (bits_in p m i members (omega arith));
  }

limit_parts : (d : Device) → PartsPart (limit_width d)
limit_parts d = parts_from (limit_width d) (least_limit d) (most_limit d)

given_by : BytesAreSets → (d : Device) (p : PointerBits) (t : ℕ) → IsPermitted (pointer_bit p) (limit_width d) t → IsGiven d p t
given_by k d p t h =
    let g = whole_from (limit_width d) (limit_parts d) k p t h in
    let m : ℕ = g.0 in
    let small = g.1.0 in
    let bytes : m % 256 + 256 * (m / 256 % 256) + 65536 * (m / 256 / 256) ≡ m = omega arith in
    record {
      x = m % 256;
      y = m / 256 % 256;
      z = m / 256 / 256;
      x_small = omega arith;
      y_small = omega arith;
      z_small = omega (arith, small);
      x_in = g.1.1.0.low;
      y_in = g.1.1.0.high;
      z_in = g.1.1.0.bank;
      is = ap (λ (l : ℕ). (m % 256 + 256 * (m / 256 % 256) + 65536 * (m / 256 / 256)) % l) (limit_is d) ∙ ap (λ (b : ℕ). b % 2 ^ limit_width d) bytes ∙ g.1.1.1;
    }

permitted_by : (d : Device) (p : PointerBits) (t : ℕ) → IsGiven d p t → IsPermitted (pointer_bit p) (limit_width d) t
permitted_by d p t h =
    let m : ℕ = h.x + 256 * h.y + 65536 * h.z in
    let low : h.x ≡ m % 256 = omega (arith, h.x_small) in
    let high : h.y ≡ m / 256 % 256 = omega (arith, h.x_small, h.y_small) in
    let bank : h.z ≡ m / 256 / 256 = omega (arith, h.x_small, h.y_small) in
    permitted_from (limit_width d) (limit_parts d) p t m
    (record { low = subst (Has p.low) low h.x_in; high = subst (Has p.high) high h.y_in; bank = subst (Has p.bank) bank h.z_in })
    (ap (λ (l : ℕ). m % l) (sym (limit_is d)) ∙ h.is)

given_more : (d : Device) (p q : PointerBits) (t : ℕ) → IsPointerWithin p q → IsGiven d p t → IsGiven d q t
given_more d p q t within h = record {
  x = h.x;
  y = h.y;
  z = h.z;
  x_small = h.x_small;
  y_small = h.y_small;
  z_small = h.z_small;
  x_in = within.low h.x h.x_small h.x_in;
  y_in = within.high h.y h.y_small h.y_in;
  z_in = within.bank h.z h.z_small h.z_in;
  is = h.is;
}

pub members_give_targets : NumbersArePermitted → BytesAreSets → TargetsAreThoseOfMembers
members_give_targets n k = record {
  members = λ d p t. (
    (λ c. given_by k d p t ((n.members (pointer_bit p) (limit_width d) t).0 c)),
    (λ g. (n.members (pointer_bit p) (limit_width d) t).1 (permitted_by d p t g)),
  );
  ascending = λ d p. n.ascending (pointer_bit p) (limit_width d);
  count = λ d p. n.count (pointer_bit p) (limit_width d);
  more = λ d p q t within c.
      (n.members (pointer_bit q) (limit_width d) t).1
      (permitted_by d q t (given_more d p q t within (given_by k d p t ((n.members (pointer_bit p) (limit_width d) t).0 c))));
}

-- ---- bit by bit

pub no_bit : (f : ℕ → Tri) → numbers_of f 0 ≡ 0 ∷ []
unfolding numbers_of
no_bit f = refl

pub one_bit_more : (f : ℕ → Tri) (i weight : ℕ) (bit : Tri) (ns : List ℕ) → ns ≡ numbers_of f i → bit ≡ f i → weight ≡ 2 ^ i → with_top bit weight ns ≡ numbers_of f (i + 1)
unfolding numbers_of
one_bit_more f i weight bit ns e b w = rw (e, b, w, add-one) refl

longer : (t : Tri) (weight : ℕ) (ns : List ℕ) → length ns ≤ length (with_top t weight ns)
longer Zero weight ns = omega arith
longer One weight ns = let e = length-map ns (λ (n : ℕ). weight + n) in omega arith
longer Any weight ns = let e = length-append ns (map (λ (n : ℕ). weight + n) ns) in omega arith

grows : (f : ℕ → Tri) (n m : ℕ) → n ≤ m → length (numbers_of f n) ≤ length (numbers_of f m)
unfolding numbers_of
grows f n zero h = let same : n ≡ 0 = omega arith in rw same (omega arith)
grows f n (suc m) h = elim (cases_eq n (suc m)) [
  | inl same ↦ rw same (omega arith)
  | inr other ↦ omega (arith, grows f n m (omega arith), longer (f m) (2 ^ m) (numbers_of f m))
]

-- too many words of fewer bits are too many of all
pub stays_many : (f : ℕ → Tri) (i width : ℕ) (ns : List ℕ) → i < width → ns ≡ numbers_of f (i + 1) → most_targets < length ns → most_targets < length (numbers_of f width)
stays_many f i width ns lt e many = let more = grows f (i + 1) width (omega arith) in omega (arith, ap length e)

-- few words of all bits of a limit are few of fewer bits
pub stays_few : (f : ℕ → Tri) (n m : ℕ) → n ≤ m → length (numbers_of f m) ≤ most_targets → length (numbers_of f n) ≤ most_targets
stays_few f n m le few = omega (arith, grows f n m le)

pub keeps_err : {E : Type 0} (r : Result (List ℕ) E) (due : List ℕ) → IsErr r → most_targets < length due → KeepsTargets r due
keeps_err (Ok t) due err many = absurd (false≢true err)
keeps_err (Err e) due err many = many

pub few_are_kept : {E : Type 0} (r : Result (List ℕ) E) (due : List ℕ) → KeepsTargets r due → length due ≤ most_targets → IsOk r
few_are_kept (Ok t) due kept few = refl
few_are_kept (Err e) due many few = absurd (omega (arith, many, few))

pub weight_is : (i : ℕ) → i < 17 → 1 * 2 ^ i % 4294967296 ≡ 2 ^ i
weight_is i lt = let small : 2 ^ i ≤ 2 ^ 16 = pow_mono (let le : i ≤ 16 = omega arith in le) in omega arith

pub weight_fits : NumbersArePermitted → (f : ℕ → Tri) (i : ℕ) (ns : List ℕ) → i < 17 → ns ≡ numbers_of f i → All (λ n. 1 * 2 ^ i % 4294967296 + n < 4294967296) ns
weight_fits law f i ns lt e = λ k d l.
    let small : 2 ^ i ≤ 2 ^ 16 = pow_mono (let le : i ≤ 16 = omega arith in le) in
    let same = weight_is i lt in
    let there : Contains ns (get_or ns k d) = (k, l, get_or_default ns k (get_or ns k d) d l) in
    let permitted = (law.members f i (get_or ns k d)).0 (subst (λ (xs : List ℕ). Contains xs (get_or ns k d)) e there) in
    let below = permitted.small in
    omega arith
