-- Cuts of bytes.
use Rattle.std.proofs.Common.{◌≡◌, refl, sym, ◌∙◌, ap, subst, ℕ, zero, suc, ◌+◌, ◌-◌, ◌/◌, ◌%◌, ◌^◌, ◌<◌, ◌≤◌, ◌⊎◌, inl, inr, ⊎_elim, max, min, Bool, true, false, Option, Some, None, arith}
use Rattle.std.specs.Prelude.{◌==◌, if◌then◌else◌}
use Rattle.std.specs.Int.{bit_at}
use Rattle.std.proofs.Math.Nat.{div-mul-le_self}
use Rattle.std.proofs.lemmas.Nat.{pow_pos, le-div}
use Rattle.std.proofs.lemmas.Nat.Bits.{bit_at-lt}
use Rattle.std.proofs.lemmas.Bool.{eqb-true, eq-eqb, false≢true, cases_lt}
use Rattle.bit_domain.specs.declared.bits.Tri.TheVariants.{Any}
use Rattle.bit_domain.specs.declared.bytes.TriByte.{TriByte}
use Rattle.bit_domain.specs.Tri.{Permits, IsTriWithin, tri_bit}
use Rattle.bit_domain.specs.TriByte.{Has, has, IsWithin}
use Rattle.bit_domain.specs.Lattice.{byte_meet, IsIntersection}
use Rattle.bit_domain.specs.Ranges.{ByteSet, SetHas, IsSetWithin, RangeFits}
use Rattle.bit_domain.proofs.AllLaws.{bytes_are_sets, tests_tell_members, lattice_is_of_sets, lattice_is_monotone, ranges_hold, permits-tri_bit}
use Rattle.pair_domain.specs.Narrow.{shared_bit, shared_bits, least_from, greatest_from, least_member, greatest_member, ends_with, sought, narrowed, narrow}
use Rattle.pair_domain.specs.NarrowLaws.{NarrowingCuts}

-- ---- bits that all numbers of a range share

pub div_more : (x y i : ℕ) → x ≤ y → x / 2 ^ i ≤ y / 2 ^ i
div_more x y i le = le-div (x / 2 ^ i) y (2 ^ i) (pow_pos i) (omega (arith, div-mul-le_self x (2 ^ i)))

shared_by : (test : Bool) (low x i : ℕ) → (test ≡ true → x / 2 ^ i ≡ low / 2 ^ i) → Permits (if test then tri_bit (bit_at low i) else Any) (bit_at x i)
shared_by false low x i same = tt
shared_by true low x i same =
    subst (Permits (tri_bit (bit_at low i))) (let e : low / 2 ^ i ≡ x / 2 ^ i = sym (same refl) in ap (λ n. n % 2) e) (permits-tri_bit (bit_at low i) (bit_at-lt low i))

shared_permits : (low high x i : ℕ) → low ≤ x → x ≤ high → Permits (shared_bit low high i) (bit_at x i)
shared_permits low high x i down up =
    shared_by (low / 2 ^ i == high / 2 ^ i) low x i (λ e.
    omega (arith, eqb-true (low / 2 ^ i) (high / 2 ^ i) e, div_more low x i down, div_more x high i up))

pub shared_has : (low high x : ℕ) → low ≤ x → x ≤ high → Has (shared_bits low high) x
shared_has low high x down up = bytes_are_sets.built (shared_bit low high) x (λ i lt. shared_permits low high x i down up)

shared_less : (test test' : Bool) (low low' i : ℕ) → (test' ≡ true → (test ≡ true) × (low / 2 ^ i ≡ low' / 2 ^ i))
    → IsTriWithin (if test then tri_bit (bit_at low i) else Any) (if test' then tri_bit (bit_at low' i) else Any)
shared_less test false low low' i same = λ n h. tt
shared_less true true low low' i same =
    λ n h. subst (λ (k : ℕ). Permits (tri_bit k) n) (let e = same refl in ap (λ m. m % 2) e.1) h
shared_less false true low low' i same = absurd (let e = same refl in false≢true e.0)

pub shared_more : (low high low' high' : ℕ) → low ≤ high → low' ≤ low → high ≤ high' → IsWithin (shared_bits low high) (shared_bits low' high')
shared_more low high low' high' ordered down up =
    bytes_are_sets.built_within (shared_bit low high) (shared_bit low' high') (λ i lt.
    shared_less (low / 2 ^ i == high / 2 ^ i) (low' / 2 ^ i == high' / 2 ^ i) low low' i (λ e.
    let same : low' / 2 ^ i ≡ high' / 2 ^ i = eqb-true (low' / 2 ^ i) (high' / 2 ^ i) e in
    let a = div_more low' low i down in
    let b = div_more low high i ordered in
    let c = div_more high high' i up in
    (eq-eqb (low / 2 ^ i) (high / 2 ^ i) (omega (arith, same, a, b, c)), omega (arith, same, a, b, c))))

-- ---- the least and the greatest member of a range

pub record IsLeastMember (bits : TriByte) (x n m : ℕ) : Type 0 where
  pub there : Has bits m
  pub low : x ≤ m
  pub high : m < x + n
  pub least : (y : ℕ) → x ≤ y → y < x + n → Has bits y → m ≤ y

pub record IsGreatest (bits : TriByte) (x n m : ℕ) : Type 0 where
  pub there : Has bits m
  pub low : x ≤ m
  pub high : m < x + n
  pub greatest : (y : ℕ) → x ≤ y → y < x + n → Has bits y → y ≤ m

split_at : (x y : ℕ) → x ≤ y → (x ≡ y) ⊎ (suc x ≤ y)
split_at x y le = ⊎_elim (λ lt. inr (omega (arith, lt))) (λ ge. inl (omega (arith, le, ge))) (cases_lt x y)

in_has : (bits : TriByte) (x : ℕ) → has bits x ≡ true → Has bits x
in_has bits x e = (tests_tell_members.bytes bits x).0 e

has_in : (bits : TriByte) (x : ℕ) → Has bits x → has bits x ≡ true
has_in bits x h = (tests_tell_members.bytes bits x).1 h

module _ (bits : TriByte) (x n m : ℕ) (rest : least_from bits (suc x) n ≡ Some m → IsLeastMember bits (suc x) n m) where
  least_by : (t : Bool) → has bits x ≡ t → (if t then Some x else least_from bits (suc x) n) ≡ Some m → IsLeastMember bits x (suc n) m
  least_by true is e =
      let P : ℕ → Type 0 = IsLeastMember bits x (suc n) in
      let same : x ≡ m = cc in
      subst P same (record { there = in_has bits x is; low = omega arith; high = omega arith; least = λ y a b h. a })
  least_by false is e =
      let r = rest e in
      record {
        there = r.there;
        low = omega (arith, r.low);
        high = omega (arith, r.high);
        least = λ y a b h.
            ⊎_elim (λ same. let no : false ≡ true = sym is ∙ ap (has bits) same ∙ has_in bits y h in absurd (false≢true no))
            (λ more. r.least y more (omega (arith, b)) h) (split_at x y a);
      }

pub least_is : (bits : TriByte) (x n m : ℕ) → least_from bits x n ≡ Some m → IsLeastMember bits x n m
unfolding least_from
least_is bits x zero m e = absurd (cc)
least_is bits x (suc n) m e = least_by bits x n m (least_is bits (suc x) n m) (has bits x) refl e

module _ (bits : TriByte) (x n y : ℕ) (rest : suc x ≤ y → (m : ℕ) × (least_from bits (suc x) n ≡ Some m)) (a : x ≤ y) (h : Has bits y) where
  there_by : (t : Bool) → has bits x ≡ t → (m : ℕ) × ((if t then Some x else least_from bits (suc x) n) ≡ Some m)
  there_by true is = (x, refl)
  there_by false is =
      ⊎_elim (λ same. let no : false ≡ true = sym is ∙ ap (has bits) same ∙ has_in bits y h in absurd (false≢true no)) (λ more. rest more) (split_at x y a)

pub least_there : (bits : TriByte) (x n y : ℕ) → x ≤ y → y < x + n → Has bits y → (m : ℕ) × (least_from bits x n ≡ Some m)
unfolding least_from
least_there bits x zero y a b h = absurd (omega (arith, a, b))
least_there bits x (suc n) y a b h = there_by bits x n y (λ more. least_there bits (suc x) n y more (omega (arith, b)) h) a h (has bits x) refl

module _ (bits : TriByte) (x n m : ℕ) (rest : greatest_from bits x n ≡ Some m → IsGreatest bits x n m) where
  greatest_by : (t : Bool) → has bits (x + n) ≡ t → (if t then Some (x + n) else greatest_from bits x n) ≡ Some m → IsGreatest bits x (suc n) m
  greatest_by true is e =
      let P : ℕ → Type 0 = IsGreatest bits x (suc n) in
      let same : x + n ≡ m = cc in
      subst P same (record { there = in_has bits (x + n) is; low = omega arith; high = omega arith; greatest = λ y a b h. omega (arith, b) })
  greatest_by false is e =
      let r = rest e in
      record {
        there = r.there;
        low = omega (arith, r.low);
        high = omega (arith, r.high);
        greatest = λ y a b h.
            ⊎_elim (λ less. r.greatest y a less h)
            (λ over. let same : x + n ≡ y = omega (arith, over, b) in let no : false ≡ true = sym is ∙ ap (has bits) same ∙ has_in bits y h in absurd (false≢true no))
            (cases_lt y (x + n));
      }

pub greatest_is : (bits : TriByte) (x n m : ℕ) → greatest_from bits x n ≡ Some m → IsGreatest bits x n m
unfolding greatest_from
greatest_is bits x zero m e = absurd (cc)
greatest_is bits x (suc n) m e = greatest_by bits x n m (greatest_is bits x n m) (has bits (x + n)) refl e

module _ (bits : TriByte) (x n y : ℕ) (rest : y < x + n → (m : ℕ) × (greatest_from bits x n ≡ Some m)) (b : y < x + suc n) (h : Has bits y) where
  last_by : (t : Bool) → has bits (x + n) ≡ t → (m : ℕ) × ((if t then Some (x + n) else greatest_from bits x n) ≡ Some m)
  last_by true is = (x + n, refl)
  last_by false is =
      ⊎_elim (λ less. rest less)
      (λ over. let same : x + n ≡ y = omega (arith, over, b) in let no : false ≡ true = sym is ∙ ap (has bits) same ∙ has_in bits y h in absurd (false≢true no))
      (cases_lt y (x + n))

pub greatest_there : (bits : TriByte) (x n y : ℕ) → x ≤ y → y < x + n → Has bits y → (m : ℕ) × (greatest_from bits x n ≡ Some m)
unfolding greatest_from
greatest_there bits x zero y a b h = absurd (omega (arith, a, b))
greatest_there bits x (suc n) y a b h = last_by bits x n y (λ less. greatest_there bits x n y a less h) b h (has bits (x + n)) refl

-- ---- cuts

-- a cut: the bits of both, and their least and greatest member in the range
record IsIntervalNarrowed (s : ByteSet) (low high : ℕ) (m : ByteSet) : Type 0 where
  met : byte_meet s.bits (shared_bits low high) ≡ Some m.bits
  least : least_member m.bits low high ≡ Some m.low
  greatest : greatest_member m.bits low high ≡ Some m.high

ends_are : (bits : TriByte) (a b : Option ℕ) (m : ByteSet) → ends_with bits a b ≡ Some m → (bits ≡ m.bits) × (a ≡ Some m.low) × (b ≡ Some m.high)
ends_are bits None b m e = absurd (cc)
ends_are bits (Some l) None m e = absurd (cc)
ends_are bits (Some l) (Some h) m e =
    let same : record { bits = bits; low = l; high = h } ≡ m = cc in
    ((λ i. (same i).bits), (λ i. Some (same i).low), (λ i. Some (same i).high))

was_narrowed : (s : ByteSet) (low high : ℕ) (m : ByteSet) → narrowed s low high ≡ Some m → IsIntervalNarrowed s low high m
was_narrowed s low high m e = by (byte_meet s.bits (shared_bits low high)) refl e
  where
    by : (o : Option TriByte) → byte_meet s.bits (shared_bits low high) ≡ o → sought o low high ≡ Some m → IsIntervalNarrowed s low high m
    by None is e = absurd (cc)
    by (Some bits) is e =
        let ends = ends_are bits (least_member bits low high) (greatest_member bits low high) m e in
        record {
          met = is ∙ ap (λ (b : TriByte). Some b) ends.0;
          least = subst (λ (b : TriByte). least_member b low high ≡ Some m.low) ends.0 ends.1;
          greatest = subst (λ (b : TriByte). greatest_member b low high ≡ Some m.high) ends.0 ends.2;
        }

made : (s : ByteSet) (low high l h : ℕ) (bits : TriByte) → byte_meet s.bits (shared_bits low high) ≡ Some bits → least_member bits low high ≡ Some l
    → greatest_member bits low high ≡ Some h → narrowed s low high ≡ Some (record { bits = bits; low = l; high = h })
made s low high l h bits met least greatest =
    ap (λ o. sought o low high) met
    ∙ ap (λ o. ends_with bits o (greatest_member bits low high)) least
    ∙ ap (λ o. ends_with bits (Some l) o) greatest

-- the meet has the members of both
met_by : (o : Option TriByte) (a b : TriByte) (x : ℕ) → IsIntersection a b o → x < 256 → Has a x → Has b x → (m : TriByte) × ((o ≡ Some m) × Has m x)
met_by (Some m) a b x is small h g = (m, (refl, (is x small).1 (h, g)))
met_by None a b x is small h g = absurd (is x small h g)

met_within : (o : Option TriByte) (a b m : TriByte) → IsIntersection a b o → o ≡ Some m → IsWithin m a
met_within o a b m is e =
    let both = subst (IsIntersection a b) e is in
    λ x small has. let h = (both x small).0 has in h.0

-- a member in the range is kept
kept : (s : ByteSet) (low high x : ℕ) → Has s.bits x → x < 256 → low ≤ x → x ≤ high → (m : ByteSet) × ((narrowed s low high ≡ Some m) × SetHas m x)
kept s low high x has small down up =
    let met = met_by (byte_meet s.bits (shared_bits low high)) s.bits (shared_bits low high) x (lattice_is_of_sets.meets s.bits (shared_bits low high)) small has (shared_has low high x down up) in
    let bits = met.0 in
    let inside : x < low + (high + 1 - low) = omega (arith, down, up) in
    let least = least_there bits low (high + 1 - low) x down inside met.1.1 in
    let most = greatest_there bits low (high + 1 - low) x down inside met.1.1 in
    let is_least = least_is bits low (high + 1 - low) least.0 least.1 in
    let is_most = greatest_is bits low (high + 1 - low) most.0 most.1 in (
      record { bits = bits; low = least.0; high = most.0 },
      (
        made s low high least.0 most.0 bits met.1.0 least.1 most.1,
        record { bits = met.1.1; low = is_least.least x down inside met.1.1; high = is_most.greatest x down inside met.1.1; small = small },
      ),
    )

keeps : (s : ByteSet) (low high x : ℕ) → SetHas s x → low ≤ x → x ≤ high → (m : ByteSet) × ((narrow s low high ≡ Some m) × SetHas m x)
keeps s low high x h down up =
    kept s (max s.low low) (min s.high high) x h.bits h.small (omega (arith, down, h.low)) (omega (arith, up, h.high))

under : (s m : ByteSet) (low high : ℕ) → narrow s low high ≡ Some m → IsSetWithin m s × (low ≤ m.low) × (m.high ≤ high)
under s m low high e =
    let lo = max s.low low in
    let hi = min s.high high in
    let is = was_narrowed s lo hi m e in
    let least = least_is m.bits lo (hi + 1 - lo) m.low is.least in
    let most = greatest_is m.bits lo (hi + 1 - lo) m.high is.greatest in (
      record {
        bits = met_within (byte_meet s.bits (shared_bits lo hi)) s.bits (shared_bits lo hi) m.bits (lattice_is_of_sets.meets s.bits (shared_bits lo hi)) is.met;
        low = omega (arith, least.low);
        high = omega (arith, most.high, most.low);
      },
      omega (arith, least.low),
      omega (arith, most.high, most.low),
    )

pub fits_if : (s m : ByteSet) (low high : ℕ) → min s.high high < 256 → narrow s low high ≡ Some m → RangeFits m × SetHas m m.low × SetHas m m.high
fits_if s m low high small e =
    let lo = max s.low low in
    let hi = min s.high high in
    let is = was_narrowed s lo hi m e in
    let least = least_is m.bits lo (hi + 1 - lo) m.low is.least in
    let most = greatest_is m.bits lo (hi + 1 - lo) m.high is.greatest in
    let under_most : m.low < 256 = omega (arith, least.high, least.low) in
    let most_small : m.high < 256 = omega (arith, most.high, most.low) in
    let ordered : m.low ≤ m.high = least.least m.high most.low most.high most.there in
    let a = ranges_hold.of_bits m.bits m.low under_most least.there in
    let b = ranges_hold.of_bits m.bits m.high most_small most.there in (
      record { low = a.low; ordered = ordered; high = b.high },
      record { bits = least.there; low = omega arith; high = ordered; small = under_most },
      record { bits = most.there; low = ordered; high = omega arith; small = most_small },
    )

fits : (s m : ByteSet) (low high : ℕ) → high < 256 → narrow s low high ≡ Some m → RangeFits m × SetHas m m.low × SetHas m m.high
fits s m low high small e = fits_if s m low high (omega (arith, small)) e

more : (s s' m : ByteSet) (low high low' high' : ℕ) → high < 256 → IsSetWithin s s' → low' ≤ low → high ≤ high' → narrow s low high ≡ Some m
    → (m' : ByteSet) × ((narrow s' low' high' ≡ Some m') × IsSetWithin m m')
more s s' m low high low' high' small le down up e =
    let lo = max s.low low in
    let hi = min s.high high in
    let lo' = max s'.low low' in
    let hi' = min s'.high high' in
    let lower : lo' ≤ lo = omega (arith, down, le.low) in
    let upper : hi ≤ hi' = omega (arith, up, le.high) in
    let is = was_narrowed s lo hi m e in
    let least = least_is m.bits lo (hi + 1 - lo) m.low is.least in
    let most = greatest_is m.bits lo (hi + 1 - lo) m.high is.greatest in
    let least_small : m.low < 256 = omega (arith, least.high, least.low) in
    let most_small : m.high < 256 = omega (arith, most.high, most.low) in
    let shared = shared_more lo hi lo' hi' (omega (arith, least.low, least.high)) lower upper in
    let met = lattice_is_monotone.meets s.bits (shared_bits lo hi) s'.bits (shared_bits lo' hi') m.bits le.bits shared is.met in
    let n' = hi' + 1 - lo' in
    let there = met.1.1 m.low least_small least.there in
    let there' = met.1.1 m.high most_small most.there in
    let in_low : m.low < lo' + n' = omega (arith, least.low, least.high, lower, upper) in
    let in_high : m.high < lo' + n' = omega (arith, most.low, most.high, lower, upper) in
    let a = least_there met.0 lo' n' m.low (omega (arith, least.low, lower)) in_low there in
    let b = greatest_there met.0 lo' n' m.high (omega (arith, most.low, lower)) in_high there' in
    let a_is = least_is met.0 lo' n' a.0 a.1 in
    let b_is = greatest_is met.0 lo' n' b.0 b.1 in (
      record { bits = met.0; low = a.0; high = b.0 },
      (
        made s' lo' hi' a.0 b.0 met.0 met.1.0 a.1 b.1,
        record {
          bits = met.1.1;
          low = a_is.least m.low (omega (arith, least.low, lower)) in_low there;
          high = b_is.greatest m.high (omega (arith, most.low, lower)) in_high there';
        },
      ),
    )

none_is : (s : ByteSet) (low high : ℕ) → narrow s low high ≡ None → (x : ℕ) → SetHas s x → low ≤ x → x ≤ high → ⊥
none_is s low high none x h down up = let m = keeps s low high x h down up in let no : None ≡ Some m.0 = sym none ∙ m.1.0 in absurd (cc)

is_none : (s : ByteSet) (low high : ℕ) → high < 256 → ((x : ℕ) → SetHas s x → low ≤ x → x ≤ high → ⊥) → narrow s low high ≡ None
is_none s low high small none = by (narrow s low high) refl
  where
    by : (o : Option ByteSet) → narrow s low high ≡ o → o ≡ None
    by None e = refl
    by (Some m) e =
        let under_s = under s m low high e in
        let held = fits s m low high small e in
        absurd (none m.low (ranges_hold.says_less m s m.low under_s.0 held.1) under_s.1 (let o = held.0.ordered in omega (arith, o, under_s.2)))

pub narrowing_cuts : NarrowingCuts
narrowing_cuts = record {
  keeps = keeps;
  under = under;
  fits = fits;
  more = more;
  none = λ s low high small. (none_is s low high, is_none s low high small);
}
