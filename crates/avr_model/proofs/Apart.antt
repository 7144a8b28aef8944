-- Places of a device don't meet.
use Rattle.std.proofs.Common.{◌≡◌, refl, sym, ap, ap₂, ◌∙◌, ℕ, zero, suc, ◌+◌, ◌^◌, ◌<◌, ◌≤◌, Bool, true, false, ◌==◌, ◌&&◌, ◌||◌, not, nat_le, nat_lt, List, [], ◌∷◌, length, ◌⊎◌, inl, inr, ⊎_elim, eq-eqb, arith}
use Rattle.std.specs.Prelude.{slice_index_or, Contains, if◌then◌else◌}
use Rattle.std.specs.List.{list_all, All}
use Rattle.std.specs.Int.{bit_at}
use Rattle.std.proofs.lemmas.Bool.{and_parts, cases_lt}
use Rattle.std.proofs.lemmas.Bool.Decides.{nat_tests}
use Rattle.basics.specs.Numbers.{less_from_test, at_most_from_test}
use Rattle.avr_model.specs.declared.device.Device.{Device}
use Rattle.avr_model.specs.declared.rows.EnablePlace.{EnablePlace}
use Rattle.avr_model.specs.Families.{FAMILIES, numbered, family_of}
use Rattle.avr_model.specs.Devices.{device_row, guarded_end}
use Rattle.avr_model.specs.Bits.{any_below}
use Rattle.avr_model.specs.Vectors.{last_vector, is_vector, enable_places, covers, is_bit, is_core, has_common}
use Rattle.avr_model.specs.Laws.{PlacesAreApart}
use Rattle.avr_model.proofs.Below.{some_below, any_found}
use Rattle.avr_model.proofs.Facts.{passes}

-- ---- pairs of items of a list

abbrev pairwise : {X : Type 0} → (X → X → Bool) → List X → Bool
pairwise R [] = true
pairwise R (x ∷ xs) = list_all (R x) xs && pairwise R xs

one_of : {X : Type 0} (p : X → Bool) (xs : List X) (k : ℕ) (d : X) → list_all p xs ≡ true → k < length xs → p (slice_index_or xs k d) ≡ true
one_of p [] k d all lt = absurd (omega arith)
one_of p (x ∷ xs) zero d all lt = (and_parts (p x) (list_all p xs) all).0
one_of p (x ∷ xs) (suc k) d all lt = one_of p xs k d (and_parts (p x) (list_all p xs) all).1 (omega arith)

two_of : {X : Type 0} (R : X → X → Bool) (xs : List X) (i j : ℕ) (d e : X) → pairwise R xs ≡ true → i < j → j < length xs → R (slice_index_or xs i d) (slice_index_or xs j e) ≡ true
two_of R [] i j d e all lt in_list = absurd (omega arith)
two_of R (x ∷ xs) i zero d e all lt in_list = absurd (omega arith)
two_of R (x ∷ xs) zero (suc j) d e all lt in_list = one_of (R x) xs j e (and_parts (list_all (R x) xs) (pairwise R xs) all).0 (omega arith)
two_of R (x ∷ xs) (suc i) (suc j) d e all lt in_list = two_of R xs i j d e (and_parts (list_all (R x) xs) (pairwise R xs) all).1 (omega arith) (omega arith)

any_default : {X : Type 0} (xs : List X) (k : ℕ) (d e : X) → k < length xs → slice_index_or xs k d ≡ slice_index_or xs k e
any_default [] k d e lt = absurd (omega arith)
any_default (x ∷ xs) zero d e lt = refl
any_default (x ∷ xs) (suc k) d e lt = any_default xs k d e (omega arith)

-- two items are one, or pass the test in one order
one_or_two : {X : Type 0} (R : X → X → Bool) (xs : List X) (p q : X) → pairwise R xs ≡ true → Contains xs p → Contains xs q → (p ≡ q) ⊎ ((R p q ≡ true) ⊎ (R q p ≡ true))
one_or_two R xs p q all (i, li, pi) (j, lj, qj) =
    ⊎_elim
    (λ (lt : i < j). inr (inl (ap₂ R (sym pi) (sym qj) ∙ two_of R xs i j p q all lt lj)))
    (λ (le : j ≤ i). ⊎_elim
    (λ (lt : j < i). inr (inr (ap₂ R (sym qj) (sym pi) ∙ two_of R xs j i q p all lt li)))
    (λ (ge : i ≤ j). inl (sym pi ∙ any_default xs i p q li ∙ (let same : i ≡ j = omega arith in ap (λ (k : ℕ). slice_index_or xs k q) same) ∙ qj))
    (cases_lt j i))
    (cases_lt i j)

-- ---- the places of the table

abbrev is_place : EnablePlace → Bool
is_place p = nat_le 2 p.vector && (nat_lt p.mask 256 && (not (is_bit p.enable) || any_below 8 (λ b. p.mask == 2 ^ b)))

-- no common bit, and another place of the vector has another address; the place of an enable bit is its vector's only one
abbrev are_apart : EnablePlace → EnablePlace → Bool
are_apart p q =
    not ((p.address == q.address) && (has_common p.mask q.mask || has_common q.mask p.mask))
    && not ((p.vector == q.vector) && ((p.address == q.address) || (is_bit p.enable || is_bit q.enable)))

-- a test that each list passes, and none as well
numbered_list : (test : List EnablePlace → Bool) (n k : ℕ) (fs : List (List EnablePlace)) → test [] ≡ true → list_all test fs ≡ true → test (numbered n k fs) ≡ true
numbered_list test n k [] none all = none
numbered_list test n k (f ∷ fs) none all =
    let both = and_parts (test f) (list_all test fs) all in
    either (n == k) f (numbered n (k + 1) fs) both.0 (numbered_list test n (k + 1) fs none both.1)
  where
    either : (b : Bool) (x y : List EnablePlace) → test x ≡ true → test y ≡ true → test (if b then x else y) ≡ true
    either true x y h g = h
    either false x y h g = g

each_family : (test : List EnablePlace → Bool) (n : ℕ) → test [] ≡ true → list_all test FAMILIES ≡ true → test (family_of n) ≡ true
each_family test n none all = numbered_list test n 0 FAMILIES none all

each_place : (n : ℕ) → list_all is_place (family_of n) ≡ true
unfolding any_below
each_place n = each_family (list_all is_place) n refl refl

each_pair : (n : ℕ) → pairwise are_apart (family_of n) ≡ true
unfolding has_common any_below
each_pair n = each_family (pairwise are_apart) n refl refl

-- ---- what follows

one : (d : Device) (p : EnablePlace) → Contains (enable_places d) p → is_place p ≡ true
unfolding enable_places
one d p (k, lt, is) = ap is_place (sym is) ∙ one_of is_place (enable_places d) k p (each_place (device_row d).family) lt

-- what is tested of a place for the row that has it
abbrev pub in_device : Device → EnablePlace → Bool
in_device d p = nat_le p.vector (last_vector d) && (nat_le p.address (guarded_end d) && not (is_core d p.address))

pub in_row : (d : Device) (p : EnablePlace) → Contains (enable_places d) p → in_device d p ≡ true
unfolding enable_places
in_row d p (k, lt, is) =
    ap (in_device d) (sym is) ∙ one_of (in_device d) (enable_places d) k p (passes d 10) lt

two : (d : Device) (p q : EnablePlace) → Contains (enable_places d) p → Contains (enable_places d) q → (p ≡ q) ⊎ ((are_apart p q ≡ true) ⊎ (are_apart q p ≡ true))
unfolding enable_places
two d p q a b = one_or_two are_apart (enable_places d) p q (each_pair (device_row d).family) a b

-- if neither order passes the test, the places are one
meet : (d : Device) (p q : EnablePlace) → Contains (enable_places d) p → Contains (enable_places d) q → are_apart p q ≡ false → are_apart q p ≡ false → p ≡ q
meet d p q a b first second = by (two d p q a b)
  where
    true_and_false : (t : Bool) → t ≡ true → t ≡ false → ⊥
    true_and_false t a b = absurd (cc)

    by : (p ≡ q) ⊎ ((are_apart p q ≡ true) ⊎ (are_apart q p ≡ true)) → p ≡ q
    by (inl same) = same
    by (inr (inl is)) = absurd (true_and_false (are_apart p q) is first)
    by (inr (inr is)) = absurd (true_and_false (are_apart q p) is second)

both : (p q : ℕ) (m : Bool) → p ≡ q → m ≡ true → ((p == q) && m) ≡ true
both p q m is e = grind (arith, nat_tests)

not_apart_by_bits : (x y : Bool) → x ≡ true → (not x && y) ≡ false
not_apart_by_bits true y e = refl
not_apart_by_bits false y e = absurd (cc)

not_apart_by_vector : (x y : Bool) → y ≡ true → (x && not y) ≡ false
not_apart_by_vector true true e = refl
not_apart_by_vector false true e = refl
not_apart_by_vector x false e = absurd (cc)

either_left : (a b : Bool) → a ≡ true → (a || b) ≡ true
either_left true b e = refl
either_left false b e = absurd (cc)

either_right : (a b : Bool) → b ≡ true → (a || b) ≡ true
either_right true b e = refl
either_right false b e = e

same_address : (address bit : ℕ) (p q : EnablePlace) → covers address bit p ≡ true → covers address bit q ≡ true → p.address ≡ q.address
same_address address bit p q a b = grind (arith, nat_tests)

common : (address bit : ℕ) (p q : EnablePlace) → bit < 8 → covers address bit p ≡ true → covers address bit q ≡ true → has_common p.mask q.mask ≡ true
unfolding has_common
common address bit p q lt a b = some_below 8 (λ k. (bit_at p.mask k == 1) && (bit_at q.mask k == 1)) bit lt (grind (arith, nat_tests))

bits : (d : Device) (address bit : ℕ) (p q : EnablePlace) → bit < 8 → Contains (enable_places d) p → Contains (enable_places d) q → covers address bit p ≡ true → covers address bit q ≡ true → p ≡ q
bits d address bit p q lt a b h g =
    meet d p q a b
    (not_apart_by_bits _ _ (both p.address q.address _ (same_address address bit p q h g) (either_left _ _ (common address bit p q lt h g))))
    (not_apart_by_bits _ _ (both q.address p.address _ (same_address address bit q p g h) (either_left _ _ (common address bit q p lt g h))))

vectors : (d : Device) (p q : EnablePlace) → Contains (enable_places d) p → Contains (enable_places d) q → p.address ≡ q.address → p.vector ≡ q.vector → p ≡ q
vectors d p q a b at v =
    meet d p q a b
    (not_apart_by_vector _ _ (both p.vector q.vector _ v (either_left _ _ (eq-eqb p.address q.address at))))
    (not_apart_by_vector _ _ (both q.vector p.vector _ (sym v) (either_left _ _ (eq-eqb q.address p.address (sym at)))))

held : (d : Device) (p q : EnablePlace) → Contains (enable_places d) p → Contains (enable_places d) q → is_bit p.enable ≡ true → q.vector ≡ p.vector → p ≡ q
held d p q a b is v =
    meet d p q a b
    (not_apart_by_vector _ _ (both p.vector q.vector _ (sym v) (either_right (p.address == q.address) _ (either_left _ _ is))))
    (not_apart_by_vector _ _ (both q.vector p.vector _ v (either_right (q.address == p.address) _ (either_right (is_bit q.enable) _ is))))

vector_test : (v last : ℕ) → nat_le 2 v ≡ true → nat_le v last ≡ true → (nat_le 2 v && nat_le v last) ≡ true
vector_test v last a b = grind (arith, nat_tests)

not_core : (t : Bool) → not t ≡ true → t ≡ false
not_core true e = absurd (cc)
not_core false e = refl

parts : (d : Device) (p : EnablePlace) → is_place p ≡ true → in_device d p ≡ true
    → (is_vector d p.vector ≡ true) × ((is_core d p.address ≡ false) × ((p.address ≤ guarded_end d) × (p.mask < 256)))
parts d p h g =
    let last = not (is_bit p.enable) || any_below 8 (λ b. p.mask == 2 ^ b) in
    let a = and_parts (nat_le 2 p.vector) (nat_lt p.mask 256 && last) h in
    let c = and_parts (nat_lt p.mask 256) last a.1 in
    let e = and_parts (nat_le p.vector (last_vector d)) (nat_le p.address (guarded_end d) && not (is_core d p.address)) g in
    let f = and_parts (nat_le p.address (guarded_end d)) (not (is_core d p.address)) e.1 in
    (vector_test p.vector (last_vector d) a.0 e.0, (not_core (is_core d p.address) f.1, (at_most_from_test p.address (guarded_end d) f.0, less_from_test p.mask 256 c.0)))

each : (d : Device) → All (λ (p : EnablePlace). (is_vector d p.vector ≡ true) × ((is_core d p.address ≡ false) × ((p.address ≤ guarded_end d) × (p.mask < 256)))) (enable_places d)
each d k default lt = let p = slice_index_or (enable_places d) k default in let there : Contains (enable_places d) p = (k, lt, any_default (enable_places d) k p default lt) in parts d p (one d p there) (in_row d p there)

equal_if : (x y : ℕ) → (x == y) ≡ true → x ≡ y
equal_if x y e = grind (arith, nat_tests)

other : (a b : Bool) → (not a || b) ≡ true → a ≡ true → b ≡ true
other true b h e = h
other false b h e = absurd (cc)

one_bit : (d : Device) (p : EnablePlace) → Contains (enable_places d) p → is_bit p.enable ≡ true → (b : ℕ) × ((b < 8) × (p.mask ≡ 2 ^ b))
one_bit d p there is =
    let last = not (is_bit p.enable) || any_below 8 (λ b. p.mask == 2 ^ b) in
    let a = and_parts (nat_le 2 p.vector) (nat_lt p.mask 256 && last) (one d p there) in
    let c = and_parts (nat_lt p.mask 256) last a.1 in
    let f = any_found 8 (λ k. p.mask == 2 ^ k) (other (is_bit p.enable) (any_below 8 (λ k. p.mask == 2 ^ k)) c.1 is) in
    (f.0, (f.1, equal_if p.mask (2 ^ f.0) f.2))

pub places_are_apart : PlacesAreApart
places_are_apart = record { each = each; bits = bits; vectors = vectors; held = held; one_bit = one_bit }
