-- The places of a device, as the code goes through them.
use Rattle.std.proofs.Common.{◌≡◌, ◌∙◌, sym, ap, subst, refl, inl, inr, ℕ, zero, suc, ◌+◌, ◌-◌, ◌^◌, ◌<◌, ◌≤◌, ◌==◌, ◌&&◌, ◌||◌, arith, Bool, true, false, cond, nat_le, eqb-true, eq-eqb, List, [], ◌∷◌, ◌++◌, length, get_or, take, Option, Some, None, option_map, find}
use Rattle.std.specs.Prelude.{Contains}
use Rattle.std.specs.Int.{bit_at}
use Rattle.std.specs.List.{list_any}
use Rattle.std.proofs.lemmas.Bool.{cases_Bool, cases_eq, and_parts, and_from}
use Rattle.std.proofs.lemmas.List.Folds.{list_any_at}
use Rattle.std.proofs.lemmas.Option.{same_Some}
use Rattle.std.proofs.Math.Seq.{take-suc}
use Rattle.basics.specs.Numbers.{at_most_from_test}
use Rattle.avr_model.specs.declared.device.Device.{Device}
use Rattle.avr_model.specs.declared.rows.EnablePlace.{EnablePlace}
use Rattle.avr_model.specs.Vectors.{last_vector, enable_count, is_vector, enable_places, covers, is_bit, is_core, has_enable_place, has_enables, enable_place_at, enable_of, held_of}
use Rattle.avr_model.proofs.AllLaws.{devices_are_alike, places_are_apart}
use Rattle.std.proofs.lemmas.Nat.Bits.{bit_at-pow_other}

-- ---- lists

true_and_false : (t : Bool) → t ≡ true → t ≡ false → ⊥
true_and_false true a b = absurd (cc)
true_and_false false a b = absurd (cc)

found_step : {X : Type 0} (q : X → Bool) (y : X) (ys : List X) (x : X) (b : Bool) → q y ≡ b → (find q ys ≡ Some x → Contains ys x × (q x ≡ true))
    → cond {A = Option X} b (Some y) (find q ys) ≡ Some x → Contains (y ∷ ys) x × (q x ≡ true)
found_step q y ys x true is rest e = let same : y ≡ x = same_Some y x e in ((zero, omega arith, same), ap q (sym same) ∙ is)
found_step q y ys x false is rest e = let f = rest e in ((suc f.0.0, omega (arith, f.0.1), f.0.2), f.1)

pub find_there : {X : Type 0} (q : X → Bool) (xs : List X) (x : X) → find q xs ≡ Some x → Contains xs x × (q x ≡ true)
find_there q [] x e = absurd (cc)
find_there q (y ∷ ys) x e = found_step q y ys x (q y) refl (find_there q ys x) e

some_step : {X : Type 0} (q : X → Bool) (y : X) (ys : List X) (b : Bool) → q y ≡ b → ((z : X) × (find q ys ≡ Some z)) → (z : X) × (cond {A = Option X} b (Some y) (find q ys) ≡ Some z)
some_step q y ys true e rest = (y, refl)
some_step q y ys false e rest = rest

pub find_some : {X : Type 0} (q : X → Bool) (xs : List X) (x : X) → Contains xs x → q x ≡ true → (y : X) × (find q xs ≡ Some y)
find_some q [] x (k, lt, is) h = absurd (omega arith)
find_some {X} q (y ∷ ys) x (zero, lt, is) h = (y, λ i. cond {A = Option X} ((ap q is ∙ h) i) (Some y) (find q ys))
find_some q (y ∷ ys) x (suc k, lt, is) h = some_step q y ys (q y) refl (find_some q ys x (k, omega arith, is) h)

none_or_some : {X : Type 0} (o : Option X) → ((x : X) → o ≡ Some x → ⊥) → o ≡ None
none_or_some None h = refl
none_or_some (Some x) h = absurd (h x refl)

pub find_none : {X : Type 0} (q : X → Bool) (xs : List X) → ((x : X) → Contains xs x → q x ≡ true → ⊥) → find q xs ≡ None
find_none q xs h = none_or_some (find q xs) (λ x e. let f = find_there q xs x e in h x f.0 f.1)

pub any_there : {X : Type 0} (q : X → Bool) (xs : List X) (x : X) → Contains xs x → q x ≡ true → list_any q xs ≡ true
any_there q xs x (k, lt, is) h = list_any_at q xs k x lt (ap q is ∙ h)

pub none_there : {X : Type 0} (q : X → Bool) (xs : List X) (x : X) → list_any q xs ≡ false → Contains xs x → q x ≡ false
none_there q xs x none c = elim (cases_Bool (q x)) [
  | inl here ↦ absurd (true_and_false (list_any q xs) (any_there q xs x c here) none)
  | inr other ↦ other
]

any_step : {X : Type 0} (q : X → Bool) (y : X) (ys : List X) (b : Bool) → q y ≡ b → (list_any q ys ≡ true → (x : X) × (Contains ys x × (q x ≡ true)))
    → (b || list_any q ys) ≡ true → (x : X) × (Contains (y ∷ ys) x × (q x ≡ true))
any_step q y ys true e rest h = (y, ((zero, omega arith, refl), e))
any_step q y ys false e rest h = let f = rest h in (f.0, ((suc f.1.0.0, omega (arith, f.1.0.1), f.1.0.2), f.1.1))

pub any_found : {X : Type 0} (q : X → Bool) (xs : List X) → list_any q xs ≡ true → (x : X) × (Contains xs x × (q x ≡ true))
any_found q [] h = absurd (cc)
any_found q (y ∷ ys) h = any_step q y ys (q y) refl (any_found q ys) h

any_default : {X : Type 0} (xs : List X) (k : ℕ) (d e : X) → k < length xs → get_or xs k d ≡ get_or xs k e
any_default [] k d e lt = absurd (omega arith)
any_default (x ∷ xs) zero d e lt = refl
any_default (x ∷ xs) (suc k) d e lt = any_default xs k d e (omega arith)

pub item_there : {X : Type 0} (xs : List X) (k : ℕ) (d : X) → k < length xs → Contains xs (get_or xs k d)
item_there xs k d lt = (k, lt, any_default xs k (get_or xs k d) d lt)

contains_taken : {X : Type 0} (k : ℕ) (xs : List X) (x : X) → Contains (take k xs) x → Contains xs x
contains_taken zero xs x (j, lt, is) = absurd (omega arith)
contains_taken (suc k) [] x (j, lt, is) = absurd (omega arith)
contains_taken (suc k) (y ∷ ys) x (zero, lt, is) = (zero, omega arith, is)
contains_taken (suc k) (y ∷ ys) x (suc j, lt, is) = let f = contains_taken k ys x (j, omega arith, is) in (suc f.0, omega (arith, f.1), f.2)

-- ---- a device's vectors

pub vector_bounds : (d : Device) (v : ℕ) → is_vector d v ≡ true → (2 ≤ v) × (v ≤ last_vector d)
vector_bounds d v h =
    let parts = and_parts (nat_le 2 v) (nat_le v (last_vector d)) h in
    (at_most_from_test 2 v parts.0, at_most_from_test v (last_vector d) parts.1)

pub vector_room : (d : Device) (v : ℕ) → is_vector d v ≡ true → (2 ≤ v) × ((v ≤ last_vector d) × ((v - 2 < enable_count d) × (v - 2 < 128)))
vector_room d v h =
    let b = vector_bounds d v h in
    let most = devices_are_alike.most_vectors d in
    (b.0, (b.1, (omega arith, omega arith)))

pub count_small : (d : Device) → enable_count d < 128
count_small d = let most = devices_are_alike.most_vectors d in let some = devices_are_alike.some_vector d in omega arith

pub place_vector : (d : Device) (p : EnablePlace) → Contains (enable_places d) p → is_vector d p.vector ≡ true
place_vector d p (k, lt, is) = ap (λ (q : EnablePlace). is_vector d q.vector) (sym is) ∙ (places_are_apart.each d k p lt).0

not_core : (d : Device) (p : EnablePlace) → Contains (enable_places d) p → is_core d p.address ≡ false
not_core d p (k, lt, is) = ap (λ (q : EnablePlace). is_core d q.address) (sym is) ∙ (places_are_apart.each d k p lt).1.0

-- the place at which a loop is
pub item_vector : (d : Device) (ps : List EnablePlace) (k : ℕ) (e : EnablePlace) → ps ≡ enable_places d → k < length ps → is_vector d (get_or ps k e).vector ≡ true
item_vector d ps k e is lt = place_vector d (get_or ps k e) (subst (λ (qs : List EnablePlace). Contains qs (get_or ps k e)) is (item_there ps k e lt))

-- ---- the place of a vector at an address

abbrev pub at : ℕ → ℕ → EnablePlace → Bool
at v address p = (p.vector == v) && (p.address == address)

at_parts : (v address : ℕ) (p : EnablePlace) → at v address p ≡ true → (p.vector ≡ v) × (p.address ≡ address)
at_parts v address p h = let parts = and_parts (p.vector == v) (p.address == address) h in (eqb-true p.vector v parts.0, eqb-true p.address address parts.1)

pub at_from : (v address : ℕ) (p : EnablePlace) → p.vector ≡ v → p.address ≡ address → at v address p ≡ true
at_from v address p is here = and_from (p.vector == v) (p.address == address) (eq-eqb p.vector v is) (eq-eqb p.address address here)

pub found : (d : Device) (v address : ℕ) (p : EnablePlace) → enable_place_at d v address ≡ Some p → Contains (enable_places d) p × ((p.vector ≡ v) × (p.address ≡ address))
unfolding enable_place_at
found d v address p e = let f = find_there (at v address) (enable_places d) p e in (f.0, at_parts v address p f.1)

one_at : (d : Device) (v address : ℕ) (p q : EnablePlace) → Contains (enable_places d) p → Contains (enable_places d) q → at v address p ≡ true → at v address q ≡ true → p ≡ q
one_at d v address p q a b h g =
    let x = at_parts v address p h in
    let y = at_parts v address q g in
    places_are_apart.vectors d p q a b (x.1 ∙ sym y.1) (x.0 ∙ sym y.0)

pub standing : (d : Device) (p : EnablePlace) → Contains (enable_places d) p → enable_place_at d p.vector p.address ≡ Some p
unfolding enable_place_at
standing d p c =
    let own = at_from p.vector p.address p refl refl in
    let f = find_some (at p.vector p.address) (enable_places d) p c own in
    let there = find_there (at p.vector p.address) (enable_places d) f.0 f.1 in
    f.1 ∙ ap Some (one_at d p.vector p.address f.0 p there.0 c there.1 own)

pub placed : (d : Device) (v address : ℕ) (p : EnablePlace) → enable_place_at d v address ≡ Some p → has_enable_place d v ≡ true
unfolding has_enable_place
placed d v address p e = let f = found d v address p e in any_there (λ (q : EnablePlace). q.vector == v) (enable_places d) p f.0 (eq-eqb p.vector v f.1.0)

pub nowhere : (d : Device) (v address : ℕ) → has_enables d address ≡ false → enable_place_at d v address ≡ None
unfolding has_enables
nowhere d v address h = none_or_some (enable_place_at d v address) (λ p e.
    let f = found d v address p e in
    true_and_false (p.address == address) (eq-eqb p.address address f.1.1) (none_there (λ (q : EnablePlace). q.address == address) (enable_places d) p h f.0))

-- ---- one more place, as at a step of a loop

abbrev or_else : {X : Type 0} → Option X → Option X → Option X
or_else None y = y
or_else (Some x) y = Some x

two_step : {X : Type 0} (x : X) (b : Bool) (o r s : Option X) → o ≡ or_else r s → cond {A = Option X} b (Some x) o ≡ or_else (cond {A = Option X} b (Some x) r) s
two_step x true o r s rest = refl
two_step x false o r s rest = rest

find_two : {X : Type 0} (q : X → Bool) (xs ys : List X) → find q (xs ++ ys) ≡ or_else (find q xs) (find q ys)
find_two q [] ys = refl
find_two q (x ∷ xs) ys = two_step x (q x) (find q (xs ++ ys)) (find q xs) (find q ys) (find_two q xs ys)

or_none : {X : Type 0} (o : Option X) → or_else o None ≡ o
or_none None = refl
or_none (Some x) = refl

find_more : {X : Type 0} (q : X → Bool) (xs : List X) (k : ℕ) (e : X) → k < length xs → find q (take (k + 1) xs) ≡ or_else (find q (take k xs)) (cond (q (get_or xs k e)) (Some (get_or xs k e)) None)
find_more q xs k e lt =
    let one : k + 1 ≡ suc k = omega arith in
    ap (λ (n : ℕ). find q (take n xs)) one ∙ ap (find q) (take-suc xs k e lt) ∙ find_two q (take k xs) (get_or xs k e ∷ [])

pub next_other : (ps : List EnablePlace) (k v address : ℕ) (e : EnablePlace) → k < length ps → at v address (get_or ps k e) ≡ false
    → find (at v address) (take (k + 1) ps) ≡ find (at v address) (take k ps)
next_other ps k v address e lt h =
    let p = get_or ps k e in
    find_more (at v address) ps k e lt ∙ (λ i. or_else (find (at v address) (take k ps)) (cond {A = Option EnablePlace} (h i) (Some p) None)) ∙ or_none (find (at v address) (take k ps))

pub next_here : (d : Device) (ps : List EnablePlace) (k v address : ℕ) (e : EnablePlace) → ps ≡ enable_places d → k < length ps → at v address (get_or ps k e) ≡ true
    → find (at v address) (take (k + 1) ps) ≡ Some (get_or ps k e)
next_here d ps k v address e is lt h =
    find_more (at v address) ps k e lt ∙ (λ i. or_else (find (at v address) (take k ps)) (cond {A = Option EnablePlace} (h i) (Some (get_or ps k e)) None)) ∙ by (find (at v address) (take k ps)) refl
  where
    p : EnablePlace
    p = get_or ps k e

    by : (o : Option EnablePlace) → find (at v address) (take k ps) ≡ o → or_else o (Some (get_or ps k e)) ≡ Some (get_or ps k e)
    by None was = refl
    by (Some q) was =
        let f = find_there (at v address) (take k ps) q was in
        let old = subst (λ (qs : List EnablePlace). Contains qs q) is (contains_taken k ps q f.0) in
        let new = subst (λ (qs : List EnablePlace). Contains qs (get_or ps k e)) is (item_there ps k e lt) in
        ap Some (one_at d v address q (get_or ps k e) old new f.1 h)

-- ---- the vector of a bit

abbrev of_bit : ℕ → ℕ → EnablePlace → Bool
of_bit address bit p = covers address bit p

vector_some : (o : Option EnablePlace) (v : ℕ) → option_map (λ (p : EnablePlace). p.vector) o ≡ Some v → (p : EnablePlace) × ((o ≡ Some p) × (p.vector ≡ v))
vector_some None v e = absurd (cc)
vector_some (Some p) v e = (p, (refl, same_Some p.vector v e))

cover_parts : (address bit : ℕ) (p : EnablePlace) → covers address bit p ≡ true → (p.address ≡ address) × (bit_at p.mask bit ≡ 1)
cover_parts address bit p h =
    let parts = and_parts (p.address == address) (bit_at p.mask bit == 1) h in
    (eqb-true p.address address parts.0, eqb-true (bit_at p.mask bit) 1 parts.1)

covers_from : (address bit : ℕ) (p : EnablePlace) → p.address ≡ address → bit_at p.mask bit ≡ 1 → covers address bit p ≡ true
covers_from address bit p here one = and_from (p.address == address) (bit_at p.mask bit == 1) (eq-eqb p.address address here) (eq-eqb (bit_at p.mask bit) 1 one)

-- what a search for a bit finds
pub enabler_in : (d : Device) (address bit v : ℕ) → enable_of d address bit ≡ Some v → (p : EnablePlace) × ((Contains (enable_places d) p × (p.vector ≡ v)) × (covers address bit p ≡ true))
unfolding enable_of
enabler_in d address bit v e =
    let o = vector_some (find (covers address bit) (enable_places d)) v e in
    let f = find_there (covers address bit) (enable_places d) o.0 o.1.0 in
    (o.0, ((f.0, o.1.1), f.1))

pub holder_in : (d : Device) (address bit v : ℕ) → held_of d address bit ≡ Some v
    → (p : EnablePlace) × ((Contains (enable_places d) p × (p.vector ≡ v)) × ((covers address bit p ≡ true) × (is_bit p.enable ≡ true)))
unfolding held_of
holder_in d address bit v e =
    let q : EnablePlace → Bool = λ (p : EnablePlace). covers address bit p && is_bit p.enable in
    let o = vector_some (find q (enable_places d)) v e in
    let f = find_there q (enable_places d) o.0 o.1.0 in
    (o.0, ((f.0, o.1.1), and_parts (covers address bit o.0) (is_bit o.0.enable) f.1))

pub enabled_vector : (d : Device) (address bit v : ℕ) → enable_of d address bit ≡ Some v → is_vector d v ≡ true
enabled_vector d address bit v e = let f = enabler_in d address bit v e in ap (is_vector d) (sym f.1.0.1) ∙ place_vector d f.0 f.1.0.0

pub held_vector : (d : Device) (address bit v : ℕ) → held_of d address bit ≡ Some v → is_vector d v ≡ true
held_vector d address bit v e = let f = holder_in d address bit v e in ap (is_vector d) (sym f.1.0.1) ∙ place_vector d f.0 f.1.0.0

-- the place of that vector at the address
stands : (d : Device) (v address bit : ℕ) (p : EnablePlace) → Contains (enable_places d) p → p.vector ≡ v → covers address bit p ≡ true → enable_place_at d v address ≡ Some p
stands d v address bit p c is covered =
    let here = (cover_parts address bit p covered).0 in
    (λ i. enable_place_at d (sym is i) (sym here i)) ∙ standing d p c

pub enabler : (d : Device) (address bit v : ℕ) → enable_of d address bit ≡ Some v → (p : EnablePlace) × ((enable_place_at d v address ≡ Some p) × (covers address bit p ≡ true))
enabler d address bit v e = let f = enabler_in d address bit v e in (f.0, (stands d v address bit f.0 f.1.0.0 f.1.0.1 f.1.1, f.1.1))

of_place : (d : Device) (address bit : ℕ) (p : EnablePlace) → bit < 8 → Contains (enable_places d) p → covers address bit p ≡ true → enable_of d address bit ≡ Some p.vector
unfolding enable_of
of_place d address bit p lt c covered =
    let f = find_some (covers address bit) (enable_places d) p c covered in
    let there = find_there (covers address bit) (enable_places d) f.0 f.1 in
    let same : f.0 ≡ p = places_are_apart.bits d address bit f.0 p lt there.0 c there.1 covered in
    ap (option_map (λ (q : EnablePlace). q.vector)) (f.1 ∙ ap Some same)

pub enabled : (d : Device) (v address bit : ℕ) (p : EnablePlace) → bit < 8 → enable_place_at d v address ≡ Some p → bit_at p.mask bit ≡ 1 → enable_of d address bit ≡ Some v
enabled d v address bit p lt e one =
    let f = found d v address p e in
    of_place d address bit p lt f.0 (covers_from address bit p f.1.1 one) ∙ ap Some f.1.0

pub held : (d : Device) (address bit v : ℕ) → bit < 8 → held_of d address bit ≡ Some v → enable_of d address bit ≡ Some v
held d address bit v lt e = let f = holder_in d address bit v e in of_place d address bit f.0 lt f.1.0.0 f.1.1.0 ∙ ap Some f.1.0.1

-- the one bit of a mask
only_bit : (mask b bit : ℕ) → mask ≡ 2 ^ b → bit_at mask bit ≡ 1 → mask ≡ 2 ^ bit
only_bit mask b bit is one = elim (cases_eq bit b) [
  | inl same ↦ is ∙ ap (λ (n : ℕ). 2 ^ n) (sym same)
  | inr other ↦ absurd (let none : bit_at mask bit ≡ 0 = ap (λ (n : ℕ). bit_at n bit) is ∙ bit_at-pow_other b bit other in omega arith)
]

pub holder : (d : Device) (address bit v : ℕ) → bit < 8 → held_of d address bit ≡ Some v
    → (p : EnablePlace) × ((enable_place_at d v address ≡ Some p) × ((is_bit p.enable ≡ true) × (p.mask ≡ 2 ^ bit)))
holder d address bit v lt e =
    let f = holder_in d address bit v e in
    let one = places_are_apart.one_bit d f.0 f.1.0.0 f.1.1.1 in
    (f.0, (stands d v address bit f.0 f.1.0.0 f.1.0.1 f.1.1.0, (f.1.1.1, only_bit f.0.mask one.0 bit one.1.1 (cover_parts address bit f.0 f.1.1.0).1)))

-- ---- addresses without places

pub no_enable : (d : Device) (address bit : ℕ) → has_enables d address ≡ false → enable_of d address bit ≡ None
no_enable d address bit h = none_or_some (enable_of d address bit) (λ v e.
    let f = enabler d address bit v e in
    let none = sym f.1.0 ∙ nowhere d v address h in absurd (cc))

pub no_held : (d : Device) (address bit : ℕ) → has_enables d address ≡ false → held_of d address bit ≡ None
unfolding has_enables
no_held d address bit h = none_or_some (held_of d address bit) (λ v e.
    let f = holder_in d address bit v e in
    true_and_false (f.0.address == address) (eq-eqb f.0.address address (cover_parts address bit f.0 f.1.1.0).0)
    (none_there (λ (q : EnablePlace). q.address == address) (enable_places d) f.0 h f.1.0.0))

pub core : (d : Device) (address : ℕ) → is_core d address ≡ true → has_enables d address ≡ false
unfolding has_enables
core d address h = elim (cases_Bool (list_any (λ (q : EnablePlace). q.address == address) (enable_places d))) [
  | inl some ↦
      let f = any_found (λ (q : EnablePlace). q.address == address) (enable_places d) some in
      let same : f.0.address ≡ address = eqb-true f.0.address address f.1.1 in
      absurd (true_and_false (is_core d address) h (ap (is_core d) (sym same) ∙ not_core d f.0 f.1.0))
  | inr none ↦ none
]
