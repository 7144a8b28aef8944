-- Membership in a list, and properties of all items.
use Rattle.std.proofs.Common.{◌≡◌, refl, sym, subst, ℕ, zero, suc, ◌+◌, ◌<◌, ◌≤◌, ◌⊎◌, inl, inr, ⊎_elim, List, [], ◌∷◌, ◌++◌, length, get_or, take, take_all, flat_map, Some, slice_get, slice_index_or, Contains, arith}
use Rattle.std.specs.List.{AllByRecursion}
use Rattle.std.proofs.lemmas.List.{take_more}
use Rattle.std.proofs.lemmas.List.Elements.{Contains-append_left, Contains-append_right, Contains-append_cases, Contains-push_cases}
use Rattle.std.proofs.lemmas.Option.{none-some, same_Some, slice_get_within, slice_get_read, get_or_from_slice_get}

pub none_in : {X : Type 0} (x : X) → Contains [] x → ⊥
none_in x h = omega (arith, h.1)

pub none_within : {X : Type 0} {x : X} → Contains [] x → ⊥
none_within {x = x} h = none_in x h

pub first_in : {X : Type 0} (x : X) (xs : List X) → Contains (x ∷ xs) x
first_in x xs = (0, omega arith, refl)

pub further_in : {X : Type 0} (y x : X) (xs : List X) → Contains xs x → Contains (y ∷ xs) x
further_in y x xs h = (suc h.0, omega (arith, h.1), h.2)

at_index : {X : Type 0} (y x : X) (xs : List X) (k : ℕ) → k < length (y ∷ xs) → slice_index_or (y ∷ xs) k x ≡ x → (x ≡ y) ⊎ Contains xs x
at_index y x xs zero within is = inl (sym is)
at_index y x xs (suc k) within is = inr (k, omega (arith, within), is)

pub first_or_further : {X : Type 0} (y x : X) (xs : List X) → Contains (y ∷ xs) x → (x ≡ y) ⊎ Contains xs x
first_or_further y x xs h = at_index y x xs h.0 h.1 h.2

pub only_one_in : {X : Type 0} (x y : X) → Contains (x ∷ []) y → y ≡ x
only_one_in x y h = ⊎_elim (λ e. e) (λ i. absurd (none_in y i)) (first_or_further x y [] h)

-- a contained item is at some place, and the item at a place is contained
pub contained_at : {X : Type 0} (xs : List X) (i : ℕ) (x : X) → slice_get xs i ≡ Some x → Contains xs x
contained_at xs i x e = (i, slice_get_within xs i x e, get_or_from_slice_get xs i x x e)

pub get_contained : {X : Type 0} (xs : List X) (x : X) (h : Contains xs x) → slice_get xs h.0 ≡ Some x
get_contained xs x h = slice_get_read xs (length xs) h.0 x refl h.1 (sym h.2)

pub place_of_contained : {X : Type 0} (xs : List X) (x : X) → Contains xs x → (i : ℕ) × (slice_get xs i ≡ Some x)
place_of_contained xs x h = (h.0, get_contained xs x h)

pub inside_if_contained : {X : Type 0} (xss : List (List X)) (i : ℕ) (x : X) → Contains (get_or xss i []) x → i < length xss
inside_if_contained [] i x h = absurd (none_in x h)
inside_if_contained (xs ∷ xss) zero x h = omega arith
inside_if_contained (xs ∷ xss) (suc i) x h = let lt = inside_if_contained xss i x h in omega (arith, lt)

-- ---- lists joined end to end

pub contained_in_join : {X Y : Type 0} (f : X → List Y) (xs : List X) (x : X) (y : Y) → Contains xs x → Contains (f x) y → Contains (flat_map f xs) y
contained_in_join f [] x y h i = absurd (none_in x h)
contained_in_join f (z ∷ zs) x y h i =
    ⊎_elim (λ e. Contains-append_left (f z) (flat_map f zs) y (subst (λ v. Contains (f v) y) e i))
    (λ j. Contains-append_right (f z) (flat_map f zs) y (contained_in_join f zs x y j i)) (first_or_further z x zs h)

pub each_of_join : {X Y : Type 0} (f : X → List Y) (P : Y → Type 0) (xs : List X) → ((x : X) (y : Y) → Contains xs x → Contains (f x) y → P y)
    → (y : Y) → Contains (flat_map f xs) y → P y
each_of_join f P [] h y i = absurd (none_in y i)
each_of_join f P (x ∷ xs) h y i =
    ⊎_elim (λ j. h x y (first_in x xs) j) (each_of_join f P xs (λ z w j l. h z w (further_in x z xs j) l) y) (Contains-append_cases (f x) (flat_map f xs) y i)

-- ---- all of a list

pub all_at : {X : Type 0} (P : X → Type 0) (xs : List X) (i : ℕ) (x : X) → AllByRecursion P xs → slice_get xs i ≡ Some x → P x
all_at P [] i x h e = absurd (none-some x e)
all_at P (y ∷ ys) zero x h e = subst P (same_Some y x e) h.0
all_at P (y ∷ ys) (suc i) x h e = all_at P ys i x h.1 e

pub all_pushed : {X : Type 0} (P : X → Type 0) (xs : List X) (x : X) → AllByRecursion P xs → P x → AllByRecursion P (xs ++ x ∷ [])
all_pushed P [] x h p = (p, tt)
all_pushed P (y ∷ ys) x h p = (h.0, all_pushed P ys x h.1 p)

pub all_up_to : {X : Type 0} (P : X → Type 0) (xs : List X) (i : ℕ) (d : X) → i < length xs → ((x : X) → Contains (take i xs) x → P x) → P (get_or xs i d)
    → (x : X) → Contains (take (i + 1) xs) x → P x
all_up_to P xs i d lt each this x h =
    ⊎_elim (each x) (λ same. subst P same this) (Contains-push_cases (take i xs) (get_or xs i d) x (subst (λ (l : List _). Contains l x) (take_more xs i d lt) h))

pub all_taken : {X : Type 0} (P : X → Type 0) (xs : List X) (i : ℕ) → length xs ≤ i → ((x : X) → Contains (take i xs) x → P x) → (x : X) → Contains xs x → P x
all_taken P xs i le each x h = each x (subst (λ (l : List _). Contains l x) (sym (take_all i xs le)) h)
