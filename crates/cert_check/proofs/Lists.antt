-- Items of lists, and the least of their keys.
use Rattle.std.proofs.Common.{◌≡◌, sym, ap, ◌∙◌, subst, ℕ, ◌+◌, ◌<◌, ◌≤◌, ◌⊎◌, inl, inr, ⊎_elim, List, [], ◌∷◌, ◌++◌, length, take, get_or, Option, Some, None, Contains}
use Rattle.std.proofs.lemmas.List.{take_more, take_all}
use Rattle.std.proofs.lemmas.List.Elements.{Contains-append_left, Contains-append_right, Contains-append_cases}
use Rattle.std.proofs.lemmas.Option.{slice_get-get_or}
use Rattle.basics.specs.Items.{contained_at, only_one_in, none_in, first_in}
use Rattle.cert_check.specs.Demands.{IsLeastOffered, IsOfferNoted}

pub read_in : {X : Type 0} (xs : List X) (at : ℕ) (d x : X) → at < length xs → x ≡ get_or xs at d → Contains xs x
read_in xs at d x lt is = contained_at xs at x (slice_get-get_or xs at d lt ∙ ap (λ y. Some y) (sym is))

-- ---- the least

-- an order, and the lesser of two keys by it
pub record IsLesser {X K : Type 0} (clear : X → Type 0) (offers : X → K → Type 0) (below : K → K → Type 0) (lesser : Option K → K → K) : Type 0 where
  pub apart : (x : X) (k : K) → clear x → offers x k → ⊥
  pub first : (k : K) → lesser None k ≡ k
  pub either : (b k : K) → (lesser (Some b) k ≡ b) ⊎ (lesser (Some b) k ≡ k)
  pub left : (b k : K) → below (lesser (Some b) k) b
  pub right : (b k : K) → below (lesser (Some b) k) k
  pub same : (k : K) → below k k
  pub along : (a b c : K) → below a b → below b c → below a c

module _ {X K : Type 0} (clear : X → Type 0) (offers : X → K → Type 0) (below : K → K → Type 0) (lesser : Option K → K → K)
    (laws : IsLesser clear offers below lesser) where
  still : (xs : List X) (x : X) (old : Option K) → IsLeastOffered clear offers below xs old → clear x → IsLeastOffered clear offers below (xs ++ x ∷ []) old
  still xs x None h ok = λ y i.
      ⊎_elim (λ j. h y j) (λ j. subst clear (sym (only_one_in x y j)) ok) (Contains-append_cases xs (x ∷ []) y i)
  still xs x (Some b) h ok = (
    (h.0.0, (Contains-append_left xs (x ∷ []) h.0.0 h.0.1.0, h.0.1.1)),
    λ y m i o. ⊎_elim (λ j. h.1 y m j o) (λ j. absurd (laws.apart x m ok (subst (λ z. offers z m) (only_one_in x y j) o)))
        (Contains-append_cases xs (x ∷ []) y i),
  )

  last : (xs : List X) (x : X) → Contains (xs ++ x ∷ []) x
  last xs x = Contains-append_right xs (x ∷ []) x (first_in x [])

  lesser_of : (xs : List X) (x : X) (b k v : K) → IsLeastOffered clear offers below xs (Some b) → offers x k → (v ≡ b) ⊎ (v ≡ k)
      → (y : X) × (Contains (xs ++ x ∷ []) y × offers y v)
  lesser_of xs x b k v h o (inl e) =
      (h.0.0, (Contains-append_left xs (x ∷ []) h.0.0 h.0.1.0, subst (offers h.0.0) (sym e) h.0.1.1))
  lesser_of xs x b k v h o (inr e) = (x, (last xs x, subst (offers x) (sym e) o))

  lower : (xs : List X) (x : X) (old : Option K) (k : K) → IsLeastOffered clear offers below xs old → offers x k → ((m : K) → offers x m → m ≡ k)
      → IsLeastOffered clear offers below (xs ++ x ∷ []) (Some (lesser old k))
  lower xs x None k h o one = (
    (x, (last xs x, subst (offers x) (sym (laws.first k)) o)),
    λ y m i p. ⊎_elim (λ j. absurd (laws.apart y m (h y j) p))
        (λ j. subst (λ z. below z m) (sym (laws.first k))
        (subst (λ z. below z m) (one m (subst (λ z. offers z m) (only_one_in x y j) p)) (laws.same m)))
        (Contains-append_cases xs (x ∷ []) y i),
  )
  lower xs x (Some b) k h o one = (
    lesser_of xs x b k (lesser (Some b) k) h o (laws.either b k),
    λ y m i p. ⊎_elim (λ j. laws.along (lesser (Some b) k) b m (laws.left b k) (h.1 y m j p))
        (λ j. subst (below (lesser (Some b) k)) (sym (one m (subst (λ z. offers z m) (only_one_in x y j) p))) (laws.right b k))
        (Contains-append_cases xs (x ∷ []) y i),
  )

  pub least_after : (xs : List X) (x : X) (old new : Option K) → IsLeastOffered clear offers below xs old → IsOfferNoted clear offers lesser old x new
      → IsLeastOffered clear offers below (xs ++ x ∷ []) new
  least_after xs x old new h (inl w) = subst (IsLeastOffered clear offers below (xs ++ x ∷ [])) (sym w.1) (still xs x old h w.0)
  least_after xs x old new h (inr w) =
      subst (IsLeastOffered clear offers below (xs ++ x ∷ [])) (sym w.1.2) (lower xs x old w.0 h w.1.0 w.1.1)

  -- in a loop over the list
  pub least_more : (xs : List X) (at : ℕ) (d x : X) (old new : Option K) → at < length xs → x ≡ get_or xs at d → IsLeastOffered clear offers below (take at xs) old
      → IsOfferNoted clear offers lesser old x new → IsLeastOffered clear offers below (take (at + 1) xs) new
  least_more xs at d x old new lt is h n =
      subst (λ l. IsLeastOffered clear offers below l new) (sym (take_more xs at d lt ∙ ap (λ y. take at xs ++ y ∷ []) (sym is)))
      (least_after (take at xs) x old new h n)

  pub least_none : (xs : List X) → IsLeastOffered clear offers below (take 0 xs) None
  least_none xs = λ x i. absurd (none_in x i)

  pub least_all : (xs : List X) (at : ℕ) (least : Option K) → length xs ≤ at → IsLeastOffered clear offers below (take at xs) least → IsLeastOffered clear offers below xs least
  least_all xs at least le h = subst (λ l. IsLeastOffered clear offers below l least) (take_all at xs le) h
