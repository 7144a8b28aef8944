-- The name before the first zero byte, found by the place of that byte.
use Rattle.std.proofs.Common.{◌≡◌, ◌∙◌, sym, ap, subst, refl, arith, ne_eqb, inl, inr, ℕ, zero, suc, ◌+◌, ◌<◌, ◌≤◌, Bool, true, false, List, [], ◌∷◌, ◌++◌, length, get_or, take, drop, Option, Some, None}
use Rattle.std.specs.Prelude.{if◌then◌else◌, ◌&&◌, ◌==◌, min}
use Rattle.std.specs.List.{list_all}
use Rattle.std.proofs.Math.Seq.{take_all}
use Rattle.std.proofs.lemmas.Bool.{cases_order, false_from_ne_true, and_parts, cond-true, cond-false}
use Rattle.std.proofs.lemmas.List.{drop_more, take-append-drop, length-take-le}
use Rattle.basics.specs.Booleans.{and_with_false}
use Rattle.elf_load.specs.Elf.{name_before_zero, named_of, with_byte, is_name_byte}
use Rattle.elf_load.proofs.Naming.{counts, too_long}

-- none of the first n bytes is zero
abbrev pub HasNoZero : List ℕ → ℕ → Type 0
HasNoZero bytes n = (k : ℕ) → 0 ≤ k → k < n → (get_or bytes k 0 == 0) ≡ true → ⊥

first_other : (b : ℕ) (bs : List ℕ) (n : ℕ) → 0 < n → HasNoZero (b ∷ bs) n → (b == 0) ≡ false
first_other b bs n lt none = false_from_ne_true (b == 0) (none 0 (omega arith) lt)

others : (b : ℕ) (bs : List ℕ) (n : ℕ) → HasNoZero (b ∷ bs) (suc n) → HasNoZero bs n
others b bs n none k low lt e = none (suc k) (omega arith) (omega arith) e

no_name_byte : is_name_byte 0 ≡ true → ⊥
no_name_byte e = let wrong : false ≡ true = e in cc

no_zero : (b : ℕ) → is_name_byte b ≡ true → (b == 0) ≡ false
no_zero b e = ne_eqb b 0 (λ z. no_name_byte (subst (λ (x : ℕ). is_name_byte x ≡ true) z e))

ended : (front rest : List ℕ) (n : ℕ) → n < length front → list_all is_name_byte (take n front) ≡ true → (get_or front n 0 == 0) ≡ true → name_before_zero (front ++ rest) ≡ Some (take n (front ++ rest))
unfolding name_before_zero
ended [] rest n lt all zeroed = absurd (omega (arith, lt))
ended (b ∷ bs) rest zero lt all zeroed = cond-true (b == 0) _ _ zeroed
ended (b ∷ bs) rest (suc n) lt all zeroed =
    let both = and_parts (is_name_byte b) (list_all is_name_byte (take n bs)) all in
    cond-false (b == 0) _ _ (no_zero b both.0) ∙ cond-true (is_name_byte b) _ _ both.0 ∙ ap (with_byte b) (ended bs rest n (omega (arith, lt)) both.1 zeroed)

spoiled_after : (t u : Bool) (b : ℕ) (o : Option (List ℕ)) → (t && u) ≡ false → (u ≡ false → o ≡ None) → (if t then with_byte b o else None) ≡ None
spoiled_after true u b o e h = ap (with_byte b) (h e)
spoiled_after false u b o e h = refl

spoiled : (front rest : List ℕ) (n : ℕ) → n ≤ length front → HasNoZero front n → list_all is_name_byte (take n front) ≡ false → name_before_zero (front ++ rest) ≡ None
unfolding name_before_zero
spoiled [] rest zero le none all = cc
spoiled [] rest (suc n) le none all = absurd (omega (arith, le))
spoiled (b ∷ bs) rest zero le none all = cc
spoiled (b ∷ bs) rest (suc n) le none all =
    cond-false (b == 0) _ _ (first_other b bs (suc n) (omega arith) none)
    ∙ spoiled_after (is_name_byte b) (list_all is_name_byte (take n bs)) b (name_before_zero (bs ++ rest)) all (λ e. spoiled bs rest n (omega (arith, le)) (others b bs n none) e)

none_after : (t : Bool) (b : ℕ) (o : Option (List ℕ)) → o ≡ None → (if t then with_byte b o else None) ≡ None
none_after true b o e = ap (with_byte b) e
none_after false b o e = refl

endless : (bytes : List ℕ) → HasNoZero bytes (length bytes) → name_before_zero bytes ≡ None
unfolding name_before_zero
endless [] none = refl
endless (b ∷ bs) none =
    cond-false (b == 0) _ _ (first_other b bs (length (b ∷ bs)) (omega arith) none) ∙ none_after (is_name_byte b) b (name_before_zero bs) (endless bs (others b bs (length bs) none))

longer : (t : Bool) (b : ℕ) (o : Option (List ℕ)) (name : List ℕ) (n : ℕ) → ((rest : List ℕ) → o ≡ Some rest → n ≤ length rest) → (if t then with_byte b o else None) ≡ Some name → suc n ≤ length name
longer true b None name n h e = cc
longer true b (Some rest) name n h e =
    let same : b ∷ rest ≡ name = cc in
    omega (arith, ap (length {A = ℕ}) same, h rest refl)
longer false b o name n h e = cc

reaches_past : (front rest : List ℕ) → HasNoZero front (length front) → (name : List ℕ) → name_before_zero (front ++ rest) ≡ Some name → length front ≤ length name
unfolding name_before_zero
reaches_past [] rest none name e = omega arith
reaches_past (b ∷ bs) rest none name e =
    longer (is_name_byte b) b (name_before_zero (bs ++ rest)) name (length bs) (reaches_past bs rest (others b bs (length bs) none))
    (sym (cond-false (b == 0) _ _ (first_other b bs (length (b ∷ bs)) (omega arith) none)) ∙ e)

none_fits : (n : ℕ) (o : Option (List ℕ)) → 1024 < n → ((name : List ℕ) → o ≡ Some name → n ≤ length name) → named_of o ≡ None
none_fits n None lt h = refl
none_fits n (Some name) lt h = too_long name (omega (arith, lt, h name refl))

-- ---- the bytes of which the first m are looked at

whole : (tail : List ℕ) (m : ℕ) → take m tail ++ drop m tail ≡ tail
whole tail m = take-append-drop m tail

-- no zero byte in them
pub unended : (tail : List ℕ) (m : ℕ) → m ≡ min (length tail) 1025 → HasNoZero (take m tail) (length (take m tail)) → named_of (name_before_zero tail) ≡ None
unended tail m is none =
    elim (cases_order (length tail) 1025) [
      | inl same ↦ short (omega (arith, is, same))
      | inr (inl less) ↦ short (omega (arith, is, less))
      | inr (inr more) ↦
          let size : length (take m tail) ≡ m = length-take-le m tail (omega (arith, is, more)) in
          subst (λ (l : List ℕ). named_of (name_before_zero l) ≡ None) (whole tail m)
          (none_fits (length (take m tail)) (name_before_zero (take m tail ++ drop m tail)) (omega (arith, is, more, size)) (reaches_past (take m tail) (drop m tail) none))
    ]
  where
    short : length tail ≤ m → named_of (name_before_zero tail) ≡ None
    short le =
        let same : take m tail ≡ tail = take_all m tail le in
        ap named_of (endless tail (subst (λ (l : List ℕ). HasNoZero l (length l)) same none))

-- the first byte is zero
pub nameless : (tail : List ℕ) (m : ℕ) → 0 < length (take m tail) → (get_or (take m tail) 0 0 == 0) ≡ true → named_of (name_before_zero tail) ≡ None
nameless tail m lt zeroed =
    subst (λ (l : List ℕ). named_of (name_before_zero l) ≡ None) (whole tail m) (ap named_of (ended (take m tail) (drop m tail) 0 lt refl zeroed))

-- a byte before it may not be in a name
pub unprintable : (tail : List ℕ) (m n : ℕ) → n < length (take m tail) → HasNoZero (take m tail) n → list_all is_name_byte (take n (take m tail)) ≡ false → named_of (name_before_zero tail) ≡ None
unprintable tail m n lt none all =
    subst (λ (l : List ℕ). named_of (name_before_zero l) ≡ None) (whole tail m) (ap named_of (spoiled (take m tail) (drop m tail) n (omega (arith, lt)) none all))

-- all bytes before it may, and there are not too many
pub is_named : (tail : List ℕ) (m n : ℕ) → m ≤ length tail → m ≤ 1025 → 0 < n → n < length (take m tail) → list_all is_name_byte (take n (take m tail)) ≡ true → (get_or (take m tail) n 0 == 0) ≡ true
    → (n ≤ length tail) × (named_of (name_before_zero tail) ≡ Some (take n tail))
is_named tail m n le most low lt all zeroed =
    let size : length (take m tail) ≡ m = length-take-le m tail le in
    let fits : n ≤ length tail = omega (arith, lt, size, le) in (
      fits,
      subst (λ (l : List ℕ). named_of (name_before_zero l) ≡ Some (take n l)) (whole tail m)
          (ap named_of (ended (take m tail) (drop m tail) n lt all zeroed)
          ∙ subst (λ (l : List ℕ). named_of (Some (take n l)) ≡ Some (take n l)) (sym (whole tail m)) (counts n (take n tail) (length-take-le n tail fits) low (omega (arith, lt, size, most)))),
    )

-- ---- bytes one after the other

pub still_all : (fine : Bool) (bytes : List ℕ) (i : ℕ) (all : Bool) → i < length bytes → is_name_byte (get_or bytes i 0) ≡ true → (fine && list_all is_name_byte (drop i bytes)) ≡ all
    → (fine && list_all is_name_byte (drop (i + 1) bytes)) ≡ all
still_all fine bytes i all lt one e =
    ap (λ (t : Bool). fine && (t && list_all is_name_byte (drop (i + 1) bytes))) (sym one) ∙ ap (λ (l : List ℕ). fine && list_all is_name_byte l) (sym (drop_more bytes i 0 lt)) ∙ e

pub not_all : (fine : Bool) (bytes : List ℕ) (i : ℕ) (all : Bool) → i < length bytes → is_name_byte (get_or bytes i 0) ≡ false → (fine && list_all is_name_byte (drop i bytes)) ≡ all
    → (false && list_all is_name_byte (drop (i + 1) bytes)) ≡ all
not_all fine bytes i all lt one e =
    sym (and_with_false fine) ∙ ap (λ (t : Bool). fine && (t && list_all is_name_byte (drop (i + 1) bytes))) (sym one) ∙ ap (λ (l : List ℕ). fine && list_all is_name_byte l) (sym (drop_more bytes i 0 lt)) ∙ e
