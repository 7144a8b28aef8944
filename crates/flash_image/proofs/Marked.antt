-- Tables of marks, and widening by them.
use Rattle.std.proofs.Common.{◌≡◌, ◌≢◌, ◌⊎◌, inl, inr, ⊎_elim, ℕ, zero, suc, ◌+◌, ◌<◌, ◌≤◌, max, min, nat_le, Bool, true, false, eqb, List, [], ◌∷◌, ◌++◌, length, get_or, set, map, replicate, subst, arith, refl, sym, ap, ap₂, ◌∙◌, append_assoc}
use Rattle.std.specs.Prelude.{◌||◌, if◌then◌else◌}
use Rattle.std.specs.List.{list_any}
use Rattle.std.proofs.lemmas.Bool.{cases_eq, cases_lt, eq-eqb, ne_eqb, eqb-true, or_left, or_right}
use Rattle.std.proofs.lemmas.List.{length-set, get_or-set_same, get_or-set_other, length-replicate, get_or-replicate, map-append}
use Rattle.basics.specs.Booleans.{or_with_false, never_both}
use Rattle.basics.specs.Numbers.{test_from_at_most}
use Rattle.avr_model.specs.declared.device.Device.{Device}
use Rattle.avr_model.specs.Devices.{io_end, ramend}
use Rattle.avr_model.specs.Marks.{joined_below, usual_marks, device_marks}
use Rattle.pair_domain.specs.Marks.{mark_below, mark_above}
use Rattle.pair_domain.proofs.AllLaws.{marks_widen}
use Rattle.flash_image.specs.Marked.{marked, IsTable}

-- ---- tables

pub marked_append : (table : List Bool) (xs ys : List ℕ) → marked table (xs ++ ys) ≡ marked (marked table xs) ys
marked_append table [] ys = refl
marked_append table (x ∷ xs) ys = marked_append (set table x true) xs ys

pub marked_length : (table : List Bool) (ms : List ℕ) → length (marked table ms) ≡ length table
marked_length table [] = refl
marked_length table (m ∷ ms) = marked_length (set table m true) ms ∙ length-set table m true

pub set_tells : (table : List Bool) (m k : ℕ) → k < length table → get_or (set table m true) k false ≡ (eqb m k || get_or table k false)
set_tells table m k lt = ⊎_elim same other (cases_eq k m)
  where
    same : k ≡ m → get_or (set table m true) k false ≡ (eqb m k || get_or table k false)
    same e =
        ap (λ (n : ℕ). get_or (set table m true) n false) e ∙ get_or-set_same table m true false (omega (arith, e, lt))
        ∙ ap (λ (b : Bool). b || get_or table k false) (sym (eq-eqb m k (sym e)))

    other : k ≢ m → get_or (set table m true) k false ≡ (eqb m k || get_or table k false)
    other ne = get_or-set_other table m k true false ne ∙ ap (λ (b : Bool). b || get_or table k false) (sym (ne_eqb m k (λ e. ne (sym e))))

turned : (a b c : Bool) → (a || (b || c)) ≡ ((b || a) || c)
turned true true c = refl
turned true false c = refl
turned false true c = refl
turned false false c = refl

pub marked_tells : (ms : List ℕ) (table : List Bool) (k : ℕ) → k < length table → get_or (marked table ms) k false ≡ (list_any (λ n. eqb n k) ms || get_or table k false)
marked_tells [] table k lt = refl
marked_tells (m ∷ ms) table k lt =
    marked_tells ms (set table m true) k (omega (arith, lt, length-set table m true))
    ∙ ap (λ (b : Bool). list_any (λ n. eqb n k) ms || b) (set_tells table m k lt)
    ∙ turned (list_any (λ n. eqb n k) ms) (eqb m k) (get_or table k false)

-- from a table without marks
pub table_of : (ms : List ℕ) (table : List Bool) → table ≡ marked (replicate 65536 false) ms → IsTable ms table
table_of ms table is =
    record {
      count = ap length is ∙ marked_length (replicate 65536 false) ms ∙ length-replicate 65536 false;
      each = λ k lt.
          ap (λ (t : List Bool). get_or t k false) is ∙ marked_tells ms (replicate 65536 false) k (subst (λ (n : ℕ). k < n) (sym (length-replicate 65536 false)) lt)
          ∙ ap (λ (b : Bool). list_any (λ n. eqb n k) ms || b) (get_or-replicate 65536 k false false lt) ∙ or_with_false (list_any (λ n. eqb n k) ms);
    }

-- ---- marking in turn

pub joined_none : (f : ℕ → List ℕ) → joined_below 0 f ≡ []
unfolding joined_below
joined_none f = refl

pub joined_more : (n : ℕ) (f : ℕ → List ℕ) → joined_below (n + 1) f ≡ joined_below n f ++ f n
unfolding joined_below
joined_more n f = ap (λ (m : ℕ). joined_below m f) (let e : n + 1 ≡ suc n = omega arith in e)

-- no list so far
pub marked_none : (start now : List Bool) (front : List ℕ) (f : ℕ → List ℕ) → now ≡ marked start front → now ≡ marked start (front ++ joined_below 0 f)
marked_none start now front f is = is ∙ sym (marked_append start front (joined_below 0 f) ∙ ap (marked (marked start front)) (joined_none f))

-- one more
pub marked_more : (start now next : List Bool) (front : List ℕ) (n : ℕ) (f : ℕ → List ℕ) → now ≡ marked start (front ++ joined_below n f) → next ≡ marked now (f n)
    → next ≡ marked start (front ++ joined_below (n + 1) f)
marked_more start now next front n f is more =
    more ∙ ap (λ (t : List Bool). marked t (f n)) is ∙ sym (marked_append start (front ++ joined_below n f) (f n))
    ∙ ap (marked start) (append_assoc front (joined_below n f) (f n) ∙ ap (λ (ms : List ℕ). front ++ ms) (sym (joined_more n f)))

-- the ends of SRAM, after the marks of every program
pub device_marked : (start now : List Bool) (d : Device) (a b : ℕ) → a ≡ io_end d → b ≡ ramend d → now ≡ marked start usual_marks
    → set (set (set (set now a true) (a + 1) true) b true) (b + 1) true ≡ marked start (usual_marks ++ device_marks d)
device_marked start now d a b first last is =
    ap (λ (t : List Bool). marked t (a ∷ (a + 1) ∷ b ∷ (b + 1) ∷ [])) is
    ∙ sym (marked_append start usual_marks (a ∷ (a + 1) ∷ b ∷ (b + 1) ∷ []))
    ∙ ap₂ (λ (x y : ℕ). marked start (usual_marks ++ x ∷ (x + 1) ∷ y ∷ (y + 1) ∷ [])) first last

pub map_joined : (g : ℕ → ℕ) (n : ℕ) (f : ℕ → List ℕ) → map g (joined_below n f) ≡ joined_below n (λ a. map g (f a))
unfolding joined_below
map_joined g zero f = refl
map_joined g (suc n) f = map-append g (joined_below n f) (f n) ∙ ap (λ (ms : List ℕ). ms ++ map g (f n)) (map_joined g n f)

-- ---- nearest marks

below_le : (ms : List ℕ) (x : ℕ) → x < 65536 → mark_below ms x ≤ x
below_le ms x lt = (marks_widen.within ms (record { low = x; high = x }) lt).low

above_le : (ms : List ℕ) (x : ℕ) → x < 65536 → x ≤ mark_above ms x
above_le ms x lt = (marks_widen.within ms (record { low = x; high = x }) lt).high

above_small : (ms : List ℕ) (x : ℕ) → mark_above ms x < 65536
above_small ms x = marks_widen.small ms (record { low = x; high = x })

either : (a b : Bool) → (a || b) ≡ true → (a ≡ true) ⊎ (b ≡ true)
either true b h = inl refl
either false b h = inr h

found_first : (k v : ℕ) (ks : List ℕ) → v ≡ k → list_any (λ n. eqb n v) (k ∷ ks) ≡ true
found_first k v ks e = or_left (eqb k v) (list_any (λ n. eqb n v) ks) (eq-eqb k v (sym e))

found_further : (k v w : ℕ) (ks : List ℕ) → v ≡ w → list_any (λ n. eqb n w) ks ≡ true → list_any (λ n. eqb n v) (k ∷ ks) ≡ true
found_further k v w ks e h = or_right (eqb k v) (list_any (λ n. eqb n v) ks) (ap (λ (m : ℕ). list_any (λ n. eqb n m) ks) e ∙ h)

below_found : (ms : List ℕ) (x : ℕ) → (mark_below ms x ≡ 0) ⊎ (list_any (λ n. eqb n (mark_below ms x)) ms ≡ true)
below_found [] x = inl refl
below_found (k ∷ ks) x = by (nat_le k x) (mark_below ks x) (below_found ks x)
  where
    by : (t : Bool) (rest : ℕ) → (rest ≡ 0) ⊎ (list_any (λ n. eqb n rest) ks ≡ true)
        → ((if t then max k rest else rest) ≡ 0) ⊎ (list_any (λ n. eqb n (if t then max k rest else rest)) (k ∷ ks) ≡ true)
    by false rest (inl e) = inl e
    by false rest (inr h) = inr (found_further k rest rest ks refl h)
    by true rest (inl e) = inr (found_first k (max k rest) ks (omega (arith, e)))
    by true rest (inr h) =
        ⊎_elim (λ (lt : k < rest). inr (found_further k (max k rest) rest ks (omega (arith, lt)) h)) (λ (le : rest ≤ k). inr (found_first k (max k rest) ks (omega (arith, le)))) (cases_lt k rest)

above_found : (ms : List ℕ) (x : ℕ) → (mark_above ms x ≡ 65535) ⊎ (list_any (λ n. eqb n (mark_above ms x)) ms ≡ true)
above_found [] x = inl refl
above_found (k ∷ ks) x = by (nat_le x k) (mark_above ks x) (above_found ks x)
  where
    by : (t : Bool) (rest : ℕ) → (rest ≡ 65535) ⊎ (list_any (λ n. eqb n rest) ks ≡ true)
        → ((if t then min k rest else rest) ≡ 65535) ⊎ (list_any (λ n. eqb n (if t then min k rest else rest)) (k ∷ ks) ≡ true)
    by false rest (inl e) = inl e
    by false rest (inr h) = inr (found_further k rest rest ks refl h)
    by true rest (inl e) =
        ⊎_elim (λ (lt : k < rest). inr (found_first k (min k rest) ks (omega (arith, lt)))) (λ (le : rest ≤ k). inl (omega (arith, le, e))) (cases_lt k rest)
    by true rest (inr h) =
        ⊎_elim (λ (lt : k < rest). inr (found_first k (min k rest) ks (omega (arith, lt)))) (λ (le : rest ≤ k). inr (found_further k (min k rest) rest ks (omega (arith, le)) h)) (cases_lt k rest)

below_greatest : (ms : List ℕ) (x m : ℕ) → list_any (λ n. eqb n m) ms ≡ true → m ≤ x → m ≤ mark_below ms x
below_greatest [] x m h le = absurd (cc)
below_greatest (k ∷ ks) x m h le = by (λ g. below_greatest ks x m g le) (nat_le k x) refl (either (eqb k m) (list_any (λ n. eqb n m) ks) h)
  where
    by : (list_any (λ n. eqb n m) ks ≡ true → m ≤ mark_below ks x) → (t : Bool) → nat_le k x ≡ t → (eqb k m ≡ true) ⊎ (list_any (λ n. eqb n m) ks ≡ true)
        → m ≤ (if t then max k (mark_below ks x) else mark_below ks x)
    by further true e (inl s) = let same = eqb-true k m s in omega (arith, same)
    by further true e (inr g) = let rest = further g in omega (arith, rest)
    by further false e (inl s) = absurd (let test : nat_le k x ≡ true = test_from_at_most k x (let same = eqb-true k m s in omega (arith, same, le)) in cc)
    by further false e (inr g) = further g

above_least : (ms : List ℕ) (x m : ℕ) → list_any (λ n. eqb n m) ms ≡ true → x ≤ m → mark_above ms x ≤ m
above_least [] x m h le = absurd (cc)
above_least (k ∷ ks) x m h le = by (λ g. above_least ks x m g le) (nat_le x k) refl (either (eqb k m) (list_any (λ n. eqb n m) ks) h)
  where
    by : (list_any (λ n. eqb n m) ks ≡ true → mark_above ks x ≤ m) → (t : Bool) → nat_le x k ≡ t → (eqb k m ≡ true) ⊎ (list_any (λ n. eqb n m) ks ≡ true)
        → (if t then min k (mark_above ks x) else mark_above ks x) ≤ m
    by further true e (inl s) = let same = eqb-true k m s in omega (arith, same)
    by further true e (inr g) = let rest = further g in omega (arith, rest)
    by further false e (inl s) = absurd (let test : nat_le x k ≡ true = test_from_at_most x k (let same = eqb-true k m s in omega (arith, same, le)) in cc)
    by further false e (inr g) = further g

-- ---- what is found in a table

pub below_is : (ms : List ℕ) (table : List Bool) (x b : ℕ) → IsTable ms table → x < 65536 → b ≤ x → (b ≡ 0) ⊎ (get_or table b false ≡ true)
    → ((m : ℕ) → b < m → m ≤ x → get_or table m false ≡ false) → b ≡ mark_below ms x
below_is ms table x b t lt le here none = omega (arith, low, high)
  where
    low : b ≤ mark_below ms x
    low = ⊎_elim (λ (e : b ≡ 0). omega (arith, e)) (λ (h : get_or table b false ≡ true). below_greatest ms x b (sym (t.each b (omega (arith, lt, le))) ∙ h) le) here

    inside : mark_below ms x ≤ x
    inside = below_le ms x lt

    high : mark_below ms x ≤ b
    high =
        ⊎_elim (λ (e : mark_below ms x ≡ 0). omega (arith, e))
        (λ (h : list_any (λ n. eqb n (mark_below ms x)) ms ≡ true).
        ⊎_elim (λ (less : b < mark_below ms x). absurd (never_both (get_or table (mark_below ms x) false) (t.each (mark_below ms x) (omega (arith, inside, lt)) ∙ h) (none (mark_below ms x) less inside)))
        (λ (no : mark_below ms x ≤ b). no) (cases_lt b (mark_below ms x)))
        (below_found ms x)

pub above_is : (ms : List ℕ) (table : List Bool) (x b : ℕ) → IsTable ms table → x ≤ b → b < 65536 → (b ≡ 65535) ⊎ (get_or table b false ≡ true)
    → ((m : ℕ) → x ≤ m → m < b → get_or table m false ≡ false) → b ≡ mark_above ms x
above_is ms table x b t le lt here none = omega (arith, low, high)
  where
    inside : x ≤ mark_above ms x
    inside = above_le ms x (omega (arith, le, lt))

    small : mark_above ms x < 65536
    small = above_small ms x

    high : mark_above ms x ≤ b
    high = ⊎_elim (λ (e : b ≡ 65535). omega (arith, e, small)) (λ (h : get_or table b false ≡ true). above_least ms x b (sym (t.each b lt) ∙ h) le) here

    low : b ≤ mark_above ms x
    low =
        ⊎_elim (λ (e : mark_above ms x ≡ 65535). omega (arith, e, lt))
        (λ (h : list_any (λ n. eqb n (mark_above ms x)) ms ≡ true).
        ⊎_elim (λ (less : mark_above ms x < b). absurd (never_both (get_or table (mark_above ms x) false) (t.each (mark_above ms x) small ∙ h) (none (mark_above ms x) inside less)))
        (λ (no : b ≤ mark_above ms x). no) (cases_lt (mark_above ms x) b))
        (above_found ms x)
