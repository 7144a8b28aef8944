-- Reading and spelling of lists are inverse.
use Rattle.std.proofs.Common.{ℕ, zero, suc, ◌+◌, ◌≤◌, ◌≡◌, List, [], ◌∷◌, ◌++◌, length, length-append, map, Bool, true, refl, ap, ap₂, sym, ◌∙◌, arith, Option, Some, None, Result, Ok, Err, subst, append_assoc}
use Rattle.std.specs.Prelude.{⊤}
use Rattle.std.specs.List.{AllByRecursion}
use Rattle.std.specs.List.Sorted.{IsStrictlySortedBy}
use Rattle.std.specs.Cmp.{IsTotalOrder}
use Rattle.std.specs.Ordering.{is_lt}
use Rattle.std.specs.declared.cmp.Ordering.{Ordering}
use Rattle.std.specs.declared.cmp.Ordering.TheVariants.{Less}
use Rattle.std.proofs.lemmas.List.{append-nil, length_push}
use Rattle.basics.specs.Booleans.{less_by_test}
use Rattle.basics.specs.Items.{all_pushed}
use Rattle.witness_replay.proofs.Exact.{as_words}
use Rattle.text_base.specs.Lines.{TextLine, Position, spaced}
use Rattle.line_reading.specs.Reading.{then_at, line_by}
use Rattle.line_reading.specs.Words.{whole, Passes}
use Rattle.line_reading.proofs.AllLaws.{line_takes, line_again, passes_none, passes_more, passes_split, passes_end}
use Rattle.cert_format.specs.declared.fault.CertFault.{CertFault}
use Rattle.cert_format.specs.Reading.{formed, unless, with_item, longer_at, items_from}

-- ---- results

pub ok_is : {A : Type 0} (x y : A) → ◌≡◌ {A = Result A CertFault} (Ok x) (Ok y) → x ≡ y
ok_is x y e = cc

pub err_ok : {A : Type 0} (f : CertFault) (y : A) → ◌≡◌ {A = Result A CertFault} (Err f) (Ok y) → ⊥
err_ok f y e = cc

pub then_ok : {A B : Type 0} (d : Result A CertFault) (f : A → Result B CertFault) (y : B) → then_at d f ≡ Ok y → (x : A) × (d ≡ Ok x) × (f x ≡ Ok y)
then_ok (Ok x) f y e = (x, refl, e)
then_ok (Err q) f y e = absurd (err_ok q y e)

pub formed_ok : {A : Type 0} (d : Result (A × Position) Position) (z : A × Position) → formed d ≡ Ok z → d ≡ Ok z
formed_ok {A} (Ok x) z e = ap (λ (y : A × Position). Ok y) (ok_is x z e)
formed_ok {A} (Err q) z e = absurd (err_ok _ z e)

pub unless_ok : {X : Type 0} (o : Option CertFault) (x y : X) → unless o x ≡ Ok y → (o ≡ None) × (x ≡ y)
unless_ok None x y e = (refl, ok_is x y e)
unless_ok (Some f) x y e = absurd (err_ok f y e)

-- ---- items behind others

abbrev pub Admitted : {A : Type 0} → (ℕ → A → Type 0) → (List A → A → ℕ → Option CertFault) → List A → List A → Type 0
Admitted P refused xs [] = ⊤
Admitted P refused xs (y ∷ ys) = P (length xs) y × ((at : ℕ) → refused xs y at ≡ None) × Admitted P refused (xs ++ y ∷ []) ys

-- an item that isn't refused at one line isn't at another
abbrev pub Steady : {A : Type 0} → (List A → A → ℕ → Option CertFault) → Type 0
Steady {A} refused = (xs : List A) (x : A) (a b : ℕ) → refused xs x a ≡ None → refused xs x b ≡ None

-- a line has the words of its item, by its number in the list
abbrev pub Spells : {A : Type 0} → (ℕ → List ℕ → Option A) → (A → List (List ℕ)) → (ℕ → A → Type 0) → Type 0
Spells {A} by words P = (at : ℕ) (text : List ℕ) (x : A) → by at text ≡ Some x → (text ≡ spaced (words x)) × P at x

abbrev pub Reads : {A : Type 0} → (ℕ → List ℕ → Option A) → (A → List (List ℕ)) → (ℕ → A → Type 0) → Type 0
Reads {A} by words P = (at : ℕ) (x : A) → at ≤ 65536 → P at x → by at (spaced (words x)) ≡ Some x

-- each item, by its number
abbrev pub AllFrom : {A : Type 0} → (ℕ → A → Type 0) → ℕ → List A → Type 0
AllFrom P at [] = ⊤
AllFrom P at (x ∷ xs) = P at x × AllFrom P (at + 1) xs

abbrev pub lines : {A : Type 0} → (A → List (List ℕ)) → List A → List TextLine
lines words xs = map whole (map words xs)

pub record LongerRead {A : Type 0} (words : A → List (List ℕ)) (P : ℕ → A → Type 0) (refused : List A → A → ℕ → Option CertFault) (xs : List A) (p : Position) (z : List A × Position) : Type 0 where
  pub item : A
  pub fits : P (length xs) item
  pub none : refused xs item p.at ≡ None
  pub all : xs ++ item ∷ [] ≡ z.0
  pub passes : Passes p (whole (words item) ∷ []) z.1

pub longer_take : {A : Type 0} (by : ℕ → List ℕ → Option A) (words : A → List (List ℕ)) (P : ℕ → A → Type 0) (refused : List A → A → ℕ → Option CertFault) → Spells by words P
    → (xs : List A) (p : Position) (z : List A × Position) → longer_at by refused xs p ≡ Ok z → LongerRead words P refused xs p z
unfolding longer_at
longer_take {A} by words P refused spells xs p z e =
    let x = then_ok (formed (line_by (by (length xs)) p)) _ z e in
    let ys = then_ok (with_item refused xs x.0.0 p.at) _ z x.2 in
    let none = unless_ok (refused xs x.0.0 p.at) (xs ++ x.0.0 ∷ []) ys.0 ys.1 in
    let t = line_takes (by (length xs)) p x.0.0 x.0.1 (formed_ok (line_by (by (length xs)) p) x.0 x.1) in
    let s = spells (length xs) t.text x.0.0 t.read in
    let pair = ok_is {A = List A × Position} (ys.0, x.0.1) z ys.2 in
    let Q : Position → Type 0 = λ q. Passes p (whole (words x.0.0) ∷ []) q in
    record {
      item = x.0.0;
      fits = s.1;
      none = none.0;
      all = none.1 ∙ ap (λ (y : List A × Position). y.0) pair;
      passes = subst Q (ap (λ (y : List A × Position). y.1) pair) (as_words (by (length xs)) p x.0.0 x.0.1 t (words x.0.0) s.0);
    }

pub record ItemsRead {A : Type 0} (words : A → List (List ℕ)) (P : ℕ → A → Type 0) (refused : List A → A → ℕ → Option CertFault) (xs : List A) (n : ℕ) (p : Position) (z : List A × Position) : Type 0 where
  pub items : List A
  pub all : xs ++ items ≡ z.0
  pub number : length items ≡ n
  pub fit : Admitted P refused xs items
  pub passes : Passes p (lines words items) z.1

pub items_take : {A : Type 0} (by : ℕ → List ℕ → Option A) (words : A → List (List ℕ)) (P : ℕ → A → Type 0) (refused : List A → A → ℕ → Option CertFault) → Spells by words P → Steady refused
    → (xs : List A) (n : ℕ) (p : Position) (z : List A × Position) → items_from by refused xs n p ≡ Ok z → ItemsRead words P refused xs n p z
unfolding items_from
items_take {A} by words P refused spells steady xs zero p z e =
    let Q : List A × Position → Type 0 = λ y. ItemsRead words P refused xs 0 p y in
    subst Q (ok_is {A = List A × Position} (xs, p) z e) (record { items = []; all = append-nil xs; number = refl; fit = tt; passes = passes_none p })
items_take {A} by words P refused spells steady xs (suc n) p z e =
    let y = then_ok (longer_at by refused xs p) _ z e in
    let one = longer_take by words P refused spells xs p y.0 y.1 in
    let more = items_take by words P refused spells steady y.0.0 n y.0.1 z y.2 in
    let Q : List A → Type 0 = λ front. Admitted P refused front more.items in
    record {
      items = one.item ∷ more.items;
      all = sym (append_assoc xs (one.item ∷ []) more.items) ∙ ap (λ (front : List A). front ++ more.items) one.all ∙ more.all;
      number = ap suc more.number;
      fit = (one.fits, (λ at. steady xs one.item p.at at one.none), subst Q (sym one.all) more.fit);
      passes = passes_more p y.0.1 z.1 (whole (words one.item) ∷ []) (lines words more.items) one.passes more.passes;
    }

longer_again : {A : Type 0} (by : ℕ → List ℕ → Option A) (words : A → List (List ℕ)) (P : ℕ → A → Type 0) (refused : List A → A → ℕ → Option CertFault) → Reads by words P
    → (xs : List A) (x : A) (p q : Position) → length xs ≤ 65536 → P (length xs) x → ((at : ℕ) → refused xs x at ≡ None) → Passes p (whole (words x) ∷ []) q → longer_at by refused xs p ≡ Ok (xs ++ x ∷ [], q)
unfolding longer_at
longer_again by words P refused reads xs x p q few fits none h =
    let line = line_again (by (length xs)) p q (spaced (words x)) x (reads (length xs) x few fits) h in
    rw (line, none p.at) refl

pub items_again : {A : Type 0} (by : ℕ → List ℕ → Option A) (words : A → List (List ℕ)) (P : ℕ → A → Type 0) (refused : List A → A → ℕ → Option CertFault) → Reads by words P
    → (xs ys : List A) (n : ℕ) (p q : Position) → length xs + n ≤ 65536 → Admitted P refused xs ys → length ys ≡ n → Passes p (lines words ys) q → items_from by refused xs n p ≡ Ok (xs ++ ys, q)
unfolding items_from
items_again {A} by words P refused reads xs [] zero p q few a e h = ap₂ (λ (zs : List A) (r : Position). Ok (zs, r)) (sym (append-nil xs)) (passes_end p q h)
items_again {A} by words P refused reads xs [] (suc n) p q few a e h = absurd (omega (arith, e))
items_again {A} by words P refused reads xs (y ∷ ys) zero p q few a e h = absurd (omega (arith, e))
items_again {A} by words P refused reads xs (y ∷ ys) (suc n) p q few a e h =
    let s = passes_split p q (whole (words y)) (lines words ys) h in
    let one = longer_again by words P refused reads xs y p s.0 (omega (arith, few)) a.0 a.1 s.1 in
    let more = items_again by words P refused reads (xs ++ y ∷ []) ys n s.0 q (omega (arith, few, length-append xs (y ∷ []))) a.2 (omega (arith, e)) s.2 in
    rw one (more ∙ ap (λ (zs : List A). Ok (zs, q)) (append_assoc xs (y ∷ []) ys))

-- ---- what a whole list keeps

pub admitted_all : {A : Type 0} (P : ℕ → A → Type 0) (refused : List A → A → ℕ → Option CertFault) (xs ys : List A) → Admitted P refused xs ys → AllFrom P (length xs) ys
admitted_all P refused xs [] h = tt
admitted_all P refused xs (y ∷ ys) h = (h.0, let Q : ℕ → Type 0 = λ n. AllFrom P n ys in subst Q (length_push xs y) (admitted_all P refused (xs ++ y ∷ []) ys h.2))

pub kept_by : {A : Type 0} (P : ℕ → A → Type 0) (refused : List A → A → ℕ → Option CertFault) (Q : List A → Type 0) → ((xs : List A) (x : A) → Q xs → P (length xs) x → ((at : ℕ) → refused xs x at ≡ None) → Q (xs ++ x ∷ []))
    → (xs ys : List A) → Q xs → Admitted P refused xs ys → Q (xs ++ ys)
kept_by P refused Q step xs [] q h = subst Q (sym (append-nil xs)) q
kept_by P refused Q step xs (y ∷ ys) q h = subst Q (append_assoc xs (y ∷ []) ys) (kept_by P refused Q step (xs ++ y ∷ []) ys (step xs y q h.0 h.1) h.2)

pub admitted_by : {A : Type 0} (P : ℕ → A → Type 0) (refused : List A → A → ℕ → Option CertFault) (Q : List A → Type 0) → ((xs : List A) (x : A) (ys : List A) → Q (xs ++ x ∷ ys) → (at : ℕ) → refused xs x at ≡ None)
    → (xs ys : List A) → Q (xs ++ ys) → AllFrom P (length xs) ys → Admitted P refused xs ys
admitted_by P refused Q step xs [] q h = tt
admitted_by P refused Q step xs (y ∷ ys) q h =
    let R : ℕ → Type 0 = λ n. AllFrom P n ys in
    (h.0, (λ at. step xs y ys q at), admitted_by P refused Q step (xs ++ y ∷ []) ys (subst Q (sym (append_assoc xs (y ∷ []) ys)) q) (subst R (sym (length_push xs y)) h.1))

-- each item fits, whatever its number
pub all_of_any : {A : Type 0} (P : A → Type 0) (at : ℕ) (xs : List A) → AllFrom (λ n. P) at xs → AllByRecursion P xs
all_of_any P at [] h = tt
all_of_any P at (x ∷ xs) h = (h.0, all_of_any P (at + 1) xs h.1)

pub any_of_all : {A : Type 0} (P : A → Type 0) (at : ℕ) (xs : List A) → AllByRecursion P xs → AllFrom (λ n. P) at xs
any_of_all P at [] h = tt
any_of_all P at (x ∷ xs) h = (h.0, any_of_all P (at + 1) xs h.1)

-- ---- ascending keys

abbrev pub is_after : {K : Type 0} → (K → K → Ordering) → List K → K → Bool
is_after c [] k = true
is_after c (x ∷ []) k = is_lt (c x k)
is_after c (x ∷ y ∷ ys) k = is_after c (y ∷ ys) k

below_last : {K : Type 0} (c : K → K → Ordering) → IsTotalOrder c → (x : K) (ks : List K) (k : K) → IsStrictlySortedBy c (x ∷ ks) → is_after c (x ∷ ks) k ≡ true → c x k ≡ Less
unfolding IsStrictlySortedBy
below_last c o x [] k h e = less_by_test (c x k) e
below_last c o x (y ∷ ys) k h e = o.trans x y k h.0.0 (below_last c o y ys k h.1 e)

pub sorted_push : {K : Type 0} (c : K → K → Ordering) → IsTotalOrder c → (ks : List K) (k : K) → IsStrictlySortedBy c ks → is_after c ks k ≡ true → IsStrictlySortedBy c (ks ++ k ∷ [])
unfolding IsStrictlySortedBy
sorted_push c o [] k h e = (tt, tt)
sorted_push c o (x ∷ []) k h e = ((less_by_test (c x k) e, tt), (tt, tt))
sorted_push c o (x ∷ y ∷ ys) k h e = (all_pushed (λ z. c x z ≡ Less) (y ∷ ys) k h.0 (below_last c o x (y ∷ ys) k h e), sorted_push c o (y ∷ ys) k h.1 e)

pub sorted_at : {K : Type 0} (c : K → K → Ordering) (ks : List K) (k : K) (more : List K) → IsStrictlySortedBy c (ks ++ k ∷ more) → is_after c ks k ≡ true
unfolding IsStrictlySortedBy
sorted_at c [] k more h = refl
sorted_at c (x ∷ []) k more h = ap is_lt h.0.0
sorted_at c (x ∷ y ∷ ys) k more h = sorted_at c (y ∷ ys) k more h.1
