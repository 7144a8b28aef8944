-- If nothing is read, the refusal is due.
use Rattle.std.proofs.Common.{ℕ, zero, suc, ◌<◌, ◌≡◌, List, [], ◌∷◌, ◌++◌, length, refl, ap, sym, ◌∙◌, arith, Option, Some, None, Result, Ok, Err, ◌⊎◌, inl, inr, subst, append-nil, append_assoc}
use Rattle.basics.specs.Lists.{nil_not_cons, same_head}
use Rattle.std.proofs.lemmas.Option.{none-some}
use Rattle.witness_replay.proofs.Exact.{as_words}
use Rattle.text_base.specs.Lines.{TextLine, Position, spaced}
use Rattle.line_reading.specs.Reading.{then_at, first_by, line_by}
use Rattle.line_reading.specs.Words.{whole, Passes}
use Rattle.line_reading.proofs.AllLaws.{line_takes, line_refuses, passes_none, passes_more}
use Rattle.cert_format.specs.declared.fault.CertFault.{CertFault}
use Rattle.cert_format.specs.declared.fault.CertFault.TheVariants as fault
use Rattle.cert_format.specs.Reading.{formed, unless, with_item, longer_at, items_from}
use Rattle.cert_format.specs.Refusals.{IsNextLine}
use Rattle.cert_format.proofs.Lists.{err_ok, formed_ok, Admitted, Steady, Spells, lines, longer_take}

-- ---- results

pub err_is : {A : Type 0} (f g : CertFault) → ◌≡◌ {A = Result A CertFault} (Err f) (Err g) → f ≡ g
err_is f g e = cc

pub then_stop : {A B : Type 0} (d : Result A CertFault) (f : A → Result B CertFault) (g : CertFault) → then_at d f ≡ Err g → (d ≡ Err g) ⊎ ((x : A) × (d ≡ Ok x) × (f x ≡ Err g))
then_stop {A} {B} (Ok x) f g e = inr (x, refl, e)
then_stop {A} {B} (Err r) f g e = inl (ap (λ (x : CertFault). Err x) (err_is {A = B} r g e))

pub formed_err : {A : Type 0} (d : Result (A × Position) Position) (g : CertFault) → formed d ≡ Err g → (r : Position) × (d ≡ Err r) × (g ≡ fault.Malformed r.at)
formed_err {A} (Ok x) g e = absurd (err_ok {A = A × Position} g x (sym e))
formed_err {A} (Err r) g e = (r, refl, sym (err_is {A = A × Position} (fault.Malformed r.at) g e))

-- a line that isn't read
pub line_stop : {A : Type 0} (f : List ℕ → Option A) (p : Position) (g : CertFault) → formed (line_by f p) ≡ Err g → (first_by f p.rest ≡ None) × (g ≡ fault.Malformed p.at)
line_stop f p g e =
    let r = formed_err (line_by f p) g e in
    let l = line_refuses f p r.0 r.1 in
    (l.0, r.2 ∙ ap (λ (q : Position). fault.Malformed q.at) (sym l.1))

-- a line that one reading refuses does not have the words that it accepts
pub not_next : {A : Type 0} (f : List ℕ → Option A) (ls : List TextLine) (ws : List (List ℕ)) (x : A) → first_by f ls ≡ None → IsNextLine ls ws → f (spaced ws) ≡ Some x → ⊥
not_next f [] ws x none next e = next
not_next f (l ∷ ls) ws x none next e = none-some x (sym none ∙ ap (λ (y : TextLine). first_by f (y ∷ ls)) next ∙ e)

passes_next : (p : Position) (ws : List (List ℕ)) (q : Position) (ls : List TextLine) → ls ≡ p.rest → Passes p (whole ws ∷ []) q → IsNextLine ls ws
passes_next p ws q [] is h = absurd (nil_not_cons (whole ws) q.rest (is ∙ h.lines))
passes_next p ws q (l ∷ ls) is h = same_head l (whole ws) ls q.rest (is ∙ h.lines)

-- the line that is passed is the next one
pub is_next : (p : Position) (ws : List (List ℕ)) (q : Position) → Passes p (whole ws ∷ []) q → IsNextLine p.rest ws
is_next p ws q h = passes_next p ws q p.rest refl h

-- ---- lists

unless_err : {X : Type 0} (o : Option CertFault) (x : X) (g : CertFault) → unless o x ≡ Err g → o ≡ Some g
unless_err {X} None x g e = absurd (err_ok {A = X} g x (sym e))
unless_err {X} (Some f) x g e = ap (λ (y : CertFault). Some y) (err_is {A = X} f g e)

-- an item that is read and refused
pub record ItemRefused {A : Type 0} (words : A → List (List ℕ)) (P : ℕ → A → Type 0) (refused : List A → A → ℕ → Option CertFault) (xs : List A) (p : Position) (g : CertFault) : Type 0 where
  pub item : A
  pub fits : P (length xs) item
  pub refuses : refused xs item p.at ≡ Some g
  pub next : IsNextLine p.rest (words item)

-- no item is read, or a refused one
abbrev pub Stop : {A : Type 0} → (ℕ → List ℕ → Option A) → (A → List (List ℕ)) → (ℕ → A → Type 0) → (List A → A → ℕ → Option CertFault) → List A → Position → CertFault → Type 0
Stop by words P refused xs p g = ((first_by (by (length xs)) p.rest ≡ None) × (g ≡ fault.Malformed p.at)) ⊎ ItemRefused words P refused xs p g

longer_stop : {A : Type 0} (by : ℕ → List ℕ → Option A) (words : A → List (List ℕ)) (P : ℕ → A → Type 0) (refused : List A → A → ℕ → Option CertFault) → Spells by words P
    → (xs : List A) (p : Position) (g : CertFault) → longer_at by refused xs p ≡ Err g → Stop by words P refused xs p g
unfolding longer_at
longer_stop {A} by words P refused spells xs p g e = elim (then_stop (formed (line_by (by (length xs)) p)) _ g e) [
  | inl h ↦ inl (line_stop (by (length xs)) p g h)
  | inr x ↦
      let t = line_takes (by (length xs)) p x.0.0 x.0.1 (formed_ok (line_by (by (length xs)) p) x.0 x.1) in
      let s = spells (length xs) t.text x.0.0 t.read in
      elim (then_stop (with_item refused xs x.0.0 p.at) _ g x.2) [
        | inl h ↦ inr (record {
          item = x.0.0;
          fits = s.1;
          refuses = unless_err (refused xs x.0.0 p.at) (xs ++ x.0.0 ∷ []) g h;
          next = is_next p (words x.0.0) x.0.1 (as_words (by (length xs)) p x.0.0 x.0.1 t (words x.0.0) s.0);
        })
        | inr y ↦ absurd (err_ok {A = List A × Position} g (y.0, x.0.1) (sym y.2))
      ]
]

-- the items before the line that stops the list
pub record ItemsStop {A : Type 0} (by : ℕ → List ℕ → Option A) (words : A → List (List ℕ)) (P : ℕ → A → Type 0) (refused : List A → A → ℕ → Option CertFault) (xs : List A) (n : ℕ) (p : Position) (g : CertFault) : Type 0 where
  pub items : List A
  pub fewer : length items < n
  pub fit : Admitted P refused xs items
  pub position : Position
  pub passes : Passes p (lines words items) position
  pub stop : Stop by words P refused (xs ++ items) position g

pub items_stop : {A : Type 0} (by : ℕ → List ℕ → Option A) (words : A → List (List ℕ)) (P : ℕ → A → Type 0) (refused : List A → A → ℕ → Option CertFault) → Spells by words P → Steady refused
    → (xs : List A) (n : ℕ) (p : Position) (g : CertFault) → items_from by refused xs n p ≡ Err g → ItemsStop by words P refused xs n p g
unfolding items_from
items_stop {A} by words P refused spells steady xs zero p g e = absurd (err_ok {A = List A × Position} g (xs, p) (sym e))
items_stop {A} by words P refused spells steady xs (suc n) p g e =
    let Q : List A → Type 0 = λ ys. Stop by words P refused ys p g in
    elim (then_stop (longer_at by refused xs p) _ g e) [
      | inl h ↦ record { items = []; fewer = omega arith; fit = tt; position = p; passes = passes_none p; stop = subst Q (sym (append-nil xs)) (longer_stop by words P refused spells xs p g h) }
      | inr y ↦
          let one = longer_take by words P refused spells xs p y.0 y.1 in
          let more = items_stop by words P refused spells steady y.0.0 n y.0.1 g y.2 in
          let R : List A → Type 0 = λ front. Admitted P refused front more.items in
          let S : List A → Type 0 = λ ys. Stop by words P refused ys more.position g in
          record {
            items = one.item ∷ more.items;
            fewer = omega (arith, more.fewer);
            fit = (one.fits, (λ at. steady xs one.item p.at at one.none), subst R (sym one.all) more.fit);
            position = more.position;
            passes = passes_more p y.0.1 more.position (whole (words one.item) ∷ []) (lines words more.items) one.passes more.passes;
            stop = subst S (ap (λ (front : List A). front ++ more.items) (sym one.all) ∙ append_assoc xs (one.item ∷ []) more.items) more.stop;
          }
    ]
