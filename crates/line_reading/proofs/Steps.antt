-- Outcomes of tests and steps of a reading.
use Rattle.std.proofs.Common.{◌≡◌, ◌+◌, ℕ, List, [], ◌∷◌, ◌++◌, Bool, true, refl, ap, sym, ◌∙◌, arith, Option, Some, None, option_map, Result, Ok, Err, cond, ◌⊎◌, inl, inr, append_assoc}
use Rattle.basics.specs.Lists.{chosen, nil_not_cons, same_head_and_tail}
use Rattle.std.proofs.lemmas.Option.{same_Some, none-some}
use Rattle.text_base.specs.Lines.{TextLine, Position, size_of}
use Rattle.line_reading.specs.Reading.{◌>>=◌, is_over, then_at, first_by, line_by, taken, passed}
use Rattle.line_reading.specs.Words.{sizes, Passes}

pub ok_is : {A : Type 0} (x y : A) → ◌≡◌ {A = Result A Position} (Ok x) (Ok y) → x ≡ y
ok_is x y e = cc

pub err_ok : {A : Type 0} (q : Position) (y : A) → ◌≡◌ {A = Result A Position} (Err q) (Ok y) → ⊥
err_ok q y e = cc

pub err_is : {A : Type 0} (q r : Position) → ◌≡◌ {A = Result A Position} (Err q) (Err r) → q ≡ r
err_is q r e = cc

pub map_some : {A B : Type 0} (o : Option A) (f : A → B) (y : B) → option_map f o ≡ Some y → (x : A) × (o ≡ Some x) × (f x ≡ y)
map_some None f y e = absurd (none-some y e)
map_some (Some x) f y e = (x, refl, same_Some (f x) y e)

pub bind_some : {A B : Type 0} (o : Option A) (f : A → Option B) (y : B) → (o >>= f) ≡ Some y → (x : A) × (o ≡ Some x) × (f x ≡ Some y)
bind_some None f y e = absurd (none-some y e)
bind_some (Some x) f y e = (x, refl, e)

pub no_words : (ws : List (List ℕ)) → is_over ws ≡ true → ws ≡ []
no_words [] e = refl
no_words (w ∷ ws) e = cc

-- ---- lines

-- a line that is read has a line feed, and its text is read
pub first_some : {A : Type 0} (f : List ℕ → Option A) (l : TextLine) (ls : List TextLine) (x : A) → first_by f (l ∷ ls) ≡ Some x → (l ≡ record { text = l.text; whole = true }) × (f l.text ≡ Some x)
first_some f l ls x e =
    let step = bind_some (cond l.whole (Some l.text) None) f x e in
    elim (chosen l.whole (Some l.text) None (Some step.0) step.1) [
      | inl h ↦ (ap (λ (w : Bool). record { text = l.text; whole = w }) h.0, ap f (same_Some l.text step.0 h.1) ∙ step.2)
      | inr h ↦ absurd (none-some step.0 h.1)
    ]

pub sizes_append : (xs ys : List TextLine) → sizes (xs ++ ys) ≡ sizes xs + sizes ys
sizes_append [] ys = omega arith
sizes_append (x ∷ xs) ys = omega (arith, sizes_append xs ys)

pub passes_none : (p : Position) → Passes p [] p
passes_none p = record { lines = refl; offset = omega arith }

pub passes_more : (p q r : Position) (xs ys : List TextLine) → Passes p xs q → Passes q ys r → Passes p (xs ++ ys) r
passes_more p q r xs ys h k = record {
  lines = h.lines ∙ ap (λ (zs : List TextLine). xs ++ zs) k.lines ∙ sym (append_assoc xs ys r.rest);
  offset = omega (arith, h.offset, k.offset, sizes_append xs ys);
}

pub passes_one : (at : ℕ) (l m : TextLine) (ls : List TextLine) → l ≡ m → Passes (record { at = at; rest = l ∷ ls }) (m ∷ []) (record { at = at + size_of l; rest = ls })
passes_one at l m ls e = record { lines = ap (λ (x : TextLine). x ∷ ls) e; offset = rw (← e) (omega arith) }

-- a line that is read by its text
pub record TakesLine {A : Type 0} (f : List ℕ → Option A) (p : Position) (x : A) (q : Position) : Type 0 where
  pub text : List ℕ
  pub read : f text ≡ Some x
  pub passes : Passes p (record { text = text; whole = true } ∷ []) q

taken_ok : {A : Type 0} (d : Option A) (here next : Position) (x : A) (q : Position) → taken d here next ≡ Ok (x, q) → (d ≡ Some x) × (next ≡ q)
taken_ok {A} None here next x q e = absurd (err_ok {A = A × Position} here (x, q) e)
taken_ok {A} (Some y) here next x q e = let p = ok_is {A = A × Position} (y, next) (x, q) e in (ap (λ (z : A × Position). Some z.0) p, ap (λ (z : A × Position). z.1) p)

taken_err : {A : Type 0} (d : Option A) (here next q : Position) → taken d here next ≡ Err q → (d ≡ None) × (here ≡ q)
taken_err {A} None here next q e = (refl, err_is {A = A × Position} here q e)
taken_err {A} (Some y) here next q e = absurd (err_ok {A = A × Position} q (y, next) (sym e))

line_takes_at : {A : Type 0} (f : List ℕ → Option A) (at : ℕ) (ls : List TextLine) (x : A) (q : Position) → line_by f (record { at = at; rest = ls }) ≡ Ok (x, q) → TakesLine f (record { at = at; rest = ls }) x q
unfolding line_by
line_takes_at f at [] x q e = let bad = taken_ok None (record { at = at; rest = [] }) (record { at = at; rest = [] }) x q e in absurd (none-some x bad.0)
line_takes_at f at (l ∷ ls) x q e =
    let t = taken_ok (first_by f (l ∷ ls)) (record { at = at; rest = l ∷ ls }) (record { at = at + size_of l; rest = ls }) x q e in
    let one = first_some f l ls x t.0 in
    record { text = l.text; read = one.1; passes = rw t.1 at (passes_one at l (record { text = l.text; whole = true }) ls one.0) }

pub line_takes : {A : Type 0} (f : List ℕ → Option A) (p : Position) (x : A) (q : Position) → line_by f p ≡ Ok (x, q) → TakesLine f p x q
line_takes f p x q e = line_takes_at f p.at p.rest x q e

pub line_refuses : {A : Type 0} (f : List ℕ → Option A) (p q : Position) → line_by f p ≡ Err q → (first_by f p.rest ≡ None) × (p ≡ q)
unfolding line_by
line_refuses f p q e = taken_err (first_by f p.rest) p (passed p) q e

pub same_position : (a b : ℕ) (xs ys : List TextLine) → a ≡ b → xs ≡ ys → ◌≡◌ {A = Position} (record { at = a; rest = xs }) (record { at = b; rest = ys })
same_position a b xs ys e f = rw (e, f) refl

pub passes_tail : (at : ℕ) (l m : TextLine) (ls ms : List TextLine) (q : Position) → Passes (record { at = at; rest = l ∷ ls }) (m ∷ ms) q → (l ≡ m) × Passes (record { at = at + size_of l; rest = ls }) ms q
passes_tail at l m ls ms q h =
    let c = same_head_and_tail l m ls (ms ++ q.rest) h.lines in
    (c.0, record { lines = c.1; offset = rw c.0 (omega (arith, h.offset)) })

pub passes_end : (p q : Position) → Passes p [] q → p ≡ q
passes_end p q h = same_position p.at q.at p.rest q.rest (omega (arith, h.offset)) h.lines

line_again_at : {A : Type 0} (f : List ℕ → Option A) (at : ℕ) (ls : List TextLine) (q : Position) (text : List ℕ) (x : A) → f text ≡ Some x
    → Passes (record { at = at; rest = ls }) (record { text = text; whole = true } ∷ []) q → line_by f (record { at = at; rest = ls }) ≡ Ok (x, q)
unfolding line_by
line_again_at {A} f at [] q text x e h = absurd (nil_not_cons (record { text = text; whole = true }) q.rest h.lines)
line_again_at {A} f at (l ∷ ls) q text x e h =
    let t = passes_tail at l (record { text = text; whole = true }) ls [] q h in
    let read : first_by f (l ∷ ls) ≡ Some x = ap (λ (y : TextLine). first_by f (y ∷ ls)) t.0 ∙ e in
    let next = passes_end (record { at = at + size_of l; rest = ls }) q t.1 in
    ap (λ (d : Option A). taken d (record { at = at; rest = l ∷ ls }) (record { at = at + size_of l; rest = ls })) read ∙ ap (λ (z : Position). Ok (x, z)) next

pub line_again : {A : Type 0} (f : List ℕ → Option A) (p q : Position) (text : List ℕ) (x : A) → f text ≡ Some x → Passes p (record { text = text; whole = true } ∷ []) q → line_by f p ≡ Ok (x, q)
line_again f p q text x e h = line_again_at f p.at p.rest q text x e h

pub passes_split : (p q : Position) (l : TextLine) (ls : List TextLine) → Passes p (l ∷ ls) q → (m : Position) × Passes p (l ∷ []) m × Passes m ls q
passes_split p q l ls h = (record { at = p.at + size_of l; rest = ls ++ q.rest }, record { lines = h.lines; offset = omega arith }, record { lines = refl; offset = omega (arith, h.offset) })

-- ---- one reading after another

pub then_ok : {A B : Type 0} (d : Result A Position) (f : A → Result B Position) (y : B) → then_at d f ≡ Ok y → (x : A) × (d ≡ Ok x) × (f x ≡ Ok y)
then_ok (Ok x) f y e = (x, refl, e)
then_ok (Err q) f y e = absurd (err_ok q y e)

pub then_err : {A B : Type 0} (d : Result A Position) (f : A → Result B Position) (q : Position) → then_at d f ≡ Err q → (d ≡ Err q) ⊎ ((x : A) × (d ≡ Ok x) × (f x ≡ Err q))
then_err {A} {B} (Ok x) f q e = inr (x, refl, e)
then_err {A} {B} (Err r) f q e = inl (let same = err_is {A = B} r q e in rw same refl)
