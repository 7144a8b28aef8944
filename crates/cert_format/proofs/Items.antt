-- One more line of a list.
use Rattle.std.proofs.Common.{ℕ, suc, ◌+◌, ◌-◌, ◌<◌, ◌≤◌, ◌≡◌, List, [], ◌∷◌, ◌++◌, length, refl, ap, sym, ◌∙◌, arith, Option, Result, Ok, Err}
use Rattle.basics.specs.Numbers.{one_of_the_rest}
use Rattle.std.proofs.lemmas.List.{length_push}
use Rattle.text_base.specs.Lines.{Position}
use Rattle.line_reading.specs.Reading.{then_at, line_by}
use Rattle.node_keys.specs.Keys.{offset_of}
use Rattle.node_keys.specs.declared.keys.NodeKey.{NodeKey}
use Rattle.edge_rules.specs.declared.seeded.NodeForm.{NodeForm}
use Rattle.edge_rules.specs.Expansion.{Seeds}
use Rattle.cert_format.specs.declared.fault.CertFault.{CertFault}
use Rattle.certificate.specs.Claims.{cells_of, seed_keys}
use Rattle.cert_format.specs.Reading.{formed, with_item, longer_at, items_from}
use Rattle.cert_format.proofs.Lists.{ok_is, then_ok, unless_ok}

pub cells_more : (ns : Seeds) (n : NodeKey × NodeForm) → cells_of (seed_keys (ns ++ n ∷ [])) ≡ cells_of (seed_keys ns) + (1 + offset_of n.0.sp)
unfolding cells_of
cells_more [] n = omega arith
cells_more (m ∷ ns) n = omega (arith, cells_more ns n)

one_line : {A : Type 0} (by : ℕ → List ℕ → Option A) (refused : List A → A → ℕ → Option CertFault) (xs : List A) (n : ℕ) (p : Position) (d : Result (List A × Position) CertFault) → longer_at by refused xs p ≡ d
    → items_from by refused xs (suc n) p ≡ then_at d (λ x. items_from by refused x.0 n x.1)
unfolding items_from
one_line by refused xs n p d e = rw e refl

more : {A : Type 0} (by : ℕ → List ℕ → Option A) (refused : List A → A → ℕ → Option CertFault) (xs : List A) (count i : ℕ) (p : Position) (d : Result (List A × Position) CertFault) → i < count → longer_at by refused xs p ≡ d
    → items_from by refused xs (count - i) p ≡ then_at d (λ x. items_from by refused x.0 (count - (i + 1)) x.1)
more by refused xs count i p d h e = rw (one_of_the_rest count i h) (one_line by refused xs (count - (i + 1)) p d e)

-- a line that is read
pub item_more : {A : Type 0} (by : ℕ → List ℕ → Option A) (refused : List A → A → ℕ → Option CertFault) (xs ys : List A) (count i : ℕ) (p q : Position) (all : Result (List A × Position) CertFault) → i < count
    → longer_at by refused xs p ≡ Ok (ys, q) → items_from by refused xs (count - i) p ≡ all → items_from by refused ys (count - (i + 1)) q ≡ all
item_more by refused xs ys count i p q all h e is = sym (more by refused xs count i p (Ok (ys, q)) h e) ∙ is

-- a line that is read is one more item
pub item_longer : {A : Type 0} (by : ℕ → List ℕ → Option A) (refused : List A → A → ℕ → Option CertFault) (xs ys : List A) (p q : Position) → longer_at by refused xs p ≡ Ok (ys, q) → length ys ≡ length xs + 1
unfolding longer_at
item_longer {A} by refused xs ys p q e =
    let x = then_ok (formed (line_by (by (length xs)) p)) _ (ys, q) e in
    let zs = then_ok (with_item refused xs x.0.0 p.at) _ (ys, q) x.2 in
    let none = unless_ok (refused xs x.0.0 p.at) (xs ++ x.0.0 ∷ []) zs.0 zs.1 in
    let pair = ok_is {A = List A × Position} (zs.0, x.0.1) (ys, q) zs.2 in
    sym (ap length (none.1 ∙ ap (λ (y : List A × Position). y.0) pair)) ∙ length_push xs x.0.0

-- a line that is refused
pub item_fault : {A : Type 0} (by : ℕ → List ℕ → Option A) (refused : List A → A → ℕ → Option CertFault) (xs : List A) (count i : ℕ) (p : Position) (f : CertFault) (all : Result (List A × Position) CertFault) → i < count
    → longer_at by refused xs p ≡ Err f → items_from by refused xs (count - i) p ≡ all → all ≡ Err f
item_fault by refused xs count i p f all h e is = sym is ∙ more by refused xs count i p (Err f) h e

none_left : {A : Type 0} (by : ℕ → List ℕ → Option A) (refused : List A → A → ℕ → Option CertFault) (xs : List A) (p : Position) → items_from by refused xs 0 p ≡ Ok (xs, p)
unfolding items_from
none_left by refused xs p = refl

-- all lines are read
pub items_end : {A : Type 0} (by : ℕ → List ℕ → Option A) (refused : List A → A → ℕ → Option CertFault) (xs : List A) (count i : ℕ) (p : Position) (all : Result (List A × Position) CertFault) → count ≤ i
    → items_from by refused xs (count - i) p ≡ all → all ≡ Ok (xs, p)
items_end by refused xs count i p all h is =
    let none : count - i ≡ 0 = omega arith in
    sym is ∙ ap (λ (n : ℕ). items_from by refused xs n p) none ∙ none_left by refused xs p

pub no_cells : cells_of [] ≡ 0
unfolding cells_of
no_cells = refl
