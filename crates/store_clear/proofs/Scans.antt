-- Search for the least and the greatest number that passes a test, and for all below a limit.
use Rattle.std.proofs.Common.{◌≡◌, refl, sym, ap, ap₂, ◌∙◌, subst, ℕ, zero, suc, ◌+◌, ◌<◌, ◌&&◌, ◌||◌, ⊎_elim, Bool, true, false, if◌then◌else◌, Some, None, arith}
use Rattle.std.proofs.lemmas.Bool.{cases_lt, and_right}
use Rattle.avr_model.specs.Bits.{any_below, all_below}
use Rattle.clear_laws.specs.Aims.{or_number, least_below, greatest_below}

next_is : (n : ℕ) → suc n ≡ n + 1
next_is n = omega arith

-- ---- the least

pub least_none : (p : ℕ → Bool) → least_below p 0 ≡ None
unfolding least_below
least_none p = refl

-- with one more number
one_more : (p : ℕ → Bool) (n : ℕ) → least_below p n ≡ None → least_below p (suc n) ≡ (if p n then Some n else None)
unfolding least_below
one_more p n none = ap (λ o. or_number o (p n) n) none

-- none so far, and this one fails
pub least_more : (p : ℕ → Bool) (n : ℕ) → least_below p n ≡ None → p n ≡ false → least_below p (n + 1) ≡ None
least_more p n none fails = ap (least_below p) (sym (next_is n)) ∙ one_more p n none ∙ ap (λ (b : Bool). if b then Some n else None) fails

pub least_found : (p : ℕ → Bool) (n m : ℕ) → n < m → least_below p n ≡ None → p n ≡ true → least_below p m ≡ Some n
unfolding least_below
least_found p n zero lt none passes = absurd (omega (arith, lt))
least_found p n (suc m) lt none passes =
    ⊎_elim (λ less. ap (λ o. or_number o (p m) m) (least_found p n m less none passes))
    (λ over.
    let same : n ≡ m = omega (arith, lt, over) in
    subst (λ x. or_number (least_below p x) (p x) x ≡ Some n) same
    (ap (λ o. or_number o (p n) n) none ∙ ap (λ (b : Bool). if b then Some n else None) passes)) (cases_lt n m)

-- ---- the greatest

-- if a number fails, the search continues from the one below
pub greatest_more : (p : ℕ → Bool) (n : ℕ) → p n ≡ false → greatest_below p (suc n) ≡ greatest_below p n
unfolding greatest_below
greatest_more p n fails = ap (λ (b : Bool). if b then Some n else greatest_below p n) fails

pub greatest_here : (p : ℕ → Bool) (n : ℕ) → p n ≡ true → greatest_below p (suc n) ≡ Some n
unfolding greatest_below
greatest_here p n passes = ap (λ (b : Bool). if b then Some n else greatest_below p n) passes

pub greatest_none : (p : ℕ → Bool) → greatest_below p 0 ≡ None
unfolding greatest_below
greatest_none p = refl

-- ---- all

pub all_none : (p : ℕ → Bool) → all_below 0 p ≡ true
unfolding all_below
all_none p = refl

all_next : (p : ℕ → Bool) (n : ℕ) → all_below (suc n) p ≡ (all_below n p && p n)
unfolding all_below
all_next p n = refl

pub all_more : (p : ℕ → Bool) (n : ℕ) → all_below n p ≡ true → p n ≡ true → all_below (n + 1) p ≡ true
all_more p n before here = ap (λ x. all_below x p) (sym (next_is n)) ∙ all_next p n ∙ ap (λ b. b && p n) before ∙ here

pub all_fails : (p : ℕ → Bool) (n m : ℕ) → n < m → p n ≡ false → all_below m p ≡ false
unfolding all_below
all_fails p n zero lt fails = absurd (omega (arith, lt))
all_fails p n (suc m) lt fails =
    ⊎_elim (λ less. ap (λ b. b && p m) (all_fails p n m less fails))
    (λ over. let same : n ≡ m = omega (arith, lt, over) in subst (λ x. (all_below x p && p x) ≡ false) same (and_right (all_below n p) (p n) fails)) (cases_lt n m)

-- ---- any

pub any_none : (p : ℕ → Bool) → any_below 0 p ≡ false
unfolding any_below
any_none p = refl

any_next : (p : ℕ → Bool) (n : ℕ) → any_below (suc n) p ≡ (any_below n p || p n)
unfolding any_below
any_next p n = refl

pub any_more : (p : ℕ → Bool) (n : ℕ) → any_below n p ≡ false → p n ≡ false → any_below (n + 1) p ≡ false
any_more p n before here = ap (λ x. any_below x p) (sym (next_is n)) ∙ any_next p n ∙ ap₂ (λ a b. a || b) before here
