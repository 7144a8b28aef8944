-- Some number below a limit passes a test.
use Rattle.std.proofs.Common.{◌≡◌, sym, ap, ℕ, zero, suc, ◌<◌, ⊎_elim, Bool, true, arith, ◌∙◌}
use Rattle.std.proofs.lemmas.Bool.{cases_lt, or_left, or_right, or_cases}
use Rattle.avr_model.specs.Bits.{any_below}

pub any_found : (p : ℕ → Bool) (n m : ℕ) → n < m → p n ≡ true → any_below m p ≡ true
unfolding any_below
any_found p n zero lt passes = absurd (omega (arith, lt))
any_found p n (suc m) lt passes =
    ⊎_elim (λ less. or_left (any_below m p) (p m) (any_found p n m less passes))
    (λ over. let same : n ≡ m = omega (arith, lt, over) in or_right (any_below m p) (p m) (ap p (sym same) ∙ passes)) (cases_lt n m)

pub found_below : (p : ℕ → Bool) (m : ℕ) → any_below m p ≡ true → (n : ℕ) × ((n < m) × (p n ≡ true))
unfolding any_below
found_below p zero h = absurd (cc)
found_below p (suc m) h =
    ⊎_elim (λ before. let f = found_below p m before in (f.0, (let lt = f.1.0 in omega (arith, lt), f.1.1))) (λ here. (m, (omega arith, here))) (or_cases (any_below m p) (p m) h)
