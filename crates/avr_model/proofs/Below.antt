-- Tests of some number below a bound.
use Rattle.std.proofs.Common.{◌≡◌, ℕ, ◌<◌, suc, zero, Bool, true, false, arith, refl, sym, ap, ap₂, ◌∙◌, ⊎_elim}
use Rattle.std.specs.Prelude.{◌||◌}
use Rattle.basics.specs.Numbers.{below_or_last}
use Rattle.basics.specs.Booleans.{or_with_true}
use Rattle.avr_model.specs.Bits.{any_below}

pub none_below : (m : ℕ) (p : ℕ → Bool) → ((k : ℕ) → k < m → p k ≡ false) → any_below m p ≡ false
unfolding any_below
none_below zero p h = refl
none_below (suc m) p h = ap₂ (λ (a b : Bool). a || b) (none_below m p (λ k l. h k (omega arith))) (h m (omega arith))

pub some_below : (m : ℕ) (p : ℕ → Bool) (k : ℕ) → k < m → p k ≡ true → any_below m p ≡ true
unfolding any_below
some_below zero p k l h = absurd (omega arith)
some_below (suc m) p k l h = ⊎_elim (λ (below : k < m). ap (λ b. b || p m) (some_below m p k below h)) (λ (e : k ≡ m). ap (λ b. any_below m p || b) (ap p (sym e) ∙ h) ∙ or_with_true (any_below m p)) (below_or_last k m l)

left_if_not : (a b : Bool) → (a || b) ≡ true → b ≡ false → a ≡ true
left_if_not true b h e = refl
left_if_not false b h e = absurd (cc)

last_or_below : (m : ℕ) (p : ℕ → Bool) (b : Bool) → p m ≡ b → (b ≡ false → (k : ℕ) × (k < m) × (p k ≡ true)) → (k : ℕ) × (k < suc m) × (p k ≡ true)
last_or_below m p true is below = (m, omega arith, is)
last_or_below m p false is below = let f = below refl in (f.0, omega (arith, f.1), f.2)

pub any_found : (m : ℕ) (p : ℕ → Bool) → any_below m p ≡ true → (k : ℕ) × (k < m) × (p k ≡ true)
unfolding any_below
any_found zero p h = absurd (cc)
any_found (suc m) p h = last_or_below m p (p m) refl (λ is. any_found m p (left_if_not (any_below m p) (p m) h is))
