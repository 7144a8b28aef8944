-- The first source that is ready.
use Rattle.std.proofs.Common.{arith, zero, suc, ◌≡◌, refl, sym, ap, ◌∙◌, ℕ, ◌+◌, ◌-◌, ◌<◌, Bool, true, false, ◌&&◌, inl, inr, Option, Some, None}
use Rattle.peripherals.specs.declared.peripherals.Source.{Source}
use Rattle.peripherals.specs.Due.{is_of, is_due, is_ready_source, first_from}
use Rattle.basics.specs.Lists.{chosen}
use Rattle.std.proofs.lemmas.Option.{same_Some, none-some}

one_more : (ready : ℕ → Bool) (n left : ℕ) → 0 < left → first_from ready n left ≡ first_from ready n (suc (left - 1))
one_more ready n left some = let same : left ≡ suc (left - 1) = omega (arith, some) in ap (first_from ready n) same

pub first_here : (ready : ℕ → Bool) (n count : ℕ) (all : Option ℕ) → all ≡ first_from ready n (count - n) → n < count → true ≡ ready n → Some n ≡ all
first_here ready n count all e lt is =
    let here : first_from ready n (suc (count - n - 1)) ≡ Some n = rw (← is) refl in
    sym (e ∙ one_more ready n (count - n) (omega (arith, lt)) ∙ here)

pub first_later : (ready : ℕ → Bool) (n count : ℕ) (all : Option ℕ) → all ≡ first_from ready n (count - n) → n < count → false ≡ ready n → all ≡ first_from ready (n + 1) (count - (n + 1))
first_later ready n count all e lt is =
    let later : first_from ready n (suc (count - n - 1)) ≡ first_from ready (n + 1) (count - n - 1) = rw (← is) refl in
    e ∙ one_more ready n (count - n) (omega (arith, lt)) ∙ later ∙ (let less : count - n - 1 ≡ count - (n + 1) = omega arith in ap (first_from ready (n + 1)) less)

pub first_none : (ready : ℕ → Bool) (n count : ℕ) (all : Option ℕ) → all ≡ first_from ready n (count - n) → count ≡ n → None ≡ all
first_none ready n count all e end = let none : count - n ≡ 0 = omega (arith, end) in sym (e ∙ ap (first_from ready n) none)

-- ---- what holds of the first

pub first_is : (ready : ℕ → Bool) (at n k : ℕ) → first_from ready at n ≡ Some k → ready k ≡ true
first_is ready at zero k e = absurd (none-some k e)
first_is ready at (suc n) k e = elim (chosen (ready at) _ _ (Some k) e) [
  | inl h ↦ ap ready (sym (same_Some at k h.1)) ∙ h.0
  | inr h ↦ first_is ready (at + 1) n k h.1
]

-- if the same sources are ready, the first is the same
pub first_same : (ready other : ℕ → Bool) (at n : ℕ) → ((k : ℕ) → ready k ≡ other k) → first_from ready at n ≡ first_from other at n
first_same ready other at zero same = refl
first_same ready other at (suc n) same = rw (same at, first_same ready other (at + 1) n same) refl

pub ready_same : (may other : ℕ → Bool) (timers : Bool) (o : Option Source) (taken step : ℕ) → ((v : ℕ) → may v ≡ other v) → is_ready_source may timers o taken step ≡ is_ready_source other timers o taken step
ready_same may other timers None taken step same = refl
ready_same may other timers (Some s) taken step same = ap (λ (b : Bool). is_of timers s.kind && is_due s taken step && b) (same s.vector)
