-- Case distinctions on numbers and options.
use Rattle.std.proofs.Common.{◌≡◌, ◌≢◌, refl, sym, ℕ, Bool, true, false, Option, Some, None}
use Rattle.std.specs.Prelude.{◌==◌}
use Rattle.std.proofs.lemmas.Bool.Decides.{Decides-eqb}

pub cases_eq : (x y : ℕ) (P : Type 0) → (x ≡ y → P) → (x ≢ y → P) → P
cases_eq x y P same other = by (x == y) refl
  where
    by : (b : Bool) → (x == y) ≡ b → P
    by true e = same ((Decides-eqb x y).0 e)
    by false e = other (λ s. let t = (Decides-eqb x y).1 s in absurd (cc))

-- two options with the same items are equal
pub same_option : {A : Type 0} (o p : Option A) → ((x : A) → o ≡ Some x → p ≡ Some x) → ((x : A) → p ≡ Some x → o ≡ Some x) → o ≡ p
same_option None None f g = refl
same_option None (Some x) f g = g x refl
same_option (Some x) p f g = sym (f x refl)

pub none_of : {A : Type 0} (o : Option A) → ((x : A) → o ≢ Some x) → o ≡ None
none_of None f = refl
none_of (Some x) f = absurd (f x refl)
