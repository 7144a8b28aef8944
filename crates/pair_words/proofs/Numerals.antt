-- Digits one by one.
use Rattle.std.proofs.Common.{ℕ, ◌/◌, ◌%◌, ◌<◌, ◌≡◌, ◌∙◌, refl, List, [], ◌∷◌, ◌++◌, ap, ap₂, arith}
use Rattle.text_base.specs.Digits.{hex_digit, hex_digits}

pub two : (n : ℕ) → n < 256 → hex_digits n 2 ≡ hex_digit (n / 16) ∷ hex_digit (n % 16) ∷ []
unfolding hex_digits
two n h =
    let e : n / 16 % 16 ≡ n / 16 = omega (arith, h) in
    ap (λ (d : ℕ). hex_digit d ∷ hex_digit (n % 16) ∷ []) e

pub four : (n : ℕ) → n < 65536 → hex_digits n 4 ≡ hex_digit (n / 4096) ∷ hex_digit (n / 256 % 16) ∷ hex_digit (n / 16 % 16) ∷ hex_digit (n % 16) ∷ []
unfolding hex_digits
four n h =
    let a : n / 16 / 16 / 16 % 16 ≡ n / 4096 = omega (arith, h) in
    let b : n / 16 / 16 % 16 ≡ n / 256 % 16 = omega (arith, h) in
    ap₂ (λ (d e : ℕ). hex_digit d ∷ hex_digit e ∷ hex_digit (n / 16 % 16) ∷ hex_digit (n % 16) ∷ []) a b

pub five : (n : ℕ)
    → hex_digits n 5 ≡ hex_digit (n / 65536 % 16) ∷ hex_digit (n / 4096 % 16) ∷ hex_digit (n / 256 % 16) ∷ hex_digit (n / 16 % 16) ∷ hex_digit (n % 16) ∷ []
unfolding hex_digits
five n =
    let a : n / 16 / 16 / 16 / 16 % 16 ≡ n / 65536 % 16 = omega arith in
    let b : n / 16 / 16 / 16 % 16 ≡ n / 4096 % 16 = omega arith in
    let c : n / 16 / 16 % 16 ≡ n / 256 % 16 = omega arith in
    ap₂ (λ (d e : ℕ). hex_digit d ∷ hex_digit e ∷ hex_digit (n / 16 / 16 % 16) ∷ hex_digit (n / 16 % 16) ∷ hex_digit (n % 16) ∷ []) a b
    ∙ ap (λ (d : ℕ). hex_digit (n / 65536 % 16) ∷ hex_digit (n / 4096 % 16) ∷ hex_digit d ∷ hex_digit (n / 16 % 16) ∷ hex_digit (n % 16) ∷ []) c

-- known parts, one after the other
pub joined_three : (a b c xs ys zs : List ℕ) → a ≡ xs → b ≡ ys → c ≡ zs → xs ++ (ys ++ zs) ≡ a ++ (b ++ c)
joined_three a b c xs ys zs e f g = rw (e, f, g) refl
