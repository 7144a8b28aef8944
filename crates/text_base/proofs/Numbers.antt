-- Numbers from digits.
use Rattle.std.proofs.Common.{ℕ, ◌+◌, ◌*◌, ◌^◌, ◌<◌, ◌≤◌, ◌≡◌, List, [], ◌∷◌, length, drop, refl, arith, get_or, Err, add-one, drop-cons}
use Rattle.std.proofs.Math.Nat.{pow-suc, pow-le-pow_right}
use Rattle.std.proofs.lemmas.Bool.Decides.{nat_tests}
use Rattle.text_base.specs.Digits.{number_from, digit_of, capped}
use Rattle.text_base.specs.declared.digits.DigitFault.TheVariants.{TooGreat}

pub number_from_ge : (n : ℕ) (bs : List ℕ) → n ≤ number_from 10 n bs
number_from_ge n [] = omega arith
number_from_ge n (b ∷ bs) = omega (arith, number_from_ge (10 * n + digit_of b) bs)

pub capped_past : (n m most : ℕ) → most < n → n ≤ m → Err TooGreat ≡ capped m most
capped_past n m most a b = grind (arith, nat_tests)

-- one more digit
pub number_from_next : (base n i : ℕ) (text : List ℕ) → i < length text → number_from base n (drop i text) ≡ number_from base (base * n + digit_of (get_or text i 0)) (drop (i + 1) text)
number_from_next base n i text h = rw (add-one, drop-cons text i 0) refl

pub gone_past : (n i most : ℕ) (text : List ℕ) → i < length text → number_from 10 n (drop i text) ≡ number_from 10 0 text → most < 10 * n + digit_of (get_or text i 0) → Err TooGreat ≡ capped (number_from 10 0 text) most
gone_past n i most text h e more =
    let next = number_from_next 10 n i text h in
    let ge = number_from_ge (10 * n + digit_of (get_or text i 0)) (drop (i + 1) text) in
    capped_past (10 * n + digit_of (get_or text i 0)) (number_from 10 0 text) most more (omega (arith, ge, next, e))

pub hex_step : (n i d : ℕ) → n < 16 ^ i → d < 16 → 16 * n + d < 16 ^ (i + 1)
hex_step n i d a b = rw (add-one, pow-suc) (omega arith)

pub hex_room : (n i d : ℕ) → n < 16 ^ i → d < 16 → i < 32 → 16 * n + d < 2 ^ 128
hex_room n i d a b c = omega (arith, hex_step n i d a b, pow-le-pow_right {n = 16} (omega arith) {i = i + 1} {j = 32} (omega arith))
