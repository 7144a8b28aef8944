-- Facts on natural numbers and on tests of them.
use Rattle.std.proofs.Common.{◌≡◌, ap, ◌∙◌, ℕ, suc, ◌+◌, ◌-◌, ◌*◌, ◌/◌, ◌%◌, ◌<◌, ◌≤◌, ◌==◌, max, nat_lt, nat_le, Bool, true, ◌⊎◌, ⊎_elim, mul-le-mul, arith}
use Rattle.std.proofs.lemmas.Bool.{cases_lt}
use Rattle.std.proofs.lemmas.Bool.Decides.{nat_tests}

pub before_or_last : (i n : ℕ) → i < n + 1 → (i < n) ⊎ (i ≡ n)
before_or_last i n h = grind arith

pub below_or_last : (i n : ℕ) → i < suc n → (i < n) ⊎ (i ≡ n)
below_or_last i n h = grind arith

pub same_if_neither : (i j : ℕ) → (i < j → ⊥) → (j < i → ⊥) → i ≡ j
same_if_neither i j a b = ⊎_elim (λ lt. absurd (a lt)) (λ le. ⊎_elim (λ lt. absurd (b lt)) (λ ge. omega (arith, le, ge)) (cases_lt j i)) (cases_lt i j)

pub equals_itself : (n : ℕ) → (n == n) ≡ true
equals_itself n = grind (arith, nat_tests)

pub less_from_test : (a b : ℕ) → nat_lt a b ≡ true → a < b
less_from_test a b h = grind (arith, nat_tests)

pub test_from_less : (a b : ℕ) → a < b → nat_lt a b ≡ true
test_from_less a b h = grind (arith, nat_tests)

pub at_most_from_test : (a b : ℕ) → nat_le a b ≡ true → a ≤ b
at_most_from_test a b h = grind (arith, nat_tests)

pub test_from_at_most : (a b : ℕ) → a ≤ b → nat_le a b ≡ true
test_from_at_most a b h = grind (arith, nat_tests)

pub zero_from_test : (b : Bool) (n : ℕ) → b ≡ (n == 0) → b ≡ true → n ≡ 0
zero_from_test b n is e = grind (arith, nat_tests)

pub product_of_bytes : (a b : ℕ) → a < 256 → b < 256 → a * b < 65536
product_of_bytes a b h g =
    let first : a ≤ 255 = omega arith in
    let second : b ≤ 255 = omega arith in
    let le : a * b ≤ 255 * 255 = mul-le-mul first second in
    omega arith

pub two_bytes : (w : ℕ) → w ≡ w % 256 + 256 * (w / 256)
two_bytes w = omega arith

pub one_of_the_rest : (count i : ℕ) → i < count → count - i ≡ suc (count - (i + 1))
one_of_the_rest count i h = omega arith

pub one_step_on : (at k : ℕ) → at + 1 + k ≡ at + suc k
one_step_on at k = omega arith

pub less_none : (n : ℕ) → n - 0 ≡ n
less_none n = omega arith

pub less_one_more : (n k : ℕ) → n - suc k ≡ n - 1 - k
less_one_more n k = omega arith

pub most_from_none : (d : ℕ) → max 0 d ≡ d
most_from_none d = grind arith

pub most_from_start : (n d : ℕ) → max (n - n) d ≡ d
most_from_start n d = let none : n - n ≡ 0 = omega arith in ap (λ (x : ℕ). max x d) none ∙ most_from_none d
