-- The table of digits, byte by byte.
use Rattle.std.proofs.Common.{ℕ, ◌<◌, ◌≤◌, ◌≡◌, ◌∙◌, Bool, true, false, eqb, nat_lt, slice_index, Option, Some, None, refl, ap, sym, eqb-true, arith}
use Rattle.std.proofs.lemmas.Bool.{agree_below, agree_below_at}
use Rattle.std.proofs.lemmas.Bool.Decides.{nat_tests}
use Rattle.std.specs.Prelude.{if◌then◌else◌}
use Rattle.text_base.specs.Digits.{is_hex, digit_of}
use Rattle.line_reading.specs.declared.letters.TheConstants.{DIGITS}

abbrev digit_in : ℕ → Option ℕ
digit_in b = if is_hex b then Some (digit_of b) else None

abbrev below_16 : ℕ → Option ℕ
below_16 digit = if nat_lt digit 16 then Some digit else None

abbrev same : Option ℕ → Option ℕ → Bool
same None None = true
same None (Some y) = false
same (Some x) None = false
same (Some x) (Some y) = eqb x y

same_is : (a b : Option ℕ) → same a b ≡ true → a ≡ b
same_is None None e = refl
same_is None (Some y) e = cc
same_is (Some x) None e = cc
same_is (Some x) (Some y) e = ap (λ (n : ℕ). Some n) (eqb-true x y e)

all_listed : agree_below (λ b. same (below_16 (slice_index DIGITS b)) (digit_in b)) (λ b. true) 256 ≡ true
all_listed = refl

listed : (b : ℕ) → b < 256 → below_16 (slice_index DIGITS b) ≡ digit_in b
listed b l = same_is (below_16 (slice_index DIGITS b)) (digit_in b)
    (agree_below_at (λ b. same (below_16 (slice_index DIGITS b)) (digit_in b)) (λ b. true) 256 b all_listed l)

is_below : (d : ℕ) → d < 16 → below_16 d ≡ Some d
is_below d l = let t : nat_lt d 16 ≡ true = grind (arith, nat_tests) in rw t refl

is_not_below : (d : ℕ) → 16 ≤ d → below_16 d ≡ None
is_not_below d l = let t : nat_lt d 16 ≡ false = grind (arith, nat_tests) in rw t refl

pub some_digit : (b i : ℕ) → b < 256 → i ≡ b → slice_index DIGITS i < 16 → Some (slice_index DIGITS i) ≡ (if is_hex b then Some (digit_of b) else None)
some_digit b i l e small = sym (is_below (slice_index DIGITS i) small) ∙ listed i (omega (arith, e, l)) ∙ ap digit_in e

pub no_digit : (b i : ℕ) → b < 256 → i ≡ b → 16 ≤ slice_index DIGITS i → None ≡ (if is_hex b then Some (digit_of b) else None)
no_digit b i l e large = sym (is_not_below (slice_index DIGITS i) large) ∙ listed i (omega (arith, e, l)) ∙ ap digit_in e
