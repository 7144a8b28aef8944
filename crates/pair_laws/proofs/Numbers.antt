-- Numbers of pairs after some registers are set.
use Rattle.std.proofs.Common.{◌≡◌, sym, ◌∙◌, ap₂, subst, ℕ, ◌+◌, ◌*◌, ◌/◌, ◌%◌, ◌<◌, ◌≤◌, ◌⊎◌, inl, inr, ⊎_elim, List, length, slice_index, slice_set, arith, length-set}
use Rattle.std.proofs.lemmas.Bool.{cases_eq, cases_lt}
use Rattle.std.proofs.lemmas.List.{get_or_past}
use Rattle.std.proofs.lemmas.Grind.{elements}
use Rattle.pair_domain.specs.Tags.{pair_number}

pub set_there : (rs : List ℕ) (d x : ℕ) → d < length rs → slice_index (slice_set rs d x) d ≡ x
set_there rs d x lt = grind (arith, elements)

pub set_other : (rs : List ℕ) (d e x : ℕ) → (e ≡ d → ⊥) → slice_index (slice_set rs d x) e ≡ slice_index rs e
set_other rs d e x ne = grind (arith, elements)

-- a register that is set to what it holds
pub set_same : (rs : List ℕ) (d e x : ℕ) → x ≡ slice_index rs d → slice_index (slice_set rs d x) e ≡ slice_index rs e
set_same rs d e x is = by (cases_eq e d)
  where
    there : (slice_index (slice_set rs d x) d ≡ x) ⊎ (slice_index (slice_set rs d x) d ≡ slice_index rs d)
    there = inside (cases_lt d (length rs))
      where
        inside : (d < length rs) ⊎ (length rs ≤ d) → (slice_index (slice_set rs d x) d ≡ x) ⊎ (slice_index (slice_set rs d x) d ≡ slice_index rs d)
        inside (inl lt) = inl (set_there rs d x lt)
        inside (inr past) = inr (get_or_past (slice_set rs d x) d 0 (omega (arith, past, length-set rs d x)) ∙ sym (get_or_past rs d 0 past))

    by : (e ≡ d) ⊎ (e ≡ d → ⊥) → slice_index (slice_set rs d x) e ≡ slice_index rs e
    by (inl same) = subst (λ (j : ℕ). slice_index (slice_set rs d x) j ≡ slice_index rs j) (sym same) (⊎_elim (λ set. set ∙ is) (λ past. past) there)
    by (inr ne) = set_other rs d e x ne

module _ (rs : List ℕ) (count : length rs ≡ 34) where
  pub set_high : (k x : ℕ) → k < 16 → pair_number (slice_set rs (2 * k + 1) x) (2 * k) ≡ slice_index rs (2 * k) + 256 * x
  set_high k x lt =
      ap₂ (λ (a b : ℕ). a + 256 * b) (set_other rs (2 * k + 1) (2 * k) x (λ e. omega arith)) (set_there rs (2 * k + 1) x (omega (arith, lt, count)))

  pub set_both : (k x y : ℕ) → k < 16 → pair_number (slice_set (slice_set rs (2 * k) x) (2 * k + 1) y) (2 * k) ≡ x + 256 * y
  set_both k x y lt =
      ap₂ (λ (a b : ℕ). a + 256 * b)
      (set_other (slice_set rs (2 * k) x) (2 * k + 1) (2 * k) y (λ e. omega arith) ∙ set_there rs (2 * k) x (omega (arith, lt, count)))
      (set_there (slice_set rs (2 * k) x) (2 * k + 1) y (omega (arith, lt, count, length-set rs (2 * k) x)))

  pub set_word : (k w : ℕ) → k < 16 → pair_number (slice_set (slice_set rs (2 * k) (w % 256)) (2 * k + 1) (w / 256)) (2 * k) ≡ w
  set_word k w lt = let e : w % 256 + 256 * (w / 256) ≡ w = omega arith in set_both k (w % 256) (w / 256) lt ∙ e

  -- a later write of another register
  pub word_kept : (k d w x : ℕ) → k < 16 → (d / 2 ≡ k → ⊥)
      → pair_number (slice_set (slice_set (slice_set rs (2 * k) (w % 256)) (2 * k + 1) (w / 256)) d x) (2 * k) ≡ w
  word_kept k d w x lt away =
      ap₂ (λ (a b : ℕ). a + 256 * b)
      (set_other (slice_set (slice_set rs (2 * k) (w % 256)) (2 * k + 1) (w / 256)) d (2 * k) x (λ e. away (omega arith)))
      (set_other (slice_set (slice_set rs (2 * k) (w % 256)) (2 * k + 1) (w / 256)) d (2 * k + 1) x (λ e. away (omega arith)))
      ∙ set_word k w lt

  -- and two later writes
  pub word_kept_twice : (k e d w y x : ℕ) → k < 16 → (e / 2 ≡ k → ⊥) → (d / 2 ≡ k → ⊥)
      → pair_number (slice_set (slice_set (slice_set (slice_set rs (2 * k) (w % 256)) (2 * k + 1) (w / 256)) e y) d x) (2 * k) ≡ w
  word_kept_twice k e d w y x lt first away =
      ap₂ (λ (a b : ℕ). a + 256 * b)
      (set_other (slice_set (slice_set (slice_set rs (2 * k) (w % 256)) (2 * k + 1) (w / 256)) e y) d (2 * k) x (λ is. away (omega arith)))
      (set_other (slice_set (slice_set (slice_set rs (2 * k) (w % 256)) (2 * k + 1) (w / 256)) e y) d (2 * k + 1) x (λ is. away (omega arith)))
      ∙ word_kept k e w y lt first

  -- a register of a pair becomes a function of its old value
  pub high_is : (k d : ℕ) (g : ℕ → ℕ) → k < 16 → 2 * k + 1 ≡ d
      → pair_number (slice_set rs d (g (slice_index rs d))) (2 * k) ≡ slice_index rs (2 * k) + 256 * g (slice_index rs (2 * k + 1))
  high_is k d g lt e =
      subst (λ (j : ℕ). pair_number (slice_set rs j (g (slice_index rs j))) (2 * k) ≡ slice_index rs (2 * k) + 256 * g (slice_index rs (2 * k + 1))) e
      (set_high k (g (slice_index rs (2 * k + 1))) lt)

  pub low_is : (d x : ℕ) → d < 32 → pair_number (slice_set rs d x) d ≡ x + 256 * slice_index rs (d + 1)
  low_is d x lt = ap₂ (λ (a b : ℕ). a + 256 * b) (set_there rs d x (omega (arith, lt, count))) (set_other rs d (d + 1) x (λ e. omega arith))

  -- a register of a pair is set to its old value
  pub same_is : (d k x : ℕ) → x ≡ slice_index rs d → pair_number (slice_set rs d x) (2 * k) ≡ pair_number rs (2 * k)
  same_is d k x is = ap₂ (λ (a b : ℕ). a + 256 * b) (set_same rs d (2 * k) x is) (set_same rs d (2 * k + 1) x is)
