-- The options of the table of commands are those that `is_option` names.
use Rattle.std.proofs.Common.{◌≡◌, ◌≤◌, ◌-◌, ◌||◌, ℕ, List, [], ◌∷◌, Bool, true, false, length, get_or, drop, take, take_all, ap, ap₂, sym, ◌∙◌, refl, arith}

-- a word that begins with two hyphens
pub hyphened : (w : List ℕ) → 2 ≤ length w → get_or w 0 0 ≡ 45 → get_or w 1 0 ≡ 45 → w ≡ 45 ∷ 45 ∷ take (length w - 2) (drop 2 w)
hyphened [] long a b = absurd (omega (arith, long))
hyphened (x ∷ []) long a b = absurd (omega (arith, long))
hyphened (x ∷ y ∷ w) long a b =
    ap₂ (λ (p q : ℕ). p ∷ q ∷ w) a b ∙ ap (λ (t : List ℕ). 45 ∷ 45 ∷ t) (sym (take_all (length (x ∷ y ∷ w) - 2) w (omega arith)))

-- the options of a command with a second file, of which `more` are its own
abbrev judging : Bool → Bool → Bool → Bool
judging a d more = a || (d || more)

-- a word is `--assume`, `--device`, `--steps`, `--trials`, `--json` or `--why`
pub listed : (a d s t j w : Bool)
    → (judging a d false || (judging a d (s || false) || (judging a d false || (judging a d (j || false) || (judging a d false || ((d || false) || (judging a d (w || false) || (judging a d (t || false) || (judging a d (s || false) || false)))))))))
    ≡ (a || (s || (d || (t || (j || w)))))
listed true d s t j w = refl
listed false true true t j w = refl
listed false true false t j w = refl
listed false false true t j w = refl
listed false false false true true w = refl
listed false false false true false true = refl
listed false false false true false false = refl
listed false false false false true w = refl
listed false false false false false true = refl
listed false false false false false false = refl
