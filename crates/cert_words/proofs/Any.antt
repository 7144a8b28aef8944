-- The letters after a tag that stand for any byte.
use Rattle.std.proofs.Common.{◌≡◌, ℕ, List, [], ◌∷◌, length, get_or, codes, Some, refl, sym, ap, subst, ◌∙◌, arith}
use Rattle.line_reading.specs.Letters.{digits_at}
use Rattle.bit_domain.specs.Packed.{packed}
use Rattle.sp_domain.specs.declared.tags.Tag.{Tag}
use Rattle.abs_state.specs.Values.{with_bits}
use Rattle.certificate.specs.declared.version.Version.{Version}
use Rattle.certificate.specs.declared.version.Version.TheVariants.{One, Two}
use Rattle.cert_words.specs.Reading.{tri_byte, bits_at, ends_at, value_behind}

abbrev SaysAny : Version → List ℕ → Type 0
SaysAny version bs = (tag : Tag) → value_behind version tag bs ≡ Some (with_bits tag (tri_byte 0 0))

short : SaysAny One (codes "0000")
unfolding digits_at bits_at
short tag = refl

long : SaysAny Two (codes "000000FF")
unfolding digits_at bits_at ends_at packed
long tag = refl

-- this many letters, by index
four : (bs : List ℕ) → length bs ≡ 4 → bs ≡ get_or bs 0 0 ∷ get_or bs 1 0 ∷ get_or bs 2 0 ∷ get_or bs 3 0 ∷ []
four [] h = absurd (omega arith)
four (a ∷ []) h = absurd (omega arith)
four (a ∷ b ∷ []) h = absurd (omega arith)
four (a ∷ b ∷ c ∷ []) h = absurd (omega arith)
four (a ∷ b ∷ c ∷ d ∷ []) h = refl
four (a ∷ b ∷ c ∷ d ∷ e ∷ es) h = absurd (omega arith)

eight : (bs : List ℕ) → length bs ≡ 8
    → bs ≡ get_or bs 0 0 ∷ get_or bs 1 0 ∷ get_or bs 2 0 ∷ get_or bs 3 0 ∷ get_or bs 4 0 ∷ get_or bs 5 0 ∷ get_or bs 6 0 ∷ get_or bs 7 0 ∷ []
eight [] h = absurd (omega arith)
eight (a ∷ []) h = absurd (omega arith)
eight (a ∷ b ∷ []) h = absurd (omega arith)
eight (a ∷ b ∷ c ∷ []) h = absurd (omega arith)
eight (a ∷ b ∷ c ∷ d ∷ bs) h = ap (λ (r : List ℕ). a ∷ b ∷ c ∷ d ∷ r) (four bs (omega arith))

pub any_one : (bs : List ℕ) → length bs ≡ 4 → get_or bs 0 0 ≡ 48 → get_or bs 1 0 ≡ 48 → get_or bs 2 0 ≡ 48 → get_or bs 3 0 ≡ 48 → SaysAny One bs
any_one bs l a b c d = let whole : bs ≡ codes "0000" = four bs l ∙ cc in subst (SaysAny One) (sym whole) short

pub any_two : (bs : List ℕ) → length bs ≡ 8 → get_or bs 0 0 ≡ 48 → get_or bs 1 0 ≡ 48 → get_or bs 2 0 ≡ 48 → get_or bs 3 0 ≡ 48 → get_or bs 4 0 ≡ 48 → get_or bs 5 0 ≡ 48 → get_or bs 6 0 ≡ 70 → get_or bs 7 0 ≡ 70 → SaysAny Two bs
any_two bs l a b c d e f g h = let whole : bs ≡ codes "000000FF" = eight bs l ∙ cc in subst (SaysAny Two) (sym whole) long
