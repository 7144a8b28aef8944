-- The words on pairs have no space and no line feed, and are short.
use Rattle.std.proofs.Common.{ℕ, ◌+◌, ◌*◌, ◌<◌, ◌≤◌, ◌≡◌, List, [], ◌∷◌, ◌++◌, length, length-append, codes, Bool, true, false, cond, refl, arith}
use Rattle.std.specs.List.{AllByRecursion}
use Rattle.text_base.specs.Digits.{hex_digits}
use Rattle.line_reading.specs.Words.{IsWord, WordLaws}
use Rattle.line_reading.proofs.AllLaws.{lacks_append, length_hex}
use Rattle.pair_domain.specs.declared.intervals.Interval.{Interval}
use Rattle.pair_domain.specs.declared.tags.SumTag.{SumTag}
use Rattle.pair_domain.specs.declared.tags.SumTag.TheVariants as sum
use Rattle.pair_domain.specs.declared.tags.Side.{Side}
use Rattle.pair_domain.specs.declared.tags.Side.TheVariants as side
use Rattle.pair_domain.specs.declared.tags.CompareTag.{CompareTag}
use Rattle.pair_domain.specs.declared.tags.CompareTag.TheVariants as compare
use Rattle.pair_domain.specs.declared.tags.ZeroTag.{ZeroTag}
use Rattle.pair_domain.specs.declared.tags.ZeroTag.TheVariants as zero
use Rattle.pair_domain.specs.declared.facts.PairFacts.{PairFacts}
use Rattle.pair_domain.specs.Rank.{IntervalFits, EndsFit, SumFits, SideFits, CompareFits, ZeroFits}
use Rattle.pair_words.specs.Spelling.{ends_text, sum_word, side_text, compare_word, zero_word, are_ends, interval_text, intervals_text, or_dash, intervals_word, facts_words}
use Rattle.pair_words.specs.Laws.{AreHulls, FitWithin}
use Rattle.pair_words.proofs.Inside.{LiesWithin, LieWithin, AreAll}
use Rattle.pair_words.proofs.Whole.{all_hulls, lie_within}

-- ---- no space and no line feed

joined : (a b : List ℕ) → IsWord a → IsWord b → IsWord (a ++ b)
joined a b h g = (lacks_append 32 a b h.0 g.0, lacks_append 10 a b h.1 g.1)

byte_is : WordLaws → (n : ℕ) → n < 256 → IsWord (hex_digits n 2)
byte_is k n h = k.hex_word n 2 (omega (arith, h))

ends_are : WordLaws → (r a b : ℕ) → EndsFit r a b → IsWord (ends_text r a b)
ends_are k r a b h =
    joined (hex_digits r 2) (hex_digits a 5 ++ hex_digits b 5) (byte_is k r (omega (arith, h.pair.register)))
    (joined (hex_digits a 5) (hex_digits b 5) (k.hex_word a 5 (omega (arith, h.ordered, h.small))) (k.hex_word b 5 (omega (arith, h.small))))

sum_is : WordLaws → (s : SumTag) → SumFits s → IsWord (sum_word s)
sum_is k sum.None h = ((refl, tt), (refl, tt))
sum_is k (sum.Up r a b) h = joined (codes "u") (ends_text r a b) ((refl, tt), (refl, tt)) (ends_are k r a b h)
sum_is k (sum.Down r a b) h = joined (codes "d") (ends_text r a b) ((refl, tt), (refl, tt)) (ends_are k r a b h)

side_is : WordLaws → (y : Side) → SideFits y → IsWord (side_text y)
side_is k (side.Byte b) h = joined (codes "k") (hex_digits b 2) ((refl, tt), (refl, tt)) (byte_is k b h)
side_is k (side.Register q) h = joined (codes "r") (hex_digits q 2) ((refl, tt), (refl, tt)) (byte_is k q (omega (arith, h)))

compare_is : WordLaws → (c : CompareTag) → CompareFits c → IsWord (compare_word c)
compare_is k compare.None h = ((refl, tt), (refl, tt))
compare_is k (compare.Byte x y) h = joined (hex_digits x 2) (side_text y) (byte_is k x (omega (arith, h.0))) (side_is k y h.1)
compare_is k (compare.Pair r y p) h =
    joined (hex_digits r 2) (side_text y ++ hex_digits p 2) (byte_is k r (omega (arith, h.0.register)))
    (joined (side_text y) (hex_digits p 2) (side_is k y h.1) (byte_is k p (omega (arith, h.2))))

zero_is : WordLaws → (z : ZeroTag) → ZeroFits z → IsWord (zero_word z)
zero_is k zero.None h = ((refl, tt), (refl, tt))
zero_is k (zero.Byte x) h = joined (codes "b") (hex_digits x 2) ((refl, tt), (refl, tt)) (byte_is k x (omega (arith, h)))
zero_is k (zero.Pair r) h = joined (codes "p") (hex_digits r 2) ((refl, tt), (refl, tt)) (byte_is k r (omega (arith, h.register)))

interval_is : WordLaws → (r : ℕ) (hull i : Interval) → r < 256 → IntervalFits hull → LiesWithin hull i.low i.high → IsWord (interval_text r hull i)
interval_is k r hull i low fits h = by (are_ends hull i.low i.high)
  where
    ends : IsWord (hex_digits r 2 ++ (hex_digits i.low 4 ++ hex_digits i.high 4))
    ends =
        joined (hex_digits r 2) (hex_digits i.low 4 ++ hex_digits i.high 4) (byte_is k r low)
        (joined (hex_digits i.low 4) (hex_digits i.high 4) (k.hex_word i.low 4 (omega (arith, h.ordered, h.high, fits.small))) (k.hex_word i.high 4 (omega (arith, h.high, fits.small))))

    by : (b : Bool) → IsWord (cond {A = List ℕ} b [] (hex_digits r 2 ++ (hex_digits i.low 4 ++ hex_digits i.high 4)))
    by true = (tt, tt)
    by false = ends

intervals_are : WordLaws → (r : ℕ) (hulls is : List Interval) → r + 2 * length hulls ≤ 256 → AreAll hulls → LieWithin hulls is → IsWord (intervals_text r hulls is)
unfolding intervals_text
intervals_are k r [] is few fits h = (tt, tt)
intervals_are k r (hull ∷ hulls) [] few fits h = (tt, tt)
intervals_are k r (hull ∷ hulls) (i ∷ is) few fits h =
    joined (interval_text r hull i) (intervals_text (r + 2) hulls is) (interval_is k r hull i (omega (arith, few)) fits.0 h.0)
    (intervals_are k (r + 2) hulls is (omega (arith, few)) fits.1 h.1)

dash_or_text : (text : List ℕ) → IsWord text → IsWord (or_dash text)
dash_or_text [] h = ((refl, tt), (refl, tt))
dash_or_text (b ∷ bs) h = h

pub facts_are_words : WordLaws → (hulls : List Interval) (f : PairFacts) → AreHulls hulls → FitWithin hulls f → AllByRecursion IsWord (facts_words hulls f)
facts_are_words k hulls f h g =
    let text = intervals_are k 0 hulls f.intervals (omega (arith, h.count)) (all_hulls hulls h) (lie_within hulls f h g) in
    (sum_is k f.sum g.fit.sum, (compare_is k f.compare g.fit.compare, (zero_is k f.zero g.fit.zero, (dash_or_text (intervals_text 0 hulls f.intervals) text, tt))))

-- ---- how long they are

ends_long : (r a b : ℕ) → length (ends_text r a b) ≡ 12
ends_long r a b =
    omega (arith, length-append (hex_digits r 2) (hex_digits a 5 ++ hex_digits b 5), length-append (hex_digits a 5) (hex_digits b 5), length_hex r 2, length_hex a 5, length_hex b 5)

pub sum_short : (s : SumTag) → length (sum_word s) ≤ 13
sum_short sum.None = omega arith
sum_short (sum.Up r a b) = omega (arith, ends_long r a b)
sum_short (sum.Down r a b) = omega (arith, ends_long r a b)

side_long : (y : Side) → length (side_text y) ≡ 3
side_long (side.Byte b) = omega (arith, length_hex b 2)
side_long (side.Register q) = omega (arith, length_hex q 2)

pub compare_short : (c : CompareTag) → length (compare_word c) ≤ 7
compare_short compare.None = omega arith
compare_short (compare.Byte x y) = omega (arith, length-append (hex_digits x 2) (side_text y), length_hex x 2, side_long y)
compare_short (compare.Pair r y p) =
    omega (arith, length-append (hex_digits r 2) (side_text y ++ hex_digits p 2), length-append (side_text y) (hex_digits p 2), length_hex r 2, side_long y, length_hex p 2)

pub zero_short : (z : ZeroTag) → length (zero_word z) ≤ 3
zero_short zero.None = omega arith
zero_short (zero.Byte x) = omega (arith, length_hex x 2)
zero_short (zero.Pair r) = omega (arith, length_hex r 2)

interval_short : (r : ℕ) (hull i : Interval) → length (interval_text r hull i) ≤ 10
interval_short r hull i = by (are_ends hull i.low i.high)
  where
    by : (b : Bool) → length (cond {A = List ℕ} b [] (hex_digits r 2 ++ (hex_digits i.low 4 ++ hex_digits i.high 4))) ≤ 10
    by true = omega arith
    by false =
        omega (arith, length-append (hex_digits r 2) (hex_digits i.low 4 ++ hex_digits i.high 4), length-append (hex_digits i.low 4) (hex_digits i.high 4), length_hex r 2, length_hex i.low 4, length_hex i.high 4)

text_short : (r : ℕ) (hulls is : List Interval) → length (intervals_text r hulls is) ≤ 10 * length is
unfolding intervals_text
text_short r [] is = omega arith
text_short r (hull ∷ hulls) [] = omega arith
text_short r (hull ∷ hulls) (i ∷ is) =
    omega (arith, length-append (interval_text r hull i) (intervals_text (r + 2) hulls is), interval_short r hull i, text_short (r + 2) hulls is)

dash_small : (text : List ℕ) (n : ℕ) → length text ≤ n → 1 ≤ n → length (or_dash text) ≤ n
dash_small [] n h some = omega (arith, some)
dash_small (b ∷ bs) n h some = h

pub intervals_short : (hulls is : List Interval) → length is ≡ 16 → length (intervals_word hulls is) ≤ 160
intervals_short hulls is count = dash_small (intervals_text 0 hulls is) 160 (omega (arith, text_short 0 hulls is, count)) (omega arith)
