-- The four words of facts on pairs: the sum tag, the compare tag, the zero tag, and the intervals. Source: own.
use Rattle.std.specs.Prelude.{ℕ, ◌+◌, ◌==◌, ◌&&◌, Bool, List, [], ◌∷◌, ◌++◌, codes, if◌then◌else◌}
use Rattle.text_base.specs.Digits.{hex_digits}
use Rattle.pair_domain.specs.declared.intervals.Interval.{Interval}
use Rattle.pair_domain.specs.declared.tags.SumTag.{SumTag}
use Rattle.pair_domain.specs.declared.tags.SumTag.TheVariants as sum
use Rattle.pair_domain.specs.declared.tags.Side.{Side}
use Rattle.pair_domain.specs.declared.tags.Side.TheVariants as side
use Rattle.pair_domain.specs.declared.tags.CompareTag.{CompareTag}
use Rattle.pair_domain.specs.declared.tags.CompareTag.TheVariants as compare
use Rattle.pair_domain.specs.declared.tags.ZeroTag.{ZeroTag}
use Rattle.pair_domain.specs.declared.tags.ZeroTag.TheVariants as zero
use Rattle.pair_domain.specs.declared.facts.PairFacts.{PairFacts}

-- ---- tags

-- a pair, and two ends in five digits each
abbrev pub ends_text : ℕ → ℕ → ℕ → List ℕ
ends_text r a b = hex_digits r 2 ++ (hex_digits a 5 ++ hex_digits b 5)

abbrev pub sum_word : SumTag → List ℕ
sum_word sum.None = codes "-"
sum_word (sum.Up r a b) = codes "u" ++ ends_text r a b
sum_word (sum.Down r a b) = codes "d" ++ ends_text r a b

-- a byte or a register
abbrev pub side_text : Side → List ℕ
side_text (side.Byte k) = codes "k" ++ hex_digits k 2
side_text (side.Register q) = codes "r" ++ hex_digits q 2

-- the left register or pair, the side, and for pairs the second register of the side
abbrev pub compare_word : CompareTag → List ℕ
compare_word compare.None = codes "-"
compare_word (compare.Byte x y) = hex_digits x 2 ++ side_text y
compare_word (compare.Pair r y p) = hex_digits r 2 ++ (side_text y ++ hex_digits p 2)

abbrev pub zero_word : ZeroTag → List ℕ
zero_word zero.None = codes "-"
zero_word (zero.Byte x) = codes "b" ++ hex_digits x 2
zero_word (zero.Pair r) = codes "p" ++ hex_digits r 2

-- ---- intervals

-- low and high are the ends of the interval
abbrev pub are_ends : Interval → ℕ → ℕ → Bool
are_ends i low high = (low == i.low) && (high == i.high)

-- pair r and its interval; nothing if it is the hull
abbrev pub interval_text : ℕ → Interval → Interval → List ℕ
interval_text r hull i = if are_ends hull i.low i.high then [] else hex_digits r 2 ++ (hex_digits i.low 4 ++ hex_digits i.high 4)

-- the pairs from r on, with their hulls and intervals
unfoldable pub intervals_text : ℕ → List Interval → List Interval → List ℕ
intervals_text r [] is = []
intervals_text r (hull ∷ hulls) [] = []
intervals_text r (hull ∷ hulls) (i ∷ is) = interval_text r hull i ++ intervals_text (r + 2) hulls is

-- a dash for an empty text
abbrev pub or_dash : List ℕ → List ℕ
or_dash [] = codes "-"
or_dash (b ∷ bs) = b ∷ bs

abbrev pub intervals_word : List Interval → List Interval → List ℕ
intervals_word hulls is = or_dash (intervals_text 0 hulls is)

-- ---- all four

-- the words of facts on pairs whose registers have these hulls
abbrev pub facts_words : List Interval → PairFacts → List (List ℕ)
facts_words hulls f = sum_word f.sum ∷ compare_word f.compare ∷ zero_word f.zero ∷ intervals_word hulls f.intervals ∷ []
