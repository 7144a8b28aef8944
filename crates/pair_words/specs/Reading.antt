-- Reads the four words of facts on pairs.
use Rattle.std.specs.Prelude.{ℕ, ◌+◌, ◌%◌, ◌==◌, ◌&&◌, nat_lt, nat_le, not, Bool, List, [], ◌∷◌, codes, Option, Some, None, if◌then◌else◌}
use Rattle.std.specs.Option.{option_map}
use Rattle.std.specs.Str.{bytes_eq}
use Rattle.line_reading.specs.Reading.{◌>>=◌, word_by}
use Rattle.line_reading.specs.Letters.{letter_at, digits_at, is_end}
use Rattle.pair_domain.specs.declared.intervals.Interval.{Interval}
use Rattle.pair_domain.specs.declared.tags.SumTag.{SumTag}
use Rattle.pair_domain.specs.declared.tags.SumTag.TheVariants as sum
use Rattle.pair_domain.specs.declared.tags.Side.{Side}
use Rattle.pair_domain.specs.declared.tags.Side.TheVariants as side
use Rattle.pair_domain.specs.declared.tags.CompareTag.{CompareTag}
use Rattle.pair_domain.specs.declared.tags.CompareTag.TheVariants as compare
use Rattle.pair_domain.specs.declared.tags.ZeroTag.{ZeroTag}
use Rattle.pair_domain.specs.declared.tags.ZeroTag.TheVariants as zero
use Rattle.pair_domain.specs.declared.facts.PairFacts.{PairFacts}
use Rattle.pair_words.specs.Spelling.{are_ends}

-- ---- registers

-- the number of a register
unfoldable pub register_at : List ℕ → Option (ℕ × List ℕ)
register_at bs = digits_at 2 bs >>= λ r. if nat_lt r.0 32 then Some r else None

abbrev pub is_even : ℕ → Bool
is_even r = r % 2 == 0

-- the number of a pair, which is even
unfoldable pub pair_at : List ℕ → Option (ℕ × List ℕ)
pair_at bs = register_at bs >>= λ r. if is_even r.0 then Some r else None

-- ---- the sum tag

-- ordered ends that are less than 65,535 apart
abbrev pub are_near : ℕ → ℕ → Bool
are_near a b = nat_le a b && nat_lt b (a + 65535)

-- a pair and two ends, and nothing else
unfoldable pub ends_in : List ℕ → Option (ℕ × ℕ × ℕ)
ends_in bs = do
  r ← pair_at bs
  a ← digits_at 5 r.1
  b ← digits_at 5 a.1
  if are_near a.0 b.0 && is_end b.1 then Some (r.0, a.0, b.0) else None

-- the sum tag of a letter and the bytes behind it
abbrev pub sum_by : ℕ → List ℕ → Option SumTag
sum_by letter bs =
    if letter == 117 then option_map (λ e. sum.Up e.0 e.1 e.2) (ends_in bs)
    else (if letter == 100 then option_map (λ e. sum.Down e.0 e.1 e.2) (ends_in bs) else None)

unfoldable pub sum_in : List ℕ → Option SumTag
sum_in w = if bytes_eq w (codes "-") then Some sum.None else (letter_at w >>= λ l. sum_by l.0 l.1)

-- ---- the compare tag

abbrev pub side_by : ℕ → List ℕ → Option (Side × List ℕ)
side_by letter bs =
    if letter == 107 then option_map (λ k. (side.Byte k.0, k.1)) (digits_at 2 bs)
    else (if letter == 114 then option_map (λ q. (side.Register q.0, q.1)) (register_at bs) else None)

-- a byte or a register
unfoldable pub side_at : List ℕ → Option (Side × List ℕ)
side_at bs = letter_at bs >>= λ l. side_by l.0 l.1

-- after a register and a side: nothing for bytes, or the second register of the side for pairs
unfoldable pub compare_behind : ℕ → Side → List ℕ → Option CompareTag
compare_behind x y bs =
    if is_end bs then Some (compare.Byte x y)
    else (register_at bs >>= λ p. if is_even x && is_end p.1 then Some (compare.Pair x y p.0) else None)

unfoldable pub compare_by : List ℕ → Option CompareTag
compare_by bs = do
  x ← register_at bs
  y ← side_at x.1
  compare_behind x.0 y.0 y.1

unfoldable pub compare_in : List ℕ → Option CompareTag
compare_in w = if bytes_eq w (codes "-") then Some compare.None else compare_by w

-- ---- the zero tag

-- a number, and nothing else
abbrev pub alone : Option (ℕ × List ℕ) → Option ℕ
alone found = found >>= λ r. if is_end r.1 then Some r.0 else None

abbrev pub zero_by : ℕ → List ℕ → Option ZeroTag
zero_by letter bs =
    if letter == 98 then option_map (λ x. zero.Byte x) (alone (register_at bs))
    else (if letter == 112 then option_map (λ r. zero.Pair r) (alone (pair_at bs)) else None)

unfoldable pub zero_in : List ℕ → Option ZeroTag
zero_in w = if bytes_eq w (codes "-") then Some zero.None else (letter_at w >>= λ l. zero_by l.0 l.1)

-- ---- intervals

-- low and high are ordered and within the hull, but not equal to its ends
abbrev pub is_inside : Interval → ℕ → ℕ → Bool
is_inside hull low high = nat_le hull.low low && nat_le low high && nat_le high hull.high && not (are_ends hull low high)

-- the ends of an interval that is within the hull and differs from it
unfoldable pub inside_at : Interval → List ℕ → Option (Interval × List ℕ)
inside_at hull bs = do
  l ← digits_at 4 bs
  h ← digits_at 4 l.1
  if is_inside hull l.0 h.0 then Some (record { low = l.0; high = h.0 }, h.1) else None

-- the interval of pair r, by the next number: the hull if there is none or it names another pair
abbrev pub interval_by : ℕ → Interval → List ℕ → Option (ℕ × List ℕ) → Option (Interval × List ℕ)
interval_by r hull bs None = Some (hull, bs)
interval_by r hull bs (Some n) = if n.0 == r then inside_at hull n.1 else Some (hull, bs)

unfoldable pub interval_at : ℕ → Interval → List ℕ → Option (Interval × List ℕ)
interval_at r hull bs = interval_by r hull bs (digits_at 2 bs)

-- the intervals of the pairs from r on
unfoldable pub intervals_at : ℕ → List Interval → List ℕ → Option (List Interval × List ℕ)
intervals_at r [] bs = Some ([], bs)
intervals_at r (hull ∷ hulls) bs = interval_at r hull bs >>= λ i. option_map (λ is. (i.0 ∷ is.0, is.1)) (intervals_at (r + 2) hulls i.1)

-- intervals, and nothing else
abbrev pub ended : Option (List Interval × List ℕ) → Option (List Interval)
ended found = found >>= λ is. if is_end is.1 then Some is.0 else None

-- the intervals of a word: a dash stands for the hulls, and an empty word is refused
unfoldable pub intervals_in : List Interval → List ℕ → Option (List Interval)
intervals_in hulls w = if bytes_eq w (codes "-") then Some hulls else (if is_end w then None else ended (intervals_at 0 hulls w))

-- ---- all four

unfoldable pub facts_at : List Interval → List (List ℕ) → Option (PairFacts × List (List ℕ))
facts_at hulls ws = do
  s ← word_by sum_in ws
  c ← word_by compare_in s.1
  z ← word_by zero_in c.1
  i ← word_by (intervals_in hulls) z.1
  Some (record { intervals = i.0; sum = s.0; compare = c.0; zero = z.0 }, i.1)
