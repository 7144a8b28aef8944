-- Tags that tie flags to registers and pairs. Source: own.
use Rattle.std.specs.Prelude.{ℕ, ◌+◌, ◌-◌, ◌*◌, ◌≡◌, ◌≤◌, ◌<◌, ◌==◌, ◌&&◌, ⊤, max, min, Bool, true, false, nat_lt, if◌then◌else◌, List, slice_index}
use Rattle.std.specs.Int.{from_bool}
use Rattle.pair_domain.specs.declared.tags.SumTag.{SumTag}
use Rattle.pair_domain.specs.declared.tags.SumTag.TheVariants as sum
use Rattle.pair_domain.specs.declared.tags.Side.{Side}
use Rattle.pair_domain.specs.declared.tags.Side.TheVariants as side
use Rattle.pair_domain.specs.declared.tags.CompareTag.{CompareTag}
use Rattle.pair_domain.specs.declared.tags.CompareTag.TheVariants as compare
use Rattle.pair_domain.specs.declared.tags.ZeroTag.{ZeroTag}
use Rattle.pair_domain.specs.declared.tags.ZeroTag.TheVariants as zero

-- the number of pair r
abbrev pub pair_number : List ℕ → ℕ → ℕ
pair_number registers r = slice_index registers r + 256 * slice_index registers (r + 1)

-- the byte that a side of a comparison stands for
abbrev pub side_byte : List ℕ → Side → ℕ
side_byte registers (side.Byte k) = k
side_byte registers (side.Register q) = slice_index registers q

-- the place of x among 2 * `half` signed numbers: those from `half` on are negative and come first
abbrev pub signed_place : ℕ → ℕ → ℕ
signed_place half x = if nat_lt x half then x + half else x - half

abbrev pub signed_below : ℕ → ℕ → ℕ → Bool
signed_below half x y = nat_lt (signed_place half x) (signed_place half y)

-- ---- what they say

-- w + 256 + 256 C lies from a to b
pub record LiesUp (a b w c : ℕ) : Type 0 where
  pub low : a ≤ w + 256 + 256 * c
  pub high : w + 256 + 256 * c ≤ b

-- w + 256 - 256 C lies from a to b
pub record LiesDown (a b w c : ℕ) : Type 0 where
  pub low : a + 256 * c ≤ w + 256
  pub high : w + 256 ≤ b + 256 * c

-- a tag is kept only if its ends are less than 65,535 apart
abbrev pub AreNear : ℕ → ℕ → Type 0
AreNear a b = b < a + 65535

-- a tag with ends further apart claims nothing
abbrev pub SumHolds : List ℕ → SumTag → Bool → Type 0
SumHolds registers sum.None c = ⊤
SumHolds registers (sum.Up r a b) c = AreNear a b → LiesUp a b (pair_number registers r) (from_bool c)
SumHolds registers (sum.Down r a b) c = AreNear a b → LiesDown a b (pair_number registers r) (from_bool c)

-- C, Z and S are those of a comparison of x with y
pub record IsCompared (half x y : ℕ) (c z s : Bool) : Type 0 where
  pub below : c ≡ nat_lt x y
  pub equal : z ≡ (x == y)
  pub less : s ≡ signed_below half x y

abbrev pub CompareHolds : List ℕ → CompareTag → Bool → Bool → Bool → Type 0
CompareHolds registers compare.None c z s = ⊤
CompareHolds registers (compare.Byte x y) c z s = IsCompared 128 (slice_index registers x) (side_byte registers y) c z s
CompareHolds registers (compare.Pair r y p) c z s =
    IsCompared 32768 (pair_number registers r) (side_byte registers y + 256 * slice_index registers p) c z s

abbrev pub ZeroHolds : List ℕ → ZeroTag → Bool → Type 0
ZeroHolds registers zero.None z = ⊤
ZeroHolds registers (zero.Byte x) z = z ≡ (slice_index registers x == 0)
ZeroHolds registers (zero.Pair r) z = z ≡ (pair_number registers r == 0)

-- ---- order and join

-- the numbers from a to b are among those from c to d, for the same pair
pub record AreEndsWithin (r a b s c d : ℕ) : Type 0 where
  pub pair : r ≡ s
  pub low : c ≤ a
  pub high : b ≤ d

-- the second tag claims no more than the first
abbrev pub IsSumTagWithin : SumTag → SumTag → Type 0
IsSumTagWithin t sum.None = ⊤
IsSumTagWithin (sum.Up r a b) (sum.Up s c d) = AreNear c d → AreEndsWithin r a b s c d
IsSumTagWithin (sum.Down r a b) (sum.Down s c d) = AreNear c d → AreEndsWithin r a b s c d
IsSumTagWithin t (sum.Up s c d) = AreNear c d → ⊥
IsSumTagWithin t (sum.Down s c d) = AreNear c d → ⊥

abbrev pub IsCompareWithin : CompareTag → CompareTag → Type 0
IsCompareWithin t compare.None = ⊤
IsCompareWithin t (compare.Byte x y) = t ≡ compare.Byte x y
IsCompareWithin t (compare.Pair r y p) = t ≡ compare.Pair r y p

abbrev pub IsZeroWithin : ZeroTag → ZeroTag → Type 0
IsZeroWithin t zero.None = ⊤
IsZeroWithin t (zero.Byte x) = t ≡ zero.Byte x
IsZeroWithin t (zero.Pair r) = t ≡ zero.Pair r

-- the tag is kept: its ends are near
abbrev pub IsNear : SumTag → Type 0
IsNear sum.None = ⊤
IsNear (sum.Up r a b) = AreNear a b
IsNear (sum.Down r a b) = AreNear a b

abbrev pub up_if : Bool → ℕ → ℕ → ℕ → SumTag
up_if true r a b = sum.Up r a b
up_if false r a b = sum.None

abbrev pub up_from : ℕ → ℕ → ℕ → SumTag
up_from r a b = up_if (nat_lt b (a + 65535)) r a b

abbrev pub down_if : Bool → ℕ → ℕ → ℕ → SumTag
down_if true r a b = sum.Down r a b
down_if false r a b = sum.None

abbrev pub down_from : ℕ → ℕ → ℕ → SumTag
down_from r a b = down_if (nat_lt b (a + 65535)) r a b

-- the least ends with both, if kind and pair agree and these ends are kept
abbrev pub sum_join : SumTag → SumTag → SumTag
sum_join (sum.Up r a b) (sum.Up s c d) = if r == s then up_from r (min a c) (max b d) else sum.None
sum_join (sum.Down r a b) (sum.Down s c d) = if r == s then down_from r (min a c) (max b d) else sum.None
sum_join t u = sum.None

-- the tags are equal
abbrev pub is_same_side : Side → Side → Bool
is_same_side (side.Byte k) (side.Byte l) = k == l
is_same_side (side.Register q) (side.Register r) = q == r
is_same_side y z = false

abbrev pub is_same_compare : CompareTag → CompareTag → Bool
is_same_compare compare.None compare.None = true
is_same_compare (compare.Byte x y) (compare.Byte w z) = (x == w) && is_same_side y z
is_same_compare (compare.Pair r y p) (compare.Pair s z q) = (r == s) && is_same_side y z && (p == q)
is_same_compare t u = false

abbrev pub is_same_zero : ZeroTag → ZeroTag → Bool
is_same_zero zero.None zero.None = true
is_same_zero (zero.Byte x) (zero.Byte y) = x == y
is_same_zero (zero.Pair r) (zero.Pair s) = r == s
is_same_zero t u = false

-- the tag if both are equal, else none
abbrev pub compare_join : CompareTag → CompareTag → CompareTag
compare_join t u = if is_same_compare t u then t else compare.None

abbrev pub zero_join : ZeroTag → ZeroTag → ZeroTag
zero_join t u = if is_same_zero t u then t else zero.None
