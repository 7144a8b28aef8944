-- Results of the transfer function: that they hold of registers, that they fit, and their order.
use Rattle.std.proofs.Common.{◌≡◌, refl, sym, ◌∙◌, ℕ, ◌+◌, ◌*◌, ◌/◌, ◌%◌, ◌<◌, ◌==◌, if◌then◌else◌, Bool, true, false, List, Option, Some, None, arith}
use Rattle.std.specs.Prelude.{⊤}
use Rattle.std.proofs.lemmas.Bool.{eqb-true, eq-eqb, false≢true}
use Rattle.pair_domain.specs.declared.intervals.Interval.{Interval}
use Rattle.pair_domain.specs.Intervals.{InInterval, IsIntervalWithin}
use Rattle.pair_domain.specs.Tags.{pair_number}
use Rattle.pair_domain.specs.Rows.{ToldHolds, IsToldWithin, modulo}
use Rattle.pair_rules.specs.declared.told.Told.{Told}
use Rattle.pair_rules.specs.declared.told.Told.TheVariants as told
use Rattle.pair_rules.specs.Told.{is_odd, computed, computed_high, unless_set}

-- the result holds of the registers
abbrev pub TellsTrue : Told → List ℕ → Type 0
TellsTrue told.Nothing registers = ⊤
TellsTrue (told.Kept n j) registers = InInterval j (pair_number registers (2 * n))
TellsTrue (told.Computed n j) registers = InInterval j (pair_number registers (2 * n))

-- the pair exists, and its interval has 16-bit numbers
abbrev pub ToldFits : Told → Type 0
ToldFits told.Nothing = ⊤
ToldFits (told.Kept n j) = n < 16
ToldFits (told.Computed n j) = (n < 16) × (j.high < 65536)

-- the second claims no more than the first
abbrev pub IsToldLess : Told → Told → Type 0
IsToldLess t told.Nothing = ⊤
IsToldLess (told.Kept n i) (told.Kept k j) = (n ≡ k) × IsIntervalWithin i j
IsToldLess (told.Computed n i) (told.Computed k j) = (n ≡ k) × IsIntervalWithin i j
IsToldLess t u = ⊥

abbrev pub IsIntervalSmall : Option Interval → Type 0
IsIntervalSmall None = ⊤
IsIntervalSmall (Some j) = j.high < 65536

pub modulo_small : (a b : ℕ) → IsIntervalSmall (modulo a b)
modulo_small a b = by (a / 65536 == b / 65536)
  where
    by : (same : Bool) → IsIntervalSmall (if same then Some (record { low = a % 65536; high = b % 65536 }) else None)
    by true = omega arith
    by false = tt

-- ---- what is computed

pub computed_true : (n : ℕ) (o : Option Interval) (registers : List ℕ) → ToldHolds o (pair_number registers (2 * n)) → TellsTrue (computed n o) registers
computed_true n None registers h = tt
computed_true n (Some j) registers h = h

pub computed_fits : (n : ℕ) (o : Option Interval) → n < 16 → IsIntervalSmall o → ToldFits (computed n o)
computed_fits n None lt small = tt
computed_fits n (Some j) lt small = (lt, small)

pub computed_less : (n : ℕ) (o p : Option Interval) → IsToldWithin o p → IsToldLess (computed n o) (computed n p)
computed_less n o None le = tt
computed_less n None (Some j) le = absurd le
computed_less n (Some i) (Some j) le = (refl, le)

-- ---- of a high byte

odd_is : (d : ℕ) → is_odd d ≡ true → 2 * (d / 2) + 1 ≡ d
odd_is d e = let odd : d % 2 ≡ 1 = eqb-true (d % 2) 1 e in omega arith

pub high_true : (d : ℕ) (o : Option Interval) (registers : List ℕ) → (2 * (d / 2) + 1 ≡ d → ToldHolds o (pair_number registers (2 * (d / 2)))) → TellsTrue (computed_high d o) registers
high_true d o registers h = by (is_odd d) refl
  where
    by : (odd : Bool) → is_odd d ≡ odd → TellsTrue (if odd then computed (d / 2) o else told.Nothing) registers
    by true e = computed_true (d / 2) o registers (h (odd_is d e))
    by false e = tt

pub high_fits : (d : ℕ) (o : Option Interval) → d < 32 → IsIntervalSmall o → ToldFits (computed_high d o)
high_fits d o lt small = by (is_odd d)
  where
    by : (odd : Bool) → ToldFits (if odd then computed (d / 2) o else told.Nothing)
    by true = computed_fits (d / 2) o (omega (arith, lt)) small
    by false = tt

pub high_less : (d : ℕ) (o p : Option Interval) → IsToldWithin o p → IsToldLess (computed_high d o) (computed_high d p)
high_less d o p le = by (is_odd d)
  where
    by : (odd : Bool) → IsToldLess (if odd then computed (d / 2) o else told.Nothing) (if odd then computed (d / 2) p else told.Nothing)
    by true = computed_less (d / 2) o p le
    by false = tt

-- ---- of a pointer

pub unless_true : (d n : ℕ) (o : Option Interval) (registers : List ℕ) → ((d / 2 ≡ n → ⊥) → ToldHolds o (pair_number registers (2 * n))) → TellsTrue (unless_set d n o) registers
unless_true d n o registers h = by (d / 2 == n) refl
  where
    by : (set : Bool) → (d / 2 == n) ≡ set → TellsTrue (if set then told.Nothing else computed n o) registers
    by true e = tt
    by false e = computed_true n o registers (h (λ same. false≢true (sym e ∙ eq-eqb (d / 2) n same)))

pub unless_fits : (d n : ℕ) (o : Option Interval) → n < 16 → IsIntervalSmall o → ToldFits (unless_set d n o)
unless_fits d n o lt small = by (d / 2 == n)
  where
    by : (set : Bool) → ToldFits (if set then told.Nothing else computed n o)
    by true = tt
    by false = computed_fits n o lt small

pub unless_less : (d n : ℕ) (o p : Option Interval) → IsToldWithin o p → IsToldLess (unless_set d n o) (unless_set d n p)
unless_less d n o p le = by (d / 2 == n)
  where
    by : (set : Bool) → IsToldLess (if set then told.Nothing else computed n o) (if set then told.Nothing else computed n p)
    by true = tt
    by false = computed_less n o p le
