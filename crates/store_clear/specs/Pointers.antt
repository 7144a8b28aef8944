-- The numbers of a pointer. Definitions for the contracts of internal functions.
use Rattle.std.specs.Prelude.{ℕ, ◌+◌, ◌/◌, ◌&&◌, ◌≡◌, ◌<◌, ◌≤◌, Bool, true, false, min, max, List, length, Option, Some, None}
use Rattle.avr_model.specs.declared.instruction.Instr.{Instr}
use Rattle.avr_model.specs.Sites.{instruction_at}
use Rattle.pair_domain.specs.declared.facts.PairFacts.{PairFacts}
use Rattle.pair_domain.specs.declared.intervals.Interval.{Interval}
use Rattle.pair_rules.specs.Told.{interval_of}
use Rattle.abs_state.specs.declared.state.AbsState.{AbsState}
use Rattle.local_rules.specs.declared.local.Node.{Node}
use Rattle.local_rules.specs.Permitted.{may_be, is_between, permits_number}
use Rattle.local_rules.specs.Registers.{value}
use Rattle.local_rules.specs.Site.{Task}
use Rattle.edge_rules.specs.Families.{RankedFamily}
use Rattle.clear_laws.specs.declared.slots.Condition.{Condition}
use Rattle.clear_laws.specs.declared.slots.Condition.TheVariants.{Never}
use Rattle.clear_laws.specs.declared.stores.PointerNumbers.{PointerNumbers}
use Rattle.clear_laws.specs.declared.stores.Span.{Span}
use Rattle.clear_laws.specs.Pointers.{IsPointerAt}
use Rattle.store_clear.specs.Conditions.{condition_at}
use Rattle.store_clear.specs.Causing.{PassesBelow}

-- ---- one node

-- no number from `low` on and below `high` passes the test
abbrev pub FailsBetween : (ℕ → Bool) → ℕ → ℕ → Type 0
FailsBetween p low high = (n : ℕ) → low ≤ n → n < high → p n ≡ false

-- the least number from `low` on and below `high` that passes the test, and the greatest
pub record IsFirstOf (p : ℕ → Bool) (low high at : ℕ) : Type 0 where
  pub above : low ≤ at
  pub below : at < high
  pub passes : p at ≡ true
  pub none : FailsBetween p low at

pub record IsLastOf (p : ℕ → Bool) (low high at : ℕ) : Type 0 where
  pub above : low ≤ at
  pub below : at < high
  pub passes : p at ≡ true
  pub none : FailsBetween p (at + 1) high

abbrev pub IsFirstIn : (ℕ → Bool) → ℕ → ℕ → Option ℕ → Type 0
IsFirstIn p low high None = FailsBetween p low high
IsFirstIn p low high (Some at) = IsFirstOf p low high at

abbrev pub IsLastIn : (ℕ → Bool) → ℕ → ℕ → Option ℕ → Type 0
IsLastIn p low high None = FailsBetween p low high
IsLastIn p low high (Some at) = IsLastOf p low high at

-- the interval of registers r and r + 1, of all numbers of 16 bits if pairs aren't followed
abbrev pub ends_of : Option PairFacts → ℕ → Interval
ends_of None r = record { low = 0; high = 65535 }
ends_of (Some f) r = interval_of f r

-- the high byte is possible, by its bits and range, and some number of the interval has it
abbrev pub is_page_met : AbsState → ℕ → ℕ → Bool
is_page_met s r page = may_be (value s (r + 1)) page && is_between ((ends_of s.facts r).low / 256) ((ends_of s.facts r).high / 256) page

-- ---- spans

-- the least and the greatest number that is so
pub record AreEndsOf (P : ℕ → Type 0) (span : Span) : Type 0 where
  pub first : P span.first
  pub last : P span.last
  pub least : (n : ℕ) → P n → span.first ≤ n
  pub greatest : (n : ℕ) → P n → n ≤ span.last

abbrev pub IsSpanOf : (ℕ → Type 0) → Option Span → Type 0
IsSpanOf P None = (n : ℕ) → P n → ⊥
IsSpanOf P (Some span) = AreEndsOf P span

-- the least span around both
abbrev pub around : Option Span → Option Span → Option Span
around None new = new
around (Some old) None = Some old
around (Some old) (Some new) = Some (record { first = min old.first new.first; last = max old.last new.last })

-- registers r and r + 1 may hold this number
abbrev pub MayHold : AbsState → ℕ → ℕ → Type 0
MayHold s r n = (n < 65536) × (permits_number s r n ≡ true)

-- ---- all nodes at a word

-- a condition for each node, none of which is met
pub record AreAllNever (nodes : List Node) (conditions : List Condition) : Type 0 where
  pub count : length conditions ≡ length nodes
  pub never : (at : ℕ) → at < length conditions → condition_at conditions at ≡ Never

-- by one of the first nodes, which has a condition and is at the word, registers r and r + 1 may hold this number
abbrev pub HoldsBelow : List Node → List Condition → ℕ → ℕ → ℕ → ℕ → Type 0
HoldsBelow nodes conditions pc r count n = (n < 65536) × PassesBelow nodes conditions pc (λ (m : Node). permits_number m.state r n) count

-- the pointer at a word of these nodes, if it has this instruction
abbrev pub IsPointerOf : List Node → ℕ → Instr → Option PointerNumbers → Type 0
IsPointerOf nodes pc instr pointer =
    (task : Task) (f : RankedFamily) → instruction_at task.flash pc ≡ Some instr → f.nodes ≡ nodes → IsPointerAt task f pc pointer
