-- A state that holds permits the number in a register pair.
use Rattle.std.proofs.Common.{◌≡◌, refl, sym, ◌∙◌, ap, subst, ℕ, ◌+◌, ◌*◌, ◌/◌, ◌<◌, Bool, true, nat_le, List, slice_index, Option, Some, None, arith}
use Rattle.std.proofs.lemmas.Bool.{and_from}
use Rattle.std.proofs.lemmas.Bool.Decides.{nat_tests}
use Rattle.basics.specs.Booleans.{all_three, left_of_and}
use Rattle.basics.specs.Numbers.{test_from_at_most}
use Rattle.avr_model.specs.declared.instruction.Base.{Base}
use Rattle.avr_model.specs.declared.instruction.Base.TheVariants as base_of
use Rattle.avr_model.specs.declared.instruction.Pointer.{Pointer}
use Rattle.avr_model.specs.declared.instruction.Pointer.TheVariants as pointer
use Rattle.avr_model.specs.Sites.{base_register, pointer_register}
use Rattle.avr_model.specs.State.{State, register, pair, plus16, minus16}
use Rattle.bit_domain.specs.TriByte.{has}
use Rattle.bit_domain.proofs.AllLaws.{tests_tell_members}
use Rattle.sp_domain.specs.Tags.{Origin}
use Rattle.pair_domain.specs.declared.facts.PairFacts.{PairFacts}
use Rattle.pair_domain.specs.Facts.{interval_at}
use Rattle.pair_domain.specs.Intervals.{InInterval}
use Rattle.pair_domain.specs.Tags.{pair_number}
use Rattle.abs_state.specs.declared.values.AbsByte.{AbsByte}
use Rattle.abs_state.specs.declared.state.AbsState.{AbsState}
use Rattle.abs_state.specs.Laws.{HoldsAt}
use Rattle.abs_state.specs.Stands.{ByteStands}
use Rattle.node_keys.specs.declared.keys.NodeKey.{NodeKey}
use Rattle.local_rules.specs.Registers.{value}
use Rattle.local_rules.specs.Permitted.{may_be, is_in_interval, permits_bytes, permits_number}
use Rattle.local_laws.proofs.Bare.{InBareFrame}
use Rattle.local_laws.proofs.Frame.{register_stands}
use Rattle.local_laws.proofs.PointerReads.{pair_small, low_is, high_is}

pub may_stand : (o : Origin) (v : AbsByte) (x : ℕ) → ByteStands o v x → may_be v x ≡ true
may_stand o v x stands =
    let low : nat_le v.low x ≡ true = grind (arith, nat_tests, stands.low) in
    let high : nat_le x v.high ≡ true = grind (arith, nat_tests, stands.high) in
    all_three _ _ _ ((tests_tell_members.bytes v.bits x).1 stands.bits) low high

-- the bits permit each possible byte
pub has_where_may : (v : AbsByte) (x : ℕ) → may_be v x ≡ true → has v.bits x ≡ true
has_where_may v x h = left_of_and _ _ (left_of_and _ _ h)

-- ---- the registers of pointers

-- the register of a low byte
abbrev pub IsEven : ℕ → Type 0
IsEven r = 2 * (r / 2) ≡ r

abbrev pub IsPairAt : ℕ → Type 0
IsPairAt r = (r + 1 < 32) × IsEven r

pub base_pair : (b : Base) → IsPairAt (base_register b)
base_pair base_of.Y = (omega arith, refl)
base_pair base_of.Z = (omega arith, refl)

pub pointer_pair : (p : Pointer) → IsPairAt (pointer_register p)
pointer_pair pointer.ZPlus = (omega arith, refl)
pointer_pair pointer.MinusZ = (omega arith, refl)
pointer_pair pointer.YPlus = (omega arith, refl)
pointer_pair pointer.MinusY = (omega arith, refl)
pointer_pair pointer.X = (omega arith, refl)
pointer_pair pointer.XPlus = (omega arith, refl)
pointer_pair pointer.MinusX = (omega arith, refl)

-- ---- what they hold

back_to : (w up : ℕ) → w < 65536 → w ≡ minus16 (plus16 w up) up
back_to w up lt = omega arith

-- the facts on pairs hold of their numbers
in_interval : (facts : Option PairFacts) (registers : List ℕ) (sreg r : ℕ) → IsPairAt r → HoldsAt facts registers sreg
    → is_in_interval facts r (slice_index registers r + 256 * slice_index registers (r + 1)) ≡ true
in_interval None registers sreg r is holds = refl
in_interval (Some f) registers sreg r is holds =
    let within : InInterval (interval_at f.intervals (r / 2)) (pair_number registers r) =
    subst (λ x. InInterval (interval_at f.intervals (r / 2)) (pair_number registers x)) is.1 (holds.intervals (r / 2) (omega (arith, is.0))) in
    and_from _ _ (test_from_at_most _ _ within.low) (test_from_at_most _ _ within.high)

module _ {may : Bool} (m : State) (o : Origin) (k : NodeKey) (s : AbsState) (at : InBareFrame may m o k s) where
  byte_permitted : (r : ℕ) → may_be (value s r) (register m r) ≡ true
  byte_permitted r = may_stand o (value s r) (register m r) (register_stands m o k s at r)

  pub bytes_permitted : (r : ℕ) → permits_bytes s r (pair m r) ≡ true
  bytes_permitted r =
      and_from _ _ (ap (may_be (value s r)) (sym (low_is m o k s at r)) ∙ byte_permitted r)
      (ap (may_be (value s (r + 1))) (sym (high_is m o k s at r)) ∙ byte_permitted (r + 1))

  -- the number of a pair
  pub pair_permitted : (r : ℕ) → IsPairAt r → permits_number s r (pair m r) ≡ true
  pair_permitted r is = and_from _ _ (bytes_permitted r) (in_interval s.facts m.registers m.sreg r is at.facts)

  -- the number, computed back from the address
  pub number_permitted : (r up : ℕ) → IsPairAt r → permits_number s r (minus16 (plus16 (pair m r) up) up) ≡ true
  number_permitted r up is = ap (permits_number s r) (sym (back_to (pair m r) up (pair_small m o k s at r))) ∙ pair_permitted r is
