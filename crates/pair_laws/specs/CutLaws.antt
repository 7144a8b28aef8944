-- Laws of cuts: a cut keeps each machine whose test has the outcome, is within its argument, is formed, and is monotone.
use Rattle.std.specs.Prelude.{ℕ, ◌≡◌, ◌<◌, ◌≤◌, ◌==◌, Bool, true, false, Option, Some}
use Rattle.std.specs.Int.{bit_at, from_bool}
use Rattle.avr_model.specs.declared.device.Device.{Device}
use Rattle.avr_model.specs.Sreg.{flag}
use Rattle.avr_model.specs.State.{State, register}
use Rattle.bit_domain.specs.Tri.{Permits}
use Rattle.bit_domain.specs.TriByte.{tri_at}
use Rattle.bit_domain.specs.Logic.{byte_equal}
use Rattle.sp_domain.specs.declared.tags.CarryTag.TheVariants as carry
use Rattle.sp_domain.specs.declared.tags.Tag.{Tag}
use Rattle.sp_domain.specs.Tags.{Origin}
use Rattle.pair_domain.specs.declared.facts.PairFacts.{PairFacts}
use Rattle.abs_state.specs.declared.state.AbsState.{AbsState}
use Rattle.abs_state.specs.Values.{value_at}
use Rattle.abs_state.specs.Stands.{Stands}
use Rattle.abs_state.specs.Order.{IsStateWithin}
use Rattle.abs_state.specs.Formed.{IsFormed, IsUntagged, TagsFit}
use Rattle.abs_state.specs.Hulls.{IsInHulls}
use Rattle.abs_state.specs.Banks.{IsStateWith}
use Rattle.abs_state.specs.Laws.{HoldsAt}
use Rattle.pair_cuts.specs.Cuts.{flag_cut, bit_cut, equal_cut, with_index, pick_cut}

-- the state and its facts on pairs hold of the machine
pub record StandsFor (o : Origin) (s : AbsState) (m : State) : Type 0 where
  pub stands : Stands o s m
  pub facts : HoldsAt s.facts m.registers m.sreg

-- t is within s, has its tags and slots, is formed if s is, and is the device's if s is
pub record IsLeftOf (s t : AbsState) (offset : ℕ) : Type 0 where
  pub within : IsStateWithin t s
  pub formed : IsFormed t offset
  pub tags : (r : ℕ) → (value_at t.registers r).tag ≡ (value_at s.registers r).tag
  pub entry : t.flags.entry ≡ s.flags.entry
  pub carry : t.flags.carry ≡ s.flags.carry
  pub slots : t.slots ≡ s.slots
  pub fit : TagsFit s → TagsFit t
  pub untagged : IsUntagged s → IsUntagged t
  pub of : (good : Tag → Bool) (device : Device) (is_root : Bool) → IsStateWith good device is_root s → IsStateWith good device is_root t
  pub hulls : IsInHulls s → IsInHulls t

-- ---- what is said of a cut

-- the cut keeps each state that holds of the machine
abbrev pub KeepsMachine : State → (AbsState → Option AbsState) → Type 0
KeepsMachine m cut =
    (o : Origin) (s : AbsState) (offset : ℕ) → IsFormed s offset → StandsFor o s m → (t : AbsState) × ((cut s ≡ Some t) × StandsFor o t m)

abbrev pub LeavesLess : (AbsState → Option AbsState) → Type 0
LeavesLess cut = (s t : AbsState) (offset : ℕ) → IsFormed s offset → cut s ≡ Some t → IsLeftOf s t offset

-- the cut is monotone, also if the greater state doesn't follow pairs
abbrev pub LeavesMoreOfMore : (AbsState → Option AbsState) → Type 0
LeavesMoreOfMore cut =
    (s s' t : AbsState) (offset : ℕ) → IsFormed s offset → IsFormed s' offset → IsStateWithin s s' → cut s ≡ Some t
    → (t' : AbsState) × ((cut s' ≡ Some t') × IsStateWithin t t')

-- ---- the cuts

-- Cuts by a flag keep each machine with this flag; a cut by C bounds the register of the carry tag.
pub record FlagsAreCut : Type 0 where
  pub keeps : (n : ℕ) (b : Bool) (m : State) → n < 7 → flag m.sreg n ≡ b → KeepsMachine m (flag_cut n b)
  pub leaves : (n : ℕ) (b : Bool) → n < 7 → LeavesLess (flag_cut n b)
  pub more : (n : ℕ) (b : Bool) → n < 7 → LeavesMoreOfMore (flag_cut n b)
  pub may : (n : ℕ) (b : Bool) (s t : AbsState) → flag_cut n b s ≡ Some t → Permits (tri_at s.flags.bits n) (from_bool b)
  pub below : (s t : AbsState) (offset r k : ℕ) (f : PairFacts) → IsFormed s offset → s.facts ≡ Some f → s.flags.carry ≡ carry.Less r k → flag_cut 0 true s ≡ Some t
      → (value_at t.registers r).high < k
  pub from : (s t : AbsState) (offset r k : ℕ) (f : PairFacts) → IsFormed s offset → s.facts ≡ Some f → s.flags.carry ≡ carry.Less r k → flag_cut 0 false s ≡ Some t
      → k ≤ (value_at t.registers r).low

-- Cuts by one bit of a register.
pub record BitsAreCut : Type 0 where
  pub keeps : (r bit : ℕ) (on : Bool) (m : State) → r < 32 → bit < 8 → bit_at (register m r) bit ≡ from_bool on → KeepsMachine m (bit_cut r bit on)
  pub leaves : (r bit : ℕ) (on : Bool) → r < 32 → bit < 8 → LeavesLess (bit_cut r bit on)
  pub more : (r bit : ℕ) (on : Bool) → r < 32 → bit < 8 → LeavesMoreOfMore (bit_cut r bit on)
  pub may : (r bit : ℕ) (on : Bool) (s t : AbsState) (f : PairFacts) → s.facts ≡ Some f → bit_cut r bit on s ≡ Some t
      → Permits (tri_at (value_at s.registers r).bits bit) (from_bool on)

-- Cuts by two equal or different registers. Which one is cut depends on what is known, so the cut is monotone if the intervals of the
-- lesser state lie in their hulls. If the greater state doesn't follow pairs, the lesser cut is within it.
pub record EqualsAreCut : Type 0 where
  pub keeps : (d r : ℕ) (b : Bool) (m : State) → d < 32 → r < 32 → (register m d == register m r) ≡ b → KeepsMachine m (equal_cut d r b)
  pub leaves : (d r : ℕ) (b : Bool) → d < 32 → r < 32 → LeavesLess (equal_cut d r b)
  pub more : (d r : ℕ) (b : Bool) (s s' t : AbsState) (offset : ℕ) (f : PairFacts) → d < 32 → r < 32 → IsFormed s offset → IsFormed s' offset → s'.facts ≡ Some f
      → IsInHulls s → IsStateWithin s s' → equal_cut d r b s ≡ Some t → (t' : AbsState) × ((equal_cut d r b s' ≡ Some t') × IsStateWithin t t')
  pub may : (d r : ℕ) (b : Bool) (s t : AbsState) → equal_cut d r b s ≡ Some t
      → Permits (byte_equal (value_at s.registers d).bits (value_at s.registers r).bits) (from_bool b)

-- Cuts by a picked byte: each lies within the state with this byte.
pub record PicksAreCut : Type 0 where
  pub keeps : (byte : ℕ) (m : State) → byte < 256 → register m 30 ≡ byte → KeepsMachine m (pick_cut byte)
  pub leaves : (byte : ℕ) (s t : AbsState) (offset : ℕ) → IsFormed s offset → pick_cut byte s ≡ Some t → IsLeftOf (with_index byte s) t offset
  pub more : (byte : ℕ) → LeavesMoreOfMore (pick_cut byte)
  pub hulls : (byte : ℕ) (s t : AbsState) (offset : ℕ) → IsFormed s offset → IsInHulls s → pick_cut byte s ≡ Some t → IsInHulls t
