-- The state after a byte of register 30 is picked.
use Rattle.std.proofs.Common.{◌≡◌, sym, ◌∙◌, subst, subst₂, ℕ, ◌+◌, ◌*◌, ◌<◌, ◌⊎◌, inl, inr, List, length, Option, Some, None, slice_index, slice_set, length-set, arith}
use Rattle.std.proofs.lemmas.Bool.{cases_eq}
use Rattle.avr_model.specs.State.{State, register}
use Rattle.bit_domain.specs.TriByte.{byte_known}
use Rattle.bit_domain.proofs.AllLaws.{bytes_are_sets}
use Rattle.sp_domain.specs.Tags.{Origin}
use Rattle.pair_domain.specs.declared.facts.PairFacts.{PairFacts}
use Rattle.pair_domain.specs.Intervals.{IsIntervalWithin, hull}
use Rattle.pair_domain.specs.Facts.{interval_at}
use Rattle.pair_domain.specs.PairSets.{cut_pair}
use Rattle.pair_domain.proofs.AllLaws.{pairs_are_cut}
use Rattle.abs_state.specs.declared.values.AbsByte.{AbsByte}
use Rattle.abs_state.specs.declared.state.AbsState.{AbsState}
use Rattle.abs_state.specs.Values.{value_at, set_of, with_bits}
use Rattle.abs_state.specs.Stands.{ByteStands}
use Rattle.abs_state.specs.Order.{IsByteWithin, IsStateWithin}
use Rattle.abs_state.specs.Formed.{NamesRegister, ByteFits, IsFormed}
use Rattle.abs_state.proofs.AllLaws.{bits_make_values}
use Rattle.abs_state.specs.Hulls.{AreInHulls, IsInHulls}
use Rattle.pair_cuts.specs.Cuts.{with_index, pick_cut}
use Rattle.pair_laws.specs.CutLaws.{StandsFor, KeepsMachine, IsLeftOf, LeavesMoreOfMore, PicksAreCut}
use Rattle.pair_laws.proofs.Steps.{value_there, value_other, OthersInHulls, state_keeps, state_leaves, state_more, state_hulls}
use Rattle.pair_laws.proofs.Bytes.{hull_ends}

-- a property of the register that is set and of each other register holds of all
each_register : (Q : ℕ → AbsByte → Type 0) (vs : List AbsByte) (d : ℕ) (v : AbsByte) → d < length vs → Q d v → ((r : ℕ) → r < 34 → Q r (value_at vs r))
    → (r : ℕ) → r < 34 → Q r (value_at (slice_set vs d v) r)
each_register Q vs d v lt here rest r small = by (cases_eq r d)
  where
    by : (r ≡ d) ⊎ (r ≡ d → ⊥) → Q r (value_at (slice_set vs d v) r)
    by (inl e) =
        let P : ℕ → Type 0 = λ k. Q k (value_at (slice_set vs d v) k) in
        subst P (sym e) (subst (Q d) (sym (value_there vs d v lt)) here)
    by (inr ne) = subst (Q r) (sym (value_other vs d r v ne)) (rest r small)

abbrev index_of : ℕ → AbsState → AbsByte
index_of byte s = with_bits (value_at s.registers 30).tag (byte_known byte)

index_formed : (byte : ℕ) (s : AbsState) (offset : ℕ) → IsFormed s offset → IsFormed (with_index byte s) offset
index_formed byte s offset a = record {
  count_registers = length-set s.registers 30 (index_of byte s) ∙ a.count_registers;
  registers = each_register (λ (r : ℕ) (v : AbsByte). NamesRegister v.tag) s.registers 30 (index_of byte s) (omega (arith, a.count_registers)) (a.registers 30 (omega arith)) a.registers;
  bit_7 = a.bit_7;
  count_slots = a.count_slots;
  slots = a.slots;
  carry = a.carry;
  ranges = each_register (λ (r : ℕ) (v : AbsByte). ByteFits v) s.registers 30 (index_of byte s) (omega (arith, a.count_registers))
      (bits_make_values.fits (value_at s.registers 30).tag (byte_known byte)) a.ranges;
  slot_ranges = a.slot_ranges;
  facts = a.facts;
}

index_stands : (byte : ℕ) (m : State) (o : Origin) (s : AbsState) (offset : ℕ) → byte < 256 → register m 30 ≡ byte → IsFormed s offset → StandsFor o s m → StandsFor o (with_index byte s) m
index_stands byte m o s offset small is a h =
    let at = h.stands.registers 30 (omega arith) in
    let here : ByteStands o (index_of byte s) (register m 30) =
    bits_make_values.stands o (value_at s.registers 30).tag (byte_known byte) (register m 30) at.small at.tag ((bytes_are_sets.known byte (register m 30) small at.small).1 is) in
    record {
      stands = record {
        registers = each_register (λ (r : ℕ) (v : AbsByte). ByteStands o v (slice_index m.registers r)) s.registers 30 (index_of byte s) (omega (arith, a.count_registers)) here h.stands.registers;
        flags = h.stands.flags;
        less = h.stands.less;
        slots = h.stands.slots;
      };
      facts = h.facts;
    }

index_within : (byte : ℕ) (s s' : AbsState) (offset : ℕ) → IsFormed s offset → IsFormed s' offset → IsStateWithin s s' → IsStateWithin (with_index byte s) (with_index byte s')
index_within byte s s' offset a b le =
    let at = le.registers 30 (omega arith) in
    let here : IsByteWithin (index_of byte s) (index_of byte s') =
    bits_make_values.within (value_at s.registers 30).tag (value_at s'.registers 30).tag (byte_known byte) (byte_known byte) at.tag (λ x lt has. has) in
    record {
      registers = λ r small. by here r small (cases_eq r 30);
      flags = le.flags;
      count = le.count;
      slots = le.slots;
      facts = le.facts;
    }
  where
    by : IsByteWithin (index_of byte s) (index_of byte s') → (r : ℕ) → r < 34 → (r ≡ 30) ⊎ (r ≡ 30 → ⊥)
        → IsByteWithin (value_at (slice_set s.registers 30 (index_of byte s)) r) (value_at (slice_set s'.registers 30 (index_of byte s')) r)
    by here r small (inl e) =
        let P : ℕ → Type 0 = λ k. IsByteWithin (value_at (slice_set s.registers 30 (index_of byte s)) k) (value_at (slice_set s'.registers 30 (index_of byte s')) k) in
        subst P (sym e)
        (subst₂ IsByteWithin (sym (value_there s.registers 30 (index_of byte s) (omega (arith, a.count_registers)))) (sym (value_there s'.registers 30 (index_of byte s') (omega (arith, b.count_registers)))) here)
    by here r small (inr ne) =
        subst₂ IsByteWithin (sym (value_other s.registers 30 r (index_of byte s) ne)) (sym (value_other s'.registers 30 r (index_of byte s') ne)) (le.registers r small)

-- the other pairs stay
index_others : (byte : ℕ) (s : AbsState) (x : Option PairFacts) → AreInHulls s.registers x → OthersInHulls 15 (with_index byte s).registers x
index_others byte s None h = tt
index_others byte s (Some f) h = λ k small ne.
    subst₂ (λ (v w : AbsByte). IsIntervalWithin (interval_at f.intervals k) (hull (set_of v) (set_of w))) (sym (value_other s.registers 30 (2 * k) (index_of byte s) (omega (arith, ne))))
    (sym (value_other s.registers 30 (2 * k + 1) (index_of byte s) (omega arith))) (h k small)

pick_keeps : (byte : ℕ) (m : State) → byte < 256 → register m 30 ≡ byte → KeepsMachine m (pick_cut byte)
pick_keeps byte m small is o s offset a h =
    state_keeps 15 (omega arith) cut_pair (λ x y. Unit {0}) pairs_are_cut.hull m tt o (with_index byte s) offset (index_formed byte s offset a) (index_stands byte m o s offset small is a h)

pick_leaves : (byte : ℕ) (s t : AbsState) (offset : ℕ) → IsFormed s offset → pick_cut byte s ≡ Some t → IsLeftOf (with_index byte s) t offset
pick_leaves byte s t offset a e = state_leaves 15 (omega arith) cut_pair (λ x y. Unit {0}) pairs_are_cut.hull hull_ends (with_index byte s) t offset (index_formed byte s offset a) e

pick_more : (byte : ℕ) → LeavesMoreOfMore (pick_cut byte)
pick_more byte s s' t offset a b le e =
    state_more 15 (omega arith) cut_pair cut_pair (λ x y. Unit {0}) pairs_are_cut.hull pairs_are_cut.hull_more (with_index byte s) (with_index byte s') t offset (index_formed byte s offset a)
    (index_formed byte s' offset b) (index_within byte s s' offset a b le) e

pick_hulls : (byte : ℕ) (s t : AbsState) (offset : ℕ) → IsFormed s offset → IsInHulls s → pick_cut byte s ≡ Some t → IsInHulls t
pick_hulls byte s t offset a h e =
    state_hulls 15 (omega arith) cut_pair hull_ends (with_index byte s) t offset (index_formed byte s offset a) (index_others byte s s.facts h) e

pub picks_are_cut : PicksAreCut
picks_are_cut = record { keeps = pick_keeps; leaves = pick_leaves; more = pick_more; hulls = pick_hulls }
