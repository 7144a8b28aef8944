-- Bits that become known, and the state if a flag has a value.
use Rattle.std.proofs.Common.{◌≡◌, ◌≢◌, refl, sym, ◌∙◌, ap, subst, ℕ, ◌-◌, ◌<◌, ◌≤◌, Bool, true, false, Option, Some, None, arith}
use Rattle.std.specs.Prelude.{◌==◌, if◌then◌else◌}
use Rattle.std.specs.Int.{bit_at, from_bool}
use Rattle.std.proofs.lemmas.Bool.{eqb-true, eqb-false, ne_eqb}
use Rattle.std.proofs.lemmas.Nat.Bits.{bit_at-lt}
use Rattle.avr_model.specs.Sreg.{flag}
use Rattle.avr_model.specs.State.{State}
use Rattle.bit_domain.specs.declared.bits.Tri.{Tri}
use Rattle.bit_domain.specs.declared.bits.Tri.TheVariants.{Any}
use Rattle.bit_domain.specs.declared.bytes.TriByte.{TriByte}
use Rattle.bit_domain.specs.Tri.{Permits, permits, IsTriWithin, tri_bit}
use Rattle.bit_domain.specs.TriByte.{Has, IsWithin, tri_at, byte_with}
use Rattle.bit_domain.proofs.AllLaws.{bytes_are_their_bits, bytes_are_sets, tests_tell_members, writes_cover, permits-tri_bit}
use Rattle.sp_domain.specs.declared.tags.CarryTag.{CarryTag}
use Rattle.sp_domain.specs.declared.tags.CarryTag.TheVariants as carry
use Rattle.pair_domain.specs.declared.facts.PairFacts.{PairFacts}
use Rattle.abs_state.specs.declared.state.AbsState.{AbsState}
use Rattle.abs_state.specs.Values.{value_at}
use Rattle.abs_state.specs.Order.{IsStateWithin}
use Rattle.abs_state.specs.Formed.{CarryNamesRegister, IsFormed}
use Rattle.pair_cuts.specs.declared.places.CutPlace.TheVariants as place
use Rattle.pair_cuts.specs.Places.{after, narrow_to}
use Rattle.pair_cuts.specs.Cuts.{less_by, less_cut, zero_cut, compare_cut, bit_known, flags_known, flag_by, flag_cut}
use Rattle.pair_laws.specs.CutLaws.{KeepsMachine, LeavesLess, IsLeftOf, LeavesMoreOfMore, FlagsAreCut}
use Rattle.pair_laws.proofs.Steps.{LeavesMoreBy, after_was, after_some, after_keeps, after_leaves, after_more, left_through}
use Rattle.pair_laws.proofs.Places.{narrow_bounds}
use Rattle.pair_laws.proofs.Compared.{less_keeps, less_leaves, less_more, zero_keeps, zero_leaves, zero_more, compare_keeps, compare_leaves, compare_more}

-- ---- one bit

abbrev pub with_on : TriByte → ℕ → Bool → TriByte
with_on bits n on = byte_with bits n (tri_bit (from_bool on))

on_small : (on : Bool) → from_bool on < 2
on_small true = omega arith
on_small false = omega arith

on_permits : (on : Bool) → Permits (tri_bit (from_bool on)) (from_bool on)
on_permits on = permits-tri_bit (from_bool on) (on_small on)

on_is : (on : Bool) (k : ℕ) → Permits (tri_bit (from_bool on)) k → k ≡ from_bool on
on_is true k may = may
on_is false k may = may

pub known_was : (bits m : TriByte) (n : ℕ) (on : Bool) → bit_known bits n on ≡ Some m → Permits (tri_at bits n) (from_bool on) × (with_on bits n on ≡ m)
known_was bits m n on e = by (permits (tri_at bits n) (from_bool on)) refl e
  where
    by : (t : Bool) → permits (tri_at bits n) (from_bool on) ≡ t → (if t then Some (with_on bits n on) else None) ≡ Some m
        → Permits (tri_at bits n) (from_bool on) × (with_on bits n on ≡ m)
    by true may e = ((tests_tell_members.bits (tri_at bits n) (from_bool on)).0 may, cc)
    by false may e = absurd (cc)

pub known_some : (bits : TriByte) (n : ℕ) (on : Bool) → Permits (tri_at bits n) (from_bool on) → bit_known bits n on ≡ Some (with_on bits n on)
known_some bits n on may =
    ap (λ (t : Bool). if t then Some (with_on bits n on) else None) ((tests_tell_members.bits (tri_at bits n) (from_bool on)).1 may)

pub known_has : (bits : TriByte) (n : ℕ) (on : Bool) (x : ℕ) → Has bits x → bit_at x n ≡ from_bool on → Has (with_on bits n on) x
known_has bits n on x has is =
    writes_cover.members bits n (tri_bit (from_bool on)) x x has (subst (Permits (tri_bit (from_bool on))) (sym is) (on_permits on)) (λ j lt ne. refl)

pub known_less : (bits : TriByte) (n : ℕ) (on : Bool) → Permits (tri_at bits n) (from_bool on) → IsWithin (with_on bits n on) bits
known_less bits n on may =
    (bytes_are_sets.within (with_on bits n on) bits).1 (λ i lt.
    subst (λ (t : Tri). IsTriWithin t (tri_at bits i)) (sym (bytes_are_their_bits.has_bits (λ j. if j == n then tri_bit (from_bool on) else tri_at bits j) i lt)) (by i (i == n) refl))
  where
    by : (i : ℕ) (t : Bool) → (i == n) ≡ t → IsTriWithin (if t then tri_bit (from_bool on) else tri_at bits i) (tri_at bits i)
    by i true e = λ k h. subst (λ (j : ℕ). Permits (tri_at bits j) k) (sym (eqb-true i n e)) (subst (Permits (tri_at bits n)) (sym (on_is on k h)) may)
    by i false e = λ k h. h

pub known_more : (bits bits' : TriByte) (n : ℕ) (on : Bool) → IsWithin bits bits' → IsWithin (with_on bits n on) (with_on bits' n on)
known_more bits bits' n on le = writes_cover.more bits bits' n (tri_bit (from_bool on)) (tri_bit (from_bool on)) le (λ k h. h)

-- `may_be` is monotone
pub may_more : (bits bits' : TriByte) (n k : ℕ) → n < 8 → IsWithin bits bits' → Permits (tri_at bits n) k → Permits (tri_at bits' n) k
may_more bits bits' n k lt le may = (bytes_are_sets.within bits bits').0 le n lt k may

pub known_other : (bits : TriByte) (n i : ℕ) (on : Bool) → i < 8 → i ≢ n → tri_at (with_on bits n on) i ≡ tri_at bits i
known_other bits n i on lt ne =
    bytes_are_their_bits.has_bits (λ j. if j == n then tri_bit (from_bool on) else tri_at bits j) i lt
    ∙ ap (λ (t : Bool). if t then tri_bit (from_bool on) else tri_at bits i) (ne_eqb i n ne)

-- ---- what flags tell

abbrev told : ℕ → Bool → AbsState → Option AbsState
told n b s = after (after (less_cut n b s) (zero_cut n b)) (compare_cut n b)

first_leaves : (n : ℕ) (b : Bool) → LeavesLess (λ s. after (less_cut n b s) (zero_cut n b))
first_leaves n b = after_leaves (less_cut n b) (zero_cut n b) (less_leaves n b) (zero_leaves n b)

told_keeps : (n : ℕ) (b : Bool) (m : State) → flag m.sreg n ≡ b → KeepsMachine m (told n b)
told_keeps n b m is =
    after_keeps m (λ s. after (less_cut n b s) (zero_cut n b)) (compare_cut n b) (first_leaves n b)
    (after_keeps m (less_cut n b) (zero_cut n b) (less_leaves n b) (less_keeps n b m is) (zero_keeps n b m is)) (compare_keeps n b m is)

told_leaves : (n : ℕ) (b : Bool) → LeavesLess (told n b)
told_leaves n b = after_leaves (λ s. after (less_cut n b s) (zero_cut n b)) (compare_cut n b) (first_leaves n b) (compare_leaves n b)

told_more : (n : ℕ) (b : Bool) → LeavesMoreBy (told n b) (told n b)
told_more n b =
    after_more (λ s. after (less_cut n b s) (zero_cut n b)) (λ s. after (less_cut n b s) (zero_cut n b)) (compare_cut n b) (compare_cut n b) (first_leaves n b) (first_leaves n b)
    (after_more (less_cut n b) (less_cut n b) (zero_cut n b) (zero_cut n b) (less_leaves n b) (less_leaves n b) (less_more n b) (zero_more n b)) (compare_more n b)

-- ---- the flag itself

abbrev with_bits : TriByte → AbsState → AbsState
with_bits bits s = record s { flags = record s.flags { bits = bits } }

flag_was : (n : ℕ) (b : Bool) (x : Option TriByte) (s t : AbsState) → flag_by n b x s ≡ Some t
    → (bits : TriByte) × (u : AbsState) × (x ≡ Some bits) × (told n b s ≡ Some u) × (with_bits bits u ≡ t)
flag_was n b None s t e = absurd (cc)
flag_was n b (Some bits) s t e = let was = after_was (told n b s) (flags_known bits) t e in let last = was.1.1 in (bits, was.0, refl, was.1.0, cc)

flag_some : (n : ℕ) (b : Bool) (x : Option TriByte) (bits : TriByte) (s u : AbsState) → x ≡ Some bits → told n b s ≡ Some u → flag_by n b x s ≡ Some (with_bits bits u)
flag_some n b x bits s u p q =
    ap (λ (y : Option TriByte). flag_by n b y s) p ∙ after_some (told n b s) (flags_known bits) u (Some (with_bits bits u)) q refl

flag_keeps : (n : ℕ) (b : Bool) (m : State) → n < 7 → flag m.sreg n ≡ b → KeepsMachine m (flag_cut n b)
flag_keeps n b m lt is o s offset a h =
    let bit : bit_at m.sreg n ≡ from_bool b = flag_bit m.sreg n b is in
    let has = h.stands.flags.bits in
    let may : Permits (tri_at s.flags.bits n) (from_bool b) = subst (Permits (tri_at s.flags.bits n)) bit (has n (omega (arith, lt))) in
    let bits = with_on s.flags.bits n b in
    let u = told_keeps n b m is o s offset a h in
    let stand = u.1.1.stands in (
      with_bits bits u.0,
      (
        flag_some n b (bit_known s.flags.bits n b) bits s u.0 (known_some s.flags.bits n b may) u.1.0,
        record {
          stands = record {
            registers = stand.registers;
            flags = record { entry = stand.flags.entry; bits = known_has s.flags.bits n b m.sreg has bit; carry = stand.flags.carry };
            less = stand.less;
            slots = stand.slots;
          };
          facts = u.1.1.facts;
        },
      ),
    )
  where
    flag_bit : (x i : ℕ) (b : Bool) → flag x i ≡ b → bit_at x i ≡ from_bool b
    flag_bit x i true e = eqb-true (bit_at x i) 1 e
    flag_bit x i false e = let ne : bit_at x i ≢ 1 = eqb-false (bit_at x i) 1 e in omega (arith, bit_at-lt x i, ne)

-- the state with the flag known
bits_left : (s u : AbsState) (bits : TriByte) (offset n : ℕ) (on : Bool) → n < 7 → IsFormed s offset → Permits (tri_at s.flags.bits n) (from_bool on) → with_on s.flags.bits n on ≡ bits
    → IsLeftOf s u offset → IsLeftOf s (with_bits bits u) offset
bits_left s u bits offset n on lt a may is left =
    let le = left.within in
    let b = left.formed in
    record {
      within = record {
        registers = le.registers;
        flags = record { entry = le.flags.entry; bits = subst (λ (x : TriByte). IsWithin x s.flags.bits) is (known_less s.flags.bits n on may); carry = le.flags.carry };
        count = le.count;
        slots = le.slots;
        facts = le.facts;
      };
      formed = record {
        count_registers = b.count_registers;
        registers = b.registers;
        bit_7 = subst (λ (x : TriByte). tri_at x 7 ≡ Any) is (known_other s.flags.bits n 7 on (omega arith) (omega (arith, lt)) ∙ a.bit_7);
        count_slots = b.count_slots;
        slots = b.slots;
        carry = b.carry;
        ranges = b.ranges;
        slot_ranges = b.slot_ranges;
        facts = b.facts;
      };
      tags = left.tags;
      entry = left.entry;
      carry = left.carry;
      slots = left.slots;
      fit = λ h. let fit = left.fit h in record { registers = fit.registers; slots = fit.slots };
      untagged = λ h. let none = left.untagged h in record { registers = none.registers; entry = none.entry; carry = none.carry; slots = none.slots };
      of = λ good device is_root h.
          let same = left.of good device is_root h in record { registers = same.registers; slots = same.slots; rampz = same.rampz; eind = same.eind };
      hulls = left.hulls;
    }

flag_leaves : (n : ℕ) (b : Bool) → n < 7 → LeavesLess (flag_cut n b)
flag_leaves n b lt s t offset a e =
    let was = flag_was n b (bit_known s.flags.bits n b) s t e in
    let known = known_was s.flags.bits was.0 n b was.2 in
    subst (λ (x : AbsState). IsLeftOf s x offset) was.4 (bits_left s was.1 was.0 offset n b lt a known.0 known.1 (told_leaves n b s was.1 offset a was.3))

flag_more : (n : ℕ) (b : Bool) → n < 7 → LeavesMoreOfMore (flag_cut n b)
flag_more n b lt s s' t offset a a' le e =
    let was = flag_was n b (bit_known s.flags.bits n b) s t e in
    let known = known_was s.flags.bits was.0 n b was.2 in
    let may = may_more s.flags.bits s'.flags.bits n (from_bool b) (omega (arith, lt)) le.flags.bits known.0 in
    let bits = with_on s'.flags.bits n b in
    let u = told_more n b s s' was.1 offset a a' le was.3 in
    let above = u.1.1 in
    let here : IsStateWithin (with_bits was.0 was.1) (with_bits bits u.0) = record {
      registers = above.registers;
      flags = record {
        entry = above.flags.entry;
        bits = subst (λ (x : TriByte). IsWithin x bits) known.1 (known_more s.flags.bits s'.flags.bits n b le.flags.bits);
        carry = above.flags.carry;
      };
      count = above.count;
      slots = above.slots;
      facts = above.facts;
    } in (
      with_bits bits u.0,
      (
        flag_some n b (bit_known s'.flags.bits n b) bits s' u.0 (known_some s'.flags.bits n b may) u.1.0,
        subst (λ (x : AbsState). IsStateWithin x (with_bits bits u.0)) was.4 here,
      ),
    )

flag_may : (n : ℕ) (b : Bool) (s t : AbsState) → flag_cut n b s ≡ Some t → Permits (tri_at s.flags.bits n) (from_bool b)
flag_may n b s t e = let was = flag_was n b (bit_known s.flags.bits n b) s t e in (known_was s.flags.bits was.0 n b was.2).0

-- ---- C of a register cuts it

first_of : (n : ℕ) (b : Bool) (s u : AbsState) (offset : ℕ) → IsFormed s offset → told n b s ≡ Some u → (v : AbsState) × ((less_cut n b s ≡ Some v) × IsLeftOf v u offset)
first_of n b s u offset a e =
    let last = after_was (after (less_cut n b s) (zero_cut n b)) (compare_cut n b) u e in
    let first = after_was (less_cut n b s) (zero_cut n b) last.0 last.1.0 in
    let v = less_leaves n b s first.0 offset a first.1.0 in
    let x = zero_leaves n b first.0 last.0 offset v.formed first.1.1 in
    (first.0, (first.1.0, left_through first.0 last.0 u offset x (compare_leaves n b last.0 u offset x.formed last.1.1)))

module _ (s t : AbsState) (offset r k : ℕ) (f : PairFacts) (a : IsFormed s offset) (is : s.facts ≡ Some f) (tag : s.flags.carry ≡ carry.Less r k) where
  names : r < 32
  names = subst CarryNamesRegister tag a.carry

  flag_below : flag_cut 0 true s ≡ Some t → (value_at t.registers r).high < k
  flag_below e =
      let was = flag_was 0 true (bit_known s.flags.bits 0 true) s t e in
      let one = first_of 0 true s was.1 offset a was.3 in
      let cut : less_by (carry.Less r k) true s ≡ Some one.0 = subst (λ (c : CarryTag). less_by c true s ≡ Some one.0) tag one.1.0 in
      let first = by one.0 (k == 0) refl cut in
      let rest = (one.1.1.within.registers r (omega (arith, names))).high in
      subst (λ (x : AbsState). (value_at x.registers r).high < k) was.4 (omega (arith, first, rest))
    where
      by : (v : AbsState) (t : Bool) → (k == 0) ≡ t → narrow_to (place.Byte r) (if t then None else Some (record { low = 0; high = k - 1 })) s ≡ Some v → (value_at v.registers r).high < k
      by v true zero e = absurd (cc)
      by v false zero e =
          let ne : k ≢ 0 = eqb-false k 0 zero in
          let bound = narrow_bounds r (record { low = 0; high = k - 1 }) s v offset f names a is e in
          omega (arith, ne, bound.1)

  flag_from : flag_cut 0 false s ≡ Some t → k ≤ (value_at t.registers r).low
  flag_from e =
      let was = flag_was 0 false (bit_known s.flags.bits 0 false) s t e in
      let one = first_of 0 false s was.1 offset a was.3 in
      let cut : less_by (carry.Less r k) false s ≡ Some one.0 = subst (λ (c : CarryTag). less_by c false s ≡ Some one.0) tag one.1.0 in
      let first = (narrow_bounds r (record { low = k; high = 255 }) s one.0 offset f names a is cut).0 in
      let rest = (one.1.1.within.registers r (omega (arith, names))).low in
      subst (λ (x : AbsState). k ≤ (value_at x.registers r).low) was.4 (omega (arith, first, rest))

pub flags_are_cut : FlagsAreCut
flags_are_cut = record { keeps = flag_keeps; leaves = flag_leaves; more = flag_more; may = flag_may; below = flag_below; from = flag_from }
