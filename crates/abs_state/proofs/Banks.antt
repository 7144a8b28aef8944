-- What the device says of states: after reset, of a join, at an entry and after a return, and of a cut.
use Rattle.std.proofs.Common.{◌≡◌, ◌≢◌, refl, sym, ◌∙◌, ap, ap₂, subst, ℕ, zero, suc, ◌+◌, ◌-◌, ◌/◌, ◌^◌, ◌<◌, ◌≤◌, ◌⊎◌, inl, inr, Bool, true, false, if◌then◌else◌, length, Some, nat_lt, ◌&&◌, ◌||◌, ◌==◌, arith}
use Rattle.std.proofs.lemmas.Bool.{cases_lt, cases_eq}
use Rattle.std.proofs.Math.Pow.{pow_mono}
use Rattle.std.proofs.lemmas.Bool.Decides.{nat_tests}
use Rattle.std.proofs.lemmas.Option.{same_Some}
use Rattle.std.proofs.lemmas.Nat.Bits.{bit_at_above}
use Rattle.std.specs.Int.{bit_at}
use Rattle.avr_model.specs.declared.device.Device.{Device}
use Rattle.avr_model.specs.Devices.{width, words_of, has_elpm, has_eijmp, rampz_most, eind_most}
use Rattle.avr_model.specs.State.{RAMPZ, EIND, bank_most, has_register}
use Rattle.avr_model.proofs.AllLaws.{devices_are_alike}
use Rattle.bit_domain.specs.declared.bits.Tri.TheVariants.{Zero, Any}
use Rattle.bit_domain.specs.declared.bytes.TriByte.{TriByte}
use Rattle.bit_domain.specs.Tri.{Permits}
use Rattle.bit_domain.specs.TriByte.{byte_of, byte_known, Has, IsWithin}
use Rattle.bit_domain.specs.Lattice.{byte_join}
use Rattle.bit_domain.specs.Packed.{packed}
use Rattle.bit_domain.specs.Ranges.{ByteSet, SetHas, IsSetWithin, most_of, set_of_bits, set_meet}
use Rattle.bit_domain.proofs.AllLaws.{bytes_are_sets, bytes_are_their_bits, lattice_is_of_sets, ranges_hold}
use Rattle.sp_domain.specs.declared.tags.Tag.{Tag}
use Rattle.sp_domain.specs.declared.tags.Tag.TheVariants as tag
use Rattle.sp_domain.specs.declared.slots.Slot.{Slot}
use Rattle.sp_domain.specs.declared.slots.Slot.TheVariants.{Free, Guarded}
use Rattle.sp_domain.specs.Slots.{slot_at}
use Rattle.sp_domain.specs.Tags.{is_same_tag, tag_join}
use Rattle.abs_state.specs.declared.values.AbsByte.{AbsByte}
use Rattle.abs_state.specs.declared.state.AbsState.{AbsState}
use Rattle.abs_state.specs.Values.{value_at, valued, set_of, known, root}
use Rattle.abs_state.specs.Order.{value_join, slot_join, state_join}
use Rattle.abs_state.specs.Frames.{with_tag, value_back, value_returned, values_returned, flags_returned, entered}
use Rattle.abs_state.specs.PairsBack.{returned}
use Rattle.abs_state.specs.Formed.{IsWhole}
use Rattle.abs_state.specs.Banks.{is_tag_of, IsSlotOf, absent, IsBankIn, IsStateWith, IsStateOf, StatesAreOf}
use Rattle.abs_state.proofs.Listed.{value_at-join, length-slots_join, slot_at-join}
use Rattle.abs_state.proofs.Start.{root_each, entered_value}
use Rattle.abs_state.proofs.Ordered.{values_are_ordered}
use Rattle.abs_state.proofs.Back.{tag_met, within_back}
use Rattle.abs_state.proofs.Returned.{state_with, state_some, values_some}
use Rattle.abs_state.proofs.PairsBack.{with_pairs_was}

-- ---- bytes below a power of 2

-- the byte whose lowest k bits are unknown and all others 0
abbrev lowest : ℕ → TriByte
lowest k = byte_of (λ i. if nat_lt i k then Any else Zero)

lowest_permits : (k i x : ℕ) → x < 2 ^ k → (b : Bool) → nat_lt i k ≡ b → Permits (if b then Any else Zero) (bit_at x i)
lowest_permits k i x lt true e = tt
lowest_permits k i x lt false e = let over : k ≤ i = grind (arith, nat_tests, e) in bit_at_above x k i lt over

lowest_has : (k x : ℕ) → x < 2 ^ k → Has (lowest k) x
lowest_has k x lt = bytes_are_sets.built (λ i. if nat_lt i k then Any else Zero) x (λ i h. lowest_permits k i x lt (nat_lt i k) refl)

in_lowest : (t : TriByte) (k : ℕ) → most_of t < 2 ^ k → IsWithin t (lowest k)
in_lowest t k lt x small has = lowest_has k x (omega (arith, lt, (ranges_hold.of_bits t x small has).high))

lowest_most : (k : ℕ) → k < 3 → most_of (lowest k) < 2 ^ k
unfolding packed
lowest_most zero lt = omega arith
lowest_most (suc zero) lt = omega arith
lowest_most (suc (suc zero)) lt = omega arith
lowest_most (suc (suc (suc k))) lt = absurd (omega arith)

pub within_most : (t u : TriByte) → IsWithin t u → most_of t ≤ most_of u
within_most t u le = (ranges_hold.bits_within t u le).high

join_below : (a b : TriByte) (k : ℕ) → k < 3 → most_of a < 2 ^ k → most_of b < 2 ^ k → most_of (byte_join a b) < 2 ^ k
join_below a b k few p q =
    let least = (lattice_is_of_sets.joins a b).least (lowest k) (in_lowest a k p) (in_lowest b k q) in
    omega (arith, lowest_most k few, within_most (byte_join a b) (lowest k) least)

-- ---- the greatest number of a bank

no_power : (n : ℕ) → n ≤ 17 → 2 ^ n ≢ 98304
no_power n le e = by (cases_lt n 17)
  where
    by : (n < 17) ⊎ (17 ≤ n) → ⊥
    by (inl low) = let small : 2 ^ n ≤ 2 ^ 16 = pow_mono {i = n} {j = 16} (omega (arith, low)) in omega (arith, small, e)
    by (inr high) =
        let is : n ≡ 17 = omega (arith, le, high) in
        let P : ℕ → Type 0 = λ k. 2 ^ k ≡ 98304 in
        let same : 2 ^ 17 ≡ 98304 = subst P is e in
        omega (arith, same)

abbrev IsPower : ℕ → Type 0
IsPower m = (k : ℕ) × ((k < 3) × (m + 1 ≡ 2 ^ k))

power_by : (m : ℕ) → m ≤ 3 → m ≢ 2 → IsPower m
power_by zero le other = (0, (omega arith, refl))
power_by (suc zero) le other = (1, (omega arith, refl))
power_by (suc (suc zero)) le other = absurd (other refl)
power_by (suc (suc (suc zero))) le other = (2, (omega arith, refl))
power_by (suc (suc (suc (suc m)))) le other = absurd (omega arith)

rampz_power : (device : Device) → IsPower (rampz_most device)
rampz_power device = power_by (rampz_most device) (devices_are_alike.most_rampz device) (λ is. by (has_elpm device) refl is)
  where
    by : (has : Bool) → has_elpm device ≡ has → rampz_most device ≡ 2 → ⊥
    by true has is =
        let words = devices_are_alike.banks device has in
        no_power (width device) (devices_are_alike.most_width device) (omega (arith, words, is))
    by false has is =
        let none : rampz_most device ≡ 0 = ap (λ (b : Bool). if b then words_of device / 32768 - 1 else 0) has in
        omega (arith, none, is)

-- the greatest number and 1 are a power of 2
bank_power : (device : Device) (r : ℕ) → IsPower (bank_most device r)
bank_power device r = by (r == RAMPZ)
  where
    by : (is : Bool) → IsPower (if is then rampz_most device else eind_most device)
    by true = rampz_power device
    by false = power_by (eind_most device) (omega (arith, devices_are_alike.most_eind device)) (λ is. omega (arith, devices_are_alike.most_eind device, is))

join_most : (device : Device) (r : ℕ) (a b : TriByte) → most_of a ≤ bank_most device r → most_of b ≤ bank_most device r → most_of (byte_join a b) ≤ bank_most device r
join_most device r a b p q =
    let power = bank_power device r in
    let below = join_below a b power.0 power.1.0 (omega (arith, p, power.1.1)) (omega (arith, q, power.1.1)) in
    omega (arith, below, power.1.1)

-- ---- the byte 0

least_zero : (byte_known 0).value ≡ 0
unfolding packed
least_zero = refl

most_zero : most_of (byte_known 0) ≡ 0
unfolding packed
most_zero = refl

abbrev zero_set : ByteSet
zero_set = set_of_bits (byte_known 0)

has_zero : Has (byte_known 0) 0
has_zero = (bytes_are_sets.known 0 0 (omega arith) (omega arith)).1 refl

zero_met : set_meet zero_set zero_set ≡ Some zero_set
zero_met =
    let has : SetHas zero_set 0 = ranges_hold.of_bits (byte_known 0) 0 (omega arith) has_zero in
    let met = ranges_hold.meets zero_set zero_set 0 has has in
    let under = (ranges_hold.under zero_set zero_set met.0 met.1.0).0 in
    let above : IsWithin (byte_known 0) met.0.bits = λ x small h.
    let is = (bytes_are_sets.known 0 x (omega arith) small).0 h in subst (Has met.0.bits) (sym is) met.1.1.bits in
    let bits = bytes_are_their_bits.from_sets met.0.bits (byte_known 0) under.bits above in
    let low : met.0.low ≡ zero_set.low = omega (arith, met.1.1.low, least_zero) in
    let high : met.0.high ≡ zero_set.high = omega (arith, under.high, most_zero) in
    met.1.0 ∙ (λ i. Some (record { bits = bits i; low = low i; high = high i }))

joined_same : (v : AbsByte) → value_join v v ≡ v
joined_same v =
    values_are_ordered.both (value_join v v) v (values_are_ordered.least v v v (values_are_ordered.same v) (values_are_ordered.same v)) (values_are_ordered.first v v)

-- ---- after reset

zero_bank : (device : Device) (r : ℕ) → IsBankIn (is_tag_of device) device true r (known 0)
zero_bank device r = record { most = omega (arith, most_zero); tag = λ has. refl; lacking = λ lacks. refl }

root_of : (device : Device) → IsStateOf device true root
root_of device = record {
  registers = λ r lt. root_each (λ (v : AbsByte). is_tag_of device v.tag ≡ true) r refl refl;
  slots = λ d lt. absurd (omega arith);
  rampz = zero_bank device RAMPZ;
  eind = zero_bank device EIND;
}

-- ---- a join

module _ (good : Tag → Bool) (none : good tag.None ≡ true) where
  tag_good : (t u : Tag) → good t ≡ true → good (tag_join t u) ≡ true
  tag_good t u is = by (is_same_tag t u)
    where
      by : (same : Bool) → good (if same then t else tag.None) ≡ true
      by true = is
      by false = none

  slot_good : (s t : Slot AbsByte) → IsSlotOf good s → IsSlotOf good (slot_join s t)
  slot_good Free t h = tt
  slot_good (Guarded v) Free h = tt
  slot_good (Guarded v) (Guarded w) h = tag_good v.tag w.tag h

  bank_joined : (device : Device) (is_root : Bool) (r : ℕ) (v w : AbsByte) → IsBankIn good device is_root r v → IsBankIn good device is_root r w
      → IsBankIn good device is_root r (value_join v w)
  bank_joined device is_root r v w a b = record {
    most = join_most device r v.bits w.bits a.most b.most;
    tag = λ has. tag_good v.tag w.tag (a.tag has);
    lacking = λ lacks. ap₂ value_join (a.lacking lacks) (b.lacking lacks) ∙ joined_same (absent is_root r);
  }

  joined_of : (device : Device) (is_root : Bool) (s t : AbsState) → IsWhole s → IsWhole t → length s.slots ≡ length t.slots
      → IsStateWith good device is_root s → IsStateWith good device is_root t → IsStateWith good device is_root (state_join s t)
  joined_of device is_root s t m n count a b = record {
    registers = λ r lt. subst (λ (v : AbsByte). good v.tag ≡ true) (sym (value r (omega (arith, lt)))) (tag_good (value_at s.registers r).tag (value_at t.registers r).tag (a.registers r lt));
    slots = λ d lt.
        let less : d < length s.slots = omega (arith, lt, length-slots_join s.slots t.slots count) in
        subst (IsSlotOf good) (sym (slot_at-join s.slots t.slots d less (omega (arith, less, count)))) (slot_good (slot_at s.slots d) (slot_at t.slots d) (a.slots d less));
    rampz = subst (IsBankIn good device is_root RAMPZ) (sym (value RAMPZ (omega arith))) (bank_joined device is_root RAMPZ _ _ a.rampz b.rampz);
    eind = subst (IsBankIn good device is_root EIND) (sym (value EIND (omega arith))) (bank_joined device is_root EIND _ _ a.eind b.eind);
  }
    where
      value : (r : ℕ) → r < 34 → value_at (state_join s t).registers r ≡ value_join (value_at s.registers r) (value_at t.registers r)
      value r lt = value_at-join s.registers t.registers r (omega (arith, lt, m.registers)) (omega (arith, lt, n.registers))

-- ---- an entry

low_register : (device : Device) (r : ℕ) → r < 32 → has_register device r ≡ true
low_register device r lt =
    let is : nat_lt r 32 ≡ true = grind (arith, nat_tests, lt) in
    ap (λ (b : Bool). b || (((r == RAMPZ) && has_elpm device) || ((r == EIND) && has_eijmp device))) is

bank_entered : (device : Device) (is_root : Bool) (r : ℕ) (v : AbsByte) → IsBankIn (is_tag_of device) device is_root r v
    → IsBankIn (is_tag_of device) device false r (valued (tag.Entry r) (set_of v))
bank_entered device is_root r v a = record { most = a.most; tag = λ has. has; lacking = λ lacks. ap (λ (w : AbsByte). valued (tag.Entry r) (set_of w)) (a.lacking lacks) }

entered_of : (device : Device) (is_root : Bool) (s : AbsState) → length s.registers ≡ 34 → IsStateOf device is_root s → IsStateOf device false (entered s)
entered_of device is_root s count a = record {
  registers = λ r lt. subst (λ (v : AbsByte). is_tag_of device v.tag ≡ true) (sym (entered_value s r count (omega (arith, lt)))) (low_register device r lt);
  slots = λ d lt. absurd (omega arith);
  rampz = subst (IsBankIn (is_tag_of device) device false RAMPZ) (sym (entered_value s RAMPZ count (omega arith))) (bank_entered device is_root RAMPZ _ a.rampz);
  eind = subst (IsBankIn (is_tag_of device) device false EIND) (sym (entered_value s EIND count (omega arith))) (bank_entered device is_root EIND _ a.eind);
}

-- ---- a return

module _ (device : Device) (is_root : Bool) (caller : AbsState) (a : IsStateOf device is_root caller) where
  abbrev HasGoodTag : ℕ → Type 0
  HasGoodTag k = has_register device k ≡ true → is_tag_of device (value_at caller.registers k).tag ≡ true

  register_tag : (r : ℕ) → has_register device r ≡ true → is_tag_of device (value_at caller.registers r).tag ≡ true
  register_tag r has = by (cases_lt r 32) (cases_eq r 32) (cases_eq r 33)
    where
      by : (r < 32) ⊎ (32 ≤ r) → (r ≡ 32) ⊎ (r ≡ 32 → ⊥) → (r ≡ 33) ⊎ (r ≡ 33 → ⊥) → is_tag_of device (value_at caller.registers r).tag ≡ true
      by (inl lt) _ _ = a.registers r lt
      by (inr over) (inl is) _ = subst HasGoodTag (sym is) a.rampz.tag has
      by (inr over) (inr first) (inl is) = subst HasGoodTag (sym is) a.eind.tag has
      by (inr over) (inr first) (inr other) = absurd (grind (arith, nat_tests, has, over, first, other))

  tag_back : (t : Tag) (s : ByteSet) (v : AbsByte) → value_back caller.registers t s ≡ Some v → is_tag_of device t ≡ true → is_tag_of device v.tag ≡ true
  tag_back tag.None s v e has = subst (λ (w : AbsByte). is_tag_of device w.tag ≡ true) (same_Some (valued tag.None s) v e) refl
  tag_back tag.EntryFlags s v e has = subst (λ (w : AbsByte). is_tag_of device w.tag ≡ true) (same_Some (valued tag.None s) v e) refl
  tag_back (tag.SpLo j) s v e has = subst (λ (w : AbsByte). is_tag_of device w.tag ≡ true) (same_Some (valued tag.None s) v e) refl
  tag_back (tag.SpHi k) s v e has = subst (λ (w : AbsByte). is_tag_of device w.tag ≡ true) (same_Some (valued tag.None s) v e) refl
  tag_back (tag.Entry r) s v e has =
      let met = tag_met (value_at caller.registers r).tag (set_meet (set_of (value_at caller.registers r)) s) v e in
      subst (λ (w : AbsByte). is_tag_of device w.tag ≡ true) (sym met.1.1) (register_tag r has)

  most_back : (v w : AbsByte) → value_returned caller.registers v ≡ Some w → most_of w.bits ≤ most_of v.bits
  most_back v w e =
      let same : IsSetWithin (set_of v) (set_of v) = record { bits = λ x small h. h; low = omega arith; high = omega arith } in
      within_most w.bits v.bits (within_back caller.registers v.tag (set_of v) (set_of v) w same e).bits

  absent_back : (r : ℕ) (v w : AbsByte) → value_at caller.registers r ≡ absent is_root r → v ≡ absent false r → value_returned caller.registers v ≡ Some w → w ≡ absent is_root r
  absent_back r v w was is e =
      let to : value_returned caller.registers v ≡ with_tag (absent is_root r).tag (set_meet (set_of (absent is_root r)) zero_set) =
      ap (value_returned caller.registers) is ∙ ap (λ (u : AbsByte). with_tag u.tag (set_meet (set_of u) zero_set)) was in
      same_Some w (absent is_root r) (sym e ∙ to ∙ ap (with_tag (absent is_root r).tag) zero_met)

  bank_back : (r : ℕ) (v w : AbsByte) → (has_register device r ≡ false → value_at caller.registers r ≡ absent is_root r) → IsBankIn (is_tag_of device) device false r v
      → value_returned caller.registers v ≡ Some w → IsBankIn (is_tag_of device) device is_root r w
  bank_back r v w was b e = record {
    most = omega (arith, b.most, most_back v w e);
    tag = λ has. tag_back v.tag (set_of v) w e (b.tag has);
    lacking = λ lacks. absent_back r v w (was lacks) (b.lacking lacks) e;
  }

  returned_of : (exit t : AbsState) → IsWhole exit → IsStateOf device false exit → returned caller exit ≡ Some t → IsStateOf device is_root t
  returned_of exit t whole b e =
      let was = with_pairs_was caller exit t e in
      let parts = state_some caller.slots (values_returned caller.registers exit.registers) (flags_returned caller.flags exit) was.0 was.1.1.0 in
      let values = values_some caller.registers exit.registers parts.0 parts.1.1.0 in
      let value : (r : ℕ) → r < 34 → value_returned caller.registers (value_at exit.registers r) ≡ Some (value_at parts.0 r) = λ r lt.
      values.1 r (omega (arith, lt, whole.registers)) in
      let found : IsStateOf device is_root (record (state_with caller.slots parts.0 parts.1.0) { facts = was.1.0 }) = record {
        registers = λ r lt.
            let v = value_at exit.registers r in tag_back v.tag (set_of v) (value_at parts.0 r) (value r (omega (arith, lt))) (b.registers r lt);
        slots = a.slots;
        rampz = bank_back RAMPZ (value_at exit.registers RAMPZ) (value_at parts.0 RAMPZ) a.rampz.lacking b.rampz (value RAMPZ (omega arith));
        eind = bank_back EIND (value_at exit.registers EIND) (value_at parts.0 EIND) a.eind.lacking b.eind (value EIND (omega arith));
      } in
      subst (IsStateOf device is_root) (ap (λ (s : AbsState). record s { facts = was.1.0 }) (sym parts.1.1.2) ∙ was.1.1.2) found

pub states_are_of : StatesAreOf
states_are_of = record {
  root = root_of;
  following_root = λ device. record { registers = (root_of device).registers; slots = (root_of device).slots; rampz = (root_of device).rampz; eind = (root_of device).eind };
  joined = λ good device is_root s t none m n count a b. joined_of good none device is_root s t m n count a b;
  entered = entered_of;
  returned = λ device is_root caller exit t m n a b e. returned_of device is_root caller a exit t n b e;
}
