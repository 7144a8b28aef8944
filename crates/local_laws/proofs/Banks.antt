-- What the device says of a state is kept where registers, slots and addresses are written.
use Rattle.std.proofs.Common.{◌≡◌, refl, sym, ap, ◌∙◌, subst, ℕ, zero, suc, ◌+◌, ◌<◌, ◌≤◌, ◌==◌, ◌||◌, ⊎_elim, Bool, true, false, List, [], ◌∷◌, ◌++◌, take, replicate, Option, Some, None, length, if◌then◌else◌, slice_set, arith, length-set, length-append, length-take, append_assoc, lt-ltb}
use Rattle.std.proofs.lemmas.Bool.{cases_lt, cases_eq}
use Rattle.std.proofs.lemmas.List.{get_or_past, append-nil}
use Rattle.std.specs.Int.{bit_at}
use Rattle.avr_model.specs.declared.device.Device.{Device}
use Rattle.avr_model.specs.Devices.{has_elpm, has_eijmp, rampz_most, eind_most}
use Rattle.avr_model.specs.State.{RAMPZ, EIND, REGISTERS, bank_most, has_register, kept_of}
use Rattle.avr_model.proofs.AllLaws.{devices_are_alike}
use Rattle.bit_domain.specs.declared.bits.Tri.TheVariants.{Zero}
use Rattle.bit_domain.specs.declared.bytes.TriByte.{TriByte}
use Rattle.bit_domain.specs.Packed.{packed}
use Rattle.bit_domain.specs.Ranges.{most_of}
use Rattle.bit_domain.specs.Lattice.{byte_join}
use Rattle.bit_domain.specs.TriByte.{Has, IsWithin, tri_at, byte_of, byte_any, byte_known, byte_constant}
use Rattle.bit_domain.proofs.AllLaws.{bytes_are_sets, lattice_is_of_sets, ranges_hold}
use Rattle.sp_domain.specs.declared.tags.Tag.{Tag}
use Rattle.sp_domain.specs.declared.tags.Tag.TheVariants as tag
use Rattle.sp_domain.specs.declared.slots.Slot.{Slot}
use Rattle.sp_domain.specs.declared.slots.Slot.TheVariants.{Free, Guarded}
use Rattle.sp_domain.specs.Slots.{slot_at, resized}
use Rattle.sp_domain.specs.Tags.{is_same_tag}
use Rattle.sp_domain.proofs.AllLaws.{slots_are_lists}
use Rattle.abs_state.specs.declared.values.AbsByte.{AbsByte}
use Rattle.abs_state.specs.declared.state.AbsState.{AbsState}
use Rattle.abs_state.specs.Values.{value_at, with_bits, untagged}
use Rattle.abs_state.specs.Banks.{is_tag_of, names_of, IsSlotOf, IsBankIn, IsStateOf}
use Rattle.node_keys.specs.declared.keys.NodeKey.{NodeKey}
use Rattle.local_rules.specs.Banks.{bank_bits, own_tag, bank_value, stored_value, next_bank, joined_bank, stepped_bank}
use Rattle.local_rules.specs.Permitted.{permits_bytes}
use Rattle.local_rules.specs.Raw.{Raw}
use Rattle.local_rules.specs.Reads.{pair_constant, value_of}
use Rattle.local_rules.specs.Registers.{value, bits}
use Rattle.local_rules.specs.Site.{Task}
use Rattle.local_rules.specs.Writes.{write_at, written_at, pointer_write}
use Rattle.local_laws.proofs.BankSizes.{IsPlace, low as at_low, rampz as at_rampz, eind as at_eind, place_of, kept_rampz}
use Rattle.local_laws.proofs.EachState.{AllOf}
use Rattle.local_laws.proofs.EachStore.{HasBehind, written_each, pointer_each}
use Rattle.local_laws.proofs.MonotoneBanks.{bank_within, kept_within}
use Rattle.local_laws.proofs.MonotoneValues.{below_any, set_same, set_other}

-- ---- registers

-- tags of r0 to r31, and RAMPZ and EIND
pub record AreOf (good : Tag → Bool) (device : Device) (is_root : Bool) (vs : List AbsByte) : Type 0 where
  pub count : length vs ≡ REGISTERS
  pub tags : (r : ℕ) → r < 32 → good (value_at vs r).tag ≡ true
  pub rampz : IsBankIn good device is_root RAMPZ (value_at vs RAMPZ)
  pub eind : IsBankIn good device is_root EIND (value_at vs EIND)

-- tags of slots
abbrev pub AreSlotsOf : Device → List (Slot AbsByte) → Type 0
AreSlotsOf device xs = (d : ℕ) → IsSlotOf (is_tag_of device) (slot_at xs d)

-- a state, with such tags of registers
pub record IsOf (good : Tag → Bool) (device : Device) (is_root : Bool) (s : AbsState) : Type 0 where
  pub registers : AreOf good device is_root s.registers
  pub slots : AreSlotsOf device s.slots

slot_past : (device : Device) (xs : List (Slot AbsByte)) (d : ℕ) → length xs ≤ d → IsSlotOf (is_tag_of device) (slot_at xs d)
slot_past device xs d over = subst (IsSlotOf (is_tag_of device)) (sym (get_or_past xs d Free over)) tt

pub of_state : (device : Device) (is_root : Bool) (s : AbsState) → length s.registers ≡ REGISTERS → IsStateOf device is_root s → IsOf (is_tag_of device) device is_root s
of_state device is_root s count h =
    record {
      registers = record { count = count; tags = h.registers; rampz = h.rampz; eind = h.eind };
      slots = λ d. ⊎_elim (h.slots d) (slot_past device s.slots d) (cases_lt d (length s.slots));
    }

pub to_state : (device : Device) (is_root : Bool) (s : AbsState) → IsOf (is_tag_of device) device is_root s → IsStateOf device is_root s
to_state device is_root s h = record { registers = h.registers.tags; slots = λ d lt. h.slots d; rampz = h.registers.rampz; eind = h.registers.eind }

-- ---- tags of the device name its registers

pub names_weaker : (device : Device) (t : Tag) → is_tag_of device t ≡ true → names_of device t ≡ true
names_weaker device tag.None e = refl
names_weaker device (tag.Entry r) e = e
names_weaker device tag.EntryFlags e = refl
names_weaker device (tag.SpLo j) e = refl
names_weaker device (tag.SpHi k) e = refl

pub bank_weaker : (device : Device) (is_root : Bool) (r : ℕ) (v : AbsByte) → IsBankIn (is_tag_of device) device is_root r v → IsBankIn (names_of device) device is_root r v
bank_weaker device is_root r v h = record { most = h.most; tag = λ there. names_weaker device v.tag (h.tag there); lacking = h.lacking }

pub registers_weaker : (device : Device) (is_root : Bool) (vs : List AbsByte) → AreOf (is_tag_of device) device is_root vs → AreOf (names_of device) device is_root vs
registers_weaker device is_root vs h =
    record {
      count = h.count;
      tags = λ r lt. names_weaker device (value_at vs r).tag (h.tags r lt);
      rampz = bank_weaker device is_root RAMPZ (value_at vs RAMPZ) h.rampz;
      eind = bank_weaker device is_root EIND (value_at vs EIND) h.eind;
    }

pub state_weaker : (device : Device) (is_root : Bool) (s : AbsState) → IsOf (is_tag_of device) device is_root s → IsOf (names_of device) device is_root s
state_weaker device is_root s h = record { registers = registers_weaker device is_root s.registers h.registers; slots = h.slots }

-- ---- the device has them

pub rampz_there : (device : Device) → has_elpm device ≡ true → has_register device RAMPZ ≡ true
rampz_there device e = ap (λ (b : Bool). b || false) e

pub eind_there : (device : Device) → has_eijmp device ≡ true → has_register device EIND ≡ true
eind_there device e = e

-- ---- bits that RAMPZ and EIND have

any_most : (n : ℕ) → n ≤ 3 → most_of (byte_of (λ i. if bit_at n i == 1 then tri_at byte_any i else Zero)) ≤ n
unfolding packed
any_most zero le = omega arith
any_most (suc zero) le = omega arith
any_most (suc (suc zero)) le = omega arith
any_most (suc (suc (suc zero))) le = omega arith
any_most (suc (suc (suc (suc n)))) le = absurd (omega arith)

bank_small : (device : Device) (r : ℕ) → bank_most device r ≤ 3
bank_small device r = by (r == RAMPZ)
  where
    by : (is : Bool) → (if is then rampz_most device else eind_most device) ≤ 3
    by true = devices_are_alike.most_rampz device
    by false = omega (arith, devices_are_alike.most_eind device)

within_bank : (device : Device) (r : ℕ) (b : TriByte) → IsWithin b (bank_bits device r byte_any) → most_of b ≤ bank_most device r
within_bank device r b le = omega (arith, (ranges_hold.bits_within b (bank_bits device r byte_any) le).high, any_most (bank_most device r) (bank_small device r))

bits_most : (device : Device) (r : ℕ) (b : TriByte) → most_of (bank_bits device r b) ≤ bank_most device r
bits_most device r b = within_bank device r (bank_bits device r b) (bank_within device r b byte_any (below_any b))

module _ (good : Tag → Bool) (none : good tag.None ≡ true) (device : Device) (is_root : Bool) where
  own_good : (r : ℕ) (t : Tag) → good t ≡ true → good (own_tag r t) ≡ true
  own_good r t h = by (is_same_tag t (tag.Entry r))
    where
      by : (b : Bool) → good (if b then t else tag.None) ≡ true
      by true = h
      by false = none

  bank_of : (r : ℕ) (v : AbsByte) → has_register device r ≡ true → good v.tag ≡ true → IsBankIn good device is_root r (bank_value device r v)
  bank_of r v there h = record {
    most = bits_most device r v.bits;
    tag = λ e. own_good r v.tag h;
    lacking = λ e. absurd (let no : true ≡ false = sym there ∙ e in cc);
  }

  -- ---- registers that are set

  pub set_of_good : (vs : List AbsByte) (d : ℕ) (v : AbsByte) → AreOf good device is_root vs → d < 32 → good v.tag ≡ true → AreOf good device is_root (slice_set vs d v)
  set_of_good vs d v h lt is =
      record {
        count = length-set vs d v ∙ h.count;
        tags = λ r low. ⊎_elim
            (λ same. ap (λ (w : AbsByte). good w.tag) (set_same vs d r v same (omega (arith, lt, h.count))) ∙ is)
            (λ other. ap (λ (w : AbsByte). good w.tag) (set_other vs d r v other) ∙ h.tags r low)
            (cases_eq r d);
        rampz = subst (IsBankIn good device is_root RAMPZ) (sym (set_other vs d RAMPZ v (λ e. omega (arith, e, lt)))) h.rampz;
        eind = subst (IsBankIn good device is_root EIND) (sym (set_other vs d EIND v (λ e. omega (arith, e, lt)))) h.eind;
      }

  pub pair_of_good : (vs : List AbsByte) (d : ℕ) (v w : AbsByte) → AreOf good device is_root vs → d + 1 < 32 → good v.tag ≡ true → good w.tag ≡ true
      → AreOf good device is_root (slice_set (slice_set vs d v) (d + 1) w)
  pair_of_good vs d v w h lt is is' = set_of_good (slice_set vs d v) (d + 1) w (set_of_good vs d v h (omega (arith, lt)) is) lt is'

  pub rampz_set : (vs : List AbsByte) (v : AbsByte) → AreOf good device is_root vs → IsBankIn good device is_root RAMPZ v → AreOf good device is_root (slice_set vs RAMPZ v)
  rampz_set vs v h is =
      record {
        count = length-set vs RAMPZ v ∙ h.count;
        tags = λ r low. ap (λ (w : AbsByte). good w.tag) (set_other vs RAMPZ r v (λ e. omega (arith, e, low))) ∙ h.tags r low;
        rampz = subst (IsBankIn good device is_root RAMPZ) (sym (set_same vs RAMPZ RAMPZ v refl (omega (arith, h.count)))) is;
        eind = subst (IsBankIn good device is_root EIND) (sym (set_other vs RAMPZ EIND v (omega arith))) h.eind;
      }

  eind_set : (vs : List AbsByte) (v : AbsByte) → AreOf good device is_root vs → IsBankIn good device is_root EIND v → AreOf good device is_root (slice_set vs EIND v)
  eind_set vs v h is =
      record {
        count = length-set vs EIND v ∙ h.count;
        tags = λ r low. ap (λ (w : AbsByte). good w.tag) (set_other vs EIND r v (λ e. omega (arith, e, low))) ∙ h.tags r low;
        rampz = subst (IsBankIn good device is_root RAMPZ) (sym (set_other vs EIND RAMPZ v (omega arith))) h.rampz;
        eind = subst (IsBankIn good device is_root EIND) (sym (set_same vs EIND EIND v refl (omega (arith, h.count)))) is;
      }

  -- ---- at an address

  low_value : (r : ℕ) (v : AbsByte) → r < 32 → good v.tag ≡ true → good (stored_value device r v).tag ≡ true
  low_value r v lt h = ap (λ (b : Bool). good (if b then with_bits v.tag v.bits else bank_value device r v).tag) (lt-ltb r 32 lt) ∙ h

  stored_in : (vs : List AbsByte) (r : ℕ) (v : AbsByte) → AreOf good device is_root vs → IsPlace device r → good v.tag ≡ true
      → AreOf good device is_root (slice_set vs r (stored_value device r v))
  stored_in vs r v h (at_low lt) is = set_of_good vs r (stored_value device r v) h lt (low_value r v lt is)
  stored_in vs r v h (at_rampz has same) is =
      subst (λ (n : ℕ). AreOf good device is_root (slice_set vs n (stored_value device n v))) (sym same) (rampz_set vs (bank_value device RAMPZ v) h (bank_of RAMPZ v (rampz_there device has) is))
  stored_in vs r v h (at_eind has same) is =
      subst (λ (n : ℕ). AreOf good device is_root (slice_set vs n (stored_value device n v))) (sym same) (eind_set vs (bank_value device EIND v) h (bank_of EIND v (eind_there device has) is))

  abbrev Of : AbsState → Type 0
  Of s = IsOf good device is_root s

  abbrev All : Raw → Type 0
  All r = AllOf (IsOf good device is_root) r

  resized_of : (xs : List (Slot AbsByte)) (n : ℕ) → AreSlotsOf device xs → AreSlotsOf device (resized n xs)
  resized_of xs n h d =
      let lists = slots_are_lists {V = AbsByte} in
      ⊎_elim (λ lt. subst (IsSlotOf (is_tag_of device)) (sym (lists.kept xs n d lt)) (h d)) (λ over. slot_past device (resized n xs) d (omega (arith, lists.count xs n, over))) (cases_lt d n)

  behind_of : (s : AbsState) (v : AbsByte) → Of s → good v.tag ≡ true → HasBehind Of device s v
  behind_of s v h is =
      record {
        same = h;
        flags = λ f. record { registers = h.registers; slots = h.slots };
        slots = λ n. record { registers = h.registers; slots = resized_of s.slots n h.slots };
        register = λ a r e. record { registers = stored_in s.registers r v h.registers (place_of device a r e) is; slots = h.slots };
      }

  pub written_of : (pc : ℕ) (k : NodeKey) (s : AbsState) (v : AbsByte) (is_out : Bool) (a : ℕ) → Of s → good v.tag ≡ true → All (written_at (write_at device pc k s v) is_out a)
  written_of pc k s v is_out a h is = written_each Of device s v (behind_of s v h is) pc k is_out a

  pub pointer_of : (task : Task) (was : AbsState) (r up : ℕ) (pc : ℕ) (k : NodeKey) (s : AbsState) (v : AbsByte) → Of s → good v.tag ≡ true
      → All (pointer_write task was r up (write_at device pc k s v))
  pointer_of task was r up pc k s v h is = pointer_each Of device s v (behind_of s v h is) task was r up pc k

-- ---- RAMPZ behind `elpm`

module _ (good : Tag → Bool) (none : good tag.None ≡ true) (device : Device) (is_root : Bool) (has : has_elpm device ≡ true) (s : AbsState)
    (h : IsBankIn good device is_root RAMPZ (value s RAMPZ)) where
  -- a number that RAMPZ holds has its bits
  was_within : IsWithin (bits s RAMPZ) (bank_bits device RAMPZ byte_any)
  was_within x small member =
      let most : x ≤ rampz_most device = omega (arith, h.most, (ranges_hold.of_bits (bits s RAMPZ) x small member).high) in
      let kept : kept_of device RAMPZ x ≡ x = kept_rampz device x most in
      kept_within device x x small (subst (λ (n : ℕ). Has (byte_known n) x) (sym kept) ((bytes_are_sets.known x x small small).1 refl))

  next_in : (f : Option ℕ) → IsWithin (next_bank device f) (bank_bits device RAMPZ byte_any)
  next_in None = λ x small member. member
  next_in (Some bank) = kept_within device (bank + 1)

  joined_in : (f : Option ℕ) (next : TriByte) → IsWithin next (bank_bits device RAMPZ byte_any) → IsWithin (joined_bank f (bits s RAMPZ) next) (bank_bits device RAMPZ byte_any)
  joined_in None next le = (lattice_is_of_sets.joins (bits s RAMPZ) next).least (bank_bits device RAMPZ byte_any) was_within le
  joined_in (Some z) next le = by (z == 65535)
    where
      by : (b : Bool) → IsWithin (if b then next else byte_join (bits s RAMPZ) next) (bank_bits device RAMPZ byte_any)
      by true = le
      by false = (lattice_is_of_sets.joins (bits s RAMPZ) next).least (bank_bits device RAMPZ byte_any) was_within le

  pub stepped_of : IsBankIn good device is_root RAMPZ (stepped_bank device s)
  stepped_of = by (permits_bytes s 30 65535)
    where
      joined : TriByte
      joined = joined_bank (pair_constant s 30) (bits s RAMPZ) (next_bank device (byte_constant (bits s RAMPZ)))

      by : (b : Bool) → IsBankIn good device is_root RAMPZ (if b then untagged joined else value s RAMPZ)
      by true = record {
        most = within_bank device RAMPZ joined (joined_in (pair_constant s 30) (next_bank device (byte_constant (bits s RAMPZ))) (next_in (byte_constant (bits s RAMPZ))));
        tag = λ e. none;
        lacking = λ e. absurd (let no : true ≡ false = sym (rampz_there device has) ∙ e in cc);
      }
      by false = h

-- ---- slots

module _ (device : Device) where
  pub slot_tag : (x : Slot AbsByte) → IsSlotOf (is_tag_of device) x → is_tag_of device (value_of x).tag ≡ true
  slot_tag Free h = refl
  slot_tag (Guarded v) h = h

  pub pushed_of : (xs : List (Slot AbsByte)) (x : Slot AbsByte) → AreSlotsOf device xs → IsSlotOf (is_tag_of device) x → AreSlotsOf device (xs ++ x ∷ [])
  pushed_of xs x h is d =
      let lists = slots_are_lists {V = AbsByte} in
      ⊎_elim
      (λ lt. subst (IsSlotOf (is_tag_of device)) (sym (lists.pushed xs x d lt)) (h d))
      (λ over. ⊎_elim
      (λ same. subst (IsSlotOf (is_tag_of device)) (sym (lists.last xs x) ∙ ap (slot_at (xs ++ x ∷ [])) same) is)
      (λ other. slot_past device (xs ++ x ∷ []) d (omega (arith, length-append xs (x ∷ []), over, other)))
      (cases_eq (length xs) d))
      (cases_lt d (length xs))

  pub taken_of : (xs : List (Slot AbsByte)) (n : ℕ) → AreSlotsOf device xs → AreSlotsOf device (take n xs)
  taken_of xs n h d =
      let lists = slots_are_lists {V = AbsByte} in
      ⊎_elim (λ lt. subst (IsSlotOf (is_tag_of device)) (sym (lists.cut xs n d lt)) (h d)) (λ over. slot_past device (take n xs) d (omega (arith, length-take n xs, over))) (cases_lt d n)

  pub room_of : (xs : List (Slot AbsByte)) (n : ℕ) → AreSlotsOf device xs → AreSlotsOf device (xs ++ replicate n Free)
  room_of xs zero h = subst (AreSlotsOf device) (sym (append-nil xs)) h
  room_of xs (suc n) h = subst (AreSlotsOf device) (append_assoc xs (Free ∷ []) (replicate n Free)) (room_of (xs ++ Free ∷ []) n (pushed_of xs Free h tt))
