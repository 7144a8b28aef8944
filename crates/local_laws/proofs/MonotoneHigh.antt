-- The high byte of an address in the frame: what is read of it is monotone.
use Rattle.std.proofs.Common.{◌≡◌, refl, sym, ◌∙◌, ap, subst, ℕ, ◌+◌, ◌<◌, ◌&&◌, ◌||◌, nat_le, if◌then◌else◌, Bool, true, false, Option, Some, None, arith, eq-eqb}
use Rattle.avr_model.specs.declared.device.Device.{Device}
use Rattle.bit_domain.specs.TriByte.{IsWithin, byte_constant}
use Rattle.sp_domain.specs.declared.tags.Tag.{Tag}
use Rattle.sp_domain.specs.declared.tags.Tag.TheVariants as tag
use Rattle.sp_domain.specs.declared.tags.CarryTag.{CarryTag}
use Rattle.sp_domain.specs.declared.tags.CarryTag.TheVariants as carry
use Rattle.sp_domain.specs.Tags.{HasByteNumbers, IsTagWithin, IsCarryWithin, is_same_tag}
use Rattle.abs_state.specs.declared.values.AbsByte.{AbsByte}
use Rattle.abs_state.specs.declared.state.AbsState.{AbsState}
use Rattle.abs_state.specs.Formed.{CarryIsUntagged}
use Rattle.node_keys.specs.declared.keys.NodeKey.{NodeKey}
use Rattle.node_keys.specs.declared.keys.Kind.{Kind}
use Rattle.node_keys.specs.declared.keys.Kind.TheVariants.{Root}
use Rattle.node_keys.specs.Keys.{offset_of}
use Rattle.local_rules.specs.HighBytes.{SpView, view_by, low_number, carry_number, is_zero, is_high_of, beside, seen_high}
use Rattle.local_rules.specs.Registers.{value, high_tag_of}
use Rattle.local_laws.proofs.HighBytes.{zero_is, same_high}
use Rattle.local_laws.proofs.MonotoneValues.{IsTagOf, IsStateLess, IsSameWhere, none_of, tag_tells, constant_tells}

-- ---- the number of the low byte

low_tells : (t u : Tag) → IsTagWithin t u → IsSameWhere (low_number t) (low_number u)
low_tells t u le = tag_tells low_number refl t u le

carry_tells : (c d : CarryTag) → IsCarryWithin c d → IsSameWhere (carry_number c) (carry_number d)
carry_tells c carry.None le n e = cc
carry_tells c (carry.Borrow j l) le n e = ap carry_number le ∙ e
carry_tells c (carry.Sum j l) le n e = ap carry_number le ∙ e
carry_tells c (carry.Less r k) le n e = cc

low_small : (kind : Kind) (t : Tag) → IsTagOf kind t → (n : ℕ) → low_number t ≡ Some n → n < 65536
low_small kind tag.None h n e = cc
low_small kind (tag.Entry r) h n e = cc
low_small kind tag.EntryFlags h n e = cc
low_small kind (tag.SpLo j) h n e = let small : j < 256 = h.fits in let is : j ≡ n = cc in omega (arith, small, is)
low_small kind (tag.SpHi k) h n e = cc

carry_small : (c : CarryTag) → HasByteNumbers c → (n : ℕ) → carry_number c ≡ Some n → n < 65536
carry_small carry.None h n e = cc
carry_small (carry.Borrow j l) h n e = let small : j < 256 = h.0 in let is : j ≡ n = cc in omega (arith, small, is)
carry_small (carry.Sum j l) h n e = let small : j < 256 = h.0 in let is : j ≡ n = cc in omega (arith, small, is)
carry_small (carry.Less r k) h n e = cc

carry_none : (c : CarryTag) → CarryIsUntagged c → carry_number c ≡ None
carry_none carry.None h = refl
carry_none (carry.Borrow j l) h = absurd h
carry_none (carry.Sum j l) h = absurd h
carry_none (carry.Less r k) h = refl

-- ---- beside it

same_if : (t u : Tag) (j : ℕ) → IsTagWithin t u → is_same_tag u (tag.SpHi j) ≡ true → is_same_tag t (tag.SpHi j) ≡ true
same_if t u j le e =
    let is : t ≡ tag.SpHi j = subst (IsTagWithin t) (same_high u j e) le in
    ap (λ (x : Tag). is_same_tag x (tag.SpHi j)) is ∙ eq-eqb j j refl

high_if : (offset j : ℕ) (v w : AbsByte) → IsTagWithin v.tag w.tag → IsWithin v.bits w.bits → is_high_of offset j w ≡ true → is_high_of offset j v ≡ true
high_if offset j v w tags bits =
    by (is_same_tag v.tag (tag.SpHi j)) (is_same_tag w.tag (tag.SpHi j)) (is_zero (byte_constant v.bits)) (is_zero (byte_constant w.bits)) (nat_le j offset)
    (same_if v.tag w.tag j tags)
    (λ e. ap is_zero (constant_tells v.bits w.bits bits 0 (zero_is (byte_constant w.bits) e)))
  where
    by : (a b c d near : Bool) → (b ≡ true → a ≡ true) → (d ≡ true → c ≡ true) → (b || (d && near)) ≡ true → (a || (c && near)) ≡ true
    by true b c d near first second e = refl
    by false true c d near first second e = absurd (let no = first refl in cc)
    by false false true d true first second e = refl
    by false false true true false first second e = e
    by false false true false false first second e = e
    by false false false true near first second e = second refl
    by false false false false near first second e = e

beside_within : (offset : ℕ) (i j : Option ℕ) (v w : AbsByte) → IsSameWhere i j → IsTagWithin v.tag w.tag → IsWithin v.bits w.bits
    → IsTagWithin (beside offset i v) (beside offset j w)
beside_within offset i None v w tells tags bits = tt
beside_within offset i (Some n) v w tells tags bits =
    subst (λ (x : Option ℕ). IsTagWithin (beside offset x v) (beside offset (Some n) w)) (sym (tells n refl)) (by (is_high_of offset n w) refl)
  where
    by : (is : Bool) → is_high_of offset n w ≡ is → IsTagWithin (beside offset (Some n) v) (if is then tag.SpHi n else tag.None)
    by true e = ap (λ (b : Bool). if b then tag.SpHi n else tag.None) (high_if offset n v w tags bits e)
    by false e = tt

seen_within : (view : SpView) (i j : Option ℕ) (v w : AbsByte) → IsSameWhere i j → IsTagWithin v.tag w.tag → IsWithin v.bits w.bits
    → IsTagWithin (seen_high view i v) (seen_high view j w)
seen_within view i j v w tells tags bits = by view.high
  where
    by : (has_high : Bool) → IsTagWithin (if has_high then v.tag else beside view.offset i v) (if has_high then w.tag else beside view.offset j w)
    by true = tags
    by false = beside_within view.offset i j v w tells tags bits

-- ---- of a node

beside_of : (kind : Kind) (offset : ℕ) (j : Option ℕ) (v : AbsByte) → (kind ≡ Root → j ≡ None) → ((n : ℕ) → j ≡ Some n → n < 65536) → IsTagOf kind (beside offset j v)
beside_of kind offset None v root small = none_of kind
beside_of kind offset (Some n) v root small = by (is_high_of offset n v)
  where
    by : (is : Bool) → IsTagOf kind (if is then tag.SpHi n else tag.None)
    by true = record { names = tt; fits = small n refl; none = λ e. absurd (let no = root e in cc) }
    by false = none_of kind

seen_of : (kind : Kind) (view : SpView) (j : Option ℕ) (v : AbsByte) → IsTagOf kind v.tag → (kind ≡ Root → j ≡ None) → ((n : ℕ) → j ≡ Some n → n < 65536)
    → IsTagOf kind (seen_high view j v)
seen_of kind view j v good root small = by view.high
  where
    by : (has_high : Bool) → IsTagOf kind (if has_high then v.tag else beside view.offset j v)
    by true = good
    by false = beside_of kind view.offset j v root small

module _ (device : Device) (k : NodeKey) (s t : AbsState) (le : IsStateLess k.inst.kind (offset_of k.sp) s t) where
  -- the tag of register r + 1 beside register r
  pub seen_less : (r : ℕ) → IsTagWithin (high_tag_of (view_by device k) s r) (high_tag_of (view_by device k) t r)
  seen_less r =
      let lo = le.registers.each r in
      let hi = le.registers.each (r + 1) in
      seen_within (view_by device k) (low_number (value s r).tag) (low_number (value t r).tag) (value s (r + 1)) (value t (r + 1))
      (low_tells (value s r).tag (value t r).tag lo.within.tag) hi.within.tag hi.within.bits

  -- the tag of a register beside the low byte that C is of
  pub carried_less : (r : ℕ)
      → IsTagWithin (seen_high (view_by device k) (carry_number s.flags.carry) (value s r)) (seen_high (view_by device k) (carry_number t.flags.carry) (value t r))
  carried_less r =
      let v = le.registers.each r in
      seen_within (view_by device k) (carry_number s.flags.carry) (carry_number t.flags.carry) (value s r) (value t r)
      (carry_tells s.flags.carry t.flags.carry le.flags.within.carry) v.within.tag v.within.bits

  pub carried_of : (r : ℕ) → IsTagOf k.inst.kind (seen_high (view_by device k) (carry_number s.flags.carry) (value s r))
  carried_of r =
      seen_of k.inst.kind (view_by device k) (carry_number s.flags.carry) (value s r) (le.registers.each r).good
      (λ root. carry_none s.flags.carry (le.flags.no_carry root)) (carry_small s.flags.carry le.flags.bytes)
