-- The value of a byte that is read is monotone.
use Rattle.std.proofs.Common.{◌≡◌, refl, sym, ap, ◌∙◌, subst, subst₂, ℕ, ◌+◌, ◌-◌, nat_lt, nat_le, Bool, true, false, List, [], Option, Some, None, length, if◌then◌else◌, slice_set, arith, ◌*◌}
use Rattle.std.specs.Int.{from_bool}
use Rattle.local_rules.specs.Cover.{IsKey}
use Rattle.abs_alu.proofs.AllLaws.{same_within}
use Rattle.avr_model.specs.Devices.{Image, words_of, io_end, ramend, device_of}
use Rattle.avr_model.specs.declared.device.Device.{Device}
use Rattle.avr_model.specs.Image.{byte_at}
use Rattle.avr_model.specs.declared.device.Special.{Special}
use Rattle.avr_model.specs.declared.device.Special.TheVariants.{Spl, Sph, Sreg}
use Rattle.avr_model.specs.State.{register_at, special, low, high}
use Rattle.bit_domain.specs.Tri.{tri_bit}
use Rattle.bit_domain.specs.TriByte.{byte_any, byte_known, byte_constant}
use Rattle.bit_domain.specs.Ranges.{ByteSet, IsSetWithin, set_meet}
use Rattle.bit_domain.proofs.AllLaws.{writes_cover, ranges_hold, ranges_fit}
use Rattle.sp_domain.specs.declared.tags.Tag.{Tag}
use Rattle.sp_domain.specs.declared.tags.Tag.TheVariants as tag
use Rattle.sp_domain.specs.declared.slots.Slot.{Slot}
use Rattle.sp_domain.specs.declared.slots.Slot.TheVariants.{Free, Guarded}
use Rattle.sp_domain.specs.Slots.{slot_at}
use Rattle.sp_domain.specs.Tags.{IsTagWithin, frame_of, low_of, high_of}
use Rattle.sp_domain.proofs.AllLaws.{tag_arithmetic_is_monotone}
use Rattle.abs_state.specs.declared.values.AbsByte.{AbsByte}
use Rattle.abs_state.specs.declared.state.AbsState.{AbsState}
use Rattle.abs_state.specs.Values.{untagged, unknown, known, valued, set_of}
use Rattle.abs_state.specs.Formed.{ByteFits}
use Rattle.abs_state.proofs.AllLaws.{bits_make_values, tag_met}
use Rattle.abs_state.specs.Frames.{with_tag}
use Rattle.node_keys.specs.declared.keys.NodeKey.{NodeKey}
use Rattle.node_keys.specs.declared.keys.Kind.{Kind}
use Rattle.node_keys.specs.declared.keys.Kind.TheVariants.{Root, Call, Vector}
use Rattle.node_keys.specs.declared.keys.SpForm.{SpForm}
use Rattle.node_keys.specs.declared.keys.SpForm.TheVariants.{Closed, Open}
use Rattle.node_keys.specs.Keys.{offset_of}
use Rattle.local_rules.specs.declared.pointers.Pointed.{Pointed}
use Rattle.local_rules.specs.HighBytes.{view_by}
use Rattle.local_rules.specs.Registers.{value, bits, with_bits, high_tag_of}
use Rattle.local_rules.specs.Reads.{closed_low, closed_high, sp_low, sp_high, flags_tag, sreg_value, io_bits, value_of, slot_read, read_special, read_behind, read_at, word_of, pair_constant, raised, lowered, pointed, read_number, read_constant, read_both, read_frame, read_pointed, flash_value}
use Rattle.local_rules.specs.Local.{loading}
use Rattle.local_laws.proofs.MonotoneValues.{IsTagOf, IsLess, AreFlagsLess, AreRegistersLess, IsSlotLess, IsStateLess, IsSameWhere, tells_by, none_of, below_any, constant_tells, value_same, bits_less, untagged_less, unknown_same, range_less, known_same, below_unknown, if_less, registers_set}
use Rattle.local_laws.proofs.MonotoneHigh.{seen_less}
use Rattle.local_laws.proofs.MonotoneRaw.{LeadsLess, nowhere_less, setting_less}
use Rattle.local_laws.proofs.MonotoneAlu.{reg, reg_bits}
use Rattle.local_rules.specs.Site.{site_at}

-- ---- the stack pointer and the status register

closed_low_less : (device : Device) (kind : Kind) (offset : ℕ) → IsLess kind (closed_low device kind offset) (closed_low device kind offset)
closed_low_less device Root offset = known_same Root (low (ramend device - offset))
closed_low_less device Call offset = value_same Call (with_bits (low_of offset) byte_any) (record { names = tt; fits = omega arith; none = λ root. cc }) (bits_make_values.fits (low_of offset) byte_any)
closed_low_less device (Vector v) offset = value_same (Vector v) (with_bits (low_of offset) byte_any) (record { names = tt; fits = omega arith; none = λ root. cc }) (bits_make_values.fits (low_of offset) byte_any)

closed_high_less : (device : Device) (kind : Kind) (offset : ℕ) → IsLess kind (closed_high device kind offset) (closed_high device kind offset)
closed_high_less device Root offset = known_same Root (high (ramend device - offset))
closed_high_less device Call offset = value_same Call (with_bits (high_of offset) byte_any) (record { names = tt; fits = omega arith; none = λ root. cc }) (bits_make_values.fits (high_of offset) byte_any)
closed_high_less device (Vector v) offset = value_same (Vector v) (with_bits (high_of offset) byte_any) (record { names = tt; fits = omega arith; none = λ root. cc }) (bits_make_values.fits (high_of offset) byte_any)

sp_low_less : (device : Device) (kind : Kind) (sp : SpForm) → IsLess kind (sp_low device kind sp) (sp_low device kind sp)
sp_low_less device kind (Closed offset) = closed_low_less device kind offset
sp_low_less device kind (Open offset h) = unknown_same kind

sp_high_less : (device : Device) (kind : Kind) (sp : SpForm) → IsLess kind (sp_high device kind sp) (sp_high device kind sp)
sp_high_less device kind (Closed offset) = closed_high_less device kind offset
sp_high_less device kind (Open offset h) = unknown_same kind

flags_tag_of : (kind : Kind) (entry : Bool) → (kind ≡ Root → entry ≡ false) → IsTagOf kind (flags_tag entry)
flags_tag_of kind true h = record { names = tt; fits = tt; none = λ root. let e = h root in absurd (cc) }
flags_tag_of kind false h = none_of kind

flags_tag_within : (a b : Bool) → (b ≡ true → a ≡ true) → IsTagWithin (flags_tag a) (flags_tag b)
flags_tag_within a true h = ap flags_tag (h refl)
flags_tag_within a false h = tt

sreg_less : (k : NodeKey) (s t : AbsState) → AreFlagsLess k.inst.kind s.flags t.flags → IsLess k.inst.kind (sreg_value k s) (sreg_value k t)
sreg_less k s t le =
    bits_less k.inst.kind (flags_tag s.flags.entry) (flags_tag t.flags.entry) _ _ (flags_tag_of k.inst.kind s.flags.entry le.no_entry)
    (flags_tag_within s.flags.entry t.flags.entry le.within.entry)
    (writes_cover.more s.flags.bits t.flags.bits 7 (tri_bit (from_bool k.i)) (tri_bit (from_bool k.i)) le.within.bits (λ n p. p))

-- ---- at an address

pub slot_value : (kind : Kind) (x y : Slot AbsByte) → IsSlotLess kind x y → IsLess kind (value_of x) (value_of y)
slot_value kind Free Free h = unknown_same kind
slot_value kind (Guarded v) Free h = below_unknown kind v h.good.0 h.good.1
slot_value kind Free (Guarded w) h = absurd h.within
slot_value kind (Guarded v) (Guarded w) h = record { within = h.within; good = h.good.0; ranged = h.good.1 }

slot_less : (device : Device) (kind : Kind) (s t : AbsState) (a : ℕ) → ((d : ℕ) → IsLess kind (value_of (slot_at s.slots d)) (value_of (slot_at t.slots d))) → IsLess kind (slot_read device kind s a) (slot_read device kind t a)
slot_less device Root s t a h = if_less Root (nat_le a (ramend device)) (value_of (slot_at s.slots (ramend device - a))) unknown (value_of (slot_at t.slots (ramend device - a))) unknown (h (ramend device - a)) (unknown_same Root)
slot_less device Call s t a h = unknown_same Call
slot_less device (Vector v) s t a h = unknown_same (Vector v)

-- ---- options

pub pair_tells : (f g f' g' : Option ℕ) → IsSameWhere f g → IsSameWhere f' g' → IsSameWhere (word_of f f') (word_of g g')
pair_tells f None f' g' h k n e = cc
pair_tells f (Some x) f' None h k n e = cc
pair_tells f (Some x) f' (Some y) h k n e =
    subst₂ (λ (a b : Option ℕ). word_of a b ≡ Some n) (sym (h x refl)) (sym (k y refl)) e

-- if the first value exists, so does the second, and it is above
abbrev pub IsReadLess : Kind → Option AbsByte → Option AbsByte → Type 0
IsReadLess kind x y = (v : AbsByte) → x ≡ Some v → (w : AbsByte) × ((y ≡ Some w) × IsLess kind v w)

pub read_some : (kind : Kind) (v w : AbsByte) → IsLess kind v w → IsReadLess kind (Some v) (Some w)
read_some kind v w h x e = let is : v ≡ x = cc in (w, (refl, subst (λ (y : AbsByte). IsLess kind y w) is h))

if_read : (kind : Kind) (b : Bool) (x y x' y' : Option AbsByte) → IsReadLess kind x y → IsReadLess kind x' y' → IsReadLess kind (if b then x else x') (if b then y else y')
if_read kind true x y x' y' h k = h
if_read kind false x y x' y' h k = k

if_under : (kind : Kind) (b : Bool) (x x' y : Option AbsByte) → IsReadLess kind x y → IsReadLess kind x' y → IsReadLess kind (if b then x else x') y
if_under kind true x x' y h k = h
if_under kind false x x' y h k = k

-- the bits and the range of the first value are within those of the second
sets_within : (kind : Kind) (v w : AbsByte) → IsLess kind v w → IsSetWithin (set_of v) (set_of w)
sets_within kind v w h = record { bits = h.within.bits; low = h.within.low; high = h.within.high }

sets_through : (s t u : ByteSet) → IsSetWithin s t → IsSetWithin t u → IsSetWithin s u
sets_through s t u a b = record { bits = λ x small has. b.bits x small (a.bits x small has); low = omega (arith, a.low, b.low); high = omega (arith, a.high, b.high) }

-- the meet of a slot and of the value by the number is below a value above either
meet_under : (kind : Kind) (u v w : AbsByte) → IsTagOf kind v.tag → IsTagWithin v.tag w.tag
    → ((m : ByteSet) → set_meet (set_of u) (set_of v) ≡ Some m → IsSetWithin m (set_of w)) → IsReadLess kind (with_tag v.tag (set_meet (set_of u) (set_of v))) (Some w)
meet_under kind u v w good tags under x e =
    let at = tag_met v.tag (set_meet (set_of u) (set_of v)) x e in
    let le = under at.0 at.1.0 in (
      w,
      (
        refl,
        subst (λ (z : AbsByte). IsLess kind z w) (sym at.1.1) (record {
          within = record { tag = tags; bits = le.bits; low = le.low; high = le.high };
          good = good;
          ranged = ranges_fit.of_meet (set_of u) (set_of v) at.0 at.1.0;
        }),
      ),
    )

meet_both : (kind : Kind) (u u' v w : AbsByte) → IsLess kind v w → IsLess kind u u'
    → IsReadLess kind (with_tag v.tag (set_meet (set_of u) (set_of v))) (with_tag w.tag (set_meet (set_of u') (set_of w)))
meet_both kind u u' v w h le x e =
    let at = tag_met v.tag (set_meet (set_of u) (set_of v)) x e in
    let more = ranges_hold.more (set_of u) (set_of v) (set_of u') (set_of w) at.0 (sets_within kind u u' le) (sets_within kind v w h) at.1.0 in (
      valued w.tag more.0,
      (
        ap (with_tag w.tag) more.1.0,
        subst (λ (z : AbsByte). IsLess kind z (valued w.tag more.0)) (sym at.1.1) (record {
          within = record { tag = h.within.tag; bits = more.1.1.bits; low = more.1.1.low; high = more.1.1.high };
          good = h.good;
          ranged = ranges_fit.of_meet (set_of u) (set_of v) at.0 at.1.0;
        }),
      ),
    )

-- a meet lies below any byte
under_any : (u v : AbsByte) (m : ByteSet) → set_meet (set_of u) (set_of v) ≡ Some m → IsSetWithin m (set_of unknown)
under_any u v m e =
    let fit = ranges_fit.of_meet (set_of u) (set_of v) m e in
    let wide = ranges_hold.bits_within m.bits byte_any (below_any m.bits) in
    record { bits = below_any m.bits; low = omega (arith, wide.low, fit.low); high = omega (arith, wide.high, fit.high) }

flash_tag : (image : Image) (f : Option ℕ) → (flash_value image f).tag ≡ tag.None
flash_tag image None = refl
flash_tag image (Some z) = by (nat_lt z (2 * words_of (device_of image)))
  where
    by : (b : Bool) → (if b then known (byte_at image.words z) else unknown).tag ≡ tag.None
    by true = refl
    by false = refl

flash_fits : (image : Image) (f : Option ℕ) → ByteFits (flash_value image f)
flash_fits image None = bits_make_values.fits tag.None byte_any
flash_fits image (Some z) = by (nat_lt z (2 * words_of (device_of image)))
  where
    by : (b : Bool) → ByteFits (if b then known (byte_at image.words z) else unknown)
    by true = bits_make_values.fits tag.None (byte_known (byte_at image.words z))
    by false = bits_make_values.fits tag.None byte_any

none_tag_of : (kind : Kind) (t : Tag) → t ≡ tag.None → IsTagOf kind t
none_tag_of kind t e = subst (IsTagOf kind) (sym e) (none_of kind)

pub flash_less : (kind : Kind) (image : Image) (f g : Option ℕ) → IsSameWhere f g → IsLess kind (flash_value image f) (flash_value image g)
flash_less kind image f None h = below_unknown kind (flash_value image f) (none_tag_of kind _ (flash_tag image f)) (flash_fits image f)
flash_less kind image f (Some z) h =
    subst (λ (x : Option ℕ). IsLess kind (flash_value image x) (flash_value image (Some z))) (sym (h z refl))
    (value_same kind (flash_value image (Some z)) (none_tag_of kind _ (flash_tag image (Some z))) (flash_fits image (Some z)))

module _ (device : Device) (k : NodeKey) (at : IsKey device k) (s t : AbsState) (le : IsStateLess k.inst.kind (offset_of k.sp) s t) where
  abbrev kind : Kind
  kind = k.inst.kind

  slot : (d : ℕ) → IsLess kind (value_of (slot_at s.slots d)) (value_of (slot_at t.slots d))
  slot d = slot_value kind (slot_at s.slots d) (slot_at t.slots d) (le.slots.each d)

  pub constants : (r : ℕ) → IsSameWhere (pair_constant s r) (pair_constant t r)
  constants r =
      pair_tells (byte_constant (bits s r)) (byte_constant (bits t r)) (byte_constant (bits s (r + 1))) (byte_constant (bits t (r + 1)))
      (constant_tells (bits s r) (bits t r) (reg_bits device k at s t le r)) (constant_tells (bits s (r + 1)) (bits t (r + 1)) (reg_bits device k at s t le (r + 1)))

  -- the address that a pointer gives
  abbrev address : AbsState → ℕ → ℕ → Pointed
  address u r up = pointed (view_by device k) u r up

  abbrev frame_in : AbsState → ℕ → Option ℕ
  frame_in u r = frame_of (value u r).tag (high_tag_of (view_by device k) u r)

  frames : (r : ℕ) → IsSameWhere (frame_in s r) (frame_in t r)
  frames r n e =
      tag_arithmetic_is_monotone.frame (value s r).tag (high_tag_of (view_by device k) s r) (value t r).tag (high_tag_of (view_by device k) t r) n
      (reg device k at s t le r).within.tag (seen_less device k s t le r) e

  pub pointed_constants : (r up : ℕ) → IsSameWhere (address s r up).constant (address t r up).constant
  pointed_constants r up = tells_by (raised up) refl (pair_constant s r) (pair_constant t r) (constants r)

  pub pointed_frames : (r up : ℕ) → IsSameWhere (address s r up).frame (address t r up).frame
  pointed_frames r up = tells_by (lowered up) refl (frame_in s r) (frame_in t r) (frames r)

  pub loading_less : (vs ws : List AbsByte) (d : ℕ) (x y : Option AbsByte) → AreRegistersLess kind vs ws → IsReadLess kind x y
      → LeadsLess device k.inst (loading (site_at device k s) vs d x) (loading (site_at device k t) ws d y)
  loading_less vs ws d None None registers h = nowhere_less k.inst []
  loading_less vs ws d None (Some w) registers h = nowhere_less k.inst _
  loading_less vs ws d (Some v) y registers h =
      let above = h v refl in
      subst (λ (z : Option AbsByte). LeadsLess device k.inst (loading (site_at device k s) vs d (Some v)) (loading (site_at device k t) ws d z)) (sym above.1.0)
      (setting_less device k at s t le (slice_set vs d v) (slice_set ws d above.0) s.flags t.flags (registers_set kind vs ws registers d v above.0 above.1.1) le.flags)

module _ (device : Device) (may : Bool) (k : NodeKey) (at : IsKey device k) (s t : AbsState) (le : IsStateLess k.inst.kind (offset_of k.sp) s t) where
  special_less : (a : ℕ) (x : Option Special) → IsLess k.inst.kind (read_special device may k s a x) (read_special device may k t a x)
  special_less a (Some Spl) = sp_low_less device k.inst.kind k.sp
  special_less a (Some Sph) = sp_high_less device k.inst.kind k.sp
  special_less a (Some Sreg) = sreg_less k s t le.flags
  special_less a None =
      if_less k.inst.kind (nat_le a (io_end device)) _ _ _ _ (untagged_less k.inst.kind (io_bits device may k.masks a) (io_bits device may k.masks a) (same_within (io_bits device may k.masks a)))
      (slot_less device k.inst.kind s t a (slot device k at s t le))

  behind_less : (a : ℕ) (x : Option ℕ) → IsLess k.inst.kind (read_behind device may k s a x) (read_behind device may k t a x)
  behind_less a (Some r) = reg device k at s t le r
  behind_less a None = special_less a (special device a)

  pub read_less : (a : ℕ) → IsLess k.inst.kind (read_at device may k s a) (read_at device may k t a)
  unfolding read_at
  read_less a = behind_less a (register_at device a)

  -- by the number alone
  number_less : (a : ℕ) → IsLess k.inst.kind (read_number device may k s a) (read_number device may k t a)
  number_less a =
      if_less k.inst.kind (nat_le a (io_end device)) _ _ _ _ (untagged_less k.inst.kind (read_at device may k s a).bits (read_at device may k t a).bits (read_less a).within.bits) (range_less k.inst.kind (read_at device may k s a) (read_at device may k t a) (read_less a))

  constant_less : (f g : Option ℕ) → IsSameWhere f g → IsLess k.inst.kind (read_constant device may k s f) (read_constant device may k t g)
  constant_less None None h = unknown_same k.inst.kind
  constant_less (Some a) None h = below_unknown k.inst.kind (read_number device may k s a) (number_less a).good (number_less a).ranged
  constant_less f (Some a) h = subst (λ (x : Option ℕ). IsLess k.inst.kind (read_constant device may k s x) (read_constant device may k t (Some a))) (sym (h a refl)) (number_less a)

  both_less : (f g : Option ℕ) (v w : AbsByte) → IsSameWhere f g → IsLess k.inst.kind v w → IsReadLess k.inst.kind (read_both device may k s f v) (read_both device may k t g w)
  both_less None None v w h le = read_some k.inst.kind v w le
  both_less (Some a) None v w h le =
      meet_under k.inst.kind (read_number device may k s a) v w le.good le.within.tag
      (λ m e. sets_through m (set_of v) (set_of w) (ranges_hold.under (set_of (read_number device may k s a)) (set_of v) m e).1 (sets_within k.inst.kind v w le))
  both_less f (Some a) v w h le =
      subst (λ (x : Option ℕ). IsReadLess k.inst.kind (read_both device may k s x v) (read_both device may k t (Some a) w)) (sym (h a refl))
      (meet_both k.inst.kind (read_number device may k s a) (read_number device may k t a) v w le (number_less a))

  number_tag : (a : ℕ) → (read_number device may k t a).tag ≡ tag.None
  number_tag a = by (nat_le a (io_end device))
    where
      by : (b : Bool) → (if b then untagged (read_at device may k t a).bits else valued tag.None (set_of (read_at device may k t a))).tag ≡ tag.None
      by true = refl
      by false = refl

  -- the lesser reads a slot, and the greater reads by the number alone
  slot_under : (f g : Option ℕ) (v : AbsByte) → IsSameWhere f g → IsTagOf k.inst.kind v.tag → ByteFits v → IsReadLess k.inst.kind (read_both device may k s f v) (Some (read_constant device may k t g))
  slot_under None None v h good fit = read_some k.inst.kind v unknown (below_unknown k.inst.kind v good fit)
  slot_under (Some a) None v h good fit = meet_under k.inst.kind (read_number device may k s a) v unknown good tt (under_any (read_number device may k s a) v)
  slot_under f (Some a) v h good fit =
      subst (λ (x : Option ℕ). IsReadLess k.inst.kind (read_both device may k s x v) (Some (read_constant device may k t (Some a)))) (sym (h a refl))
      (meet_under k.inst.kind (read_number device may k s a) v (read_number device may k t a) good (subst (IsTagWithin v.tag) (sym (number_tag a)) tt)
      (λ m e. sets_through m (set_of (read_number device may k s a)) (set_of (read_number device may k t a)) (ranges_hold.under (set_of (read_number device may k s a)) (set_of v) m e).0
      (sets_within k.inst.kind (read_number device may k s a) (read_number device may k t a) (number_less a))))

  frame_less : (f g : Option ℕ) (p q : Option ℕ) → IsSameWhere f g → IsSameWhere p q → IsReadLess k.inst.kind (read_frame device may k s f p) (read_frame device may k t g q)
  frame_less f g None None h l = read_some k.inst.kind _ _ (constant_less f g h)
  frame_less f g (Some d) None h l =
      if_under k.inst.kind (nat_lt d (length s.slots)) (read_both device may k s f (value_of (slot_at s.slots d))) (Some (read_constant device may k s f)) (Some (read_constant device may k t g))
      (slot_under f g (value_of (slot_at s.slots d)) h (slot device k at s t le d).good (slot device k at s t le d).ranged) (read_some k.inst.kind _ _ (constant_less f g h))
  frame_less f g p (Some d) h l =
      subst (λ (x : Option ℕ). IsReadLess k.inst.kind (read_frame device may k s f x) (read_frame device may k t g (Some d))) (sym (l d refl))
      (subst (λ (n : ℕ). IsReadLess k.inst.kind (read_frame device may k s f (Some d)) (if nat_lt d n then read_both device may k t g (value_of (slot_at t.slots d)) else Some (read_constant device may k t g)))
      (le.slots.count ∙ sym le.slots.others)
      (if_read k.inst.kind (nat_lt d (length s.slots)) (read_both device may k s f (value_of (slot_at s.slots d))) (read_both device may k t g (value_of (slot_at t.slots d))) (Some (read_constant device may k s f)) (Some (read_constant device may k t g))
      (both_less f g (value_of (slot_at s.slots d)) (value_of (slot_at t.slots d)) h (slot device k at s t le d)) (read_some k.inst.kind _ _ (constant_less f g h))))

  pub pointer_read : (r up : ℕ) → IsReadLess k.inst.kind (read_pointed device may k s (pointed (view_by device k) s r up)) (read_pointed device may k t (pointed (view_by device k) t r up))
  pointer_read r up =
      frame_less (pointed (view_by device k) s r up).constant (pointed (view_by device k) t r up).constant
      (pointed (view_by device k) s r up).frame (pointed (view_by device k) t r up).frame (pointed_constants device k at s t le r up) (pointed_frames device k at s t le r up)
