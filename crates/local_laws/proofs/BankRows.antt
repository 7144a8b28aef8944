-- Rows leave what the device says of a state, but for tags of high bytes, which are settled behind them.
use Rattle.std.proofs.Common.{◌≡◌, refl, sym, ap, ◌∙◌, subst, ℕ, zero, suc, ◌+◌, ◌-◌, ◌*◌, ◌%◌, ◌<◌, ◌==◌, ◌||◌, nat_lt, nat_le, min, max, Bool, true, false, List, [], ◌∷◌, Option, Some, None, length, if◌then◌else◌, slice_set, arith}
use Rattle.std.specs.Prelude.{⊤}
use Rattle.avr_model.specs.declared.device.Device.{Device}
use Rattle.avr_model.specs.declared.instruction.Instr.{Instr}
use Rattle.avr_model.specs.declared.instruction.Instr.TheVariants as i
use Rattle.avr_model.specs.declared.instruction.BinaryOp.{BinaryOp}
use Rattle.avr_model.specs.declared.instruction.BinaryOp.TheVariants as binary
use Rattle.avr_model.specs.declared.instruction.ImmediateOp.{ImmediateOp}
use Rattle.avr_model.specs.declared.instruction.ImmediateOp.TheVariants as immediate
use Rattle.avr_model.specs.declared.instruction.UnaryOp.{UnaryOp}
use Rattle.avr_model.specs.declared.instruction.UnaryOp.TheVariants as unary
use Rattle.avr_model.specs.declared.instruction.Pointer.{Pointer}
use Rattle.avr_model.specs.declared.instruction.Pointer.TheVariants as pointer
use Rattle.avr_model.specs.declared.operation.Mul.{Mul}
use Rattle.avr_model.specs.Assumptions.{is_frame, has_scratch}
use Rattle.avr_model.specs.Devices.{Image, words_of, device_of, io_end, ramend, size_of, back_of, wrapped, has_elpm}
use Rattle.avr_model.specs.Effects.{port}
use Rattle.avr_model.specs.Image.{byte_at}
use Rattle.avr_model.specs.Masks.{reads_masks}
use Rattle.avr_model.specs.Sites.{base_register, pointer_register}
use Rattle.avr_model.specs.declared.device.Special.{Special}
use Rattle.avr_model.specs.declared.device.Special.TheVariants.{Spl, Sph, Sreg}
use Rattle.avr_model.specs.State.{register_at, special}
use Rattle.avr_model.specs.Text.{far, near}
use Rattle.bit_domain.specs.declared.bits.Tri.{Tri}
use Rattle.bit_domain.specs.declared.bits.Tri.TheVariants.{Zero, One, Any}
use Rattle.bit_domain.specs.Logic.{byte_equal}
use Rattle.bit_domain.specs.Ranges.{set_meet}
use Rattle.bit_domain.specs.Tri.{tri_not}
use Rattle.bit_domain.specs.TriByte.{tri_at, byte_constant}
use Rattle.sp_domain.specs.declared.tags.CarryTag.{CarryTag}
use Rattle.sp_domain.specs.declared.tags.CarryTag.TheVariants as carry
use Rattle.sp_domain.specs.declared.tags.Tag.{Tag}
use Rattle.sp_domain.specs.declared.tags.Tag.TheVariants as tag
use Rattle.sp_domain.specs.Slots.{slot_at}
use Rattle.sp_domain.specs.Tags.{frame_of, low_below, high_below, low_less, high_less, high_moved, byte_more, byte_less, high_more}
use Rattle.abs_state.proofs.AllLaws.{tag_met}
use Rattle.abs_state.specs.declared.values.AbsByte.{AbsByte}
use Rattle.abs_state.specs.declared.values.AbsFlags.{AbsFlags}
use Rattle.abs_state.specs.declared.state.AbsState.{AbsState}
use Rattle.abs_state.specs.Banks.{is_tag_of, names_of, IsSlotOf}
use Rattle.abs_state.specs.Formed.{CarryNamesRegister}
use Rattle.abs_state.specs.Values.{known, unknown, untagged, valued, set_of}
use Rattle.pair_rules.specs.Fits.{HasRegisters}
use Rattle.node_keys.specs.declared.keys.NodeKey.{NodeKey}
use Rattle.node_keys.specs.declared.keys.Kind.{Kind}
use Rattle.node_keys.specs.declared.keys.Kind.TheVariants.{Root, Call, Vector}
use Rattle.node_keys.specs.declared.keys.SpForm.{SpForm}
use Rattle.node_keys.specs.declared.keys.SpForm.TheVariants.{Closed, Open}
use Rattle.local_rules.specs.declared.computed.Computed.{Computed}
use Rattle.local_rules.specs.declared.pointers.Pointed.{Pointed}
use Rattle.local_rules.specs.Banks.{extended_constant}
use Rattle.local_rules.specs.HighBytes.{SpView, view_by, carry_number, seen_high}
use Rattle.local_rules.specs.Raw.{Raw, further, next, at_word}
use Rattle.local_rules.specs.Registers.{value, bits, carry_bit, set, set_pair, low_tag, high_tag, down_by, high_tag_of, pair_moved, going_by, interrupts_row, flag_row, binary_after, immediate_after, unary_after}
use Rattle.local_rules.specs.FrameLines.{is_followed, followed, tag_followed, number_added, more_tag, high_more_tag, less_tag, framed_binary, framed_immediate, framed_unary, immediate_at, unary_at}
use Rattle.local_rules.specs.Reads.{sp_low, sp_high, flags_tag, io_bits, value_of, slot_read, read_special, read_behind, read_at, pair_constant, pointed, read_number, read_constant, read_both, read_frame, read_pointed, flash_value}
use Rattle.local_rules.specs.Flow.{branch, flag_at, part_of, with_value, where_carry, going_where, carry_branch, flag_branch, targets_at, far_targets_at, pushed_slot, pushing, popping, making_room, relative_call, ret_exit, reti_exit}
use Rattle.local_rules.specs.Local.{step_before, pointer_moved, loading, extended_moved, row_of}
use Rattle.local_rules.specs.Site.{Task, site_at}
use Rattle.local_laws.proofs.Banks.{AreOf, IsOf, names_weaker, rampz_there, eind_there, registers_weaker, state_weaker, set_of_good, pair_of_good, rampz_set, written_of, pointer_of, stepped_of, slot_tag, pushed_of, taken_of, room_of}
use Rattle.local_laws.proofs.BankSizes.{IsPlace, low as at_low, rampz as at_rampz, eind as at_eind, place_of}
use Rattle.local_laws.proofs.EachState.{AllOf, each_none, each_one, each_if, each_both, each_branch, each_where, each_jumping, each_closed, each_calling, each_indirect, each_returning}
use Rattle.local_laws.proofs.MonotoneFields.{InstrFits}

-- ---- computed tags name no register

-- it isn't the tag of a register at the entry
abbrev IsFree : Tag → Type 0
IsFree (tag.Entry r) = ⊥
IsFree t = ⊤

free_names : (device : Device) (t : Tag) → IsFree t → names_of device t ≡ true
free_names device tag.None h = refl
free_names device (tag.Entry r) h = absurd h
free_names device tag.EntryFlags h = refl
free_names device (tag.SpLo j) h = refl
free_names device (tag.SpHi k) h = refl

free_if : (b : Bool) (t u : Tag) → IsFree t → IsFree u → IsFree (if b then t else u)
free_if true t u h g = h
free_if false t u h g = g

free_low_less : (t : Tag) (l : ℕ) → IsFree (low_less t l)
free_low_less tag.None l = tt
free_low_less (tag.Entry r) l = tt
free_low_less tag.EntryFlags l = tt
free_low_less (tag.SpLo j) l = tt
free_low_less (tag.SpHi k) l = tt

free_low : (t : Tag) (f : Option ℕ) → IsFree (low_tag t f)
free_low t None = tt
free_low t (Some l) = free_low_less t l

free_high_less : (t : Tag) (m : ℕ) (c : CarryTag) → IsFree (high_less t m c)
free_high_less tag.None m c = tt
free_high_less (tag.Entry r) m c = tt
free_high_less tag.EntryFlags m c = tt
free_high_less (tag.SpLo j) m c = tt
free_high_less (tag.SpHi k) m carry.None = tt
free_high_less (tag.SpHi k) m (carry.Borrow j l) = free_if (j == k % 256) _ _ tt tt
free_high_less (tag.SpHi k) m (carry.Sum j l) = tt
free_high_less (tag.SpHi k) m (carry.Less r n) = tt

free_high : (t : Tag) (f : Option ℕ) (c : CarryTag) → IsFree (high_tag t f c)
free_high t None c = tt
free_high t (Some m) c = free_high_less t m c

free_low_below : (f : Option ℕ) (down : ℕ) → IsFree (low_below f down)
free_low_below None down = tt
free_low_below (Some k) down = tt

free_high_below : (f : Option ℕ) (down : ℕ) → IsFree (high_below f down)
free_high_below None down = tt
free_high_below (Some k) down = tt

free_moved : (t : Tag) (up : Bool) (h : ℕ) → IsFree (high_moved t up h)
free_moved tag.None up h = tt
free_moved (tag.Entry r) up h = tt
free_moved tag.EntryFlags up h = tt
free_moved (tag.SpLo j) up h = tt
free_moved (tag.SpHi k) true h = tt
free_moved (tag.SpHi k) false h = tt

free_byte_more : (t : Tag) (n : ℕ) → IsFree (byte_more t n)
free_byte_more tag.None n = tt
free_byte_more (tag.Entry r) n = tt
free_byte_more tag.EntryFlags n = tt
free_byte_more (tag.SpLo j) n = tt
free_byte_more (tag.SpHi k) n = tt

free_more : (t : Tag) (f : Option ℕ) → IsFree (more_tag t f)
free_more t None = tt
free_more t (Some n) = free_byte_more t n

free_byte_less : (t : Tag) (n : ℕ) → IsFree (byte_less t n)
free_byte_less tag.None n = tt
free_byte_less (tag.Entry r) n = tt
free_byte_less tag.EntryFlags n = tt
free_byte_less (tag.SpLo j) n = tt
free_byte_less (tag.SpHi k) n = tt

free_less : (t : Tag) (f : Option ℕ) → IsFree (less_tag t f)
free_less t None = tt
free_less t (Some n) = free_byte_less t n

free_high_more : (t : Tag) (n : ℕ) (c : CarryTag) → IsFree (high_more t n c)
free_high_more tag.None n c = tt
free_high_more (tag.Entry r) n c = tt
free_high_more tag.EntryFlags n c = tt
free_high_more (tag.SpLo j) n c = tt
free_high_more (tag.SpHi k) n carry.None = tt
free_high_more (tag.SpHi k) n (carry.Borrow j l) = tt
free_high_more (tag.SpHi k) n (carry.Sum j l) = free_if (j == k % 256) _ _ tt tt
free_high_more (tag.SpHi k) n (carry.Less r l) = tt

free_sum : (t : Tag) (f : Option ℕ) (c : CarryTag) → IsFree (high_more_tag t f c)
free_sum t None c = tt
free_sum t (Some n) c = free_high_more t n c

free_flags : (entry : Bool) → IsFree (flags_tag entry)
free_flags true = tt
free_flags false = tt

flash_free : (image : Image) (f : Option ℕ) → IsFree (flash_value image f).tag
flash_free image None = tt
flash_free image (Some z) = by (nat_lt z (2 * words_of (device_of image)))
  where
    by : (b : Bool) → IsFree (if b then known (byte_at image.words z) else unknown).tag
    by true = tt
    by false = tt

part_tag : (c : Bool) (v x : AbsByte) (n : ℕ) → part_of c v n ≡ Some x → x.tag ≡ v.tag
part_tag true v x n e = by (nat_lt v.low n) e
  where
    by : (b : Bool) → (if b then Some (record v { high = min v.high (n - 1) }) else None) ≡ Some x → x.tag ≡ v.tag
    by true e = let is : record v { high = min v.high (n - 1) } ≡ x = cc in sym (ap (λ (w : AbsByte). w.tag) is)
    by false e = absurd (cc)
part_tag false v x n e = by (nat_le n v.high) e
  where
    by : (b : Bool) → (if b then Some (record v { low = max v.low n }) else None) ≡ Some x → x.tag ≡ v.tag
    by true e = let is : record v { low = max v.low n } ≡ x = cc in sym (ap (λ (w : AbsByte). w.tag) is)
    by false e = absurd (cc)

-- ---- the instruction is one of the device

abbrev pub IsSupported : Device → Instr → Type 0
IsSupported device (i.ElpmZPlus d) = has_elpm device ≡ true
IsSupported device instr = ⊤

-- ---- what is read and computed

module _ (device : Device) (is_root : Bool) (k : NodeKey) (s : AbsState) (h : IsOf (is_tag_of device) device is_root s) where
  abbrev names : Tag → Bool
  names = names_of device

  abbrev Named : List AbsByte → Type 0
  Named vs = AreOf (names_of device) device is_root vs

  abbrev Of : AbsState → Type 0
  Of t = IsOf (names_of device) device is_root t

  abbrev All : Raw → Type 0
  All r = AllOf (IsOf (names_of device) device is_root) r

  weak : Named s.registers
  weak = registers_weaker device is_root s.registers h.registers

  same : Of s
  same = state_weaker device is_root s h

  -- registers and flags are set
  with_both : (vs : List AbsByte) (f : AbsFlags) → Named vs → Of (record s { registers = vs; flags = f })
  with_both vs f is = record { registers = is; slots = h.slots }

  -- one register, or a pair, gets values
  one_free : (vs : List AbsByte) (d : ℕ) (v : AbsByte) → Named vs → d < 32 → IsFree v.tag → Named (slice_set vs d v)
  one_free vs d v is lt free = set_of_good (names_of device) refl device is_root vs d v is lt (free_names device v.tag free)

  two_free : (vs : List AbsByte) (d : ℕ) (v w : AbsByte) → Named vs → d + 1 < 32 → IsFree v.tag → IsFree w.tag → Named (set_pair vs d v w)
  two_free vs d v w is lt free free' = pair_of_good (names_of device) refl device is_root vs d v w is lt (free_names device v.tag free) (free_names device w.tag free')

  -- a register's value
  register_named : (r : ℕ) → r < 32 → names (value s r).tag ≡ true
  register_named r lt = weak.tags r lt

  slot_named : (d : ℕ) → names (value_of (slot_at s.slots d)).tag ≡ true
  slot_named d = names_weaker device (value_of (slot_at s.slots d)).tag (slot_tag device (slot_at s.slots d) (h.slots d))

  pair_named : (d : ℕ) (up : Bool) (n : ℕ) → d + 1 < 32 → (view : SpView) → Named (pair_moved view s d up n)
  pair_named d up n lt view =
      let down : ℕ = down_by up n in
      two_free s.registers d _ _ weak lt (free_low_below (frame_of (value s d).tag (high_tag_of view s d)) down) (free_high_below (frame_of (value s d).tag (high_tag_of view s d)) down)

  pub pointer_named : (view : SpView) (p : Pointer) → Named (pointer_moved view p s)
  pointer_named view pointer.ZPlus = pair_named 30 true 1 (omega arith) view
  pointer_named view pointer.MinusZ = pair_named 30 false 1 (omega arith) view
  pointer_named view pointer.YPlus = pair_named 28 true 1 (omega arith) view
  pointer_named view pointer.MinusY = pair_named 28 false 1 (omega arith) view
  pointer_named view pointer.X = weak
  pointer_named view pointer.XPlus = pair_named 26 true 1 (omega arith) view
  pointer_named view pointer.MinusX = pair_named 26 false 1 (omega arith) view

  -- ---- reads

  sp_low_free : (kind : Kind) (sp : SpForm) → IsFree (sp_low device kind sp).tag
  sp_low_free Root (Closed offset) = tt
  sp_low_free Call (Closed offset) = tt
  sp_low_free (Vector v) (Closed offset) = tt
  sp_low_free kind (Open offset x) = tt

  sp_high_free : (kind : Kind) (sp : SpForm) → IsFree (sp_high device kind sp).tag
  sp_high_free Root (Closed offset) = tt
  sp_high_free Call (Closed offset) = tt
  sp_high_free (Vector v) (Closed offset) = tt
  sp_high_free kind (Open offset x) = tt

  if_named : (b : Bool) (v w : AbsByte) → names v.tag ≡ true → names w.tag ≡ true → names (if b then v else w).tag ≡ true
  if_named true v w e f = e
  if_named false v w e f = f

  slot_read_named : (kind : Kind) (a : ℕ) → names (slot_read device kind s a).tag ≡ true
  slot_read_named Root a = if_named (nat_le a (ramend device)) (value_of (slot_at s.slots (ramend device - a))) unknown (slot_named (ramend device - a)) refl
  slot_read_named Call a = refl
  slot_read_named (Vector v) a = refl

  place_named : (r : ℕ) → IsPlace device r → names (value s r).tag ≡ true
  place_named r (at_low lt) = register_named r lt
  place_named r (at_rampz has is) = subst (λ (n : ℕ). names (value s n).tag ≡ true) (sym is) (weak.rampz.tag (rampz_there device has))
  place_named r (at_eind has is) = subst (λ (n : ℕ). names (value s n).tag ≡ true) (sym is) (weak.eind.tag (eind_there device has))

  special_named : (may : Bool) (a : ℕ) (x : Option Special) → names (read_special device may k s a x).tag ≡ true
  special_named may a (Some Spl) = free_names device _ (sp_low_free k.inst.kind k.sp)
  special_named may a (Some Sph) = free_names device _ (sp_high_free k.inst.kind k.sp)
  special_named may a (Some Sreg) = free_names device _ (free_flags s.flags.entry)
  special_named may a None = if_named (nat_le a (io_end device)) (untagged (io_bits device may k.masks a)) _ refl (slot_read_named k.inst.kind a)

  behind_named : (may : Bool) (a : ℕ) (x : Option ℕ) → register_at device a ≡ x → names (read_behind device may k s a x).tag ≡ true
  behind_named may a (Some r) e = place_named r (place_of device a r e)
  behind_named may a None e = special_named may a (special device a)

  read_named : (may : Bool) (a : ℕ) → names (read_at device may k s a).tag ≡ true
  unfolding read_at
  read_named may a = behind_named may a (register_at device a) refl

  number_free : (may : Bool) (f : Option ℕ) → IsFree (read_constant device may k s f).tag
  number_free may None = tt
  number_free may (Some a) = by (nat_le a (io_end device))
    where
      by : (b : Bool) → IsFree (if b then untagged (read_at device may k s a).bits else valued tag.None (set_of (read_at device may k s a))).tag
      by true = tt
      by false = tt

  constant_named : (may : Bool) (f : Option ℕ) (v : AbsByte) → Some (read_constant device may k s f) ≡ Some v → names v.tag ≡ true
  constant_named may f v e = let is : read_constant device may k s f ≡ v = cc in subst (λ (w : AbsByte). names w.tag ≡ true) is (free_names device _ (number_free may f))

  both_named : (may : Bool) (f : Option ℕ) (v w : AbsByte) → names v.tag ≡ true → read_both device may k s f v ≡ Some w → names w.tag ≡ true
  both_named may None v w is e = let eq : v ≡ w = cc in subst (λ (x : AbsByte). names x.tag ≡ true) eq is
  both_named may (Some a) v w is e =
      let met = tag_met v.tag (set_meet (set_of (read_number device may k s a)) (set_of v)) w e in
      ap (λ (x : AbsByte). names x.tag) met.1.1 ∙ is

  frame_named : (may : Bool) (f g : Option ℕ) (v : AbsByte) → read_frame device may k s f g ≡ Some v → names v.tag ≡ true
  frame_named may f None v e = constant_named may f v e
  frame_named may f (Some d) v e = by (nat_lt d (length s.slots)) e
    where
      by : (b : Bool) → (if b then read_both device may k s f (value_of (slot_at s.slots d)) else Some (read_constant device may k s f)) ≡ Some v → names v.tag ≡ true
      by true e = both_named may f (value_of (slot_at s.slots d)) v (slot_named d) e
      by false e = constant_named may f v e

  pointed_named : (may : Bool) (p : Pointed) (v : AbsByte) → read_pointed device may k s p ≡ Some v → names v.tag ≡ true
  pointed_named may p v e = frame_named may p.constant p.frame v e

  loading_of : (vs : List AbsByte) (d : ℕ) (x : Option AbsByte) → Named vs → d < 32 → ((v : AbsByte) → x ≡ Some v → names v.tag ≡ true) → All (loading (site_at device k s) vs d x)
  loading_of vs d None is lt each = each_none Of
  loading_of vs d (Some v) is lt each = each_one Of _ _ (with_both (slice_set vs d v) s.flags (set_of_good (names_of device) refl device is_root vs d v is lt (each v refl)))

  -- ---- by the operation

  abbrev ComputedOf : Option Computed → Type 0
  ComputedOf None = ⊤
  ComputedOf (Some c) = Named c.registers

  by_of : (c : Option Computed) (r : Raw) → ComputedOf c → All r → All (going_by (site_at device k s) c r)
  by_of None r is all = all
  by_of (Some c) r is all = each_one Of _ _ (with_both c.registers c.flags is)

  -- a bit operation keeps the value, or sets one without a tag
  logic_named : (d : ℕ) (is : Bool) (v : AbsByte) → d < 32 → IsFree v.tag → Named (set s d (if is then value s d else v))
  logic_named d true v lt free = set_of_good (names_of device) refl device is_root s.registers d (value s d) weak lt (register_named d lt)
  logic_named d false v lt free = one_free s.registers d v weak lt free

  copied : (d r : ℕ) → d < 32 → r < 32 → Named (set s d (value s r))
  copied d r lt lt' = set_of_good (names_of device) refl device is_root s.registers d (value s r) weak lt (register_named r lt')

  binary_of : (view : SpView) (op : BinaryOp) (d r : ℕ) → d < 32 → r < 32 → ComputedOf (binary_after view s op d r)
  binary_of view binary.Cpc d r lt lt' = weak
  binary_of view binary.Sbc d r lt lt' =
      one_free s.registers d _ weak lt (free_high (seen_high view (carry_number s.flags.carry) (value s d)) (byte_constant (bits s r)) s.flags.carry)
  binary_of view binary.Add d r lt lt' = one_free s.registers d _ weak lt tt
  binary_of view binary.Cpse d r lt lt' = tt
  binary_of view binary.Cp d r lt lt' = weak
  binary_of view binary.Sub d r lt lt' = one_free s.registers d _ weak lt (free_low (value s d).tag (byte_constant (bits s r)))
  binary_of view binary.Adc d r lt lt' = one_free s.registers d _ weak lt tt
  binary_of view binary.And d r lt lt' = logic_named d (d == r) _ lt tt
  binary_of view binary.Eor d r lt lt' = logic_named d false _ lt tt
  binary_of view binary.Or d r lt lt' = logic_named d (d == r) _ lt tt
  binary_of view binary.Mov d r lt lt' = copied d r lt lt'
  binary_of view binary.Mul d r lt lt' = two_free s.registers 0 _ _ weak (omega arith) tt tt

  framed_of : (view : SpView) (op : BinaryOp) (d r : ℕ) → d < 32 → r < 32 → ComputedOf (framed_binary view s op d r)
  framed_of view binary.Cpc d r lt lt' = binary_of view binary.Cpc d r lt lt'
  framed_of view binary.Sbc d r lt lt' = binary_of view binary.Sbc d r lt lt'
  framed_of view binary.Add d r lt lt' = one_free s.registers d _ weak lt (free_more (tag_followed s d r) (number_added s d r))
  framed_of view binary.Cpse d r lt lt' = tt
  framed_of view binary.Cp d r lt lt' = weak
  framed_of view binary.Sub d r lt lt' = one_free s.registers d _ weak lt (free_less (value s d).tag (byte_constant (bits s r)))
  framed_of view binary.Adc d r lt lt' =
      one_free s.registers d _ weak lt (free_sum (seen_high view (carry_number s.flags.carry) (value s (followed d r))) (number_added s d r) s.flags.carry)
  framed_of view binary.And d r lt lt' = binary_of view binary.And d r lt lt'
  framed_of view binary.Eor d r lt lt' = binary_of view binary.Eor d r lt lt'
  framed_of view binary.Or d r lt lt' = binary_of view binary.Or d r lt lt'
  framed_of view binary.Mov d r lt lt' = binary_of view binary.Mov d r lt lt'
  framed_of view binary.Mul d r lt lt' = binary_of view binary.Mul d r lt lt'

  line_of : (view : SpView) (framed : Bool) (op : BinaryOp) (d r : ℕ) → d < 32 → r < 32 → ComputedOf (if framed then framed_binary view s op d r else binary_after view s op d r)
  line_of view true op d r lt lt' = framed_of view op d r lt lt'
  line_of view false op d r lt lt' = binary_of view op d r lt lt'

  immediate_of : (view : SpView) (op : ImmediateOp) (d n : ℕ) → d < 32 → Named (immediate_after view s op d n).registers
  immediate_of view immediate.Cpi d n lt = weak
  immediate_of view immediate.Sbci d n lt = one_free s.registers d _ weak lt (free_high (seen_high view (carry_number s.flags.carry) (value s d)) (Some n) s.flags.carry)
  immediate_of view immediate.Subi d n lt = one_free s.registers d _ weak lt (free_low (value s d).tag (Some n))
  immediate_of view immediate.Ori d n lt = one_free s.registers d _ weak lt tt
  immediate_of view immediate.Andi d n lt = one_free s.registers d _ weak lt tt
  immediate_of view immediate.Ldi d n lt = one_free s.registers d _ weak lt tt

  framed_immediate_of : (view : SpView) (op : ImmediateOp) (d n : ℕ) → d < 32 → Named (framed_immediate view s op d n).registers
  framed_immediate_of view immediate.Cpi d n lt = weak
  framed_immediate_of view immediate.Sbci d n lt = immediate_of view immediate.Sbci d n lt
  framed_immediate_of view immediate.Subi d n lt = one_free s.registers d _ weak lt (free_less (value s d).tag (Some n))
  framed_immediate_of view immediate.Ori d n lt = immediate_of view immediate.Ori d n lt
  framed_immediate_of view immediate.Andi d n lt = immediate_of view immediate.Andi d n lt
  framed_immediate_of view immediate.Ldi d n lt = immediate_of view immediate.Ldi d n lt

  immediate_line_of : (view : SpView) (line : Bool) (op : ImmediateOp) (d n : ℕ) → d < 32 → Named (immediate_at view line s op d n).registers
  immediate_line_of view true op d n lt = framed_immediate_of view op d n lt
  immediate_line_of view false op d n lt = immediate_of view op d n lt

  unary_of : (op : UnaryOp) (d : ℕ) → d < 32 → Named (unary_after s op d).registers
  unary_of unary.Com d lt = one_free s.registers d _ weak lt tt
  unary_of unary.Neg d lt = one_free s.registers d _ weak lt tt
  unary_of unary.Swap d lt = one_free s.registers d _ weak lt tt
  unary_of unary.Inc d lt = one_free s.registers d _ weak lt tt
  unary_of unary.Asr d lt = one_free s.registers d _ weak lt tt
  unary_of unary.Lsr d lt = one_free s.registers d _ weak lt tt
  unary_of unary.Ror d lt = one_free s.registers d _ weak lt tt
  unary_of unary.Dec d lt = one_free s.registers d _ weak lt tt

  framed_unary_of : (op : UnaryOp) (d : ℕ) → d < 32 → Named (framed_unary s op d).registers
  framed_unary_of unary.Com d lt = unary_of unary.Com d lt
  framed_unary_of unary.Neg d lt = unary_of unary.Neg d lt
  framed_unary_of unary.Swap d lt = unary_of unary.Swap d lt
  framed_unary_of unary.Inc d lt = one_free s.registers d _ weak lt (free_moved (value s d).tag true 1)
  framed_unary_of unary.Asr d lt = unary_of unary.Asr d lt
  framed_unary_of unary.Lsr d lt = unary_of unary.Lsr d lt
  framed_unary_of unary.Ror d lt = unary_of unary.Ror d lt
  framed_unary_of unary.Dec d lt = one_free s.registers d _ weak lt (free_moved (value s d).tag false 1)

  unary_line_of : (line : Bool) (op : UnaryOp) (d : ℕ) → d < 32 → Named (unary_at line s op d).registers
  unary_line_of true op d lt = framed_unary_of op d lt
  unary_line_of false op d lt = unary_of op d lt

  product_of : (op : Mul) (v w : AbsByte) → IsFree v.tag → IsFree w.tag → Named (set_pair s.registers 0 v w)
  product_of op v w free free' = two_free s.registers 0 v w weak (omega arith) free free'

  extended_of : has_elpm device ≡ true → Named (extended_moved (site_at device k s))
  extended_of has =
      rampz_set (names_of device) refl device is_root (pair_moved (view_by device k) s 30 true 1) _ (pair_named 30 true 1 (omega arith) (view_by device k))
      (stepped_of (names_of device) refl device is_root has s weak.rampz)

  -- ---- control flow

  interrupts_of : (on : Bool) → All (interrupts_row (site_at device k s) on)
  interrupts_of true = each_one Of _ s same
  interrupts_of false = each_one Of _ s same

  flag_of : (n : ℕ) (on : Bool) → All (flag_row (site_at device k s) n on)
  flag_of n on = each_if Of (n == 7) _ _ (interrupts_of on) (each_one Of _ _ (with_both s.registers _ weak))

  value_where : (r : ℕ) (x : Option AbsByte) (u : AbsState) → r < 32 → ((v : AbsByte) → x ≡ Some v → names v.tag ≡ true) → with_value s r x ≡ Some u → Of u
  value_where r None u lt each e = absurd (cc)
  value_where r (Some v) u lt each e =
      let is : record s { registers = set s r v } ≡ u = cc in
      subst (λ (t : AbsState). Of t) is (with_both (set s r v) s.flags (set_of_good (names_of device) refl device is_root s.registers r v weak lt (each v refl)))

  carry_where : (c : CarryTag) (on : Bool) (u : AbsState) → CarryNamesRegister c → where_carry c s on ≡ Some u → Of u
  carry_where carry.None on u names e = let is : s ≡ u = cc in subst (λ (t : AbsState). Of t) is same
  carry_where (carry.Borrow j l) on u names e = let is : s ≡ u = cc in subst (λ (t : AbsState). Of t) is same
  carry_where (carry.Sum j l) on u names e = let is : s ≡ u = cc in subst (λ (t : AbsState). Of t) is same
  carry_where (carry.Less r n) on u lt e =
      value_where r (part_of on (value s r) n) u lt (λ v is. ap names (part_tag on (value s r) v n is) ∙ register_named r lt) e

  carry_of : (t : Tri) (set' clear : ℕ) → CarryNamesRegister s.flags.carry → All (carry_branch t k s set' clear)
  carry_of One set' clear lt = each_where Of k (where_carry s.flags.carry s true) set' (λ u. carry_where s.flags.carry true u lt)
  carry_of Zero set' clear lt = each_where Of k (where_carry s.flags.carry s false) clear (λ u. carry_where s.flags.carry false u lt)
  carry_of Any set' clear lt =
      each_both Of (going_where k (where_carry s.flags.carry s false) clear) (going_where k (where_carry s.flags.carry s true) set')
      (each_where Of k (where_carry s.flags.carry s false) clear (λ u. carry_where s.flags.carry false u lt))
      (each_where Of k (where_carry s.flags.carry s true) set' (λ u. carry_where s.flags.carry true u lt))

  turn_of : (n set' clear : ℕ) (t : Tri) (taken other : ℕ) → CarryNamesRegister s.flags.carry → All (flag_branch n (record { key = k; state = s }) set' clear (branch t k s taken other))
  turn_of n set' clear t taken other lt = each_if Of (n == 0) _ _ (carry_of (carry_bit s) set' clear lt) (each_branch Of t _ _ s same)

  -- ---- the stack

  pushed_one : (scratch : Bool) (r : ℕ) → r < 32 → IsSlotOf (is_tag_of device) (pushed_slot scratch (value s r))
  pushed_one true r lt = tt
  pushed_one false r lt = h.registers.tags r lt

  push_of : (scratch : Bool) (r offset : ℕ) → r < 32 → All (pushing scratch (site_at device k s) r offset)
  push_of scratch r offset lt =
      each_if Of (nat_le (offset + 1) (size_of device)) _ _
      (each_one Of _ _ (record { registers = weak; slots = pushed_of device s.slots (pushed_slot scratch (value s r)) h.slots (pushed_one scratch r lt) })) (each_none Of)

  pop_of : (d offset : ℕ) → d < 32 → All (popping (site_at device k s) d offset)
  pop_of d zero lt = each_none Of
  pop_of d (suc n) lt =
      each_one Of _ _
      (record {
        registers = set_of_good (names_of device) refl device is_root s.registers d (value_of (slot_at s.slots n)) weak lt (slot_named n);
        slots = taken_of device s.slots n h.slots;
      })

  making_of : (target offset : ℕ) → All (making_room (site_at device k s) target offset)
  making_of target offset =
      each_if Of (nat_le (offset + back_of device) (size_of device)) _ _ (each_one Of _ _ (record { registers = weak; slots = room_of device s.slots (back_of device) h.slots })) (each_none Of)

  relative_of : (scratch : Bool) (target : ℕ) → All (relative_call scratch (site_at device k s) target)
  relative_of true target = each_closed Of k.sp k.pc _ (making_of target)
  relative_of false target = each_calling Of k (further device k 1) (target ∷ [])

-- ---- the table

base_value : (device : Device) (is_root : Bool) (s : AbsState) → IsOf (is_tag_of device) device is_root s → (r : ℕ) → r < 32 → names_of device (value s r).tag ≡ true
base_value device is_root s h r lt = names_weaker device (value s r).tag (h.registers.tags r lt)

module _ (device : Device) (is_root : Bool) (task : Task) (scratch : Bool) (k : NodeKey) (s : AbsState) (h : IsOf (is_tag_of device) device is_root s)
    (carries : CarryNamesRegister s.flags.carry) where
  abbrev G : Tag → Bool
  G = names_of device

  abbrev Q : AbsState → Type 0
  Q t = IsOf (names_of device) device is_root t

  abbrev may : Bool
  may = reads_masks device task.assumptions

  regs : AreOf (names_of device) device is_root s.registers
  regs = registers_weaker device is_root s.registers h.registers

  strong : Q s
  strong = state_weaker device is_root s h

  set_at : (vs : List AbsByte) (f : AbsFlags) → AreOf (names_of device) device is_root vs → Q (record s { registers = vs; flags = f })
  set_at vs f is = record { registers = is; slots = h.slots }

  free_at : (d : ℕ) (v : AbsByte) → d < 32 → IsFree v.tag → AreOf (names_of device) device is_root (set s d v)
  free_at d v lt free = one_free device is_root k s h s.registers d v regs lt free

  pub row_of_device : (instr : Instr) → InstrFits instr → HasRegisters instr → IsSupported device instr → AllOf (IsOf (names_of device) device is_root) (row_of task scratch (site_at device k s) instr)
  row_of_device (i.Movw d r) fits has supported =
      let lt : 2 * d + 1 < 32 = omega (arith, has.0) in
      let lo : 2 * r < 32 = omega (arith, has.1) in
      let hi : 2 * r + 1 < 32 = omega (arith, has.1) in
      each_one Q _ _ (set_at _ _ (pair_of_good G refl device is_root s.registers (2 * d) _ _ regs lt (regs.tags (2 * r) lo) (regs.tags (2 * r + 1) hi)))
  row_of_device (i.Muls d r) fits has supported = each_one Q _ _ (set_at _ _ (two_free device is_root k s h s.registers 0 _ _ regs (omega arith) tt tt))
  row_of_device (i.Mulsu d r) fits has supported = each_one Q _ _ (set_at _ _ (two_free device is_root k s h s.registers 0 _ _ regs (omega arith) tt tt))
  row_of_device (i.Fmul d r) fits has supported = each_one Q _ _ (set_at _ _ (two_free device is_root k s h s.registers 0 _ _ regs (omega arith) tt tt))
  row_of_device (i.Fmuls d r) fits has supported = each_one Q _ _ (set_at _ _ (two_free device is_root k s h s.registers 0 _ _ regs (omega arith) tt tt))
  row_of_device (i.Fmulsu d r) fits has supported = each_one Q _ _ (set_at _ _ (two_free device is_root k s h s.registers 0 _ _ regs (omega arith) tt tt))
  row_of_device (i.Binary op d r) fits has supported =
      by_of device is_root k s h _ _ (line_of device is_root k s h (view_by device k) (is_followed (is_frame task.assumptions k.pc) d r) op d r has.0 has.1) (each_branch Q (byte_equal (bits s d) (bits s r)) _ _ s strong)
  row_of_device (i.Immediate op d n) fits has supported = each_one Q _ _ (set_at _ _ (immediate_line_of device is_root k s h (view_by device k) (is_frame task.assumptions k.pc) op d n has.0))
  row_of_device (i.Unary op d) fits has supported = each_one Q _ _ (set_at _ _ (unary_line_of device is_root k s h (is_frame task.assumptions k.pc) op d has))
  row_of_device (i.Adiw d n) fits has supported = each_one Q _ _ (set_at _ _ (pair_named device is_root k s h (2 * d) true n (omega (arith, has.0)) (view_by device k)))
  row_of_device (i.Sbiw d n) fits has supported = each_one Q _ _ (set_at _ _ (pair_named device is_root k s h (2 * d) false n (omega (arith, has.0)) (view_by device k)))
  row_of_device (i.Bset n) fits has supported = flag_of device is_root k s h n true
  row_of_device (i.Bclr n) fits has supported = flag_of device is_root k s h n false
  row_of_device (i.Bld d b) fits has supported = each_one Q _ _ (set_at _ _ (free_at d _ has tt))
  row_of_device (i.Bst d b) fits has supported = each_one Q _ _ (set_at _ _ regs)
  row_of_device (i.Ldd d b q) fits has supported =
      loading_of device is_root k s h s.registers d _ regs has (pointed_named device is_root k s h may (pointed (view_by device k) s (base_register b) q))
  row_of_device (i.Std b q r) fits has supported =
      pointer_of G refl device is_root task s (base_register b) q k.pc (next device k) s (value s r) strong (base_value device is_root s h r fits)
  row_of_device (i.Lds d a) fits has supported =
      each_one Q _ _ (set_at _ _ (set_of_good G refl device is_root s.registers d _ regs has (read_named device is_root k s h may a)))
  row_of_device (i.Sts a r) fits has supported =
      written_of G refl device is_root k.pc (at_word k (further device k 2)) s (value s r) false a strong (base_value device is_root s h r fits)
  row_of_device (i.Ld d p) fits has supported =
      loading_of device is_root k s h (pointer_moved (view_by device k) p s) d _ (pointer_named device is_root k s h (view_by device k) p) has
      (pointed_named device is_root k s h may (pointed (view_by device k) s (pointer_register p) (step_before p)))
  row_of_device (i.St p r) fits has supported =
      pointer_of G refl device is_root task s (pointer_register p) (step_before p) k.pc (next device k) (record s { registers = pointer_moved (view_by device k) p s }) (value s r)
      (set_at _ _ (pointer_named device is_root k s h (view_by device k) p)) (base_value device is_root s h r fits)
  row_of_device (i.LpmZ d) fits has supported = each_one Q _ _ (set_at _ _ (free_at d _ has (flash_free task.flash (pair_constant s 30))))
  row_of_device (i.LpmZPlus d) fits has supported =
      each_one Q _ _ (set_at _ _ (one_free device is_root k s h _ d _ (pair_named device is_root k s h 30 true 1 (omega arith) (view_by device k)) has (flash_free task.flash (pair_constant s 30))))
  row_of_device i.Lpm fits has supported = each_one Q _ _ (set_at _ _ (free_at 0 _ (omega arith) (flash_free task.flash (pair_constant s 30))))
  row_of_device (i.ElpmZ d) fits has supported = each_one Q _ _ (set_at _ _ (free_at d _ has (flash_free task.flash (extended_constant s))))
  row_of_device (i.ElpmZPlus d) fits has supported =
      each_one Q _ _ (set_at _ _ (one_free device is_root k s h _ d _ (extended_of device is_root k s h supported) has (flash_free task.flash (extended_constant s))))
  row_of_device i.Elpm fits has supported = each_one Q _ _ (set_at _ _ (free_at 0 _ (omega arith) (flash_free task.flash (extended_constant s))))
  row_of_device (i.Pop d) fits has supported = each_closed Q k.sp k.pc _ (λ offset. pop_of device is_root k s h d offset has)
  row_of_device (i.Push r) fits has supported = each_closed Q k.sp k.pc _ (λ offset. push_of device is_root k s h (scratch || has_scratch task.assumptions k.pc) r offset fits)
  row_of_device (i.In d a) fits has supported =
      each_one Q _ _ (set_at _ _ (set_of_good G refl device is_root s.registers d _ regs has (read_named device is_root k s h may (port device a))))
  row_of_device (i.Out a r) fits has supported = written_of G refl device is_root k.pc (next device k) s (value s r) true (port device a) strong (base_value device is_root s h r fits)
  row_of_device (i.Cbi a b) fits has supported = written_of G refl device is_root k.pc (next device k) s _ false (port device a) strong refl
  row_of_device (i.Sbi a b) fits has supported = written_of G refl device is_root k.pc (next device k) s _ false (port device a) strong refl
  row_of_device i.Ijmp fits has supported = each_jumping Q (targets_at task.assumptions (site_at device k s)) k s strong
  row_of_device i.Icall fits has supported = each_indirect Q device (targets_at task.assumptions (site_at device k s)) k
  row_of_device i.Eijmp fits has supported = each_jumping Q (far_targets_at task.assumptions (site_at device k s)) k s strong
  row_of_device i.Eicall fits has supported = each_indirect Q device (far_targets_at task.assumptions (site_at device k s)) k
  row_of_device i.Ret fits has supported = each_closed Q k.sp k.pc _ (each_returning Q (ret_exit k) k.pc k.inst.kind)
  row_of_device i.Reti fits has supported = each_closed Q k.sp k.pc _ (each_returning Q (reti_exit k) k.pc k.inst.kind)
  row_of_device (i.Jmp t) fits has supported = each_one Q _ s strong
  row_of_device (i.Call t) fits has supported = each_calling Q k (further device k 2) (wrapped device t ∷ [])
  row_of_device (i.Rjmp t) fits has supported = each_one Q _ s strong
  row_of_device (i.Rcall t) fits has supported = relative_of device is_root k s h scratch (wrapped device (far k.pc t))
  row_of_device (i.Brbs n t) fits has supported = turn_of device is_root k s h n (wrapped device (near k.pc t)) (further device k 1) (flag_at k s n) _ _ carries
  row_of_device (i.Brbc n t) fits has supported = turn_of device is_root k s h n (further device k 1) (wrapped device (near k.pc t)) (tri_not (flag_at k s n)) _ _ carries
  row_of_device (i.Sbic a b) fits has supported = each_branch Q (tri_not (tri_at (read_at device may k s (port device a)).bits b)) _ _ s strong
  row_of_device (i.Sbis a b) fits has supported = each_branch Q (tri_at (read_at device may k s (port device a)).bits b) _ _ s strong
  row_of_device (i.Sbrc r b) fits has supported = each_branch Q (tri_not (tri_at (bits s r) b)) _ _ s strong
  row_of_device (i.Sbrs r b) fits has supported = each_branch Q (tri_at (bits s r) b) _ _ s strong
  row_of_device i.Nop fits has supported = each_one Q _ s strong
  row_of_device i.Sleep fits has supported = each_one Q _ s strong
  row_of_device i.Break fits has supported = each_one Q _ s strong
  row_of_device i.Wdr fits has supported = each_one Q _ s strong
