-- The value of a read byte holds of the byte that the machine reads.
use Rattle.std.proofs.Common.{◌≡◌, refl, sym, ◌∙◌, ap, subst, ℕ, ◌+◌, ◌-◌, ◌%◌, ◌<◌, ◌≤◌, ⊎_elim, Bool, true, false, if◌then◌else◌, ◌&&◌, nat_le, length, Option, Some, None, arith, leb-true}
use Rattle.std.proofs.lemmas.Bool.{cases_lt}
use Rattle.std.proofs.lemmas.Bool.Decides.{nat_tests}
use Rattle.std.proofs.lemmas.Nat.Bits.{bit_at-lt}
use Rattle.std.proofs.lemmas.List.{get_or_past}
use Rattle.std.proofs.lemmas.List.Elements.{All-get_or}
use Rattle.std.specs.Int.{bit_at, from_bool}
use Rattle.abs_alu.proofs.AllLaws.{any_has}
use Rattle.local_laws.proofs.Machine.{read_small as machine_reads, sp_small, io_value, io_small, free_bit, free_small}
use Rattle.avr_model.proofs.AllLaws.{devices_are_alike}
use Rattle.avr_model.specs.Devices.{io_end, ramend, has_sph}
use Rattle.avr_model.specs.declared.device.Device.{Device}
use Rattle.avr_model.specs.Sreg.{flag}
use Rattle.avr_model.specs.Vectors.{enable_of, held_of, has_enables, is_moving, io_bit, io_byte, kept_byte}
use Rattle.avr_model.specs.declared.device.Special.{Special}
use Rattle.avr_model.specs.declared.device.Special.TheVariants.{Spl, Sph, Sreg}
use Rattle.avr_model.specs.State.{State, register_at, special, read_behind as machine_behind, read, sram_at, byte_in, is_live, is_sram, low, high, minus16}
use Rattle.vector_table.proofs.AllLaws.{enables_are_vectors, numbers_are_their_bits}
use Rattle.bit_domain.specs.declared.bits.Tri.{Tri}
use Rattle.bit_domain.specs.declared.bits.Tri.TheVariants.{Zero}
use Rattle.bit_domain.specs.Tri.{Permits, tri_bit}
use Rattle.bit_domain.specs.TriByte.{Has, byte_any, byte_known, byte_with}
use Rattle.bit_domain.proofs.AllLaws.{bytes_are_sets, writes_cover, permits-tri_bit}
use Rattle.sp_domain.specs.declared.tags.Tag.TheVariants as tag
use Rattle.sp_domain.specs.declared.slots.Slot.{Slot}
use Rattle.sp_domain.specs.declared.slots.Slot.TheVariants.{Free, Guarded}
use Rattle.sp_domain.specs.Tags.{Origin, TagHolds, low_of, high_of}
use Rattle.sp_domain.specs.Slots.{slot_at}
use Rattle.abs_state.specs.declared.values.AbsByte.{AbsByte}
use Rattle.abs_state.specs.declared.state.AbsState.{AbsState}
use Rattle.abs_state.specs.Values.{untagged, unknown, known, valued, set_of}
use Rattle.abs_state.proofs.AllLaws.{bits_make_values, any_stands}
use Rattle.abs_state.specs.Stands.{ByteStands, EntryHolds, SlotStands}
use Rattle.node_keys.specs.declared.keys.NodeKey.{NodeKey}
use Rattle.node_keys.specs.declared.keys.Kind.{Kind}
use Rattle.node_keys.specs.declared.keys.Kind.TheVariants.{Root, Call, Vector}
use Rattle.node_keys.specs.declared.keys.SpForm.{SpForm}
use Rattle.node_keys.specs.declared.keys.SpForm.TheVariants.{Closed, Open}
use Rattle.node_keys.specs.Place.{EnablesAre, SpIs}
use Rattle.local_rules.specs.Registers.{with_bits}
use Rattle.local_rules.specs.Reads.{sp_low, sp_high, flags_tag, sreg_value, enable_read, io_tri, free_tri, io_bits, kept_bits, value_of, slot_read, read_special, read_behind, read_at}
use Rattle.local_laws.proofs.Bare.{InBareFrame}
use Rattle.local_laws.proofs.Enables.{bit_permits, vector_small}
use Rattle.local_laws.proofs.Specials.{none_behind, special_byte, byte_is}
use Rattle.local_laws.proofs.Frame.{register_stands}
use Rattle.local_laws.proofs.Memory.{inside_if_live}

-- ---- bits that are known

pub known_stands : (o : Origin) (x : ℕ) → x < 256 → ByteStands o (known x) x
known_stands o x small =
    bits_make_values.stands o tag.None (byte_known x) x small tt (bytes_are_sets.built (λ i. tri_bit (bit_at x i)) x (λ i lt. permits-tri_bit (bit_at x i) (bit_at-lt x i)))

pub untagged_stands : (o : Origin) (v : AbsByte) (x : ℕ) → ByteStands o v x → ByteStands o (untagged v.bits) x
untagged_stands o v x h = bits_make_values.stands o tag.None v.bits x h.small tt h.bits

-- the bits and the range without the tag
pub range_stands : (o : Origin) (v : AbsByte) (x : ℕ) → ByteStands o v x → ByteStands o (valued tag.None (set_of v)) x
range_stands o v x h = record { tag = tt; bits = h.bits; low = h.low; high = h.high; small = h.small }

-- ---- the stack pointer's bytes

in_frame : (base offset sp : ℕ) → base < 65536 → sp + offset ≡ base → sp ≡ minus16 base offset
in_frame base offset sp word e = omega arith

low_byte : (base offset : ℕ) → low (minus16 base offset) ≡ low (minus16 base (offset % 256))
low_byte base offset = omega arith

high_byte : (base offset : ℕ) → high (minus16 base offset) ≡ high (minus16 base (offset % 65536))
high_byte base offset = omega arith

module _ (device : Device) (o : Origin) (word : o.base < 65536) (is_open : Bool) (sp : ℕ) (small : sp < 65536) where
  tagged_low : (offset : ℕ) → sp + offset ≡ o.base → ByteStands o (with_bits (low_of offset) byte_any) (low sp)
  tagged_low offset e =
      bits_make_values.stands o (low_of offset) byte_any (low sp) (omega arith) (ap low (in_frame o.base offset sp word e) ∙ low_byte o.base offset) (any_has (low sp))

  tagged_high : (offset : ℕ) → sp + offset ≡ o.base → ByteStands o (with_bits (high_of offset) byte_any) (high sp)
  tagged_high offset e =
      bits_make_values.stands o (high_of offset) byte_any (high sp) (omega (arith, small)) (ap high (in_frame o.base offset sp word e) ∙ high_byte o.base offset) (any_has (high sp))

  pub low_stands : (kind : Kind) (form : SpForm) → (kind ≡ Root → o.base ≡ ramend device) → SpIs o.base is_open sp form → ByteStands o (sp_low device kind form) (low sp)
  low_stands kind (Open offset h) root is = any_stands o (low sp) (omega arith)
  low_stands Root (Closed offset) root is =
      let e : sp ≡ ramend device - offset = omega (arith, root refl, is.1) in
      subst (λ x. ByteStands o (known (low x)) (low sp)) e (known_stands o (low sp) (omega arith))
  low_stands Call (Closed offset) root is = tagged_low offset is.1
  low_stands (Vector v) (Closed offset) root is = tagged_low offset is.1

  pub high_stands : (kind : Kind) (form : SpForm) → (kind ≡ Root → o.base ≡ ramend device) → SpIs o.base is_open sp form → ByteStands o (sp_high device kind form) (high sp)
  high_stands kind (Open offset h) root is = any_stands o (high sp) (omega (arith, small))
  high_stands Root (Closed offset) root is =
      let e : sp ≡ ramend device - offset = omega (arith, root refl, is.1) in
      subst (λ x. ByteStands o (known (high x)) (high sp)) e (known_stands o (high sp) (omega (arith, small)))
  high_stands Call (Closed offset) root is = tagged_high offset is.1
  high_stands (Vector v) (Closed offset) root is = tagged_high offset is.1

-- ---- the status register

entry_holds : (o : Origin) (entry : Bool) (sreg : ℕ) → EntryHolds o entry sreg → TagHolds o (flags_tag entry) sreg
entry_holds o true sreg h = h
entry_holds o false sreg h = tt

flag_permits : (sreg n : ℕ) (on : Bool) → flag sreg n ≡ on → Permits (tri_bit (from_bool on)) (bit_at sreg n)
flag_permits sreg n on e =
    let bit : bit_at sreg n < 2 = bit_at-lt sreg n in
    let is : bit_at sreg n ≡ from_bool on = grind (arith, nat_tests) in
    subst (λ x. Permits (tri_bit x) (bit_at sreg n)) is (permits-tri_bit (bit_at sreg n) bit)

-- ---- I/O

-- the value of a vector's enable bit permits the bit
abbrev ReadsBit : Bool → ℕ → ℕ → Option ℕ → Type 0
ReadsBit may enables masks x = (v : ℕ) → x ≡ Some v → Permits (enable_read may (bit_at masks (v - 2))) (bit_at enables (v - 2))

io_permits : (free : Tri) (may : Bool) (v : Option ℕ) (enables masks bit : ℕ) → Permits free bit → ReadsBit may enables masks v
    → Permits (io_tri free may v masks) (io_bit v enables bit)
io_permits free may None enables masks bit can h = can
io_permits free may (Some v) enables masks bit can h = h v refl

-- the value of a bit that no key knows permits it
free_permits : (still : Bool) (bit : ℕ) → Permits (free_tri still) (if still then 0 else bit)
free_permits true bit = refl
free_permits false bit = tt

io_has : (device : Device) (may : Bool) (enables masks a input : ℕ) → EnablesAre may enables masks → Has (io_bits device may masks a) (io_byte device may enables a input)
unfolding io_byte
io_has device may enables masks a input h =
    bytes_are_sets.built (λ b. io_tri (free_tri (may && is_moving device a b)) may (held_of device a b) masks) (io_byte device may enables a input) (λ b lt.
    subst (Permits (io_tri (free_tri (may && is_moving device a b)) may (held_of device a b) masks))
    (sym (numbers_are_their_bits.bits 8 (λ j. io_bit (held_of device a j) enables (free_bit device may a input j))
    (λ j l. io_value (held_of device a j) enables (free_bit device may a input j) (free_small device may a input j)) b lt))
    (io_permits (free_tri (may && is_moving device a b)) may (held_of device a b) enables masks (free_bit device may a input b) (free_permits (may && is_moving device a b) (bit_at input b))
    (λ v e. bit_permits may enables masks (v - 2) (vector_small device v (enables_are_vectors.held_vector device a b v e)) h)))

-- the byte of which one bit is changed, by each bit that enables a vector
kept_has_by : (device : Device) (enables masks a : ℕ) → ((b : ℕ) → ReadsBit false enables masks (enable_of device a b)) → Has (kept_bits device masks a) (kept_byte device enables a)
unfolding kept_byte
kept_has_by device enables masks a h =
    bytes_are_sets.built (λ b. io_tri Zero false (enable_of device a b) masks) (kept_byte device enables a) (λ b lt.
    subst (Permits (io_tri Zero false (enable_of device a b) masks))
    (sym (numbers_are_their_bits.bits 8 (λ j. io_bit (enable_of device a j) enables 0) (λ j l. io_value (enable_of device a j) enables 0 (omega arith)) b lt))
    (io_permits Zero false (enable_of device a b) enables masks 0 refl (h b)))

pub kept_has : (device : Device) (masks a : ℕ) → Has (kept_bits device masks a) (kept_byte device masks a)
kept_has device masks a = kept_has_by device masks masks a (λ b v e. permits-tri_bit (bit_at masks (v - 2)) (bit_at-lt masks (v - 2)))

-- at an address without enable bits nothing is claimed
pub none_kept : (device : Device) (enables masks a : ℕ) → has_enables device a ≡ false → Has (kept_bits device masks a) (kept_byte device enables a)
none_kept device enables masks a none = kept_has_by device enables masks a (λ b v e. absurd (let no = sym (enables_are_vectors.no_enable device a b none) ∙ e in cc))

-- ---- SRAM

pub inside_numbers : (device : Device) (a : ℕ) → is_sram device a ≡ true → (io_end device < a) × (a ≤ ramend device)
inside_numbers device a h = (grind (arith, nat_tests), grind (arith, nat_tests))

-- a test that chooses on both sides
by_test : (o : Origin) (b : Bool) (v w : AbsByte) (x y : ℕ) → ByteStands o v x → ByteStands o w y → ByteStands o (if b then v else w) (if b then x else y)
by_test o true v w x y h g = h
by_test o false v w x y h g = g

small_by_test : (b : Bool) (x y : ℕ) → x < 256 → y < 256 → (if b then x else y) < 256
small_by_test true x y h g = h
small_by_test false x y h g = g

test_only : (o : Origin) (b : Bool) (v : AbsByte) (x : ℕ) → x < 256 → (b ≡ true → ByteStands o v x) → ByteStands o (if b then v else unknown) x
test_only o true v x small h = h refl
test_only o false v x small h = any_stands o x small

module _ {may : Bool} (m : State) (o : Origin) (k : NodeKey) (s : AbsState) (at : InBareFrame may m o k s) where
  byte_small : (a : ℕ) → byte_in m.memory.below m.memory.bytes a < 256
  unfolding byte_in
  byte_small a =
      ⊎_elim
      (λ lt. All-get_or (λ b. b < 256) m.memory.bytes (a - (m.memory.below + 1)) 0 lt at.machine.sram_bytes)
      (λ over. let e = get_or_past m.memory.bytes (a - (m.memory.below + 1)) 0 over in omega arith)
      (cases_lt (a - (m.memory.below + 1)) (length m.memory.bytes))

  pub read_small : (a input : ℕ) → input < 256 → read may m a input < 256
  read_small a input lt = machine_reads m may a input at.machine lt

  sreg_stands : ByteStands o (sreg_value k s) m.sreg
  sreg_stands =
      bits_make_values.stands o (flags_tag s.flags.entry) (byte_with s.flags.bits 7 (tri_bit (from_bool k.i))) m.sreg at.machine.sreg_byte
      (entry_holds o s.flags.entry m.sreg at.stands.flags.entry)
      (writes_cover.members s.flags.bits 7 (tri_bit (from_bool k.i)) m.sreg m.sreg at.stands.flags.bits (flag_permits m.sreg 7 k.i at.place.i) (λ j lt other. refl))

  io_stands : (a input : ℕ) → ByteStands o (untagged (io_bits m.device may k.masks a)) (io_byte m.device may m.enables a input)
  io_stands a input =
      bits_make_values.stands o tag.None (io_bits m.device may k.masks a) (io_byte m.device may m.enables a input) (io_small m.device may m.enables a input) tt
      (io_has m.device may m.enables k.masks a input at.place.enables)

  -- the byte of a live address is that of SRAM
  pub live_read : (a input : ℕ) → is_live m.memory a ≡ true → read may m a input ≡ sram_at m a
  unfolding read
  live_read a input live =
      let inside : is_sram m.device a ≡ true = inside_if_live m.device m.memory.below m.memory.live a at.machine.below at.machine.count_live live in
      let behind : io_end m.device < a = (inside_numbers m.device a inside).0 in
      let rest : machine_behind may m a input None ≡ sram_at m a = grind (arith, nat_tests, devices_are_alike.least_io m.device) in
      ap (machine_behind may m a input) (none_behind m.device a behind) ∙ rest

  slot_stands : (a x : ℕ) (slot : Slot AbsByte) → x < 256 → (is_live m.memory a ≡ true → x ≡ sram_at m a) → SlotStands o m.memory a slot → ByteStands o (value_of slot) x
  slot_stands a x Free small is h = any_stands o x small
  slot_stands a x (Guarded v) small is h = subst (ByteStands o v) (sym (is h.0)) h.1

  -- the slot at base - d, if there is one
  pub slot_at_stands : (d x : ℕ) → x < 256 → (is_live m.memory (o.base - d) ≡ true → x ≡ sram_at m (o.base - d)) → ByteStands o (value_of (slot_at s.slots d)) x
  slot_at_stands d x small is =
      ⊎_elim
      (λ lt. slot_stands (o.base - d) x (slot_at s.slots d) small is (at.stands.slots d lt))
      (λ over. subst (λ slot. ByteStands o (value_of slot) x) (sym (get_or_past s.slots d Free over)) (any_stands o x small))
      (cases_lt d (length s.slots))

  sram_or_input : (a input : ℕ) → is_live m.memory a ≡ true → (if is_sram m.device a then sram_at m a else input) ≡ sram_at m a
  sram_or_input a input live = ap (λ b. if b then sram_at m a else input) (inside_if_live m.device m.memory.below m.memory.live a at.machine.below at.machine.count_live live)

  slot_small : (a input : ℕ) → input < 256 → (if is_sram m.device a then sram_at m a else input) < 256
  slot_small a input lt = small_by_test (is_sram m.device a) (sram_at m a) input (byte_small a) lt

  root_slot : (a input : ℕ) → input < 256 → o.base ≡ ramend m.device
      → ByteStands o (if nat_le a (ramend m.device) then value_of (slot_at s.slots (ramend m.device - a)) else unknown) (if is_sram m.device a then sram_at m a else input)
  root_slot a input lt root =
      test_only o (nat_le a (ramend m.device)) (value_of (slot_at s.slots (ramend m.device - a))) _ (slot_small a input lt) (λ h.
      let le : a ≤ ramend m.device = leb-true a (ramend m.device) h in
      let here : a ≡ o.base - (ramend m.device - a) = omega (arith, root) in
      slot_at_stands (ramend m.device - a) (if is_sram m.device a then sram_at m a else input) (slot_small a input lt)
      (subst (λ b. is_live m.memory b ≡ true → (if is_sram m.device a then sram_at m a else input) ≡ sram_at m b) here (sram_or_input a input)))

  kind_slot : (kind : Kind) (a input : ℕ) → input < 256 → (kind ≡ Root → o.base ≡ ramend m.device) → ByteStands o (slot_read m.device kind s a) (if is_sram m.device a then sram_at m a else input)
  kind_slot Root a input lt root = root_slot a input lt (root refl)
  kind_slot Call a input lt root = any_stands o (if is_sram m.device a then sram_at m a else input) (slot_small a input lt)
  kind_slot (Vector v) a input lt root = any_stands o (if is_sram m.device a then sram_at m a else input) (slot_small a input lt)

  -- the value of a known address
  pub read_stands : (a input : ℕ) → input < 256 → ByteStands o (read_at m.device may k s a) (read may m a input)
  unfolding read read_at
  read_stands a input lt = by (register_at m.device a)
    where
      fits : m.sp < 65536
      fits = sp_small (has_sph m.device) m.sp at.machine.sp_fits

      special_stands : (x : Option Special) → ByteStands o (read_special m.device may k s a x) (special_byte may m a input x)
      special_stands (Some Spl) = low_stands m.device o at.base_word m.is_open m.sp fits k.inst.kind k.sp at.root at.place.sp
      special_stands (Some Sph) = high_stands m.device o at.base_word m.is_open m.sp fits k.inst.kind k.sp at.root at.place.sp
      special_stands (Some Sreg) = sreg_stands
      special_stands None = by_test o (nat_le a (io_end m.device)) _ _ _ _ (io_stands a input) (kind_slot k.inst.kind a input lt at.root)

      by_special : (x : Option Special) → special m.device a ≡ x → ByteStands o (read_special m.device may k s a x) (machine_behind may m a input None)
      by_special x here = subst (ByteStands o (read_special m.device may k s a x)) (sym (byte_is may m a input x here)) (special_stands x)

      by : (r : Option ℕ) → ByteStands o (read_behind m.device may k s a r) (machine_behind may m a input r)
      by (Some r) = register_stands m o k s at r
      by None = by_special (special m.device a) refl
