-- Pointers: reads through them, and their values after they move.
use Rattle.std.proofs.Common.{◌≡◌, refl, sym, ◌∙◌, ap, subst, ℕ, ◌+◌, ◌-◌, ◌*◌, ◌<◌, Bool, true, false, if◌then◌else◌, nat_lt, nat_le, length, Option, Some, None, arith}
use Rattle.avr_model.specs.declared.instruction.Pointer.{Pointer}
use Rattle.avr_model.specs.declared.instruction.Pointer.TheVariants as pointer
use Rattle.avr_model.specs.Sites.{pointer_register}
use Rattle.avr_model.specs.Wide.{wide_of}
use Rattle.avr_model.specs.Devices.{io_end}
use Rattle.avr_model.specs.State.{State, register, pair, read, low, high, plus16, minus16}
use Rattle.avr_model.specs.Effects.{set_pair, moved}
use Rattle.avr_model.specs.Step.{with_registers}
use Rattle.bit_domain.specs.TriByte.{Has, byte_constant}
use Rattle.bit_domain.specs.Ranges.{ByteSet, set_meet}
use Rattle.bit_domain.proofs.AllLaws.{ranges_hold}
use Rattle.abs_alu.proofs.AllLaws.{all_words_cover}
use Rattle.sp_domain.specs.declared.tags.Tag.{Tag}
use Rattle.sp_domain.specs.declared.tags.Tag.TheVariants as tag
use Rattle.sp_domain.specs.Tags.{Origin, TagHolds, frame_of}
use Rattle.sp_domain.specs.Laws.{PairHolds}
use Rattle.sp_domain.specs.Slots.{slot_at}
use Rattle.sp_domain.proofs.AllLaws.{pairs_are_true}
use Rattle.abs_state.specs.declared.values.AbsByte.{AbsByte}
use Rattle.abs_state.specs.declared.state.AbsState.{AbsState}
use Rattle.abs_state.specs.Values.{untagged, valued, set_of}
use Rattle.abs_state.specs.Frames.{with_tag}
use Rattle.abs_state.proofs.AllLaws.{bits_make_values, any_stands}
use Rattle.abs_state.specs.Stands.{ByteStands, RegistersStand}
use Rattle.node_keys.specs.declared.keys.NodeKey.{NodeKey}
use Rattle.local_rules.specs.declared.pointers.Pointed.{Pointed}
use Rattle.local_rules.specs.HighBytes.{view_by, low_number}
use Rattle.local_rules.specs.Registers.{value, bits, high_tag_of, down_by, pair_tags, pair_moved}
use Rattle.local_rules.specs.Reads.{value_of, read_at, word_of, pair_constant, raised, lowered, pointed, read_number, read_constant, read_both, read_frame, read_pointed}
use Rattle.local_rules.specs.Local.{pointer_moved}
use Rattle.local_laws.proofs.Bare.{InBareFrame}
use Rattle.local_laws.proofs.Alu.{register_byte}
use Rattle.local_laws.proofs.Bits.{constant_is}
use Rattle.local_laws.proofs.EffectSizes.{wide_small}
use Rattle.local_laws.proofs.Frame.{register_stands, set_two}
use Rattle.local_laws.proofs.HighBytes.{seen_stands}
use Rattle.local_laws.proofs.Memory.{inside_if_live}
use Rattle.local_laws.proofs.ReadValues.{untagged_stands, range_stands, read_small, inside_numbers, live_read, slot_at_stands, read_stands}

-- the value exists and holds of the byte
abbrev pub IsRead : Origin → Option AbsByte → ℕ → Type 0
IsRead o None x = ⊥
IsRead o (Some v) x = ByteStands o v x

-- ---- what a pointer gives

pub word_is : (lo hi : Option ℕ) (x y c : ℕ) → ((b : ℕ) → lo ≡ Some b → x ≡ b) → ((b : ℕ) → hi ≡ Some b → y ≡ b) → word_of lo hi ≡ Some c → x + 256 * y ≡ c
word_is None hi x y c low_is high_is e = absurd (cc)
word_is (Some b) None x y c low_is high_is e = absurd (cc)
word_is (Some b) (Some d) x y c low_is high_is e =
    let sum : b + 256 * d ≡ c = cc in
    omega (arith, low_is b refl, high_is d refl)

pub raised_is : (c : Option ℕ) (p up a : ℕ) → ((x : ℕ) → c ≡ Some x → p ≡ x) → raised up c ≡ Some a → plus16 p up ≡ a
raised_is None p up a is e = absurd (cc)
raised_is (Some x) p up a is e =
    let sum : plus16 x up ≡ a = cc in
    ap (λ y. plus16 y up) (is x refl) ∙ sum

pub lowered_number : (base j up : ℕ) → plus16 (minus16 base j) up ≡ minus16 base (minus16 j up)
lowered_number base j up = omega arith

pub lowered_is : (f : Option ℕ) (base p up d : ℕ) → ((j : ℕ) → f ≡ Some j → p ≡ minus16 base j) → lowered up f ≡ Some d → plus16 p up ≡ minus16 base d
lowered_is None base p up d is e = absurd (cc)
lowered_is (Some j) base p up d is e =
    let difference : minus16 j up ≡ d = cc in
    ap (λ y. plus16 y up) (is j refl) ∙ lowered_number base j up ∙ ap (minus16 base) difference

in_word : (base d : ℕ) → base < 65536 → 0 < base - d → minus16 base d ≡ base - d
in_word base d word lt = omega arith

up_one : (w : ℕ) → minus16 w (down_by true 1) ≡ wide_of true w 1
up_one w = omega arith

down_one : (w : ℕ) → minus16 w (down_by false 1) ≡ wide_of false w 1
down_one w = omega arith

module _ {may : Bool} (m : State) (o : Origin) (k : NodeKey) (s : AbsState) (at : InBareFrame may m o k s) where
  pub pair_small : (r : ℕ) → pair m r < 65536
  pair_small r = omega (arith, register_byte m o k s at r, register_byte m o k s at (r + 1))

  pub low_is : (r : ℕ) → register m r ≡ low (pair m r)
  low_is r = omega (arith, register_byte m o k s at r)

  pub high_is : (r : ℕ) → register m (r + 1) ≡ high (pair m r)
  high_is r = omega (arith, register_byte m o k s at r)

  pair_holds : (r : ℕ) → PairHolds o (value s r).tag (high_tag_of (view_by m.device k) s r) (pair m r)
  pair_holds r =
      record {
        low = subst (TagHolds o (value s r).tag) (low_is r) (register_stands m o k s at r).tag;
        high = subst (TagHolds o (high_tag_of (view_by m.device k) s r)) (high_is r) (seen_stands m o k s at (low_number (value s r).tag) (r + 1));
      }

  -- the pair's number, if all its bits are known
  pub pair_constant_is : (r c : ℕ) → pair_constant s r ≡ Some c → pair m r ≡ c
  pair_constant_is r c e =
      word_is (byte_constant (bits s r)) (byte_constant (bits s (r + 1))) (register m r) (register m (r + 1)) c
      (λ b is. constant_is (bits s r) (register m r) b is (register_byte m o k s at r) (register_stands m o k s at r).bits)
      (λ b is. constant_is (bits s (r + 1)) (register m (r + 1)) b is (register_byte m o k s at (r + 1)) (register_stands m o k s at (r + 1)).bits) e

  -- the address, as a number and as base - d
  abbrev address : ℕ → ℕ → Pointed
  address r up = pointed (view_by m.device k) s r up

  pub number_is : (r up a : ℕ) → (address r up).constant ≡ Some a → plus16 (pair m r) up ≡ a
  number_is r up a e = raised_is (pair_constant s r) (pair m r) up a (pair_constant_is r) e

  pub frame_is : (r up d : ℕ) → (address r up).frame ≡ Some d → plus16 (pair m r) up ≡ minus16 o.base d
  frame_is r up d e =
      lowered_is (frame_of (value s r).tag (high_tag_of (view_by m.device k) s r)) o.base (pair m r) up d
      (λ j is. pairs_are_true.frame o (value s r).tag (high_tag_of (view_by m.device k) s r) (pair m r) j (pair_small r) (pair_holds r) is) e

  -- ---- what is read

  module _ (a input : ℕ) (small : input < 256) where
    -- by the number
    number_stands : ByteStands o (read_number m.device may k s a) (read may m a input)
    number_stands = by (nat_le a (io_end m.device))
      where
        by : (b : Bool) → ByteStands o (if b then untagged (read_at m.device may k s a).bits else valued tag.None (set_of (read_at m.device may k s a))) (read may m a input)
        by true = untagged_stands o (read_at m.device may k s a) (read may m a input) (read_stands m o k s at a input small)
        by false = range_stands o (read_at m.device may k s a) (read may m a input) (read_stands m o k s at a input small)

    constant_stands : (c : Option ℕ) → ((x : ℕ) → c ≡ Some x → a ≡ x) → ByteStands o (read_constant m.device may k s c) (read may m a input)
    constant_stands None is = any_stands o (read may m a input) (read_small m o k s at a input small)
    constant_stands (Some x) is =
        subst (λ b. ByteStands o (read_constant m.device may k s (Some b)) (read may m a input)) (is x refl) number_stands

    slot_read_stands : (d : ℕ) → a ≡ minus16 o.base d → ByteStands o (value_of (slot_at s.slots d)) (read may m a input)
    slot_read_stands d is =
        slot_at_stands m o k s at d (read may m a input) (read_small m o k s at a input small) (λ live.
        let inside = inside_numbers m.device (o.base - d) (inside_if_live m.device m.memory.below m.memory.live (o.base - d) at.machine.below at.machine.count_live live) in
        let here : a ≡ o.base - d = is ∙ in_word o.base d at.base_word (omega (arith, inside.0)) in
        ap (λ b. read may m b input) here ∙ live_read m o k s at (o.base - d) input live)

    met : (t : Tag) (x : ℕ) (u w : AbsByte) → TagHolds o t x → ByteStands o u x → ByteStands o w x → IsRead o (with_tag t (set_meet (set_of u) (set_of w))) x
    met t x u w holds h g =
        let meet = ranges_hold.meets (set_of u) (set_of w) x
        (record { bits = h.bits; low = h.low; high = h.high; small = h.small }) (record { bits = g.bits; low = g.low; high = g.high; small = g.small }) in
        subst (λ (z : Option ByteSet). IsRead o (with_tag t z) x) (sym meet.1.0)
        (record { tag = holds; bits = meet.1.1.bits; low = meet.1.1.low; high = meet.1.1.high; small = meet.1.1.small })

    both_stand : (c : Option ℕ) (v : AbsByte) → ((x : ℕ) → c ≡ Some x → a ≡ x) → ByteStands o v (read may m a input) → IsRead o (read_both m.device may k s c v) (read may m a input)
    both_stand None v is h = h
    both_stand (Some x) v is h =
        subst (λ b. IsRead o (read_both m.device may k s (Some b) v) (read may m a input)) (is x refl)
        (met v.tag (read may m a input) (read_number m.device may k s a) v h.tag number_stands h)

    one_of : (b : Bool) (v w : Option AbsByte) → IsRead o v (read may m a input) → IsRead o w (read may m a input) → IsRead o (if b then v else w) (read may m a input)
    one_of true v w h g = h
    one_of false v w h g = g

    frame_stands : (c f : Option ℕ) → ((x : ℕ) → c ≡ Some x → a ≡ x) → ((d : ℕ) → f ≡ Some d → a ≡ minus16 o.base d) → IsRead o (read_frame m.device may k s c f) (read may m a input)
    frame_stands c None is here = constant_stands c is
    frame_stands c (Some d) is here =
        one_of (nat_lt d (length s.slots)) (read_both m.device may k s c (value_of (slot_at s.slots d))) (Some (read_constant m.device may k s c))
        (both_stand c (value_of (slot_at s.slots d)) is (slot_read_stands d (here d refl))) (constant_stands c is)

  -- the value of a read through a pointer holds of the byte there
  pub pointed_stands : (r up input : ℕ) → input < 256 → IsRead o (read_pointed m.device may k s (address r up)) (read may m (plus16 (pair m r) up) input)
  pointed_stands r up input small =
      frame_stands (plus16 (pair m r) up) input small (address r up).constant (address r up).frame (number_is r up) (frame_is r up)

  -- ---- how it moves

  moved_by : (r : ℕ) (up : Bool) → minus16 (pair m r) (down_by up 1) ≡ wide_of up (pair m r) 1
      → RegistersStand o (pair_moved (view_by m.device k) s r up 1) (with_registers m.registers (set_pair r (wide_of up (pair m r) 1)))
  moved_by r up is =
      let word = all_words_cover.words up (bits s r, bits s (r + 1)) s.flags.bits (pair m r) 1 m.sreg (pair_small r) (omega arith)
      (subst (Has (bits s r)) (low_is r) (register_stands m o k s at r).bits) (subst (Has (bits s (r + 1))) (high_is r) (register_stands m o k s at (r + 1)).bits)
      at.stands.flags.bits in
      let told = pair_tags (view_by m.device k) s r up 1 in
      let tags = pairs_are_true.below o (value s r).tag (high_tag_of (view_by m.device k) s r) (pair m r) (down_by up 1) (pair_small r) (pair_holds r) in
      set_two m o k s at r (r + 1) _ _ _ _
      (bits_make_values.stands o told.0 _ (low (wide_of up (pair m r) 1)) (omega arith) (subst (λ w. TagHolds o told.0 (low w)) is tags.low) word.0)
      (bits_make_values.stands o told.1 _ (high (wide_of up (pair m r) 1)) (omega (arith, wide_small up (pair m r) 1))
      (subst (λ w. TagHolds o told.1 (high w)) is tags.high) word.1)

  up_stands : (r : ℕ) → RegistersStand o (pair_moved (view_by m.device k) s r true 1) (with_registers m.registers (set_pair r (plus16 (pair m r) 1)))
  up_stands r = moved_by r true (up_one (pair m r))

  wide_down : (w : ℕ) → wide_of false w 1 ≡ minus16 w 1
  wide_down w = omega arith

  down_stands : (r : ℕ) → RegistersStand o (pair_moved (view_by m.device k) s r false 1) (with_registers m.registers (set_pair r (minus16 (pair m r) 1)))
  down_stands r =
      subst (λ w. RegistersStand o (pair_moved (view_by m.device k) s r false 1) (with_registers m.registers (set_pair r w))) (wide_down (pair m r)) (moved_by r false (down_one (pair m r)))

  -- the registers with the pointer as after the instruction
  pub pointer_stands : (p : Pointer) → RegistersStand o (pointer_moved (view_by m.device k) p s) (with_registers m.registers (moved p (pair m (pointer_register p))))
  pointer_stands pointer.ZPlus = up_stands 30
  pointer_stands pointer.MinusZ = down_stands 30
  pointer_stands pointer.YPlus = up_stands 28
  pointer_stands pointer.MinusY = down_stands 28
  pointer_stands pointer.X = at.stands.registers
  pointer_stands pointer.XPlus = up_stands 26
  pointer_stands pointer.MinusX = down_stands 26

  pub z_moved : RegistersStand o (pair_moved (view_by m.device k) s 30 true 1) (with_registers m.registers (set_pair 30 (plus16 (pair m 30) 1)))
  z_moved = up_stands 30
