-- The byte of a store goes to an address in its aim's reach, and at its slot.
use Rattle.std.proofs.Common.{◌≡◌, ◌∙◌, refl, sym, ap, subst, not, ℕ, zero, suc, ◌+◌, ◌-◌, ◌*◌, ◌<◌, ◌≤◌, ◌&&◌, ⊎_elim, Bool, true, false, nat_lt, nat_le, if◌then◌else◌, Option, Some, None, arith}
use Rattle.std.specs.Prelude.{⊤}
use Rattle.std.proofs.lemmas.Bool.{cases_lt}
use Rattle.std.proofs.lemmas.Bool.Decides.{nat_tests}
use Rattle.std.proofs.lemmas.Option.{same_Some}
use Rattle.basics.specs.Numbers.{less_from_test}
use Rattle.local_laws.proofs.AllLaws.{IsEven, bare_frame, base_pair, may_stand, pair_permitted}
use Rattle.local_laws.proofs.PointerReads.{number_is, frame_is}
use Rattle.avr_model.specs.declared.device.Device.{Device}
use Rattle.avr_model.specs.declared.instruction.Base.{Base}
use Rattle.avr_model.specs.declared.instruction.Pointer.{Pointer}
use Rattle.avr_model.specs.declared.instruction.Pointer.TheVariants as pointer
use Rattle.avr_model.specs.Devices.{io_end, ramend, has_sph}
use Rattle.avr_model.proofs.AllLaws.{devices_are_alike}
use Rattle.avr_model.specs.Sites.{base_register, pointer_register}
use Rattle.avr_model.specs.State.{State, register, pair, low, plus16, minus16}
use Rattle.avr_model.specs.Effects as effects
use Rattle.sp_domain.specs.Tags.{Origin}
use Rattle.abs_state.specs.declared.state.AbsState.{AbsState}
use Rattle.abs_state.specs.Stands.{ByteStands}
use Rattle.node_keys.specs.declared.keys.NodeKey.{NodeKey}
use Rattle.node_keys.specs.declared.keys.Kind.{Kind}
use Rattle.node_keys.specs.declared.keys.Kind.TheVariants.{Root, Call, Vector}
use Rattle.local_rules.specs.declared.pointers.Pointed.{Pointed}
use Rattle.local_rules.specs.HighBytes.{view_by}
use Rattle.local_rules.specs.Registers.{value}
use Rattle.local_rules.specs.Reads.{pointed}
use Rattle.local_rules.specs.Local.{step_before}
use Rattle.local_rules.specs.Writes.{is_own_slot}
use Rattle.node_keys.specs.Keys.{offset_of}
use Rattle.local_rules.specs.Permitted.{may_be}
use Rattle.local_rules.specs.Cover.{InFrameIn}
use Rattle.clear_laws.specs.Aims.{Span, Reach, Aim, or_number, least_below, greatest_below, first_byte, last_byte, spanning, pair_span, raised, lowered, pointer_reach, permits_number, slot_at_number, slot_aimed, at_number}
use Rattle.clear_laws.specs.Aims.reach as reach

-- ---- the least and the greatest number that passes a test

abbrev IsLowByte : Option ℕ → ℕ → Type 0
IsLowByte None x = ⊥
IsLowByte (Some a) x = a ≤ x

abbrev IsHighByte : Option ℕ → ℕ → Type 0
IsHighByte None x = ⊥
IsHighByte (Some a) x = x ≤ a

least_small : (p : ℕ → Bool) (n a : ℕ) → least_below p n ≡ Some a → a < n
unfolding least_below
least_small p zero a e = absurd (cc)
least_small p (suc n) a e = by (least_below p n) (p n) (least_small p n) e
  where
    by : (o : Option ℕ) (b : Bool) → ((x : ℕ) → o ≡ Some x → x < n) → or_number o b n ≡ Some a → a < suc n
    by (Some x) b small e = let same : x ≡ a = cc in let lt = small x refl in omega (arith, lt, same)
    by None true small e = let same : n ≡ a = cc in omega (arith, same)
    by None false small e = absurd (cc)

least_at : (p : ℕ → Bool) (n x : ℕ) → x < n → p x ≡ true → IsLowByte (least_below p n) x
unfolding least_below
least_at p zero x lt h = absurd (omega (arith, lt))
least_at p (suc n) x lt h =
    ⊎_elim (λ less. kept (least_below p n) (p n) (least_at p n x less h))
    (λ over.
    let same : n ≡ x = omega (arith, lt, over) in
    last (least_below p n) (p n) (least_small p n) (ap p same ∙ h) same) (cases_lt x n)
  where
    kept : (o : Option ℕ) (b : Bool) → IsLowByte o x → IsLowByte (or_number o b n) x
    kept (Some a) b h = h
    kept None b h = absurd h

    last : (o : Option ℕ) (b : Bool) → ((a : ℕ) → o ≡ Some a → a < n) → b ≡ true → n ≡ x → IsLowByte (or_number o b n) x
    last (Some a) b small t same = let lt = small a refl in omega (arith, lt, same)
    last None true small t same = omega (arith, same)
    last None false small t same = absurd (cc)

greatest_at : (p : ℕ → Bool) (n x : ℕ) → x < n → p x ≡ true → IsHighByte (greatest_below p n) x
unfolding greatest_below
greatest_at p zero x lt h = absurd (omega (arith, lt))
greatest_at p (suc n) x lt h = by (greatest_at p n x) (p n) refl
  where
    by : (x < n → p x ≡ true → IsHighByte (greatest_below p n) x) → (b : Bool) → p n ≡ b → IsHighByte (if b then Some n else greatest_below p n) x
    by before true is = omega (arith, lt)
    by before false is =
        ⊎_elim (λ less. before less h)
        (λ over. let same : n ≡ x = omega (arith, lt, over) in absurd (let no : false ≡ true = sym is ∙ ap p same ∙ h in cc)) (cases_lt x n)

-- ---- a byte between its least and its greatest

-- the address is within the span
pub record IsInSpan (span : Span) (a : ℕ) : Type 0 where
  pub first : span.first ≤ a
  pub last : a ≤ span.last

abbrev IsSpanned : Option Span → ℕ → Type 0
IsSpanned None a = ⊥
IsSpanned (Some span) a = IsInSpan span a

-- the address is within the reach of a store
abbrev pub IsStoreReached : Reach → ℕ → Type 0
IsStoreReached reach.Nothing a = ⊥
IsStoreReached (reach.Within span) a = IsInSpan span a
IsStoreReached reach.Beyond a = ⊤

-- the address agrees with the aim
pub record IsAimed (base : ℕ) (aim : Aim) (a : ℕ) : Type 0 where
  pub reach : IsStoreReached aim.reach a
  pub slot : (d : ℕ) → aim.slot ≡ Some d → a ≡ minus16 base d

spans : (a b c d : Option ℕ) (x y : ℕ) → IsLowByte a x → IsLowByte b y → IsHighByte c x → IsHighByte d y → IsSpanned (spanning a b c d) (x + 256 * y)
spans (Some a) (Some b) (Some c) (Some d) x y h g i j = record { first = omega (arith, h, g); last = omega (arith, i, j) }
spans None b c d x y h g i j = absurd h
spans (Some a) None c d x y h g i j = absurd g
spans (Some a) (Some b) None d x y h g i j = absurd i
spans (Some a) (Some b) (Some c) None x y h g i j = absurd j

-- ---- with a number added, or 1 taken off

raised_reached : (span : Option Span) (q p : ℕ) → IsSpanned span p → IsStoreReached (raised span q) (plus16 p q)
raised_reached None q p h = absurd h
raised_reached (Some span) q p h = by (nat_lt (span.first + q) 65536 && nat_lt (span.last + q) 65536) refl
  where
    by : (b : Bool) → (nat_lt (span.first + q) 65536 && nat_lt (span.last + q) 65536) ≡ b
        → IsStoreReached (if b then reach.Within (record { first = span.first + q; last = span.last + q }) else reach.Beyond) (plus16 p q)
    by true is =
        let fits : span.last + q < 65536 = grind (arith, nat_tests) in
        record { first = omega (arith, h.first, h.last, fits); last = omega (arith, h.last, fits) }
    by false is = tt

lowered_reached : (span : Option Span) (p : ℕ) → p < 65536 → IsSpanned span p → IsStoreReached (lowered span) (minus16 p 1)
lowered_reached None p small h = absurd h
lowered_reached (Some span) p small h = by (nat_le 1 span.first && nat_le 1 span.last) refl
  where
    by : (b : Bool) → (nat_le 1 span.first && nat_le 1 span.last) ≡ b
        → IsStoreReached (if b then reach.Within (record { first = span.first - 1; last = span.last - 1 }) else reach.Beyond) (minus16 p 1)
    by true is =
        let fits : 1 ≤ span.first = grind (arith, nat_tests) in
        record { first = omega (arith, h.first, h.last, fits, small); last = omega (arith, h.first, h.last, fits, small) }
    by false is = tt

no_more : (p : ℕ) → p < 65536 → plus16 p 0 ≡ p
no_more p h = omega arith

one_less : (p : ℕ) → p < 65536 → plus16 p 65535 ≡ minus16 p 1
one_less p h = omega arith

-- subtracting the displacement from the address gives the pointer
back_by : (p q : ℕ) → p < 65536 → minus16 (plus16 p q) q ≡ p
back_by p q h = omega arith

back_none : (p : ℕ) → p < 65536 → minus16 p 0 ≡ p
back_none p h = omega arith

back_one : (p : ℕ) → p < 65536 → minus16 (minus16 p 1) 65535 ≡ p
back_one p h = omega arith

-- ---- what a pointer gives

-- the slot by a number, if the base is the top of SRAM
fold : (r base a d x : ℕ) → r < 65536 → base ≡ r → x ≤ r → r - x ≡ d → a ≡ x → a ≡ minus16 base d
fold r base a d x small top fits slot same = omega arith

top_small : (device : Device) → ramend device < 65536
top_small device = omega (arith, devices_are_alike.most_bytes device, devices_are_alike.most_io device)

number_slot : (device : Device) (c : Option ℕ) (base a d : ℕ) → base ≡ ramend device → ((x : ℕ) → c ≡ Some x → a ≡ x) → slot_at_number device c ≡ Some d
    → a ≡ minus16 base d
number_slot device None base a d top is e = absurd (cc)
number_slot device (Some x) base a d top is e = by (nat_le x (ramend device)) refl e
  where
    by : (b : Bool) → nat_le x (ramend device) ≡ b → (if b then Some (ramend device - x) else None) ≡ Some d → a ≡ minus16 base d
    by true at e = fold (ramend device) base a d x (top_small device) top (grind (arith, nat_tests)) (same_Some _ d e) (is x refl)
    by false at e = absurd (cc)

module _ {followed may : Bool} (m : State) (o : Origin) (k : NodeKey) (s : AbsState) (at : InFrameIn followed may m o k s)
    (sees : has_sph m.device ≡ false → may ≡ true) where
  stands : (r : ℕ) → r < 32 → ByteStands o (value s r) (register m r)
  stands r lt = at.stands.registers r (omega (arith, lt))

  first_at : (r : ℕ) → r < 32 → IsLowByte (first_byte (value s r)) (register m r)
  first_at r lt = let here = stands r lt in least_at (may_be (value s r)) 256 (register m r) here.small (may_stand o (value s r) (register m r) here)

  last_at : (r : ℕ) → r < 32 → IsHighByte (last_byte (value s r)) (register m r)
  last_at r lt = let here = stands r lt in greatest_at (may_be (value s r)) 256 (register m r) here.small (may_stand o (value s r) (register m r) here)

  module _ (r : ℕ) (there : r + 1 < 32) where
    first_there : r < 32
    first_there = omega (arith, there)

    pair_small : pair m r < 65536
    pair_small = omega (arith, (stands r first_there).small, (stands (r + 1) there).small)

    pair_spanned : IsSpanned (pair_span s r) (pair m r)
    pair_spanned =
        spans (first_byte (value s r)) (first_byte (value s (r + 1))) (last_byte (value s r)) (last_byte (value s (r + 1))) (register m r) (register m (r + 1))
        (first_at r first_there) (first_at (r + 1) there) (last_at r first_there) (last_at (r + 1) there)

    permitted_back : IsEven r → (p : ℕ) → p ≡ pair m r → permits_number s r p ≡ true
    permitted_back even p same = ap (permits_number s r) same ∙ pair_permitted m o k s (bare_frame m o k s sees at) r (there, even)

  number_at : (r up a : ℕ) → (pointed (view_by m.device k) s r up).constant ≡ Some a → plus16 (pair m r) up ≡ a
  number_at r up a e = number_is m o k s (bare_frame m o k s sees at) r up a e

  frame_at : (r up d : ℕ) → (pointed (view_by m.device k) s r up).frame ≡ Some d → plus16 (pair m r) up ≡ minus16 o.base d
  frame_at r up d e = frame_is m o k s (bare_frame m o k s sees at) r up d e

  -- the slot at an address
  slot_is : (kind : Kind) → k.inst.kind ≡ kind → (p : Pointed) (a d : ℕ) → ((x : ℕ) → p.constant ≡ Some x → a ≡ x)
      → ((x : ℕ) → p.frame ≡ Some x → a ≡ minus16 o.base x) → slot_aimed m.device kind p ≡ Some d → a ≡ minus16 o.base d
  slot_is Root is p a d constant frame e = number_slot m.device p.constant o.base a d (at.root is) constant e
  slot_is Call is p a d constant frame e = frame d e
  slot_is (Vector v) is p a d constant frame e = frame d e

  pointed_slot : (r : ℕ) → r + 1 < 32 → (up d : ℕ) → slot_aimed m.device k.inst.kind (pointed (view_by m.device k) s r up) ≡ Some d → plus16 (pair m r) up ≡ minus16 o.base d
  pointed_slot r there up d =
      slot_is k.inst.kind refl (pointed (view_by m.device k) s r up) (plus16 (pair m r) up) d (number_at r up) (frame_at r up)

  -- ---- the three stores

  displaced_at : (r : ℕ) → r + 1 < 32 → (q : ℕ)
      → IsAimed o.base (record { reach = raised (pair_span s r) q; slot = slot_aimed m.device k.inst.kind (pointed (view_by m.device k) s r q) }) (plus16 (pair m r) q)
  displaced_at r there q = record { reach = raised_reached (pair_span s r) q (pair m r) (pair_spanned r there); slot = pointed_slot r there q }

  pub displaced : (b : Base) (q : ℕ)
      → IsAimed o.base (record { reach = raised (pair_span s (base_register b)) q; slot = slot_aimed m.device k.inst.kind (pointed (view_by m.device k) s (base_register b) q) })
      (plus16 (pair m (base_register b)) q)
  displaced b q = displaced_at (base_register b) (base_pair b).0 q

  plain : (r : ℕ) → r + 1 < 32 → IsAimed o.base (record { reach = raised (pair_span s r) 0; slot = slot_aimed m.device k.inst.kind (pointed (view_by m.device k) s r 0) }) (pair m r)
  plain r there =
      subst (IsAimed o.base (record { reach = raised (pair_span s r) 0; slot = slot_aimed m.device k.inst.kind (pointed (view_by m.device k) s r 0) }))
      (no_more (pair m r) (pair_small r there)) (displaced_at r there 0)

  before : (r : ℕ) → r + 1 < 32
      → IsAimed o.base (record { reach = lowered (pair_span s r); slot = slot_aimed m.device k.inst.kind (pointed (view_by m.device k) s r 65535) }) (minus16 (pair m r) 1)
  before r there =
      record {
        reach = lowered_reached (pair_span s r) (pair m r) (pair_small r there) (pair_spanned r there);
        slot = λ d e. sym (one_less (pair m r) (pair_small r there)) ∙ pointed_slot r there 65535 d e;
      }

  pub by_pointer : (p : Pointer)
      → IsAimed o.base (record { reach = pointer_reach p s; slot = slot_aimed m.device k.inst.kind (pointed (view_by m.device k) s (pointer_register p) (step_before p)) })
      (effects.pointed p (pair m (pointer_register p)))
  by_pointer pointer.ZPlus = plain 30 (omega arith)
  by_pointer pointer.MinusZ = before 30 (omega arith)
  by_pointer pointer.YPlus = plain 28 (omega arith)
  by_pointer pointer.MinusY = before 28 (omega arith)
  by_pointer pointer.X = plain 26 (omega arith)
  by_pointer pointer.XPlus = plain 26 (omega arith)
  by_pointer pointer.MinusX = before 26 (omega arith)

  pub direct : (a : ℕ)
      → IsAimed o.base (record { reach = reach.Within (record { first = a; last = a }); slot = slot_aimed m.device k.inst.kind (at_number a) }) a
  direct a =
      record {
        reach = record { first = omega arith; last = omega arith };
        slot = λ d e. slot_is k.inst.kind refl (at_number a) a d (λ x is. same_Some a x is) (λ x is. absurd (cc)) e;
      }

  -- ---- a slot of the frame is no byte of I/O

  off_frame : (frame : Option ℕ) (a : ℕ) → ((d : ℕ) → frame ≡ Some d → a ≡ minus16 o.base d) → may ≡ true → a ≤ io_end m.device
      → not (is_own_slot frame (offset_of k.sp)) ≡ true
  off_frame None a is on low = refl
  off_frame (Some d) a is on low = by (nat_lt d (offset_of k.sp)) refl
    where
      by : (b : Bool) → nat_lt d (offset_of k.sp) ≡ b → not b ≡ true
      by false e = refl
      by true e =
          let lt = less_from_test d (offset_of k.sp) e in
          absurd (omega (arith, is d refl, lt, at.room on, (bare_frame m o k s sees at).base_word, low))

  frame_off : (r : ℕ) → r + 1 < 32 → (up a : ℕ) → plus16 (pair m r) up ≡ a → may ≡ true → a ≤ io_end m.device
      → not (is_own_slot (pointed (view_by m.device k) s r up).frame (offset_of k.sp)) ≡ true
  frame_off r there up a same on low = off_frame (pointed (view_by m.device k) s r up).frame a (λ d e. sym same ∙ frame_at r up d e) on low

  pub displaced_off : (b : Base) (q : ℕ) → may ≡ true → plus16 (pair m (base_register b)) q ≤ io_end m.device
      → not (is_own_slot (pointed (view_by m.device k) s (base_register b) q).frame (offset_of k.sp)) ≡ true
  displaced_off b q on low = frame_off (base_register b) (base_pair b).0 q _ refl on low

  plain_off : (r : ℕ) → r + 1 < 32 → may ≡ true → pair m r ≤ io_end m.device → not (is_own_slot (pointed (view_by m.device k) s r 0).frame (offset_of k.sp)) ≡ true
  plain_off r there on low = frame_off r there 0 _ (no_more (pair m r) (pair_small r there)) on low

  before_off : (r : ℕ) → r + 1 < 32 → may ≡ true → minus16 (pair m r) 1 ≤ io_end m.device → not (is_own_slot (pointed (view_by m.device k) s r 65535).frame (offset_of k.sp)) ≡ true
  before_off r there on low = frame_off r there 65535 _ (one_less (pair m r) (pair_small r there)) on low

  pub pointer_off : (p : Pointer) → may ≡ true → effects.pointed p (pair m (pointer_register p)) ≤ io_end m.device
      → not (is_own_slot (pointed (view_by m.device k) s (pointer_register p) (step_before p)).frame (offset_of k.sp)) ≡ true
  pointer_off pointer.ZPlus = plain_off 30 (omega arith)
  pointer_off pointer.MinusZ = before_off 30 (omega arith)
  pointer_off pointer.YPlus = plain_off 28 (omega arith)
  pointer_off pointer.MinusY = before_off 28 (omega arith)
  pointer_off pointer.X = plain_off 26 (omega arith)
  pointer_off pointer.XPlus = plain_off 26 (omega arith)
  pointer_off pointer.MinusX = before_off 26 (omega arith)

  -- ---- and the pointer is permitted

  pub displaced_permitted : (b : Base) (q : ℕ) → permits_number s (base_register b) (minus16 (plus16 (pair m (base_register b)) q) q) ≡ true
  displaced_permitted b q = permitted_back (base_register b) (base_pair b).0 (base_pair b).1 _ (back_by (pair m (base_register b)) q (pair_small (base_register b) (base_pair b).0))

  plain_permitted : (r : ℕ) → r + 1 < 32 → IsEven r → permits_number s r (minus16 (pair m r) 0) ≡ true
  plain_permitted r there even = permitted_back r there even _ (back_none (pair m r) (pair_small r there))

  before_permitted : (r : ℕ) → r + 1 < 32 → IsEven r → permits_number s r (minus16 (minus16 (pair m r) 1) 65535) ≡ true
  before_permitted r there even = permitted_back r there even _ (back_one (pair m r) (pair_small r there))

  pub pointer_permitted : (p : Pointer) → permits_number s (pointer_register p) (minus16 (effects.pointed p (pair m (pointer_register p))) (step_before p)) ≡ true
  pointer_permitted pointer.ZPlus = plain_permitted 30 (omega arith) refl
  pointer_permitted pointer.MinusZ = before_permitted 30 (omega arith) refl
  pointer_permitted pointer.YPlus = plain_permitted 28 (omega arith) refl
  pointer_permitted pointer.MinusY = before_permitted 28 (omega arith) refl
  pointer_permitted pointer.X = plain_permitted 26 (omega arith) refl
  pointer_permitted pointer.XPlus = plain_permitted 26 (omega arith) refl
  pointer_permitted pointer.MinusX = before_permitted 26 (omega arith) refl
