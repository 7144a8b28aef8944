-- Instructions that work on registers and flags alone are monotone.
use Rattle.std.proofs.Common.{◌≡◌, ◌≢◌, refl, sym, ap, ◌∙◌, subst, subst₂, ℕ, ◌+◌, ◌*◌, ◌%◌, ◌<◌, ◌==◌, Bool, true, false, not, List, Option, Some, None, if◌then◌else◌, slice_set, cond, eqb, arith}
use Rattle.std.proofs.lemmas.Bool.Decides.{nat_tests}
use Rattle.local_rules.specs.Cover.{IsKey}
use Rattle.avr_model.specs.declared.device.Device.{Device}
use Rattle.avr_model.specs.declared.instruction.ImmediateOp.{ImmediateOp}
use Rattle.avr_model.specs.declared.instruction.ImmediateOp.TheVariants as immediate
use Rattle.avr_model.specs.declared.instruction.UnaryOp.{UnaryOp}
use Rattle.avr_model.specs.declared.instruction.UnaryOp.TheVariants as unary
use Rattle.avr_model.specs.declared.operation.Logic.{Logic}
use Rattle.avr_model.specs.declared.operation.Logic.TheVariants as logic
use Rattle.avr_model.specs.declared.operation.Shift.{Shift}
use Rattle.avr_model.specs.declared.operation.Shift.TheVariants as shift
use Rattle.avr_model.specs.declared.operation.Mul.{Mul}
use Rattle.bit_domain.specs.declared.bits.Tri.{Tri}
use Rattle.bit_domain.specs.declared.bits.Tri.TheVariants.{Zero, Any}
use Rattle.bit_domain.specs.declared.bytes.TriByte.{TriByte}
use Rattle.bit_domain.specs.Tri.{IsTriWithin}
use Rattle.bit_domain.specs.TriByte.{tri_at, IsWithin, byte_known, byte_with, byte_constant}
use Rattle.bit_domain.proofs.AllLaws.{bytes_are_their_bits, bytes_are_sets, writes_cover}
use Rattle.sp_domain.specs.declared.tags.Tag.{Tag}
use Rattle.sp_domain.specs.declared.tags.Tag.TheVariants as tag
use Rattle.sp_domain.specs.declared.tags.CarryTag.{CarryTag}
use Rattle.sp_domain.specs.declared.tags.CarryTag.TheVariants as carry
use Rattle.sp_domain.specs.Tags.{HasByteNumbers, IsTagWithin, IsCarryWithin, frame_of, high_of, low_below, high_below, low_less, borrow_of, high_less}
use Rattle.sp_domain.proofs.AllLaws.{tag_arithmetic_is_monotone}
use Rattle.abs_alu.specs.Flags.{tri_flags, flag_bit}
use Rattle.abs_alu.specs.Product.{product_of_constants}
use Rattle.abs_alu.specs.Words.{abs_wide}
use Rattle.abs_alu.proofs.AllLaws.{all_are_monotone, same_within}
use Rattle.abs_state.specs.declared.values.AbsByte.{AbsByte}
use Rattle.abs_state.specs.declared.values.AbsFlags.{AbsFlags}
use Rattle.abs_state.specs.declared.state.AbsState.{AbsState}
use Rattle.abs_state.specs.Values.{untagged, known}
use Rattle.abs_state.specs.Formed.{CarryNamesRegister, CarryIsUntagged}
use Rattle.node_keys.specs.declared.keys.NodeKey.{NodeKey}
use Rattle.node_keys.specs.declared.keys.Kind.{Kind}
use Rattle.node_keys.specs.declared.keys.Kind.TheVariants.{Root}
use Rattle.node_keys.specs.Keys.{offset_of}
use Rattle.local_rules.specs.HighBytes.{view_by, carry_number, seen_high}
use Rattle.local_rules.specs.Raw.{setting, next}
use Rattle.local_rules.specs.Registers.{value, bits, carry_bit, set, set_pair, with_carry, but_carry, low_tag, borrow_tag, high_tag, high_tag_of, or_nothing, less_than, less_alone, less_kept, swapped, product_row, down_by, pair_moved, wide_row, interrupts_row, tri_of_bool, carry_tag_at, flag_row, going_with, sum_tagged, sum_after, compare_after, difference_after, sub_after, sbc_after, logic_after, step_tagged, step_after, shift_after, com_after}
use Rattle.local_rules.specs.Local.{immediate_row, unary_row}
use Rattle.local_laws.proofs.MonotoneValues.{IsTagOf, IsLess, AreFlagsLess, AreRegistersLess, IsStateLess, IsSameWhere, none_of, if_tag_of, bit_within, bits_less, if_less, untagged_less, known_same, registers_set}
use Rattle.local_laws.proofs.MonotoneHigh.{seen_less, carried_less, carried_of}
use Rattle.local_laws.proofs.Less.{kept_is}
use Rattle.local_laws.proofs.MonotoneRaw.{LeadsLess, one_less, setting_less, further_small}
use Rattle.local_rules.specs.Site.{site_at}

-- ---- tags

low_less_of : (kind : Kind) (t : Tag) (l : ℕ) → IsTagOf kind t → IsTagOf kind (low_less t l)
low_less_of kind tag.None l h = none_of kind
low_less_of kind (tag.Entry r) l h = none_of kind
low_less_of kind tag.EntryFlags l h = none_of kind
low_less_of kind (tag.SpLo j) l h = record { names = tt; fits = omega arith; none = λ root. let e = h.none root in absurd (cc) }
low_less_of kind (tag.SpHi k) l h = none_of kind

low_tag_of : (kind : Kind) (t : Tag) (f : Option ℕ) → IsTagOf kind t → IsTagOf kind (low_tag t f)
low_tag_of kind t None h = none_of kind
low_tag_of kind t (Some l) h = low_less_of kind t l h

low_tag_within : (t u : Tag) (f g : Option ℕ) → IsTagWithin t u → IsSameWhere f g → IsTagWithin (low_tag t f) (low_tag u g)
low_tag_within t u f None le tells = tt
low_tag_within t u f (Some l) le tells =
    subst (λ (x : Option ℕ). IsTagWithin (low_tag t x) (low_tag u (Some l))) (sym (tells l refl)) (tag_arithmetic_is_monotone.low_less t u l le)

pub borrow_bytes : (kind : Kind) (t : Tag) (f : Option ℕ) → IsTagOf kind t → ((n : ℕ) → f ≡ Some n → n < 256) → HasByteNumbers (borrow_tag t f)
borrow_bytes kind t None h small = tt
borrow_bytes kind tag.None (Some l) h small = tt
borrow_bytes kind (tag.Entry r) (Some l) h small = tt
borrow_bytes kind tag.EntryFlags (Some l) h small = tt
borrow_bytes kind (tag.SpLo j) (Some l) h small = (h.fits, small l refl)
borrow_bytes kind (tag.SpHi k) (Some l) h small = tt

pub no_borrow : (t : Tag) (f : Option ℕ) → t ≡ tag.None → CarryIsUntagged (borrow_tag t f)
no_borrow t None e = tt
no_borrow t (Some l) e = subst (λ (u : Tag). CarryIsUntagged (borrow_of u l)) (sym e) tt

pub borrow_names : (t : Tag) (f : Option ℕ) → CarryNamesRegister (borrow_tag t f)
borrow_names t None = tt
borrow_names tag.None (Some l) = tt
borrow_names (tag.Entry r) (Some l) = tt
borrow_names tag.EntryFlags (Some l) = tt
borrow_names (tag.SpLo j) (Some l) = tt
borrow_names (tag.SpHi k) (Some l) = tt

-- ---- what a comparison says

-- the carry tag of one of the 32 registers
pub record IsOfRegister (c : CarryTag) : Type 0 where
  pub bytes : HasByteNumbers c
  pub names : CarryNamesRegister c
  pub free : CarryIsUntagged c

no_tag : IsOfRegister carry.None
no_tag = record { bytes = tt; names = tt; free = tt }

pub less_of : (d n : ℕ) → d < 32 → n < 256 → IsOfRegister (carry.Less d n)
less_of d n lt small = record { bytes = (omega arith, small); names = lt; free = tt }

pub than_of : (d : ℕ) (f : Option ℕ) → d < 32 → ((n : ℕ) → f ≡ Some n → n < 256) → IsOfRegister (less_than d f)
than_of d None lt small = no_tag
than_of d (Some n) lt small = less_of d n lt (small n refl)

pub than_within : (d : ℕ) (f g : Option ℕ) → IsSameWhere f g → IsCarryWithin (less_than d f) (less_than d g)
than_within d f None tells = tt
than_within d f (Some n) tells = ap (less_than d) (tells n refl)

alone_of : (c : CarryTag) → HasByteNumbers c → CarryNamesRegister c → IsOfRegister (less_alone c)
alone_of carry.None bytes names = no_tag
alone_of (carry.Borrow j l) bytes names = no_tag
alone_of (carry.Sum j l) bytes names = no_tag
alone_of (carry.Less r n) bytes names = record { bytes = bytes; names = names; free = tt }

pub kept_of : (f g : Option ℕ) (c : CarryTag) → HasByteNumbers c → CarryNamesRegister c → IsOfRegister (less_kept f g c)
kept_of f g c bytes names = kept_is IsOfRegister f g c (alone_of c bytes names) no_tag

alone_within : (c d : CarryTag) → IsCarryWithin c d → IsCarryWithin (less_alone c) (less_alone d)
alone_within c carry.None le = tt
alone_within c (carry.Borrow j l) le = tt
alone_within c (carry.Sum j l) le = tt
alone_within c (carry.Less r n) le = ap less_alone le

kept_same : (x y : ℕ) (c d : CarryTag) → IsCarryWithin c d → IsCarryWithin (less_kept (Some x) (Some y) c) (less_kept (Some x) (Some y) d)
kept_same x y c d le = by (x == y)
  where
    by : (b : Bool) → IsCarryWithin (if b then less_alone c else carry.None) (if b then less_alone d else carry.None)
    by true = alone_within c d le
    by false = tt

pub kept_within : (f g f' g' : Option ℕ) (c d : CarryTag) → IsSameWhere f f' → IsSameWhere g g' → IsCarryWithin c d → IsCarryWithin (less_kept f g c) (less_kept f' g' d)
kept_within f g None g' c d h k le = tt
kept_within f g (Some x) None c d h k le = tt
kept_within f g (Some x) (Some y) c d h k le =
    subst₂ (λ (a b : Option ℕ). IsCarryWithin (less_kept a b c) (less_kept (Some x) (Some y) d)) (sym (h x refl)) (sym (k y refl)) (kept_same x y c d le)

pub borrow_within : (t u : Tag) (f g : Option ℕ) → IsTagWithin t u → IsSameWhere f g → IsCarryWithin (borrow_tag t f) (borrow_tag u g)
borrow_within t u f None le tells = tt
borrow_within t u f (Some l) le tells =
    subst (λ (x : Option ℕ). IsCarryWithin (borrow_tag t x) (borrow_tag u (Some l))) (sym (tells l refl)) (tag_arithmetic_is_monotone.borrow t u l le)

high_less_of : (kind : Kind) (t : Tag) (m : ℕ) (c : CarryTag) → IsTagOf kind t → IsTagOf kind (high_less t m c)
high_less_of kind tag.None m c h = none_of kind
high_less_of kind (tag.Entry r) m c h = none_of kind
high_less_of kind tag.EntryFlags m c h = none_of kind
high_less_of kind (tag.SpLo j) m c h = none_of kind
high_less_of kind (tag.SpHi k) m carry.None h = none_of kind
high_less_of kind (tag.SpHi k) m (carry.Sum j l) h = none_of kind
high_less_of kind (tag.SpHi k) m (carry.Less r n) h = none_of kind
high_less_of kind (tag.SpHi k) m (carry.Borrow j l) h =
    if_tag_of kind (j == k % 256) (high_of (k + l + 256 * m)) tag.None
    (record { names = tt; fits = omega arith; none = λ root. let e = h.none root in absurd (cc) }) (none_of kind)

high_of_tag : (kind : Kind) (t : Tag) (f : Option ℕ) (c : CarryTag) → IsTagOf kind t → IsTagOf kind (high_tag t f c)
high_of_tag kind t None c h = none_of kind
high_of_tag kind t (Some m) c h = high_less_of kind t m c h

high_tag_within : (t u : Tag) (f g : Option ℕ) (c d : CarryTag) → IsTagWithin t u → IsSameWhere f g → IsCarryWithin c d → IsTagWithin (high_tag t f c) (high_tag u g d)
high_tag_within t u f None c d le tells over = tt
high_tag_within t u f (Some m) c d le tells over =
    subst (λ (x : Option ℕ). IsTagWithin (high_tag t x c) (high_tag u (Some m) d)) (sym (tells m refl)) (tag_arithmetic_is_monotone.high_less t u m c d le over)

low_below_of : (kind : Kind) (f : Option ℕ) (down : ℕ) → (kind ≡ Root → f ≡ None) → IsTagOf kind (low_below f down)
low_below_of kind None down h = none_of kind
low_below_of kind (Some k) down h = record { names = tt; fits = omega arith; none = λ root. let e = h root in absurd (cc) }

high_below_of : (kind : Kind) (f : Option ℕ) (down : ℕ) → (kind ≡ Root → f ≡ None) → IsTagOf kind (high_below f down)
high_below_of kind None down h = none_of kind
high_below_of kind (Some k) down h = record { names = tt; fits = omega arith; none = λ root. let e = h root in absurd (cc) }

if_within : (b : Bool) (t u t' u' : TriByte) → IsWithin t u → IsWithin t' u' → IsWithin (if b then t else t') (if b then u else u')
if_within true t u t' u' h k = h
if_within false t u t' u' h k = k

-- ---- flags

-- bit 7 stays
flags_7 : (c z n v h : Tri) (s : TriByte) → tri_at s 7 ≡ Any → tri_at (tri_flags c z n v h s) 7 ≡ Any
flags_7 c z n v h s e = bytes_are_their_bits.has_bits (flag_bit c z n v h s) 7 (omega arith) ∙ e

pub with_7 : (b : TriByte) (i : ℕ) (bit : Tri) → i ≢ 7 → tri_at b 7 ≡ Any → tri_at (byte_with b i bit) 7 ≡ Any
with_7 b i bit ne e =
    let f : ℕ → Tri = λ j. cond (eqb j i) bit (tri_at b j) in
    let other : eqb 7 i ≡ false = grind (arith, nat_tests) in
    bytes_are_their_bits.has_bits f 7 (omega arith) ∙ ap (λ (x : Bool). cond x bit (tri_at b 7)) other ∙ e

product_7 : (op : Mul) (f g : Option ℕ) (s : TriByte) → tri_at s 7 ≡ Any → tri_at (product_of_constants op f g s).1 7 ≡ Any
product_7 op None g s e = with_7 (byte_with s 0 Any) 1 Any (omega arith) (with_7 s 0 Any (omega arith) e)
product_7 op (Some x) None s e = with_7 (byte_with s 0 Any) 1 Any (omega arith) (with_7 s 0 Any (omega arith) e)
product_7 op (Some x) (Some y) s e = with_7 (byte_with s 0 _) 1 _ (omega arith) (with_7 s 0 _ (omega arith) e)

wide_7 : (up : Bool) (a : TriByte × TriByte) (n : ℕ) (s : TriByte) → tri_at s 7 ≡ Any → tri_at (abs_wide up a n s).1 7 ≡ Any
wide_7 true a n s e = flags_7 _ _ _ _ _ s e
wide_7 false a n s e = flags_7 _ _ _ _ _ s e

-- ---- registers

pub pair_set : (kind : Kind) (vs ws : List AbsByte) (r : ℕ) (v v' w w' : AbsByte) → AreRegistersLess kind vs ws → IsLess kind v w → IsLess kind v' w'
    → AreRegistersLess kind (set_pair vs r v v') (set_pair ws r w w')
pair_set kind vs ws r v v' w w' le first second =
    registers_set kind (slice_set vs r v) (slice_set ws r w) (registers_set kind vs ws le r v w first) (r + 1) v' w' second

pub swapped_within : (b c : TriByte) → IsWithin b c → IsWithin (swapped b) (swapped c)
swapped_within b c le =
    bytes_are_sets.built_within (λ i. tri_at b ((i + 4) % 8)) (λ i. tri_at c ((i + 4) % 8)) (λ i lt. bit_within b c ((i + 4) % 8) (omega arith) le)

module _ (device : Device) (k : NodeKey) (at : IsKey device k) (s t : AbsState) (le : IsStateLess k.inst.kind (offset_of k.sp) s t) where
  abbrev kind : Kind
  kind = k.inst.kind

  pub reg : (r : ℕ) → IsLess kind (value s r) (value t r)
  reg r = le.registers.each r

  pub reg_bits : (r : ℕ) → IsWithin (bits s r) (bits t r)
  reg_bits r = (le.registers.each r).within.bits

  pub flag_bits : IsWithin s.flags.bits t.flags.bits
  flag_bits = le.flags.within.bits

  carry_in : IsTriWithin (carry_bit s) (carry_bit t)
  carry_in = bit_within s.flags.bits t.flags.bits 0 (omega arith) flag_bits

  -- ---- what is written

  written_flags : (b c : TriByte) (x y : CarryTag) → IsWithin b c → tri_at b 7 ≡ Any → HasByteNumbers x → CarryNamesRegister x → (kind ≡ Root → CarryIsUntagged x) → IsCarryWithin x y
      → AreFlagsLess kind (with_carry b x) (with_carry c y)
  written_flags b c x y over top bytes names none under =
      record {
        within = record { entry = λ e. e; bits = over; carry = under };
        bit_7 = top;
        bytes = bytes;
        no_entry = λ root. refl;
        names = names;
        no_carry = none;
      }

  no_tag_flags : (b c : TriByte) → IsWithin b c → tri_at b 7 ≡ Any → AreFlagsLess kind (with_carry b carry.None) (with_carry c carry.None)
  no_tag_flags b c over top = written_flags b c carry.None carry.None over top tt tt (λ root. tt) tt

  pub kept_flags : (b c : TriByte) → IsWithin b c → tri_at b 7 ≡ Any → AreFlagsLess kind (but_carry s b) (but_carry t c)
  kept_flags b c over top = written_flags b c s.flags.carry t.flags.carry over top le.flags.bytes le.flags.names le.flags.no_carry le.flags.within.carry

  pub setting_one : (d : ℕ) (v w : AbsByte) (f g : AbsFlags) → IsLess kind v w → AreFlagsLess kind f g
      → LeadsLess device k.inst (setting (site_at device k s) (set s d v) f) (setting (site_at device k t) (set t d w) g)
  setting_one d v w f g h flags =
      setting_less device k at s t le (set s d v) (set t d w) f g (registers_set kind s.registers t.registers le.registers d v w h) flags

  pub setting_flags : (f g : AbsFlags) → AreFlagsLess kind f g → LeadsLess device k.inst (setting (site_at device k s) s.registers f) (setting (site_at device k t) t.registers g)
  setting_flags f g flags = setting_less device k at s t le s.registers t.registers f g le.registers flags

  pub setting_register : (d : ℕ) (v w : AbsByte) → IsLess kind v w → LeadsLess device k.inst (setting (site_at device k s) (set s d v) s.flags) (setting (site_at device k t) (set t d w) t.flags)
  setting_register d v w h = setting_one d v w s.flags t.flags h le.flags

  -- ---- sums and differences

  pub sum_tagged_less : (d : ℕ) (b b' : TriByte) (c c' : Tri) (x x' : Tag) (w w' : CarryTag) → IsWithin b b' → IsTriWithin c c'
      → IsTagOf kind x → IsTagWithin x x' → HasByteNumbers w → CarryNamesRegister w → (kind ≡ Root → CarryIsUntagged w) → IsCarryWithin w w'
      → LeadsLess device k.inst (going_with (site_at device k s) (sum_tagged s d b c (x, w))) (going_with (site_at device k t) (sum_tagged t d b' c' (x', w')))
  sum_tagged_less d b b' c c' x x' w w' over carries good tags bytes names none less =
      let r = all_are_monotone.sums (bits s d) b s.flags.bits (bits t d) b' t.flags.bits c c' (reg_bits d) over flag_bits carries in
      setting_one d _ _ _ _ (bits_less kind x x' _ _ good tags r.0)
      (written_flags _ _ w w' r.1 (flags_7 _ _ _ _ _ s.flags.bits le.flags.bit_7) bytes names none less)

  pub sum_less : (d : ℕ) (b b' : TriByte) (c c' : Tri) → IsWithin b b' → IsTriWithin c c' → LeadsLess device k.inst (going_with (site_at device k s) (sum_after s d b c)) (going_with (site_at device k t) (sum_after t d b' c'))
  sum_less d b b' c c' over carries =
      sum_tagged_less d b b' c c' tag.None tag.None carry.None carry.None over carries (none_of kind) tt tt tt (λ root. tt) tt

  pub compare_less : (a a' b b' : TriByte) (w w' : Tri) (keep_zero : Bool) (c c' : CarryTag) → IsWithin a a' → IsWithin b b' → IsTriWithin w w' → IsOfRegister c → IsCarryWithin c c'
      → LeadsLess device k.inst (going_with (site_at device k s) (compare_after s (a, b) (w, keep_zero) c)) (going_with (site_at device k t) (compare_after t (a', b') (w', keep_zero) c'))
  compare_less a a' b b' w w' keep_zero c c' over under borrow says less =
      let r = all_are_monotone.differences a b s.flags.bits a' b' t.flags.bits w w' keep_zero over under flag_bits borrow in
      setting_flags _ _ (written_flags _ _ c c' r.1 (flags_7 _ _ _ _ _ s.flags.bits le.flags.bit_7) says.bytes says.names (λ root. says.free) less)

  pub difference_less : (d : ℕ) (a a' b b' : TriByte) (w w' : Tri) (keep_zero : Bool) (x x' : Tag) (c c' : CarryTag) → IsWithin a a' → IsWithin b b' → IsTriWithin w w'
      → IsTagOf kind x → IsTagWithin x x' → HasByteNumbers c → CarryNamesRegister c → (kind ≡ Root → CarryIsUntagged c) → IsCarryWithin c c'
      → LeadsLess device k.inst (going_with (site_at device k s) (difference_after s d (a, b) (w, keep_zero) (x, c))) (going_with (site_at device k t) (difference_after t d (a', b') (w', keep_zero) (x', c')))
  difference_less d a a' b b' w w' keep_zero x x' c c' over under borrow good tags bytes names none carries =
      let r = all_are_monotone.differences a b s.flags.bits a' b' t.flags.bits w w' keep_zero over under flag_bits borrow in
      setting_one d _ _ _ _ (bits_less kind x x' _ _ good tags r.0)
      (written_flags _ _ c c' r.1 (flags_7 _ _ _ _ _ s.flags.bits le.flags.bit_7) bytes names none carries)

  pub sub_less : (d : ℕ) (a a' b b' : TriByte) (f g : Option ℕ) → IsWithin a a' → IsWithin b b' → IsSameWhere f g → ((n : ℕ) → f ≡ Some n → n < 256)
      → LeadsLess device k.inst (going_with (site_at device k s) (sub_after s d a b f)) (going_with (site_at device k t) (sub_after t d a' b' g))
  sub_less d a a' b b' f g over under tells small =
      let v = reg d in
      difference_less d a a' b b' Zero Zero false (low_tag (value s d).tag f) (low_tag (value t d).tag g) (borrow_tag (value s d).tag f) (borrow_tag (value t d).tag g)
      over under (λ n p. p) (low_tag_of kind (value s d).tag f v.good) (low_tag_within (value s d).tag (value t d).tag f g v.within.tag tells)
      (borrow_bytes kind (value s d).tag f v.good small) (borrow_names (value s d).tag f) (λ root. no_borrow (value s d).tag f (v.good.none root))
      (borrow_within (value s d).tag (value t d).tag f g v.within.tag tells)

  pub sbc_less : (d : ℕ) (b b' : TriByte) (f g : Option ℕ) → IsWithin b b' → IsSameWhere f g → LeadsLess device k.inst (going_with (site_at device k s) (sbc_after (view_by device k) s d b f)) (going_with (site_at device k t) (sbc_after (view_by device k) t d b' g))
  sbc_less d b b' f g under tells =
      let x : Tag = seen_high (view_by device k) (carry_number s.flags.carry) (value s d) in
      let y : Tag = seen_high (view_by device k) (carry_number t.flags.carry) (value t d) in
      difference_less d (bits s d) (bits t d) b b' (carry_bit s) (carry_bit t) true (high_tag x f s.flags.carry) (high_tag y g t.flags.carry) carry.None carry.None
      (reg_bits d) under carry_in (high_of_tag kind x f s.flags.carry (carried_of device k s t le d))
      (high_tag_within x y f g s.flags.carry t.flags.carry (carried_less device k s t le d) tells le.flags.within.carry)
      tt tt (λ root. tt) tt

  pub or_nothing_within : (d r : ℕ) (b c : TriByte) → IsWithin b c → IsWithin (or_nothing d r b) (or_nothing d r c)
  or_nothing_within d r b c h = if_within (d == r) (byte_known 0) (byte_known 0) b c (same_within (byte_known 0)) h

  -- ---- bit by bit

  pub logic_less : (op : Logic) (d : ℕ) (a a' b b' : TriByte) (same : Bool) → IsWithin a a' → IsWithin b b' → LeadsLess device k.inst (going_with (site_at device k s) (logic_after s op d (a, b) same)) (going_with (site_at device k t) (logic_after t op d (a', b') same))
  logic_less op d a a' b b' same over under =
      let r = all_are_monotone.logics op a b s.flags.bits a' b' t.flags.bits over under flag_bits in
      setting_one d _ _ _ _ (if_less kind same _ _ _ _ (reg d) (untagged_less kind _ _ r.0)) (kept_flags _ _ r.1 (flags_7 _ _ _ _ _ s.flags.bits le.flags.bit_7))

  pub step_tagged_less : (up : Bool) (d : ℕ) (x x' : Tag) → IsTagOf kind x → IsTagWithin x x'
      → LeadsLess device k.inst (going_with (site_at device k s) (step_tagged s up d x)) (going_with (site_at device k t) (step_tagged t up d x'))
  step_tagged_less up d x x' good tags =
      let r = all_are_monotone.steps up (bits s d) s.flags.bits (bits t d) t.flags.bits (reg_bits d) flag_bits in
      setting_one d _ _ _ _ (bits_less kind x x' _ _ good tags r.0) (kept_flags _ _ r.1 (flags_7 _ _ _ _ _ s.flags.bits le.flags.bit_7))

  step_less : (up : Bool) (d : ℕ) → LeadsLess device k.inst (going_with (site_at device k s) (step_after s up d)) (going_with (site_at device k t) (step_after t up d))
  step_less up d = step_tagged_less up d tag.None tag.None (none_of kind) tt

  shift_less : (op : Shift) (d : ℕ) → LeadsLess device k.inst (going_with (site_at device k s) (shift_after s op d)) (going_with (site_at device k t) (shift_after t op d))
  shift_less op d =
      let r = all_are_monotone.shifts op (bits s d) s.flags.bits (bits t d) t.flags.bits (reg_bits d) flag_bits in
      setting_one d _ _ _ _ (untagged_less kind _ _ r.0) (no_tag_flags _ _ r.1 (flags_7 _ _ _ _ _ s.flags.bits le.flags.bit_7))

  com_less : (d : ℕ) → LeadsLess device k.inst (going_with (site_at device k s) (com_after s d)) (going_with (site_at device k t) (com_after t d))
  com_less d =
      let r = all_are_monotone.coms (bits s d) s.flags.bits (bits t d) t.flags.bits (reg_bits d) flag_bits in
      setting_one d _ _ _ _ (untagged_less kind _ _ r.0) (no_tag_flags _ _ r.1 (flags_7 _ _ _ _ _ s.flags.bits le.flags.bit_7))

  -- ---- words

  pub product_less : (op : Mul) (d r : ℕ) → LeadsLess device k.inst (product_row (site_at device k s) op d r) (product_row (site_at device k t) op d r)
  product_less op d r =
      let p = all_are_monotone.products op (bits s d) (bits s r) s.flags.bits (bits t d) (bits t r) t.flags.bits (reg_bits d) (reg_bits r) flag_bits in
      setting_less device k at s t le _ _ _ _ (pair_set kind s.registers t.registers 0 _ _ _ _ le.registers (untagged_less kind _ _ p.0.0) (untagged_less kind _ _ p.0.1))
      (no_tag_flags _ _ p.1 (product_7 op (byte_constant (bits s d)) (byte_constant (bits s r)) s.flags.bits le.flags.bit_7))

  -- a pair in the root has no frame
  no_frame : (d : ℕ) (hi : Tag) → kind ≡ Root → frame_of (value s d).tag hi ≡ None
  no_frame d hi root = ap (λ (x : Tag). frame_of x hi) ((reg d).good.none root)

  pub pair_less : (d : ℕ) (up : Bool) (n : ℕ) → AreRegistersLess kind (pair_moved (view_by device k) s d up n) (pair_moved (view_by device k) t d up n)
  pair_less d up n =
      let p = all_are_monotone.words up (bits s d, bits s (d + 1)) (bits t d, bits t (d + 1)) n s.flags.bits t.flags.bits (reg_bits d, reg_bits (d + 1)) flag_bits in
      let lo = (reg d).within.tag in
      let x : Tag = high_tag_of (view_by device k) s d in
      let y : Tag = high_tag_of (view_by device k) t d in
      let hi = seen_less device k s t le d in
      let down = down_by up n in
      pair_set kind s.registers t.registers d _ _ _ _ le.registers
      (bits_less kind _ _ _ _ (low_below_of kind (frame_of (value s d).tag x) down (no_frame d x))
      (tag_arithmetic_is_monotone.low_below (value s d).tag x (value t d).tag y down lo hi) p.0.0)
      (bits_less kind _ _ _ _ (high_below_of kind (frame_of (value s d).tag x) down (no_frame d x))
      (tag_arithmetic_is_monotone.high_below (value s d).tag x (value t d).tag y down lo hi) p.0.1)

  pub wide_less : (up : Bool) (d n : ℕ) → LeadsLess device k.inst (wide_row (site_at device k s) up d n) (wide_row (site_at device k t) up d n)
  wide_less up d n =
      let p = all_are_monotone.words up (bits s d, bits s (d + 1)) (bits t d, bits t (d + 1)) n s.flags.bits t.flags.bits (reg_bits d, reg_bits (d + 1)) flag_bits in
      setting_less device k at s t le _ _ _ _ (pair_less d up n) (no_tag_flags _ _ p.1 (wide_7 up (bits s d, bits s (d + 1)) n s.flags.bits le.flags.bit_7))

  -- ---- flags

  interrupts_less : (on : Bool) → LeadsLess device k.inst (interrupts_row (site_at device k s) on) (interrupts_row (site_at device k t) on)
  interrupts_less true =
      one_less (record (next device k) { i = true; delay = not k.i }) s t (record { word = further_small device k 1; small = at.small; masks = at.masks; fits = at.fits; pick = at.pick }) le
  interrupts_less false = one_less (record (next device k) { i = false }) s t (record { word = further_small device k 1; small = at.small; masks = at.masks; fits = at.fits; pick = at.pick }) le

  flag_carry_is : (C : CarryTag → Type 0) (b : Bool) (c : CarryTag) → C c → C carry.None → C (if b then carry.None else c)
  flag_carry_is C true c h none = none
  flag_carry_is C false c h none = h

  flag_carry_within : (b : Bool) (c d : CarryTag) → IsCarryWithin c d → IsCarryWithin (if b then carry.None else c) (if b then carry.None else d)
  flag_carry_within true c d h = tt
  flag_carry_within false c d h = h

  flag_less_by : (b : Bool) (n : ℕ) (on : Bool) → (b ≡ false → n ≢ 7)
      → LeadsLess device k.inst (if b then interrupts_row (site_at device k s) on else setting (site_at device k s) s.registers (with_carry (byte_with s.flags.bits n (tri_of_bool on)) (carry_tag_at s n)))
      (if b then interrupts_row (site_at device k t) on else setting (site_at device k t) t.registers (with_carry (byte_with t.flags.bits n (tri_of_bool on)) (carry_tag_at t n)))
  flag_less_by true n on ne = interrupts_less on
  flag_less_by false n on ne =
      setting_flags _ _ (written_flags _ _ (carry_tag_at s n) (carry_tag_at t n)
      (writes_cover.more s.flags.bits t.flags.bits n (tri_of_bool on) (tri_of_bool on) flag_bits (λ m p. p))
      (with_7 s.flags.bits n (tri_of_bool on) (ne refl) le.flags.bit_7)
      (flag_carry_is HasByteNumbers (n == 0) s.flags.carry le.flags.bytes tt) (flag_carry_is CarryNamesRegister (n == 0) s.flags.carry le.flags.names tt)
      (λ root. flag_carry_is CarryIsUntagged (n == 0) s.flags.carry (le.flags.no_carry root) tt)
      (flag_carry_within (n == 0) s.flags.carry t.flags.carry le.flags.within.carry))

  pub flag_less : (n : ℕ) (on : Bool) → LeadsLess device k.inst (flag_row (site_at device k s) n on) (flag_row (site_at device k t) n on)
  flag_less n on = flag_less_by (n == 7) n on (λ e. grind (arith, nat_tests))

  -- ---- by the operation

  pub number_tells : (n : ℕ) → IsSameWhere (Some n) (Some n)
  number_tells n x e = e

  pub number_small : (n : ℕ) → n < 256 → (x : ℕ) → Some n ≡ Some x → x < 256
  number_small n lt x e = let is : n ≡ x = cc in omega (arith, is)

  pub immediate_less : (op : ImmediateOp) (d n : ℕ) → d < 32 → n < 256 → LeadsLess device k.inst (immediate_row false (site_at device k s) op d n) (immediate_row false (site_at device k t) op d n)
  immediate_less immediate.Cpi d n low lt =
      compare_less (bits s d) (bits t d) (byte_known n) (byte_known n) Zero Zero false (carry.Less d n) (carry.Less d n) (reg_bits d) (same_within (byte_known n)) (λ m p. p) (less_of d n low lt) refl
  immediate_less immediate.Sbci d n low lt = sbc_less d (byte_known n) (byte_known n) (Some n) (Some n) (same_within (byte_known n)) (number_tells n)
  immediate_less immediate.Subi d n low lt =
      sub_less d (bits s d) (bits t d) (byte_known n) (byte_known n) (Some n) (Some n) (reg_bits d) (same_within (byte_known n)) (number_tells n) (number_small n lt)
  immediate_less immediate.Ori d n low lt =
      logic_less logic.Or d (bits s d) (bits t d) (byte_known n) (byte_known n) false (reg_bits d) (same_within (byte_known n))
  immediate_less immediate.Andi d n low lt =
      logic_less logic.And d (bits s d) (bits t d) (byte_known n) (byte_known n) false (reg_bits d) (same_within (byte_known n))
  immediate_less immediate.Ldi d n low lt = setting_register d (known n) (known n) (known_same kind n)

  pub unary_less : (op : UnaryOp) (d : ℕ) → LeadsLess device k.inst (unary_row false (site_at device k s) op d) (unary_row false (site_at device k t) op d)
  unary_less unary.Com d = com_less d
  unary_less unary.Neg d =
      difference_less d (byte_known 0) (byte_known 0) (bits s d) (bits t d) Zero Zero false tag.None tag.None carry.None carry.None
      (same_within (byte_known 0)) (reg_bits d) (λ m p. p) (none_of kind) tt tt tt (λ root. tt) tt
  unary_less unary.Swap d =
      setting_register d (untagged (swapped (bits s d))) (untagged (swapped (bits t d))) (untagged_less kind _ _ (swapped_within (bits s d) (bits t d) (reg_bits d)))
  unary_less unary.Inc d = step_less true d
  unary_less unary.Asr d = shift_less shift.Asr d
  unary_less unary.Lsr d = shift_less shift.Lsr d
  unary_less unary.Ror d = shift_less shift.Ror d
  unary_less unary.Dec d = step_less false d
