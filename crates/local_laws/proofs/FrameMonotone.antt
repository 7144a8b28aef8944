-- The results at a site with a `frame` line are monotone.
use Rattle.std.proofs.Common.{◌≡◌, ℕ, ◌<◌, Bool, true, false, Option, Some}
use Rattle.local_rules.specs.Cover.{IsKey}
use Rattle.abs_alu.proofs.AllLaws.{same_within}
use Rattle.avr_model.specs.declared.device.Device.{Device}
use Rattle.avr_model.specs.declared.instruction.ImmediateOp.{ImmediateOp}
use Rattle.avr_model.specs.declared.instruction.ImmediateOp.TheVariants as immediate
use Rattle.avr_model.specs.declared.instruction.UnaryOp.{UnaryOp}
use Rattle.avr_model.specs.declared.instruction.UnaryOp.TheVariants as unary
use Rattle.bit_domain.specs.declared.bits.Tri.TheVariants.{Zero}
use Rattle.bit_domain.specs.declared.bytes.TriByte.{TriByte}
use Rattle.bit_domain.specs.TriByte.{IsWithin, byte_known}
use Rattle.sp_domain.specs.declared.tags.Tag.{Tag}
use Rattle.sp_domain.specs.declared.tags.CarryTag.TheVariants as carry
use Rattle.sp_domain.specs.Tags.{high_moved}
use Rattle.sp_domain.proofs.AllLaws.{tag_arithmetic_is_monotone}
use Rattle.abs_state.specs.declared.state.AbsState.{AbsState}
use Rattle.node_keys.specs.declared.keys.NodeKey.{NodeKey}
use Rattle.node_keys.specs.declared.keys.Kind.{Kind}
use Rattle.node_keys.specs.Keys.{offset_of}
use Rattle.local_rules.specs.Registers.{value, bits, carry_bit, borrow_tag, going_with}
use Rattle.local_rules.specs.HighBytes.{view_by, carry_number, seen_high}
use Rattle.local_rules.specs.FrameLines.{followed, added, more_tag, sum_tag, high_more_tag, less_tag, tag_followed, number_added, framed_add, framed_adc, framed_sub, framed_step}
use Rattle.local_rules.specs.Local.{immediate_row, unary_row}
use Rattle.local_laws.proofs.MonotoneValues.{IsStateLess, IsSameWhere, any_bit_within, constant_is, constant_tells}
use Rattle.local_laws.proofs.MonotoneHigh.{carried_less, carried_of}
use Rattle.local_laws.proofs.MonotoneRaw.{LeadsLess}
use Rattle.local_laws.proofs.MonotoneAlu.{reg, reg_bits, flag_bits, borrow_bytes, no_borrow, borrow_names, borrow_within, number_tells, number_small, sum_tagged_less, difference_less, step_tagged_less, immediate_less, unary_less}
use Rattle.local_laws.proofs.FrameTags.{high_moved_of, more_of, less_of, high_of_sum, sum_bytes, no_sum, sum_names, more_within, less_within, sum_within, high_within}
use Rattle.local_rules.specs.Site.{site_at}

module _ (device : Device) (k : NodeKey) (at : IsKey device k) (s t : AbsState) (le : IsStateLess k.inst.kind (offset_of k.sp) s t) where
  abbrev kind : Kind
  kind = k.inst.kind

  added_tells : (d r : ℕ) → IsSameWhere (number_added s d r) (number_added t d r)
  added_tells d r = constant_tells (bits s (added d r)) (bits t (added d r)) (reg_bits device k at s t le (added d r))

  pub add_less : (d r : ℕ) → LeadsLess device k.inst (going_with (site_at device k s) (framed_add s d r)) (going_with (site_at device k t) (framed_add t d r))
  add_less d r =
      let v = reg device k at s t le (followed d r) in
      let tells = added_tells d r in
      sum_tagged_less device k at s t le d (bits s r) (bits t r) Zero Zero
      (more_tag (tag_followed s d r) (number_added s d r)) (more_tag (tag_followed t d r) (number_added t d r))
      (sum_tag (tag_followed s d r) (number_added s d r)) (sum_tag (tag_followed t d r) (number_added t d r))
      (reg_bits device k at s t le r) (λ n p. p)
      (more_of kind (tag_followed s d r) (number_added s d r) v.good)
      (more_within (tag_followed s d r) (tag_followed t d r) (number_added s d r) (number_added t d r) v.within.tag tells)
      (sum_bytes kind (tag_followed s d r) (number_added s d r) v.good (λ n e. (constant_is (bits s (added d r)) n e).1))
      (sum_names (tag_followed s d r) (number_added s d r)) (λ root. no_sum (tag_followed s d r) (number_added s d r) (v.good.none root))
      (sum_within (tag_followed s d r) (tag_followed t d r) (number_added s d r) (number_added t d r) v.within.tag tells)

  pub adc_less : (d r : ℕ) → LeadsLess device k.inst (going_with (site_at device k s) (framed_adc (view_by device k) s d r)) (going_with (site_at device k t) (framed_adc (view_by device k) t d r))
  adc_less d r =
      let x : Tag = seen_high (view_by device k) (carry_number s.flags.carry) (value s (followed d r)) in
      let y : Tag = seen_high (view_by device k) (carry_number t.flags.carry) (value t (followed d r)) in
      sum_tagged_less device k at s t le d (bits s r) (bits t r) (carry_bit s) (carry_bit t)
      (high_more_tag x (number_added s d r) s.flags.carry) (high_more_tag y (number_added t d r) t.flags.carry)
      carry.None carry.None (reg_bits device k at s t le r) (any_bit_within s.flags.bits t.flags.bits 0 (flag_bits device k at s t le))
      (high_of_sum kind x (number_added s d r) s.flags.carry (carried_of device k s t le (followed d r)))
      (high_within x y (number_added s d r) (number_added t d r) s.flags.carry t.flags.carry (carried_less device k s t le (followed d r)) (added_tells d r) le.flags.within.carry)
      tt tt (λ root. tt) tt

  pub framed_sub_less : (d : ℕ) (b b' : TriByte) (f g : Option ℕ) → IsWithin b b' → IsSameWhere f g → ((n : ℕ) → f ≡ Some n → n < 256)
      → LeadsLess device k.inst (going_with (site_at device k s) (framed_sub s d b f)) (going_with (site_at device k t) (framed_sub t d b' g))
  framed_sub_less d b b' f g under tells small =
      let v = reg device k at s t le d in
      difference_less device k at s t le d (bits s d) (bits t d) b b' Zero Zero false
      (less_tag (value s d).tag f) (less_tag (value t d).tag g) (borrow_tag (value s d).tag f) (borrow_tag (value t d).tag g)
      (reg_bits device k at s t le d) under (λ n p. p) (less_of kind (value s d).tag f v.good) (less_within (value s d).tag (value t d).tag f g v.within.tag tells)
      (borrow_bytes kind (value s d).tag f v.good small) (borrow_names (value s d).tag f) (λ root. no_borrow (value s d).tag f (v.good.none root))
      (borrow_within (value s d).tag (value t d).tag f g v.within.tag tells)

  framed_step_less : (up : Bool) (d : ℕ) → LeadsLess device k.inst (going_with (site_at device k s) (framed_step s up d)) (going_with (site_at device k t) (framed_step t up d))
  framed_step_less up d =
      let v = reg device k at s t le d in
      step_tagged_less device k at s t le up d (high_moved (value s d).tag up 1) (high_moved (value t d).tag up 1)
      (high_moved_of kind (value s d).tag up 1 v.good) (tag_arithmetic_is_monotone.high_moved (value s d).tag (value t d).tag up 1 v.within.tag)

  -- ---- by the operation

  framed_immediate_less : (op : ImmediateOp) (d n : ℕ) → d < 32 → n < 256 → LeadsLess device k.inst (immediate_row true (site_at device k s) op d n) (immediate_row true (site_at device k t) op d n)
  framed_immediate_less immediate.Cpi d n low lt = immediate_less device k at s t le immediate.Cpi d n low lt
  framed_immediate_less immediate.Sbci d n low lt = immediate_less device k at s t le immediate.Sbci d n low lt
  framed_immediate_less immediate.Subi d n low lt =
      framed_sub_less d (byte_known n) (byte_known n) (Some n) (Some n) (same_within (byte_known n)) (number_tells device k at s t le n) (number_small device k at s t le n lt)
  framed_immediate_less immediate.Ori d n low lt = immediate_less device k at s t le immediate.Ori d n low lt
  framed_immediate_less immediate.Andi d n low lt = immediate_less device k at s t le immediate.Andi d n low lt
  framed_immediate_less immediate.Ldi d n low lt = immediate_less device k at s t le immediate.Ldi d n low lt

  pub immediate_line_less : (line : Bool) (op : ImmediateOp) (d n : ℕ) → d < 32 → n < 256 → LeadsLess device k.inst (immediate_row line (site_at device k s) op d n) (immediate_row line (site_at device k t) op d n)
  immediate_line_less true op d n low lt = framed_immediate_less op d n low lt
  immediate_line_less false op d n low lt = immediate_less device k at s t le op d n low lt

  framed_unary_less : (op : UnaryOp) (d : ℕ) → LeadsLess device k.inst (unary_row true (site_at device k s) op d) (unary_row true (site_at device k t) op d)
  framed_unary_less unary.Com d = unary_less device k at s t le unary.Com d
  framed_unary_less unary.Neg d = unary_less device k at s t le unary.Neg d
  framed_unary_less unary.Swap d = unary_less device k at s t le unary.Swap d
  framed_unary_less unary.Inc d = framed_step_less true d
  framed_unary_less unary.Asr d = unary_less device k at s t le unary.Asr d
  framed_unary_less unary.Lsr d = unary_less device k at s t le unary.Lsr d
  framed_unary_less unary.Ror d = unary_less device k at s t le unary.Ror d
  framed_unary_less unary.Dec d = framed_step_less false d

  pub unary_line_less : (line : Bool) (op : UnaryOp) (d : ℕ) → LeadsLess device k.inst (unary_row line (site_at device k s) op d) (unary_row line (site_at device k t) op d)
  unary_line_less true op d = framed_unary_less op d
  unary_line_less false op d = unary_less device k at s t le op d
