-- The results at a site with a `frame` line cover the machine's.
use Rattle.std.proofs.Common.{◌≡◌, refl, sym, subst, ℕ, ◌%◌, ◌<◌, nat_le, nat_lt, Bool, true, false, if◌then◌else◌, Option, Some, None, arith}
use Rattle.avr_model.specs.Sums.{sum_of, difference_of}
use Rattle.avr_model.specs.Bitwise.{step_of}
use Rattle.avr_model.specs.State.{State, register}
use Rattle.avr_model.specs.Effects.{carry, sum_effect, difference_effect, step_effect}
use Rattle.bit_domain.specs.declared.bits.Tri.TheVariants.{Zero}
use Rattle.bit_domain.specs.declared.bytes.TriByte.{TriByte}
use Rattle.bit_domain.specs.TriByte.{Has, byte_constant}
use Rattle.sp_domain.specs.declared.tags.Tag.{Tag}
use Rattle.sp_domain.specs.declared.tags.CarryTag.TheVariants as carry_tag
use Rattle.sp_domain.specs.Tags.{Origin, TagHolds, CarryHolds, high_moved}
use Rattle.sp_domain.proofs.AllLaws.{sums_are_true}
use Rattle.abs_state.specs.declared.state.AbsState.{AbsState}
use Rattle.node_keys.specs.declared.keys.NodeKey.{NodeKey}
use Rattle.local_rules.specs.Registers.{value, bits, carry_bit, borrow_tag, going_with}
use Rattle.local_rules.specs.HighBytes.{view_by, carry_number, seen_high}
use Rattle.local_rules.specs.FrameLines.{is_second, followed, more_tag, sum_tag, high_more_tag, less_tag, tag_followed, number_added, framed_add, framed_adc, framed_sub, framed_step}
use Rattle.local_laws.proofs.Bare.{InBareFrame}
use Rattle.local_laws.proofs.Landing.{FollowsWhere}
use Rattle.local_laws.proofs.Bits.{constant_is}
use Rattle.local_laws.proofs.HighBytes.{seen_stands}
use Rattle.local_laws.proofs.Frame.{register_stands}
use Rattle.local_laws.proofs.Alu.{register_byte, register_bits, carry_may, no_carry, borrow_holds, sum_tagged_covered, difference_covered, step_tagged_covered}
use Rattle.local_laws.proofs.Less.{Spares, borrow_names_none, sum_names_none}
use Rattle.local_rules.specs.Site.{site_at}

-- addition commutes
turned : (x y : ℕ) (c : Bool) → sum_of y x c ≡ sum_of x y c
turned x y c = omega arith

step_up : (x : ℕ) → sum_of x 1 false % 256 ≡ step_of true x
step_up x = omega arith

step_down : (x : ℕ) → x < 256 → difference_of x 1 false ≡ step_of false x
step_down x lt = omega arith

module _ {may : Bool} (m : State) (o : Origin) (k : NodeKey) (s : AbsState) (at : InBareFrame may m o k s) where
  register_number : (r l : ℕ) → byte_constant (bits s r) ≡ Some l → register m r ≡ l
  register_number r l some = constant_is (bits s r) (register m r) l some (register_byte m o k s at r) (register_bits m o k s at r)

  -- ---- tags

  more_holds : (f y : ℕ) (number : Option ℕ) → y < 256 → ((l : ℕ) → number ≡ Some l → y ≡ l)
      → TagHolds o (more_tag (value s f).tag number) (sum_of (register m f) y false % 256)
  more_holds f y None small is = tt
  more_holds f y (Some l) small is =
      subst (λ n. TagHolds o (more_tag (value s f).tag (Some n)) (sum_of (register m f) y false % 256)) (is l refl)
      (sums_are_true.more o (value s f).tag (register m f) y (register_byte m o k s at f) small (register_stands m o k s at f).tag)

  sum_holds : (f y : ℕ) (number : Option ℕ) → y < 256 → ((l : ℕ) → number ≡ Some l → y ≡ l)
      → CarryHolds o (sum_tag (value s f).tag number) (nat_le 256 (sum_of (register m f) y false))
  sum_holds f y None small is = tt
  sum_holds f y (Some l) small is =
      subst (λ n. CarryHolds o (sum_tag (value s f).tag (Some n)) (nat_le 256 (sum_of (register m f) y false))) (is l refl)
      (sums_are_true.carry o (value s f).tag (register m f) y (register_byte m o k s at f) small (register_stands m o k s at f).tag)

  -- what is read of a register beside the low byte that C is of
  abbrev carried : ℕ → Tag
  carried f = seen_high (view_by m.device k) (carry_number s.flags.carry) (value s f)

  high_holds : (f y : ℕ) (number : Option ℕ) → y < 256 → ((l : ℕ) → number ≡ Some l → y ≡ l)
      → TagHolds o (high_more_tag (carried f) number s.flags.carry) (sum_of (register m f) y (carry m) % 256)
  high_holds f y None small is = tt
  high_holds f y (Some l) small is =
      subst (λ n. TagHolds o (high_more_tag (carried f) (Some n) s.flags.carry) (sum_of (register m f) y (carry m) % 256)) (is l refl)
      (sums_are_true.high o (carried f) (register m f) y s.flags.carry (carry m) (register_byte m o k s at f) small at.node.carry_bytes
      (seen_stands m o k s at (carry_number s.flags.carry) f) at.stands.flags.carry)

  less_holds : (d y : ℕ) (number : Option ℕ) → y < 256 → ((l : ℕ) → number ≡ Some l → y ≡ l)
      → TagHolds o (less_tag (value s d).tag number) (difference_of (register m d) y false)
  less_holds d y None small is = tt
  less_holds d y (Some l) small is =
      subst (λ n. TagHolds o (less_tag (value s d).tag (Some n)) (difference_of (register m d) y false)) (is l refl)
      (sums_are_true.less o (value s d).tag (register m d) y (register_byte m o k s at d) small (register_stands m o k s at d).tag)

  step_holds : (up : Bool) (d : ℕ) → TagHolds o (high_moved (value s d).tag up 1) (step_of up (register m d))
  step_holds true d =
      subst (TagHolds o (high_moved (value s d).tag true 1)) (step_up (register m d))
      (sums_are_true.up o (value s d).tag (register m d) 1 (register_byte m o k s at d) (omega arith) (register_stands m o k s at d).tag)
  step_holds false d =
      subst (TagHolds o (high_moved (value s d).tag false 1)) (step_down (register m d) (register_byte m o k s at d))
      (sums_are_true.down o (value s d).tag (register m d) 1 (register_byte m o k s at d) (omega arith) (register_stands m o k s at d).tag)

  -- ---- of the register that is followed

  more_by : (second : Bool) (d r : ℕ)
      → TagHolds o (more_tag (value s (if second then r else d)).tag (byte_constant (bits s (if second then d else r)))) (sum_of (register m d) (register m r) false % 256)
  more_by false d r = more_holds d (register m r) (byte_constant (bits s r)) (register_byte m o k s at r) (register_number r)
  more_by true d r =
      subst (λ n. TagHolds o (more_tag (value s r).tag (byte_constant (bits s d))) (n % 256)) (turned (register m d) (register m r) false)
      (more_holds r (register m d) (byte_constant (bits s d)) (register_byte m o k s at d) (register_number d))

  sum_by : (second : Bool) (d r : ℕ)
      → CarryHolds o (sum_tag (value s (if second then r else d)).tag (byte_constant (bits s (if second then d else r)))) (nat_le 256 (sum_of (register m d) (register m r) false))
  sum_by false d r = sum_holds d (register m r) (byte_constant (bits s r)) (register_byte m o k s at r) (register_number r)
  sum_by true d r =
      subst (λ n. CarryHolds o (sum_tag (value s r).tag (byte_constant (bits s d))) (nat_le 256 n)) (turned (register m d) (register m r) false)
      (sum_holds r (register m d) (byte_constant (bits s d)) (register_byte m o k s at d) (register_number d))

  high_by : (second : Bool) (d r : ℕ)
      → TagHolds o (high_more_tag (carried (if second then r else d)) (byte_constant (bits s (if second then d else r))) s.flags.carry) (sum_of (register m d) (register m r) (carry m) % 256)
  high_by false d r = high_holds d (register m r) (byte_constant (bits s r)) (register_byte m o k s at r) (register_number r)
  high_by true d r =
      subst (λ n. TagHolds o (high_more_tag (carried r) (byte_constant (bits s d)) s.flags.carry) (n % 256)) (turned (register m d) (register m r) (carry m))
      (high_holds r (register m d) (byte_constant (bits s d)) (register_byte m o k s at d) (register_number d))

  -- ---- rows

  module _ (guarded : Bool) (b1 b2 : ℕ) where
    pub framed_add_covered : (d r : ℕ) → FollowsWhere may m o s.facts k guarded b1 b2 (sum_effect m d (register m d) (register m r) false) (going_with (site_at m.device k s) (framed_add s d r))
    framed_add_covered d r =
        sum_tagged_covered m o k s at guarded b1 b2 d (register m r) (bits s r) false Zero
        (more_tag (tag_followed s d r) (number_added s d r)) (sum_tag (tag_followed s d r) (number_added s d r))
        (register_byte m o k s at r) (register_bits m o k s at r) refl (more_by (is_second d r) d r) (sum_by (is_second d r) d r)
        (sum_names_none (tag_followed s d r) (number_added s d r))

    pub framed_adc_covered : (d r : ℕ) → FollowsWhere may m o s.facts k guarded b1 b2 (sum_effect m d (register m d) (register m r) (carry m)) (going_with (site_at m.device k s) (framed_adc (view_by m.device k) s d r))
    framed_adc_covered d r =
        sum_tagged_covered m o k s at guarded b1 b2 d (register m r) (bits s r) (carry m) (carry_bit s)
        (high_more_tag (carried (followed d r)) (number_added s d r) s.flags.carry) carry_tag.None
        (register_byte m o k s at r) (register_bits m o k s at r) (carry_may m o k s at guarded b1 b2) (high_by (is_second d r) d r) tt tt

    pub framed_sub_covered : (d y : ℕ) (b : TriByte) (number : Option ℕ) → y < 256 → Has b y → ((l : ℕ) → number ≡ Some l → y ≡ l)
        → FollowsWhere may m o s.facts k guarded b1 b2 (difference_effect m d (register m d) y false false) (going_with (site_at m.device k s) (framed_sub s d b number))
    framed_sub_covered d y b number small has is =
        difference_covered m o k s at guarded b1 b2 d (register m d) y (bits s d) b false Zero false
        (less_tag (value s d).tag number) (borrow_tag (value s d).tag number) (register_byte m o k s at d) small (register_bits m o k s at d) has refl
        (less_holds d y number small is)
        (subst (λ n. CarryHolds o (borrow_tag (value s d).tag number) (nat_lt (register m d) n)) (sym (no_carry m o k s at guarded b1 b2 y)) (borrow_holds m o k s at guarded b1 b2 d y number small is))
        (borrow_names_none (value s d).tag number)

    pub framed_step_covered : (up : Bool) (d : ℕ) → Spares s.flags.carry d → FollowsWhere may m o s.facts k guarded b1 b2 (step_effect m up d) (going_with (site_at m.device k s) (framed_step s up d))
    framed_step_covered up d spare = step_tagged_covered m o k s at guarded b1 b2 up d (high_moved (value s d).tag up 1) (step_holds up d) spare
