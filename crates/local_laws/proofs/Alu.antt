-- Rows that work on registers and flags alone.
use Rattle.std.proofs.Common.{◌≡◌, refl, sym, ◌∙◌, ap, subst, subst₂, ℕ, zero, suc, ◌+◌, ◌-◌, ◌*◌, ◌/◌, ◌%◌, ◌<◌, ◌==◌, nat_lt, nat_le, Bool, true, false, not, ◌&&◌, ◌||◌, if◌then◌else◌, [], Option, Some, None, ◌∷◌, arith, bit_xor}
use Rattle.std.specs.Int.{bit_at, from_bool}
use Rattle.std.proofs.lemmas.Int.{ints}
use Rattle.std.specs.Int.Bits.{xor_self}
use Rattle.std.proofs.lemmas.Bool.Decides.{nat_tests}
use Rattle.avr_model.specs.declared.operation.Logic.{Logic}
use Rattle.avr_model.specs.declared.operation.Logic.TheVariants as logic
use Rattle.avr_model.specs.declared.operation.Shift.{Shift}
use Rattle.avr_model.specs.declared.operation.Mul.{Mul}
use Rattle.avr_model.specs.Sreg.{flag, with_flags}
use Rattle.avr_model.specs.Sums.{sum_of, flags_of_sum, difference_of, flags_of_difference, overflows, signed_difference_of}
use Rattle.avr_model.specs.Bitwise.{logic_of, flags_of_result, step_of, step_overflows, shift_of, flags_of_shift}
use Rattle.avr_model.specs.Product.{result_of, flags_of_product}
use Rattle.avr_model.specs.Wide.{wide_of, flags_of_wide}
use Rattle.avr_model.specs.State.{State, register, pair, low, high, minus16}
use Rattle.avr_model.specs.Effects.{setting, set, set_pair, carry, sum_effect, difference_effect, compare_effect, logic_effect, product_effect, step_effect, shift_effect, wide_effect}
use Rattle.avr_model.specs.Step.{with_registers}
use Rattle.bit_domain.specs.declared.bits.Tri.{Tri}
use Rattle.bit_domain.specs.declared.bits.Tri.TheVariants.{Zero}
use Rattle.bit_domain.specs.declared.bytes.TriByte.{TriByte}
use Rattle.bit_domain.specs.Tri.{Permits}
use Rattle.bit_domain.specs.TriByte.{Has, tri_at, byte_known, byte_constant}
use Rattle.bit_domain.proofs.AllLaws.{bytes_are_sets}
use Rattle.abs_alu.specs.Laws.{Covers, CoversWord}
use Rattle.abs_alu.specs.Sums.{abs_add, abs_sub}
use Rattle.abs_alu.specs.Bitwise.{abs_logic, abs_com, abs_step_one, abs_shift}
use Rattle.abs_alu.specs.Product.{abs_mul}
use Rattle.abs_alu.specs.Words.{abs_wide}
use Rattle.abs_alu.proofs.AllLaws.{all_sums_cover, all_bitwise_cover, all_products_cover, all_words_cover, step_small, has_known, logic_small, result_small}
use Rattle.sp_domain.specs.declared.tags.Tag.{Tag}
use Rattle.sp_domain.specs.declared.tags.Tag.TheVariants as tag
use Rattle.sp_domain.specs.declared.tags.CarryTag.{CarryTag}
use Rattle.sp_domain.specs.declared.tags.CarryTag.TheVariants as carry_tag
use Rattle.sp_domain.specs.Tags.{Origin, TagHolds, CarryHolds, LessHolds}
use Rattle.sp_domain.specs.Laws.{PairHolds}
use Rattle.sp_domain.proofs.AllLaws.{differences_are_true, pairs_are_true}
use Rattle.abs_state.specs.declared.values.AbsByte.{AbsByte}
use Rattle.abs_state.specs.declared.state.AbsState.{AbsState}
use Rattle.abs_state.specs.Values.{untagged}
use Rattle.abs_state.specs.Formed.{CarryIsUntagged}
use Rattle.abs_state.specs.Stands.{ByteStands, RegistersStand}
use Rattle.abs_state.proofs.AllLaws.{bits_make_values}
use Rattle.node_keys.specs.declared.keys.NodeKey.{NodeKey}
use Rattle.local_rules.specs.HighBytes.{view_by, low_number, carry_number, seen_high}
use Rattle.local_rules.specs.Raw.{setting as node_setting}
use Rattle.local_rules.specs.Registers.{value, bits, carry_bit, with_bits, set as node_set, set_pair as node_pair, with_carry, but_carry, low_tag, borrow_tag, high_tag, high_tag_of, swapped, product_row, down_by, pair_tags, pair_moved, wide_row, going_with, sum_tagged, sum_after, compare_after, difference_after, sub_after, sbc_after, logic_after, step_tagged, step_after, shift_after, com_after}
use Rattle.local_laws.proofs.Bare.{InBareFrame}
use Rattle.local_laws.proofs.Landing.{FollowsWhere}
use Rattle.local_laws.proofs.HighBytes.{seen_stands}
use Rattle.local_laws.proofs.Bits.{with_flags_i, with_flags_carry, with_carry_and_zero_i, permits_flag, constant_is}
use Rattle.local_laws.proofs.Bytes.{byte_in_list}
use Rattle.local_laws.proofs.EffectSizes.{shift_small, wide_small}
use Rattle.local_laws.proofs.Frame.{register_stands, set_one, set_two, sets}
use Rattle.local_laws.proofs.Less.{Spares, SparesAll, NamesNone, less_set, less_two, less_of_none, borrow_names_none, untagged_holds}
use Rattle.local_rules.specs.Site.{site_at}

-- ---- bytes

-- a byte less itself is 0 - 0, with the same flags
same_result : (a : ℕ) → a < 256 → difference_of a a false ≡ difference_of 0 0 false
same_result a lt = omega arith

same_borrow : (a : ℕ) → nat_lt a (a + 0) ≡ false
same_borrow a = grind (arith, nat_tests)

same_overflow : (a : ℕ) → a < 256 → overflows (signed_difference_of a a false) ≡ false
same_overflow a lt = grind (arith, ints)

pub same_flags : (a s : ℕ) → a < 256 → flags_of_difference a a false false s ≡ flags_of_difference 0 0 false false s
same_flags a s lt =
    let nothing = same_result a lt in
    let less = same_borrow a in
    let over = same_overflow a lt in
    let half = same_borrow (a % 16) in
    λ i. with_flags (less i) (nothing i == 0 && (not false || flag s 1)) (nat_le 128 (nothing i)) (over i) (half i) s

pub low_pair : (x y : ℕ) → x < 256 → (x + 256 * y) % 256 ≡ x
low_pair x y lt = omega arith

pub high_pair : (x y : ℕ) → x < 256 → (x + 256 * y) / 256 ≡ y
high_pair x y lt = omega arith

moved_is : (up : Bool) (w n : ℕ) → w < 65536 → n < 256 → minus16 w (down_by up n) ≡ wide_of up w n
moved_is true w n lt small = omega arith
moved_is false w n lt small = omega arith

wide_i : (up : Bool) (w n s : ℕ) → flag (flags_of_wide up w n s) 7 ≡ flag s 7
wide_i true w n s = with_flags_i _ _ _ _ _ s
wide_i false w n s = with_flags_i _ _ _ _ _ s

difference_small : (x y : ℕ) (c : Bool) → difference_of x y c < 256
difference_small x y c = omega arith

swapped_bit : (x i : ℕ) → x < 256 → i < 8 → bit_at x ((i + 4) % 8) ≡ bit_at (x % 16 * 16 + x / 16) i
swapped_bit x zero small lt = omega arith
swapped_bit x (suc zero) small lt = omega arith
swapped_bit x (suc (suc zero)) small lt = omega arith
swapped_bit x (suc (suc (suc zero))) small lt = omega arith
swapped_bit x (suc (suc (suc (suc zero)))) small lt = omega arith
swapped_bit x (suc (suc (suc (suc (suc zero))))) small lt = omega arith
swapped_bit x (suc (suc (suc (suc (suc (suc zero)))))) small lt = omega arith
swapped_bit x (suc (suc (suc (suc (suc (suc (suc zero))))))) small lt = omega arith
swapped_bit x (suc (suc (suc (suc (suc (suc (suc (suc i)))))))) small lt = absurd (omega arith)

has_swapped : (t : TriByte) (x : ℕ) → x < 256 → Has t x → Has (swapped t) (x % 16 * 16 + x / 16)
has_swapped t x small has =
    bytes_are_sets.built (λ i. tri_at t ((i + 4) % 8)) (x % 16 * 16 + x / 16)
    (λ i lt. subst (Permits (tri_at t ((i + 4) % 8))) (swapped_bit x i small lt) (has ((i + 4) % 8) (omega arith)))

result_i : (c v : Bool) (r s : ℕ) → flag (flags_of_result c v r s) 7 ≡ flag s 7
result_i c v r s = with_flags_i c (r == 0) (nat_le 128 r) v (flag s 5) s

pub result_carry : (c v : Bool) (r s : ℕ) → flag (flags_of_result c v r s) 0 ≡ c
result_carry c v r s = with_flags_carry c (r == 0) (nat_le 128 r) v (flag s 5) s

module _ {may : Bool} (m : State) (o : Origin) (k : NodeKey) (s : AbsState) (at : InBareFrame may m o k s) where
  pub register_byte : (r : ℕ) → register m r < 256
  register_byte r = byte_in_list m.registers r at.machine.register_bytes

  pub register_bits : (r : ℕ) → Has (bits s r) (register m r)
  register_bits r = (register_stands m o k s at r).bits

  flag_bits : Has s.flags.bits m.sreg
  flag_bits = at.stands.flags.bits

  module _ (guarded : Bool) (b1 b2 : ℕ) where
    -- sets one register and the flags; the carry tag names no register
    answers : (d result flags : ℕ) (answer : TriByte × TriByte) (t : Tag) (c : CarryTag) → Covers answer result flags → result < 256 → flag flags 7 ≡ flag m.sreg 7
        → TagHolds o t result → CarryHolds o c (flag flags 0) → NamesNone c
        → FollowsWhere may m o s.facts k guarded b1 b2 (setting m (set d result) flags) (node_setting (site_at m.device k s) (node_set s d (with_bits t answer.0)) (with_carry answer.1 c))
    answers d result flags answer t c covers small i tagged borrow none =
        sets m o k s at guarded b1 b2 (set d result) flags (node_set s d (with_bits t answer.0)) (with_carry answer.1 c) i
        (set_one m o k s at d (with_bits t answer.0) result (bits_make_values.stands o t answer.0 result small tagged covers.0)) (record { entry = tt; bits = covers.1; carry = borrow })
        (less_of_none _ c (flag flags 0) none)

    -- sets one register and the flags, and keeps the carry
    kept : (d result flags : ℕ) (v : AbsByte) (b : TriByte) → ByteStands o v result → Has b flags → flag flags 7 ≡ flag m.sreg 7 → flag flags 0 ≡ flag m.sreg 0
        → Spares s.flags.carry d → FollowsWhere may m o s.facts k guarded b1 b2 (setting m (set d result) flags) (node_setting (site_at m.device k s) (node_set s d v) (but_carry s b))
    kept d result flags v b h has i c spare =
        sets m o k s at guarded b1 b2 (set d result) flags (node_set s d v) (but_carry s b) i (set_one m o k s at d v result h)
        (record { entry = tt; bits = has; carry = subst (CarryHolds o s.flags.carry) (sym c) at.stands.flags.carry })
        (less_set m.registers s.flags.carry (flag flags 0) d result spare (subst (LessHolds m.registers s.flags.carry) (sym c) at.stands.less))

    keeps : (d result flags : ℕ) (answer : TriByte × TriByte) → Covers answer result flags → result < 256 → flag flags 7 ≡ flag m.sreg 7 → flag flags 0 ≡ flag m.sreg 0
        → Spares s.flags.carry d
        → FollowsWhere may m o s.facts k guarded b1 b2 (setting m (set d result) flags) (node_setting (site_at m.device k s) (node_set s d (untagged answer.0)) (but_carry s answer.1))
    keeps d result flags answer covers small i c spare =
        kept d result flags (untagged answer.0) answer.1 (bits_make_values.stands o tag.None answer.0 result small tt covers.0) covers.1 i c spare

    -- sets one register and keeps the flags
    pub moves : (d x : ℕ) (v : AbsByte) → ByteStands o v x → Spares s.flags.carry d
        → FollowsWhere may m o s.facts k guarded b1 b2 (setting m (set d x) m.sreg) (node_setting (site_at m.device k s) (node_set s d v) s.flags)
    moves d x v h spare =
        sets m o k s at guarded b1 b2 (set d x) m.sreg (node_set s d v) s.flags refl (set_one m o k s at d v x h) at.stands.flags
        (less_set m.registers s.flags.carry (flag m.sreg 0) d x spare at.stands.less)

    -- ---- sums and differences

    pub sum_tagged_covered : (d y : ℕ) (b : TriByte) (c : Bool) (t : Tri) (v : Tag) (w : CarryTag) → y < 256 → Has b y → Permits t (from_bool c)
        → TagHolds o v (sum_of (register m d) y c % 256) → CarryHolds o w (nat_le 256 (sum_of (register m d) y c)) → NamesNone w
        → FollowsWhere may m o s.facts k guarded b1 b2 (sum_effect m d (register m d) y c) (going_with (site_at m.device k s) (sum_tagged s d b t (v, w)))
    sum_tagged_covered d y b c t v w small has may tagged carries none =
        answers d (sum_of (register m d) y c % 256) (flags_of_sum (register m d) y c m.sreg) (abs_add (bits s d) b t s.flags.bits) v w
        (all_sums_cover.sums (bits s d) b s.flags.bits t (register m d) y m.sreg c (register_byte d) small (register_bits d) has flag_bits may)
        (omega arith) (with_flags_i _ _ _ _ _ m.sreg) tagged (subst (CarryHolds o w) (sym (with_flags_carry _ _ _ _ _ m.sreg)) carries) none

    pub sum_covered : (d y : ℕ) (b : TriByte) (c : Bool) (t : Tri) → y < 256 → Has b y → Permits t (from_bool c)
        → FollowsWhere may m o s.facts k guarded b1 b2 (sum_effect m d (register m d) y c) (going_with (site_at m.device k s) (sum_after s d b t))
    sum_covered d y b c t small has may = sum_tagged_covered d y b c t tag.None carry_tag.None small has may tt tt tt

    difference_covers : (x y : ℕ) (a b : TriByte) (c : Bool) (t : Tri) (keep_zero : Bool) → x < 256 → y < 256 → Has a x → Has b y → Permits t (from_bool c)
        → Covers (abs_sub a b t keep_zero s.flags.bits) (difference_of x y c) (flags_of_difference x y c keep_zero m.sreg)
    difference_covers x y a b c t keep_zero small_x small_y has_x has_y may =
        all_sums_cover.differences a b s.flags.bits t keep_zero x y m.sreg c small_x small_y has_x has_y flag_bits may

    -- the carry tag names a register, or is none
    pub compare_covered : (x y : ℕ) (a b : TriByte) (c : Bool) (t : Tri) (keep_zero : Bool) (w : CarryTag) → x < 256 → y < 256 → Has a x → Has b y → Permits t (from_bool c)
        → CarryIsUntagged w → LessHolds m.registers w (nat_lt x (y + from_bool c))
        → FollowsWhere may m o s.facts k guarded b1 b2 (compare_effect m x y c keep_zero) (going_with (site_at m.device k s) (compare_after s (a, b) (t, keep_zero) w))
    compare_covered x y a b c t keep_zero w small_x small_y has_x has_y may free less =
        sets m o k s at guarded b1 b2 [] (flags_of_difference x y c keep_zero m.sreg) s.registers (with_carry (abs_sub a b t keep_zero s.flags.bits).1 w)
        (with_flags_i _ _ _ _ _ m.sreg) at.stands.registers
        (record { entry = tt; bits = (difference_covers x y a b c t keep_zero small_x small_y has_x has_y may).1; carry = untagged_holds o w _ free })
        (subst (LessHolds m.registers w) (sym (with_flags_carry _ _ _ _ _ m.sreg)) less)

    pub difference_covered : (d x y : ℕ) (a b : TriByte) (c : Bool) (t : Tri) (keep_zero : Bool) (v : Tag) (w : CarryTag) → x < 256 → y < 256 → Has a x → Has b y
        → Permits t (from_bool c) → TagHolds o v (difference_of x y c) → CarryHolds o w (nat_lt x (y + from_bool c)) → NamesNone w
        → FollowsWhere may m o s.facts k guarded b1 b2 (difference_effect m d x y c keep_zero) (going_with (site_at m.device k s) (difference_after s d (a, b) (t, keep_zero) (v, w)))
    difference_covered d x y a b c t keep_zero v w small_x small_y has_x has_y may tagged borrow none =
        answers d (difference_of x y c) (flags_of_difference x y c keep_zero m.sreg) (abs_sub a b t keep_zero s.flags.bits) v w
        (difference_covers x y a b c t keep_zero small_x small_y has_x has_y may) (difference_small x y c)
        (with_flags_i _ _ _ _ _ m.sreg) tagged (subst (CarryHolds o w) (sym (with_flags_carry _ _ _ _ _ m.sreg)) borrow) none

    low_holds : (d y : ℕ) (number : Option ℕ) → y < 256 → ((l : ℕ) → number ≡ Some l → y ≡ l) → TagHolds o (low_tag (value s d).tag number) (difference_of (register m d) y false)
    low_holds d y None small is = tt
    low_holds d y (Some l) small is =
        subst (λ n. TagHolds o (low_tag (value s d).tag (Some n)) (difference_of (register m d) y false)) (is l refl)
        (differences_are_true.low o (value s d).tag (register m d) y (register_byte d) small (register_stands m o k s at d).tag)

    pub borrow_holds : (d y : ℕ) (number : Option ℕ) → y < 256 → ((l : ℕ) → number ≡ Some l → y ≡ l) → CarryHolds o (borrow_tag (value s d).tag number) (nat_lt (register m d) y)
    borrow_holds d y None small is = tt
    borrow_holds d y (Some l) small is =
        subst (λ n. CarryHolds o (borrow_tag (value s d).tag (Some n)) (nat_lt (register m d) y)) (is l refl)
        (differences_are_true.borrow o (value s d).tag (register m d) y (register_byte d) small (register_stands m o k s at d).tag)

    -- what is read of a register beside the low byte that C is of
    abbrev carried : ℕ → Tag
    carried d = seen_high (view_by m.device k) (carry_number s.flags.carry) (value s d)

    high_holds : (d y : ℕ) (number : Option ℕ) → y < 256 → ((l : ℕ) → number ≡ Some l → y ≡ l)
        → TagHolds o (high_tag (carried d) number s.flags.carry) (difference_of (register m d) y (carry m))
    high_holds d y None small is = tt
    high_holds d y (Some l) small is =
        subst (λ n. TagHolds o (high_tag (carried d) (Some n) s.flags.carry) (difference_of (register m d) y (carry m))) (is l refl)
        (differences_are_true.high o (carried d) (register m d) y s.flags.carry (carry m) (register_byte d) small at.node.carry_bytes
        (seen_stands m o k s at (carry_number s.flags.carry) d) at.stands.flags.carry)

    pub carry_may : Permits (carry_bit s) (from_bool (carry m))
    carry_may = permits_flag s.flags.bits m.sreg 0 flag_bits

    pub no_carry : (y : ℕ) → y + 0 ≡ y
    no_carry y = omega arith

    pub sub_covered : (d y : ℕ) (b : TriByte) (number : Option ℕ) → y < 256 → Has b y → ((l : ℕ) → number ≡ Some l → y ≡ l)
        → FollowsWhere may m o s.facts k guarded b1 b2 (difference_effect m d (register m d) y false false) (going_with (site_at m.device k s) (sub_after s d (bits s d) b number))
    sub_covered d y b number small has is =
        difference_covered d (register m d) y (bits s d) b false Zero false _ _ (register_byte d) small (register_bits d) has refl (low_holds d y number small is)
        (subst (λ n. CarryHolds o (borrow_tag (value s d).tag number) (nat_lt (register m d) n)) (sym (no_carry y)) (borrow_holds d y number small is))
        (borrow_names_none (value s d).tag number)

    pub sbc_covered : (d y : ℕ) (b : TriByte) (number : Option ℕ) → y < 256 → Has b y → ((l : ℕ) → number ≡ Some l → y ≡ l)
        → FollowsWhere may m o s.facts k guarded b1 b2 (difference_effect m d (register m d) y (carry m) true) (going_with (site_at m.device k s) (sbc_after (view_by m.device k) s d b number))
    sbc_covered d y b number small has is =
        difference_covered d (register m d) y (bits s d) b (carry m) (carry_bit s) true _ carry_tag.None (register_byte d) small (register_bits d) has carry_may (high_holds d y number small is) tt tt

    -- subtracts a register, possibly from itself
    pub sub_by : (d r : ℕ) (same : Bool) → (d == r) ≡ same
        → FollowsWhere may m o s.facts k guarded b1 b2 (difference_effect m d (register m d) (register m r) false false)
        (going_with (site_at m.device k s) (sub_after s d (if same then byte_known 0 else bits s d) (if same then byte_known 0 else bits s r) (byte_constant (bits s r))))
    sub_by d r false e =
        sub_covered d (register m r) (bits s r) (byte_constant (bits s r)) (register_byte r) (register_bits r)
        (λ l some. constant_is (bits s r) (register m r) l some (register_byte r) (register_bits r))
    sub_by d r true e =
        let is : d ≡ r = grind (arith, nat_tests) in
        let y : register m d ≡ register m r = ap (register m) is in
        let x = register_byte d in
        let zero_covers = difference_covers 0 0 (byte_known 0) (byte_known 0) false Zero false (omega arith) (omega arith) (has_known 0 (omega arith)) (has_known 0 (omega arith)) refl in
        let number = byte_constant (bits s r) in
        let known_number : (l : ℕ) → number ≡ Some l → register m r ≡ l = λ l some. constant_is (bits s r) (register m r) l some (register_byte r) (register_bits r) in
        answers d (difference_of (register m d) (register m r) false) (flags_of_difference (register m d) (register m r) false false m.sreg)
        (abs_sub (byte_known 0) (byte_known 0) Zero false s.flags.bits) (low_tag (value s d).tag number) (borrow_tag (value s d).tag number)
        (subst (λ n. Covers (abs_sub (byte_known 0) (byte_known 0) Zero false s.flags.bits) (difference_of (register m d) n false) (flags_of_difference (register m d) n false false m.sreg)) y
        (subst₂ (Covers (abs_sub (byte_known 0) (byte_known 0) Zero false s.flags.bits)) (sym (same_result (register m d) x)) (sym (same_flags (register m d) m.sreg x)) zero_covers))
        (difference_small (register m d) (register m r) false) (with_flags_i _ _ _ _ _ m.sreg) (low_holds d (register m r) number (register_byte r) known_number)
        (subst (CarryHolds o (borrow_tag (value s d).tag number)) (sym (with_flags_carry _ _ _ _ _ m.sreg))
        (subst (λ n. CarryHolds o (borrow_tag (value s d).tag number) (nat_lt (register m d) n)) (sym (no_carry (register m r))) (borrow_holds d (register m r) number (register_byte r) known_number)))
        (borrow_names_none (value s d).tag number)

    -- ---- bit by bit

    pub logic_covered : (op : Logic) (d x y : ℕ) (a b : TriByte) → x < 256 → y < 256 → Has a x → Has b y → Spares s.flags.carry d
        → FollowsWhere may m o s.facts k guarded b1 b2 (logic_effect m op d x y) (going_with (site_at m.device k s) (logic_after s op d (a, b) false))
    logic_covered op d x y a b small_x small_y has_x has_y spare =
        keeps d (logic_of op x y) (flags_of_result (carry m) false (logic_of op x y) m.sreg) (abs_logic op a b s.flags.bits)
        (all_bitwise_cover.logics op a b s.flags.bits x y m.sreg small_x small_y has_x has_y flag_bits) (logic_small op x y small_x small_y)
        (result_i (carry m) false (logic_of op x y) m.sreg) (result_carry (carry m) false (logic_of op x y) m.sreg) spare

    -- a register with itself keeps its value
    kept_by : (op : Logic) → ((x : ℕ) → logic_of op x x ≡ x) → (d r : ℕ) → Spares s.flags.carry d → (same : Bool) → (d == r) ≡ same
        → FollowsWhere may m o s.facts k guarded b1 b2 (logic_effect m op d (register m d) (register m r)) (going_with (site_at m.device k s) (logic_after s op d (bits s d, bits s r) same))
    kept_by op itself d r spare false e = logic_covered op d (register m d) (register m r) (bits s d) (bits s r) (register_byte d) (register_byte r) (register_bits d) (register_bits r) spare
    kept_by op itself d r spare true e =
        let is : d ≡ r = grind (arith, nat_tests) in
        let x : ℕ = logic_of op (register m d) (register m r) in
        kept d x (flags_of_result (carry m) false x m.sreg) (value s d) (abs_logic op (bits s d) (bits s r) s.flags.bits).1
        (subst (ByteStands o (value s d)) (sym (ap (λ n. logic_of op (register m d) (register m n)) (sym is) ∙ itself (register m d))) (register_stands m o k s at d))
        (all_bitwise_cover.logics op (bits s d) (bits s r) s.flags.bits (register m d) (register m r) m.sreg (register_byte d) (register_byte r) (register_bits d) (register_bits r) flag_bits).1
        (result_i (carry m) false x m.sreg) (result_carry (carry m) false x m.sreg) spare

    pub kept_covered : (op : Logic) → ((x : ℕ) → logic_of op x x ≡ x) → (d r : ℕ) → Spares s.flags.carry d
        → FollowsWhere may m o s.facts k guarded b1 b2 (logic_effect m op d (register m d) (register m r)) (going_with (site_at m.device k s) (logic_after s op d (bits s d, bits s r) (d == r)))
    kept_covered op itself d r spare = kept_by op itself d r spare (d == r) refl

    pub eor_by : (d r : ℕ) → Spares s.flags.carry d → (same : Bool) → (d == r) ≡ same
        → FollowsWhere may m o s.facts k guarded b1 b2 (logic_effect m logic.Eor d (register m d) (register m r))
        (going_with (site_at m.device k s) (logic_after s logic.Eor d (if same then byte_known 0 else bits s d, if same then byte_known 0 else bits s r) false))
    eor_by d r spare false e = logic_covered logic.Eor d (register m d) (register m r) (bits s d) (bits s r) (register_byte d) (register_byte r) (register_bits d) (register_bits r) spare
    eor_by d r spare true e =
        let is : d ≡ r = grind (arith, nat_tests) in
        let none : 0 ≡ bit_xor (register m d) (register m r) = sym (ap (λ n. bit_xor (register m d) (register m n)) (sym is) ∙ xor_self (register m d)) in
        subst (λ n. FollowsWhere may m o s.facts k guarded b1 b2 (setting m (set d n) (flags_of_result (carry m) false n m.sreg)) (going_with (site_at m.device k s) (logic_after s logic.Eor d (byte_known 0, byte_known 0) false))) none
        (logic_covered logic.Eor d 0 0 (byte_known 0) (byte_known 0) (omega arith) (omega arith) (has_known 0 (omega arith)) (has_known 0 (omega arith)) spare)

    pub step_tagged_covered : (up : Bool) (d : ℕ) (v : Tag) → TagHolds o v (step_of up (register m d)) → Spares s.flags.carry d
        → FollowsWhere may m o s.facts k guarded b1 b2 (step_effect m up d) (going_with (site_at m.device k s) (step_tagged s up d v))
    step_tagged_covered up d v tagged spare =
        let answer = abs_step_one up (bits s d) s.flags.bits in
        let covers = all_bitwise_cover.steps up (bits s d) s.flags.bits (register m d) m.sreg (register_byte d) (register_bits d) flag_bits in
        kept d (step_of up (register m d)) (flags_of_result (carry m) (step_overflows up (step_of up (register m d))) (step_of up (register m d)) m.sreg)
        (with_bits v answer.0) answer.1 (bits_make_values.stands o v answer.0 (step_of up (register m d)) (step_small up (register m d)) tagged covers.0) covers.1
        (result_i (carry m) _ (step_of up (register m d)) m.sreg) (result_carry (carry m) _ (step_of up (register m d)) m.sreg) spare

    pub step_covered : (up : Bool) (d : ℕ) → Spares s.flags.carry d → FollowsWhere may m o s.facts k guarded b1 b2 (step_effect m up d) (going_with (site_at m.device k s) (step_after s up d))
    step_covered up d spare = step_tagged_covered up d tag.None tt spare

    pub shift_covered : (op : Shift) (d : ℕ) → FollowsWhere may m o s.facts k guarded b1 b2 (shift_effect m op d) (going_with (site_at m.device k s) (shift_after s op d))
    shift_covered op d =
        answers d (shift_of op (register m d) m.sreg) (flags_of_shift (register m d) (shift_of op (register m d) m.sreg) m.sreg)
        (abs_shift op (bits s d) s.flags.bits) tag.None carry_tag.None
        (all_bitwise_cover.shifts op (bits s d) s.flags.bits (register m d) m.sreg (register_byte d) (register_bits d) flag_bits)
        (shift_small op (register m d) m.sreg (register_byte d)) (with_flags_i _ _ _ _ _ m.sreg) tt tt tt

    pub com_covered : (d : ℕ)
        → FollowsWhere may m o s.facts k guarded b1 b2 (setting m (set d (255 - register m d)) (flags_of_result true false (255 - register m d) m.sreg)) (going_with (site_at m.device k s) (com_after s d))
    com_covered d =
        answers d (255 - register m d) (flags_of_result true false (255 - register m d) m.sreg) (abs_com (bits s d) s.flags.bits) tag.None carry_tag.None
        (all_bitwise_cover.coms (bits s d) s.flags.bits (register m d) m.sreg (register_byte d) (register_bits d) flag_bits)
        (omega arith) (result_i true false (255 - register m d) m.sreg) tt tt tt

    pub swap_covered : (d : ℕ) → Spares s.flags.carry d
        → FollowsWhere may m o s.facts k guarded b1 b2 (setting m (set d (register m d % 16 * 16 + register m d / 16)) m.sreg) (node_setting (site_at m.device k s) (node_set s d (untagged (swapped (bits s d)))) s.flags)
    swap_covered d spare =
        moves d (register m d % 16 * 16 + register m d / 16) (untagged (swapped (bits s d)))
        (bits_make_values.stands o tag.None (swapped (bits s d)) (register m d % 16 * 16 + register m d / 16) (omega (arith, register_byte d)) tt
        (has_swapped (bits s d) (register m d) (register_byte d) (register_bits d))) spare

    -- ---- words

    pair_stands : (d w : ℕ) (lo hi : AbsByte) → ByteStands o lo (low w) → ByteStands o hi (high w)
        → RegistersStand o (node_pair s.registers d lo hi) (with_registers m.registers (set_pair d w))
    pair_stands d w lo hi h g = set_two m o k s at d (d + 1) lo hi (low w) (high w) h g

    pub product_covered : (op : Mul) (d r : ℕ) → FollowsWhere may m o s.facts k guarded b1 b2 (product_effect m op (register m d) (register m r)) (product_row (site_at m.device k s) op d r)
    product_covered op d r =
        let covers = all_products_cover.products op (bits s d) (bits s r) s.flags.bits (register m d) (register m r) m.sreg (register_byte d) (register_byte r) (register_bits d) (register_bits r) flag_bits in
        let answer = abs_mul op (bits s d) (bits s r) s.flags.bits in
        sets m o k s at guarded b1 b2 (set_pair 0 (result_of op (register m d) (register m r))) (flags_of_product op (register m d) (register m r) m.sreg)
        (node_pair s.registers 0 (untagged answer.0.0) (untagged answer.0.1)) (with_carry answer.1 carry_tag.None) (with_carry_and_zero_i _ _ m.sreg)
        (pair_stands 0 (result_of op (register m d) (register m r)) (untagged answer.0.0) (untagged answer.0.1)
        (bits_make_values.stands o tag.None answer.0.0 (low (result_of op (register m d) (register m r))) (omega arith) tt covers.0)
        (bits_make_values.stands o tag.None answer.0.1 (high (result_of op (register m d) (register m r)))
        (omega (arith, result_small op (register m d) (register m r) (register_byte d) (register_byte r))) tt covers.1))
        (record { entry = tt; bits = covers.2; carry = tt }) tt

    pub movw_covered : (d r : ℕ) → SparesAll s.flags.carry (d ∷ (d + 1) ∷ [])
        → FollowsWhere may m o s.facts k guarded b1 b2 (setting m (set_pair d (pair m r)) m.sreg) (node_setting (site_at m.device k s) (node_pair s.registers d (value s r) (value s (r + 1))) s.flags)
    movw_covered d r spares =
        sets m o k s at guarded b1 b2 (set_pair d (pair m r)) m.sreg (node_pair s.registers d (value s r) (value s (r + 1))) s.flags refl
        (pair_stands d (pair m r) (value s r) (value s (r + 1))
        (subst (ByteStands o (value s r)) (sym (low_pair (register m r) (register m (r + 1)) (register_byte r))) (register_stands m o k s at r))
        (subst (ByteStands o (value s (r + 1))) (sym (high_pair (register m r) (register m (r + 1)) (register_byte r))) (register_stands m o k s at (r + 1))))
        at.stands.flags (less_two m.registers s.flags.carry (flag m.sreg 0) d (d + 1) _ _ spares at.stands.less)

    pub pair_small : (d : ℕ) → pair m d < 65536
    pair_small d = omega (arith, register_byte d, register_byte (d + 1))

    pub pair_holds : (d : ℕ) → PairHolds o (value s d).tag (high_tag_of (view_by m.device k) s d) (pair m d)
    pair_holds d =
        record {
          low = subst (TagHolds o (value s d).tag) (sym (low_pair (register m d) (register m (d + 1)) (register_byte d))) (register_stands m o k s at d).tag;
          high = subst (TagHolds o (high_tag_of (view_by m.device k) s d)) (sym (high_pair (register m d) (register m (d + 1)) (register_byte d)))
              (seen_stands m o k s at (low_number (value s d).tag) (d + 1));
        }

    -- the tags of a pair that moves
    abbrev tags_of : ℕ → Bool → ℕ → Tag × Tag
    tags_of d up n = pair_tags (view_by m.device k) s d up n

    moved_tags : (d : ℕ) (up : Bool) (n : ℕ) → n < 256 → PairHolds o (tags_of d up n).0 (tags_of d up n).1 (wide_of up (pair m d) n)
    moved_tags d up n small =
        subst (PairHolds o (tags_of d up n).0 (tags_of d up n).1) (moved_is up (pair m d) n (pair_small d) small)
        (pairs_are_true.below o (value s d).tag (high_tag_of (view_by m.device k) s d) (pair m d) (down_by up n) (pair_small d) (pair_holds d))

    wide_covers : (d : ℕ) (up : Bool) (n : ℕ) → n < 256
        → CoversWord (abs_wide up (bits s d, bits s (d + 1)) n s.flags.bits) (wide_of up (pair m d) n) (flags_of_wide up (pair m d) n m.sreg)
    wide_covers d up n small =
        all_words_cover.words up (bits s d, bits s (d + 1)) s.flags.bits (pair m d) n m.sreg (pair_small d) small
        (subst (Has (bits s d)) (sym (low_pair (register m d) (register m (d + 1)) (register_byte d))) (register_bits d))
        (subst (Has (bits s (d + 1))) (sym (high_pair (register m d) (register m (d + 1)) (register_byte d))) (register_bits (d + 1))) flag_bits

    -- adds a small number to a pair, or subtracts it
    pub moved_stands : (d : ℕ) (up : Bool) (n : ℕ) → n < 256 → RegistersStand o (pair_moved (view_by m.device k) s d up n) (with_registers m.registers (set_pair d (wide_of up (pair m d) n)))
    moved_stands d up n small =
        let covers = wide_covers d up n small in
        let tags = moved_tags d up n small in
        let answer = abs_wide up (bits s d, bits s (d + 1)) n s.flags.bits in
        pair_stands d (wide_of up (pair m d) n) (with_bits (tags_of d up n).0 answer.0.0) (with_bits (tags_of d up n).1 answer.0.1)
        (bits_make_values.stands o (tags_of d up n).0 answer.0.0 (low (wide_of up (pair m d) n)) (omega arith) tags.low covers.0)
        (bits_make_values.stands o (tags_of d up n).1 answer.0.1 (high (wide_of up (pair m d) n)) (omega (arith, wide_small up (pair m d) n)) tags.high covers.1)

    pub wide_covered : (up : Bool) (d n : ℕ) → n < 256 → FollowsWhere may m o s.facts k guarded b1 b2 (wide_effect m up d n) (wide_row (site_at m.device k s) up d n)
    wide_covered up d n small =
        sets m o k s at guarded b1 b2 (set_pair d (wide_of up (pair m d) n)) (flags_of_wide up (pair m d) n m.sreg)
        (pair_moved (view_by m.device k) s d up n) (with_carry (abs_wide up (bits s d, bits s (d + 1)) n s.flags.bits).1 carry_tag.None) (wide_i up (pair m d) n m.sreg)
        (moved_stands d up n small) (record { entry = tt; bits = (wide_covers d up n small).2; carry = tt }) tt
