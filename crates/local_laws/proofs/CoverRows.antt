-- Each row that does not read or write data space is covered.
use Rattle.std.proofs.Common.{◌≡◌, refl, sym, ap, ℕ, ◌*◌, ◌<◌, ◌==◌, ◌||◌, Bool, true, false, not, if◌then◌else◌, List, [], ◌∷◌, Some, None, arith}
use Rattle.std.specs.Prelude.{⊤}
use Rattle.std.specs.Int.{from_bool}
use Rattle.std.specs.Int.Bits.{or_self, and_self}
use Rattle.std.proofs.lemmas.Option.{same_Some}
use Rattle.basics.specs.Booleans.{not_from_never, or_with_false}
use Rattle.basics.specs.Items.{first_in}
use Rattle.abs_alu.proofs.AllLaws.{has_known}
use Rattle.avr_model.specs.Devices.{Image, wrapped}
use Rattle.avr_model.specs.declared.assumption.Entry.{Entry}
use Rattle.avr_model.specs.declared.effect.Effect.{Effect}
use Rattle.avr_model.specs.declared.instruction.Instr.{Instr}
use Rattle.avr_model.specs.declared.instruction.Instr.TheVariants as i
use Rattle.avr_model.specs.declared.instruction.BinaryOp.{BinaryOp}
use Rattle.avr_model.specs.declared.instruction.BinaryOp.TheVariants as binary
use Rattle.avr_model.specs.declared.instruction.ImmediateOp.{ImmediateOp}
use Rattle.avr_model.specs.declared.instruction.ImmediateOp.TheVariants as immediate
use Rattle.avr_model.specs.declared.instruction.UnaryOp.{UnaryOp}
use Rattle.avr_model.specs.declared.instruction.UnaryOp.TheVariants as unary
use Rattle.avr_model.specs.declared.operation.Logic.TheVariants as logic
use Rattle.avr_model.specs.declared.operation.Shift.TheVariants as shift
use Rattle.avr_model.specs.declared.operation.Mul.TheVariants as product
use Rattle.avr_model.specs.Assumptions.{jump_line, is_frame, has_scratch}
use Rattle.avr_model.specs.Masks.{reads_masks}
use Rattle.avr_model.specs.Sreg.{flag}
use Rattle.avr_model.specs.Written.{set_by_binary, set_by_immediate, written}
use Rattle.avr_model.specs.Text.{far}
use Rattle.avr_model.specs.State.{State, register}
use Rattle.avr_model.specs.Effects.{effect_of, binary_effect, immediate_effect, unary_effect, carry}
use Rattle.avr_model.specs.Step.{unless_listed, unlisted_transfer, is_guarding}
use Rattle.avr_model.specs.Sites.{is_scratch}
use Rattle.bit_domain.specs.declared.bits.Tri.TheVariants.{Zero}
use Rattle.bit_domain.specs.Tri.{Permits, tri_not}
use Rattle.bit_domain.specs.TriByte.{tri_at, byte_known, byte_constant}
use Rattle.bit_domain.specs.Logic.{byte_equal}
use Rattle.bit_domain.proofs.AllLaws.{logic_covers}
use Rattle.sp_domain.specs.declared.tags.Tag.TheVariants as tag
use Rattle.sp_domain.specs.declared.tags.CarryTag.TheVariants as carry_tag
use Rattle.sp_domain.specs.Tags.{Origin}
use Rattle.abs_state.specs.declared.state.AbsState.{AbsState}
use Rattle.abs_state.specs.Values.{known}
use Rattle.abs_state.specs.Formed.{CarryIsUntagged}
use Rattle.abs_state.proofs.AllLaws.{bits_make_values}
use Rattle.node_keys.specs.declared.keys.NodeKey.{NodeKey}
use Rattle.local_rules.specs.HighBytes.{view_by}
use Rattle.local_rules.specs.Raw.{Raw, further}
use Rattle.local_rules.specs.Registers.{value, bits, carry_bit, less_than, less_kept, going_by, binary_after}
use Rattle.local_rules.specs.FrameLines.{is_followed, framed_binary}
use Rattle.local_rules.specs.Flow.{skipping as node_skipping}
use Rattle.local_rules.specs.Local.{immediate_row, unary_row, row_of}
use Rattle.local_rules.specs.Cover.{Follows, IsUnflagged, effect_by}
use Rattle.local_laws.proofs.Bare.{InBareFrame}
use Rattle.local_laws.proofs.Landing.{FollowsWhere}
use Rattle.local_laws.proofs.Bits.{constant_is, permits_flag}
use Rattle.local_laws.proofs.Frame.{register_stands}
use Rattle.local_laws.proofs.FrameCover.{framed_add_covered, framed_adc_covered, framed_sub_covered, framed_step_covered}
use Rattle.local_laws.proofs.Alu.{register_byte, register_bits, moves, carry_may, sum_covered, compare_covered, difference_covered, sub_covered, sbc_covered, sub_by, logic_covered, kept_covered, eor_by, step_covered, shift_covered, com_covered, swap_covered, product_covered, movw_covered, wide_covered}
use Rattle.local_laws.proofs.Less.{Spares, SparesAll, compared, than_untagged, than_holds, alone_untagged, kept_is, kept_holds}
use Rattle.local_laws.proofs.FlagRows.{flag_covered, bld_covered, bst_covered}
use Rattle.local_laws.proofs.FlowRows.{not_may, going_covered, further_is, goes_further, brbs_covered, brbc_covered, skip_covered, ijmp_covered, icall_covered, eijmp_covered, eicall_covered, call_covered, ret_covered, reti_covered}
use Rattle.local_laws.proofs.Sized.{IsInstrSized}
use Rattle.local_laws.proofs.Stack.{pop_covered, push_covered, rcall_covered}
use Rattle.local_laws.proofs.Targets.{MakesRoom}
use Rattle.local_rules.specs.Site.{Task, masks_by, site_at, task_with}
use Rattle.local_rules.specs.Local.{equal_skip}
use Rattle.local_rules.specs.FrameLines.{binary_at}

-- rows that read or write data space by an address
abbrev pub NamesAddress : Instr → Type 0
NamesAddress (i.Ldd d b q) = ⊤
NamesAddress (i.Std b q r) = ⊤
NamesAddress (i.Lds d a) = ⊤
NamesAddress (i.Sts a r) = ⊤
NamesAddress (i.Ld d p) = ⊤
NamesAddress (i.St p r) = ⊤
NamesAddress (i.LpmZ d) = ⊤
NamesAddress (i.ElpmZ d) = ⊤
NamesAddress (i.LpmZPlus d) = ⊤
NamesAddress (i.ElpmZPlus d) = ⊤
NamesAddress i.Lpm = ⊤
NamesAddress i.Elpm = ⊤
NamesAddress (i.In d a) = ⊤
NamesAddress (i.Out a r) = ⊤
NamesAddress (i.Cbi a b) = ⊤
NamesAddress (i.Sbi a b) = ⊤
NamesAddress (i.Sbic a b) = ⊤
NamesAddress (i.Sbis a b) = ⊤
NamesAddress _ = ⊥

module _ {may : Bool} (m : State) (o : Origin) (k : NodeKey) (s : AbsState) (at : InBareFrame may m o k s) (b1 b2 : ℕ) where
  register_number : (r l : ℕ) → byte_constant (bits s r) ≡ Some l → register m r ≡ l
  register_number r l some = constant_is (bits s r) (register m r) l some (register_byte m o k s at r) (register_bits m o k s at r)

  module _ (guarded : Bool) where
    immediate_covered : (op : ImmediateOp) (d n : ℕ) → SparesAll s.flags.carry (set_by_immediate op d) → n < 256 → FollowsWhere may m o s.facts k guarded b1 b2 (immediate_effect m op d n) (immediate_row false (site_at m.device k s) op d n)
    immediate_covered immediate.Cpi d n spares small =
        compare_covered m o k s at guarded b1 b2 (register m d) n (bits s d) (byte_known n) false Zero false (carry_tag.Less d n) (register_byte m o k s at d) small (register_bits m o k s at d)
        (has_known n small) refl tt (compared m.registers d n n refl)
    immediate_covered immediate.Sbci d n spares small = sbc_covered m o k s at guarded b1 b2 d n (byte_known n) (Some n) small (has_known n small) (same_Some n)
    immediate_covered immediate.Subi d n spares small = sub_covered m o k s at guarded b1 b2 d n (byte_known n) (Some n) small (has_known n small) (same_Some n)
    immediate_covered immediate.Ori d n spares small =
        logic_covered m o k s at guarded b1 b2 logic.Or d (register m d) n (bits s d) (byte_known n) (register_byte m o k s at d) small (register_bits m o k s at d) (has_known n small) spares.0
    immediate_covered immediate.Andi d n spares small =
        logic_covered m o k s at guarded b1 b2 logic.And d (register m d) n (bits s d) (byte_known n) (register_byte m o k s at d) small (register_bits m o k s at d) (has_known n small) spares.0
    immediate_covered immediate.Ldi d n spares small = moves m o k s at guarded b1 b2 d n (known n) (bits_make_values.stands o tag.None (byte_known n) n small tt (has_known n small)) spares.0

    unary_covered : (op : UnaryOp) (d : ℕ) → Spares s.flags.carry d → FollowsWhere may m o s.facts k guarded b1 b2 (unary_effect m op d) (unary_row false (site_at m.device k s) op d)
    unary_covered unary.Com d spare = com_covered m o k s at guarded b1 b2 d
    unary_covered unary.Neg d spare =
        difference_covered m o k s at guarded b1 b2 d 0 (register m d) (byte_known 0) (bits s d) false Zero false tag.None carry_tag.None (omega arith) (register_byte m o k s at d)
        (has_known 0 (omega arith)) (register_bits m o k s at d) refl tt tt tt
    unary_covered unary.Swap d spare = swap_covered m o k s at guarded b1 b2 d spare
    unary_covered unary.Inc d spare = step_covered m o k s at guarded b1 b2 true d spare
    unary_covered unary.Asr d spare = shift_covered m o k s at guarded b1 b2 shift.Asr d
    unary_covered unary.Lsr d spare = shift_covered m o k s at guarded b1 b2 shift.Lsr d
    unary_covered unary.Ror d spare = shift_covered m o k s at guarded b1 b2 shift.Ror d
    unary_covered unary.Dec d spare = step_covered m o k s at guarded b1 b2 false d spare

    binary_covered : (image : Image) (op : BinaryOp) (d r : ℕ) → SparesAll s.flags.carry (set_by_binary op d) → FollowsWhere may m o s.facts k guarded b1 b2 (binary_effect image m op d r) (going_by (site_at m.device k s) (binary_at (view_by m.device k) false s op d r) (equal_skip image (site_at m.device k s) d r))
    binary_covered image binary.Cpc d r spares =
        compare_covered m o k s at guarded b1 b2 (register m d) (register m r) (bits s d) (bits s r) (carry m) (carry_bit s) true
        (less_kept (byte_constant (bits s d)) (byte_constant (bits s r)) s.flags.carry) (register_byte m o k s at d) (register_byte m o k s at r)
        (register_bits m o k s at d) (register_bits m o k s at r) (carry_may m o k s at guarded b1 b2)
        (kept_is CarryIsUntagged (byte_constant (bits s d)) (byte_constant (bits s r)) s.flags.carry (alone_untagged s.flags.carry) tt)
        (kept_holds m.registers (register m d) (register m r) (byte_constant (bits s d)) (byte_constant (bits s r)) s.flags.carry (carry m) (register_number d) (register_number r) at.stands.less)
    binary_covered image binary.Sbc d r spares =
        sbc_covered m o k s at guarded b1 b2 d (register m r) (bits s r) (byte_constant (bits s r)) (register_byte m o k s at r) (register_bits m o k s at r) (register_number r)
    binary_covered image binary.Add d r spares = sum_covered m o k s at guarded b1 b2 d (register m r) (bits s r) false Zero (register_byte m o k s at r) (register_bits m o k s at r) refl
    binary_covered image binary.Cpse d r spares =
        skip_covered m o k s at guarded b1 b2 image (register m d == register m r) (byte_equal (bits s d) (bits s r))
        (logic_covers.tests (bits s d) (bits s r) (register m d) (register m r) (register_byte m o k s at d) (register_byte m o k s at r) (register_bits m o k s at d) (register_bits m o k s at r))
    binary_covered image binary.Cp d r spares =
        compare_covered m o k s at guarded b1 b2 (register m d) (register m r) (bits s d) (bits s r) false Zero false (less_than d (byte_constant (bits s r)))
        (register_byte m o k s at d) (register_byte m o k s at r) (register_bits m o k s at d) (register_bits m o k s at r) refl
        (than_untagged d (byte_constant (bits s r))) (than_holds m.registers d (register m r) (byte_constant (bits s r)) (register_number r))
    binary_covered image binary.Sub d r spares = sub_by m o k s at guarded b1 b2 d r (d == r) refl
    binary_covered image binary.Adc d r spares =
        sum_covered m o k s at guarded b1 b2 d (register m r) (bits s r) (carry m) (carry_bit s) (register_byte m o k s at r) (register_bits m o k s at r) (carry_may m o k s at guarded b1 b2)
    binary_covered image binary.And d r spares = kept_covered m o k s at guarded b1 b2 logic.And and_self d r spares.0
    binary_covered image binary.Eor d r spares = eor_by m o k s at guarded b1 b2 d r spares.0 (d == r) refl
    binary_covered image binary.Or d r spares = kept_covered m o k s at guarded b1 b2 logic.Or or_self d r spares.0
    binary_covered image binary.Mov d r spares = moves m o k s at guarded b1 b2 d (register m r) (value s r) (register_stands m o k s at r) spares.0
    binary_covered image binary.Mul d r spares = product_covered m o k s at guarded b1 b2 product.Mul d r

    -- ---- at a site with a `frame` line

    framed_immediate_covered : (op : ImmediateOp) (d n : ℕ) → SparesAll s.flags.carry (set_by_immediate op d) → n < 256 → FollowsWhere may m o s.facts k guarded b1 b2 (immediate_effect m op d n) (immediate_row true (site_at m.device k s) op d n)
    framed_immediate_covered immediate.Cpi d n spares small = immediate_covered immediate.Cpi d n spares small
    framed_immediate_covered immediate.Sbci d n spares small = immediate_covered immediate.Sbci d n spares small
    framed_immediate_covered immediate.Subi d n spares small = framed_sub_covered m o k s at guarded b1 b2 d n (byte_known n) (Some n) small (has_known n small) (same_Some n)
    framed_immediate_covered immediate.Ori d n spares small = immediate_covered immediate.Ori d n spares small
    framed_immediate_covered immediate.Andi d n spares small = immediate_covered immediate.Andi d n spares small
    framed_immediate_covered immediate.Ldi d n spares small = immediate_covered immediate.Ldi d n spares small

    immediate_line_covered : (line : Bool) (op : ImmediateOp) (d n : ℕ) → SparesAll s.flags.carry (set_by_immediate op d) → n < 256 → FollowsWhere may m o s.facts k guarded b1 b2 (immediate_effect m op d n) (immediate_row line (site_at m.device k s) op d n)
    immediate_line_covered true op d n spares small = framed_immediate_covered op d n spares small
    immediate_line_covered false op d n spares small = immediate_covered op d n spares small

    framed_unary_covered : (op : UnaryOp) (d : ℕ) → Spares s.flags.carry d → FollowsWhere may m o s.facts k guarded b1 b2 (unary_effect m op d) (unary_row true (site_at m.device k s) op d)
    framed_unary_covered unary.Com d spare = unary_covered unary.Com d spare
    framed_unary_covered unary.Neg d spare = unary_covered unary.Neg d spare
    framed_unary_covered unary.Swap d spare = unary_covered unary.Swap d spare
    framed_unary_covered unary.Inc d spare = framed_step_covered m o k s at guarded b1 b2 true d spare
    framed_unary_covered unary.Asr d spare = unary_covered unary.Asr d spare
    framed_unary_covered unary.Lsr d spare = unary_covered unary.Lsr d spare
    framed_unary_covered unary.Ror d spare = unary_covered unary.Ror d spare
    framed_unary_covered unary.Dec d spare = framed_step_covered m o k s at guarded b1 b2 false d spare

    unary_line_covered : (line : Bool) (op : UnaryOp) (d : ℕ) → Spares s.flags.carry d → FollowsWhere may m o s.facts k guarded b1 b2 (unary_effect m op d) (unary_row line (site_at m.device k s) op d)
    unary_line_covered true op d spare = framed_unary_covered op d spare
    unary_line_covered false op d spare = unary_covered op d spare

    -- the row of two registers, with pairs or without
    abbrev row_by : Image → Bool → BinaryOp → ℕ → ℕ → Raw
    row_by image framed op d r = going_by (site_at m.device k s) (if framed then framed_binary (view_by m.device k) s op d r else binary_after (view_by m.device k) s op d r) (node_skipping image (site_at m.device k s) k k (byte_equal (bits s d) (bits s r)))

    binary_line_covered : (image : Image) (framed : Bool) (op : BinaryOp) (d r : ℕ) → SparesAll s.flags.carry (set_by_binary op d) → FollowsWhere may m o s.facts k guarded b1 b2 (binary_effect image m op d r) (row_by image framed op d r)
    binary_line_covered image false op d r spares = binary_covered image op d r spares
    binary_line_covered image true binary.Cpc d r spares = binary_covered image binary.Cpc d r spares
    binary_line_covered image true binary.Sbc d r spares = binary_covered image binary.Sbc d r spares
    binary_line_covered image true binary.Add d r spares = framed_add_covered m o k s at guarded b1 b2 d r
    binary_line_covered image true binary.Cpse d r spares = binary_covered image binary.Cpse d r spares
    binary_line_covered image true binary.Cp d r spares = binary_covered image binary.Cp d r spares
    binary_line_covered image true binary.Sub d r spares =
        framed_sub_covered m o k s at guarded b1 b2 d (register m r) (bits s r) (byte_constant (bits s r)) (register_byte m o k s at r) (register_bits m o k s at r) (register_number r)
    binary_line_covered image true binary.Adc d r spares = framed_adc_covered m o k s at guarded b1 b2 d r
    binary_line_covered image true binary.And d r spares = binary_covered image binary.And d r spares
    binary_line_covered image true binary.Eor d r spares = binary_covered image binary.Eor d r spares
    binary_line_covered image true binary.Or d r spares = binary_covered image binary.Or d r spares
    binary_line_covered image true binary.Mov d r spares = binary_covered image binary.Mov d r spares
    binary_line_covered image true binary.Mul d r spares = binary_covered image binary.Mul d r spares

-- whether the bytes that an instruction at this word pushes stay live
abbrev pub guarding : Bool → List Entry → ℕ → Instr → Bool
guarding scratch A pc (i.Push r) = not (scratch || has_scratch A pc)
guarding scratch A pc _ = not scratch

pub guards_are : (image : Image) (A : List Entry) (pc pc' : ℕ) (instr : Instr) → pc ≡ pc' → guarding (is_scratch image pc) A pc' instr ≡ is_guarding image A pc instr
unfolding is_guarding
guards_are image A pc pc' (i.Push r) e = ap (λ x. not (is_scratch image pc || has_scratch A x)) (sym e)
guards_are image A pc pc' instr e = ap not (sym (or_with_false (is_scratch image pc)))

-- the part of a row covers the machine's step, if it has no fault and the step isn't flagged
abbrev pub CoversRow : Task → State → Origin → NodeKey → ℕ → ℕ → Bool → Instr → Raw → Type 0
CoversRow task m o k b1 b2 scratch instr r =
    r.faults ≡ [] → IsUnflagged task m instr (effect_by task m instr b1 b2)
    → Follows (masks_by task) m o k (guarding scratch task.assumptions k.pc instr) b1 b2 (effect_by task m instr b1 b2) r

listed_word : (A : List Entry) (pc : ℕ) (e : Effect) → unlisted_transfer A pc i.Ijmp e ≡ None → unless_listed (jump_line A pc) e.pc ≡ None
unfolding unlisted_transfer
listed_word A pc e h = h

listed_call : (A : List Entry) (pc : ℕ) (e : Effect) → unlisted_transfer A pc i.Icall e ≡ None → unless_listed (jump_line A pc) e.pc ≡ None
unfolding unlisted_transfer
listed_call A pc e h = h

listed_far : (A : List Entry) (pc : ℕ) (e : Effect) → unlisted_transfer A pc i.Eijmp e ≡ None → unless_listed (jump_line A pc) e.pc ≡ None
unfolding unlisted_transfer
listed_far A pc e h = h

listed_far_call : (A : List Entry) (pc : ℕ) (e : Effect) → unlisted_transfer A pc i.Eicall e ≡ None → unless_listed (jump_line A pc) e.pc ≡ None
unfolding unlisted_transfer
listed_far_call A pc e h = h

module _ (A : List Entry) (m : State) (o : Origin) (k : NodeKey) (s : AbsState) (at : InBareFrame (reads_masks m.device A) m o k s) (b1 b2 : ℕ) (image : Image) (scratch : Bool) where
  abbrev task : Task
  task = task_with image A

  bit_may : (r b : ℕ) → Permits (tri_at (bits s r) b) (from_bool (flag (register m r) b))
  bit_may r b = permits_flag (bits s r) (register m r) b (register_bits m o k s at r)

  -- the goal of a row
  abbrev pub RowIsCovered : Instr → Type 0
  RowIsCovered instr =
      (row_of task scratch (site_at m.device k s) instr).faults ≡ [] → IsUnflagged task m instr (effect_of image (reads_masks m.device A) m instr b1 b2)
      → FollowsWhere (reads_masks m.device A) m o s.facts k (guarding scratch A k.pc instr) b1 b2 (effect_of image (reads_masks m.device A) m instr b1 b2) (row_of task scratch (site_at m.device k s) instr)

  -- Each row is covered, if those that name an address are.
  pub row_covered : b1 < 256 → (instr : Instr) → SparesAll s.flags.carry (written instr) → IsInstrSized instr → (scratch ≡ true → MakesRoom instr) → (NamesAddress instr → RowIsCovered instr) → RowIsCovered instr
  row_covered small i.Nop spares sized rooms addressed none unflagged = going_covered m o k s at (not scratch) b1 b2 _ (further m.device k 1) (goes_further m o k s at (not scratch) b1 b2 1)
  row_covered small (i.Movw d r) spares sized rooms addressed none unflagged = movw_covered m o k s at (not scratch) b1 b2 (2 * d) (2 * r) spares
  row_covered small (i.Muls d r) spares sized rooms addressed none unflagged = product_covered m o k s at (not scratch) b1 b2 product.Muls d r
  row_covered small (i.Mulsu d r) spares sized rooms addressed none unflagged = product_covered m o k s at (not scratch) b1 b2 product.Mulsu d r
  row_covered small (i.Fmul d r) spares sized rooms addressed none unflagged = product_covered m o k s at (not scratch) b1 b2 product.Fmul d r
  row_covered small (i.Fmuls d r) spares sized rooms addressed none unflagged = product_covered m o k s at (not scratch) b1 b2 product.Fmuls d r
  row_covered small (i.Fmulsu d r) spares sized rooms addressed none unflagged = product_covered m o k s at (not scratch) b1 b2 product.Fmulsu d r
  row_covered small (i.Binary op d r) spares sized rooms addressed none unflagged = binary_line_covered m o k s at b1 b2 (not scratch) image (is_followed (is_frame A k.pc) d r) op d r spares
  row_covered small (i.Immediate op d n) spares sized rooms addressed none unflagged = immediate_line_covered m o k s at b1 b2 (not scratch) (is_frame A k.pc) op d n spares sized
  row_covered small (i.Ldd d b q) spares sized rooms addressed none unflagged = addressed tt none unflagged
  row_covered small (i.Std b q r) spares sized rooms addressed none unflagged = addressed tt none unflagged
  row_covered small (i.Lds d a) spares sized rooms addressed none unflagged = addressed tt none unflagged
  row_covered small (i.Ld d p) spares sized rooms addressed none unflagged = addressed tt none unflagged
  row_covered small (i.LpmZ d) spares sized rooms addressed none unflagged = addressed tt none unflagged
  row_covered small (i.ElpmZ d) spares sized rooms addressed none unflagged = addressed tt none unflagged
  row_covered small (i.LpmZPlus d) spares sized rooms addressed none unflagged = addressed tt none unflagged
  row_covered small (i.ElpmZPlus d) spares sized rooms addressed none unflagged = addressed tt none unflagged
  row_covered small (i.Pop d) spares sized rooms addressed none unflagged = pop_covered m o k s at (not scratch) b1 b2 d small spares.0 none
  row_covered small (i.Sts a r) spares sized rooms addressed none unflagged = addressed tt none unflagged
  row_covered small (i.St p r) spares sized rooms addressed none unflagged = addressed tt none unflagged
  row_covered small (i.Push r) spares sized rooms addressed none unflagged = push_covered m o k s at (scratch || has_scratch A k.pc) b1 b2 r none
  row_covered small (i.Unary op d) spares sized rooms addressed none unflagged = unary_line_covered m o k s at b1 b2 (not scratch) (is_frame A k.pc) op d spares.0
  row_covered small (i.Bset n) spares sized rooms addressed none unflagged = flag_covered m o k s at (not scratch) b1 b2 n true
  row_covered small (i.Bclr n) spares sized rooms addressed none unflagged = flag_covered m o k s at (not scratch) b1 b2 n false
  row_covered small i.Ijmp spares sized rooms addressed none unflagged = ijmp_covered m o k s at (not scratch) b1 b2 A (listed_word A m.pc (effect_of image (reads_masks m.device A) m i.Ijmp b1 b2) unflagged.listed) none
  row_covered small i.Icall spares sized rooms addressed none unflagged = icall_covered m o k s at (not scratch) b1 b2 A (not_from_never scratch rooms) (listed_call A m.pc (effect_of image (reads_masks m.device A) m i.Icall b1 b2) unflagged.listed) none
  row_covered small i.Eijmp spares sized rooms addressed none unflagged = eijmp_covered m o k s at (not scratch) b1 b2 A (listed_far A m.pc (effect_of image (reads_masks m.device A) m i.Eijmp b1 b2) unflagged.listed) none
  row_covered small i.Eicall spares sized rooms addressed none unflagged = eicall_covered m o k s at (not scratch) b1 b2 A (not_from_never scratch rooms) (listed_far_call A m.pc (effect_of image (reads_masks m.device A) m i.Eicall b1 b2) unflagged.listed) none
  row_covered small i.Ret spares sized rooms addressed none unflagged = ret_covered m o k s at (not scratch) b1 b2 none
  row_covered small i.Reti spares sized rooms addressed none unflagged = reti_covered m o k s at (not scratch) b1 b2 none
  row_covered small i.Sleep spares sized rooms addressed none unflagged = going_covered m o k s at (not scratch) b1 b2 _ (further m.device k 1) (goes_further m o k s at (not scratch) b1 b2 1)
  row_covered small i.Break spares sized rooms addressed none unflagged = going_covered m o k s at (not scratch) b1 b2 _ (further m.device k 1) (goes_further m o k s at (not scratch) b1 b2 1)
  row_covered small i.Wdr spares sized rooms addressed none unflagged = going_covered m o k s at (not scratch) b1 b2 _ (further m.device k 1) (goes_further m o k s at (not scratch) b1 b2 1)
  row_covered small i.Lpm spares sized rooms addressed none unflagged = addressed tt none unflagged
  row_covered small i.Elpm spares sized rooms addressed none unflagged = addressed tt none unflagged
  row_covered small (i.Jmp t) spares sized rooms addressed none unflagged = going_covered m o k s at (not scratch) b1 b2 t (wrapped m.device t) refl
  row_covered small (i.Call t) spares sized rooms addressed none unflagged = call_covered m o k s at (not scratch) b1 b2 t (wrapped m.device t) _ (further m.device k 2) (wrapped m.device t ∷ []) (not_from_never scratch rooms) refl (further_is m o k s at (not scratch) b1 b2 2) (first_in (wrapped m.device t) []) none
  row_covered small (i.Adiw d n) spares sized rooms addressed none unflagged = wide_covered m o k s at (not scratch) b1 b2 true (2 * d) n sized
  row_covered small (i.Sbiw d n) spares sized rooms addressed none unflagged = wide_covered m o k s at (not scratch) b1 b2 false (2 * d) n sized
  row_covered small (i.Cbi a b) spares sized rooms addressed none unflagged = addressed tt none unflagged
  row_covered small (i.Sbi a b) spares sized rooms addressed none unflagged = addressed tt none unflagged
  row_covered small (i.Sbic a b) spares sized rooms addressed none unflagged = addressed tt none unflagged
  row_covered small (i.Sbis a b) spares sized rooms addressed none unflagged = addressed tt none unflagged
  row_covered small (i.In d a) spares sized rooms addressed none unflagged = addressed tt none unflagged
  row_covered small (i.Out a r) spares sized rooms addressed none unflagged = addressed tt none unflagged
  row_covered small (i.Rjmp t) spares sized rooms addressed none unflagged = going_covered m o k s at (not scratch) b1 b2 (far m.pc t) (wrapped m.device (far k.pc t)) (ap (λ pc. wrapped m.device (far pc t)) at.place.pc)
  row_covered small (i.Rcall t) spares sized rooms addressed none unflagged = rcall_covered m o k s at scratch b1 b2 (far m.pc t) (wrapped m.device (far k.pc t)) (ap (λ pc. wrapped m.device (far pc t)) at.place.pc) none
  row_covered small (i.Brbs n t) spares sized rooms addressed none unflagged = brbs_covered m o k s at (not scratch) b1 b2 n t
  row_covered small (i.Brbc n t) spares sized rooms addressed none unflagged = brbc_covered m o k s at (not scratch) b1 b2 n t
  row_covered small (i.Bld d b) spares sized rooms addressed none unflagged = bld_covered m o k s at (not scratch) b1 b2 d b spares.0
  row_covered small (i.Bst d b) spares sized rooms addressed none unflagged = bst_covered m o k s at (not scratch) b1 b2 d b
  row_covered small (i.Sbrc r b) spares sized rooms addressed none unflagged = skip_covered m o k s at (not scratch) b1 b2 image (not (flag (register m r) b)) (tri_not (tri_at (bits s r) b)) (not_may (tri_at (bits s r) b) (flag (register m r) b) (bit_may r b))
  row_covered small (i.Sbrs r b) spares sized rooms addressed none unflagged = skip_covered m o k s at (not scratch) b1 b2 image (flag (register m r) b) (tri_at (bits s r) b) (bit_may r b)
