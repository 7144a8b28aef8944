-- Plain rows without stores and cuts keep all facts on pairs that aren't ended, and each register that isn't written.
use Rattle.std.proofs.Common.{◌≡◌, ◌≢◌, refl, sym, ◌∙◌, ℕ, suc, zero, ◌+◌, ◌*◌, ◌==◌, ◌||◌, Bool, true, false, List, [], ◌∷◌, Option, Some, None, if◌then◌else◌, slice_set, nat_le, eq-eqb, Contains}
use Rattle.std.specs.Prelude.{⊤}
use Rattle.std.proofs.lemmas.Bool.{or_parts}
use Rattle.basics.specs.Items.{none_in}
use Rattle.avr_model.specs.Devices.{size_of, back_of, wrapped}
use Rattle.avr_model.specs.declared.device.Device.{Device}
use Rattle.avr_model.specs.declared.instruction.Instr.{Instr}
use Rattle.avr_model.specs.declared.instruction.Instr.TheVariants as i
use Rattle.avr_model.specs.declared.instruction.BinaryOp.{BinaryOp}
use Rattle.avr_model.specs.declared.instruction.BinaryOp.TheVariants as binary
use Rattle.avr_model.specs.declared.instruction.ImmediateOp.{ImmediateOp}
use Rattle.avr_model.specs.declared.instruction.ImmediateOp.TheVariants as immediate
use Rattle.avr_model.specs.declared.instruction.UnaryOp.{UnaryOp}
use Rattle.avr_model.specs.declared.instruction.UnaryOp.TheVariants as unary
use Rattle.avr_model.specs.declared.instruction.Pointer.{Pointer}
use Rattle.avr_model.specs.declared.instruction.Pointer.TheVariants as pointer
use Rattle.avr_model.specs.Assumptions.{is_frame, has_scratch}
use Rattle.avr_model.specs.Masks.{reads_masks}
use Rattle.avr_model.specs.Sites.{base_register, pointer_register}
use Rattle.avr_model.specs.Effects.{port}
use Rattle.avr_model.specs.State.{RAMPZ}
use Rattle.avr_model.specs.Text.{far}
use Rattle.avr_model.specs.Written.{moved_pair, set_by_binary, set_by_immediate, written}
use Rattle.bit_domain.specs.declared.bits.Tri.{Tri}
use Rattle.bit_domain.specs.declared.bits.Tri.TheVariants.{Zero, One, Any}
use Rattle.bit_domain.specs.Tri.{tri_not}
use Rattle.bit_domain.specs.TriByte.{tri_at}
use Rattle.bit_domain.specs.Logic.{byte_equal}
use Rattle.abs_state.specs.declared.values.AbsByte.{AbsByte}
use Rattle.abs_state.specs.declared.state.AbsState.{AbsState}
use Rattle.abs_state.specs.Values.{value_at}
use Rattle.abs_state.specs.Ended.{is_one_of}
use Rattle.node_keys.specs.declared.keys.NodeKey.{NodeKey}
use Rattle.node_keys.specs.declared.keys.Kind.{Kind}
use Rattle.node_keys.specs.declared.keys.Kind.TheVariants.{Root, Call, Vector}
use Rattle.node_keys.specs.declared.keys.SpForm.{SpForm}
use Rattle.node_keys.specs.declared.keys.SpForm.TheVariants.{Closed, Open}
use Rattle.local_rules.specs.declared.computed.Computed.{Computed}
use Rattle.local_rules.specs.declared.local.Node.{Node}
use Rattle.local_rules.specs.declared.local.Exit.{Exit}
use Rattle.local_rules.specs.Raw.{Raw, nowhere, one, untracked_if, off_table}
use Rattle.local_rules.specs.HighBytes.{SpView, view_by}
use Rattle.local_rules.specs.Registers.{going_by, interrupts_row, flag_row, binary_after, immediate_after, unary_after}
use Rattle.local_rules.specs.FrameLines.{is_followed, framed_binary, framed_immediate, framed_unary}
use Rattle.local_rules.specs.Reads.{read_at, pointed, read_pointed}
use Rattle.local_rules.specs.Flow.{branch_by, reading_zero, targets_at, far_targets_at, jumping, at_closed, pushing, popping, making_room, indirect_call, relative_call, is_half_written, returning, ret_exit, reti_exit}
use Rattle.local_rules.specs.Local.{step_before, pointer_moved, loading, row_of}
use Rattle.local_laws.proofs.Members.{each_of, each_in_map}
use Rattle.local_laws.proofs.MonotoneValues.{set_other}
use Rattle.local_rules.specs.Site.{Task, site_at}

-- ---- registers

-- registers outside this list stay
abbrev pub KeepOthers : List ℕ → List AbsByte → List AbsByte → Type 0
KeepOthers written old new = (r : ℕ) → is_one_of written r ≡ false → value_at new r ≡ value_at old r

apart : (d r : ℕ) → (d == r) ≡ false → r ≢ d
apart d r e same = let hit : (d == r) ≡ true = eq-eqb d r (sym same) in absurd (let no = sym hit ∙ e in cc)

none_set : (rs : List ℕ) (vs : List AbsByte) → KeepOthers rs vs vs
none_set rs vs r e = refl

pub one_set : (vs : List AbsByte) (d : ℕ) (v : AbsByte) → KeepOthers (d ∷ []) vs (slice_set vs d v)
one_set vs d v r e = set_other vs d r v (apart d r (or_parts (d == r) false e).0)

two_set : (vs : List AbsByte) (d e : ℕ) (v w : AbsByte) → KeepOthers (d ∷ e ∷ []) vs (slice_set (slice_set vs d v) e w)
two_set vs d e v w r h =
    let parts = or_parts (d == r) (is_one_of (e ∷ []) r) h in
    one_set (slice_set vs d v) e w r parts.1 ∙ set_other vs d r v (apart d r parts.0)

three_set : (vs : List AbsByte) (a b c : ℕ) (u v w : AbsByte) → KeepOthers (a ∷ b ∷ c ∷ []) vs (slice_set (slice_set (slice_set vs a u) b v) c w)
three_set vs a b c u v w r h =
    let parts = or_parts (a == r) (is_one_of (b ∷ c ∷ []) r) h in
    two_set (slice_set vs a u) b c v w r parts.1 ∙ set_other vs a r u (apart a r parts.0)

-- one more register
more_set : (rs : List ℕ) (vs ws : List AbsByte) (d : ℕ) (v : AbsByte) → KeepOthers rs vs ws → KeepOthers (d ∷ rs) vs (slice_set ws d v)
more_set rs vs ws d v h r e =
    let parts = or_parts (d == r) (is_one_of rs r) e in
    set_other ws d r v (apart d r parts.0) ∙ h r parts.1

pub pointer_set : (view : SpView) (p : Pointer) (s : AbsState) → KeepOthers (moved_pair p) s.registers (pointer_moved view p s)
pointer_set view pointer.ZPlus s = two_set s.registers 30 31 _ _
pointer_set view pointer.MinusZ s = two_set s.registers 30 31 _ _
pointer_set view pointer.YPlus s = two_set s.registers 28 29 _ _
pointer_set view pointer.MinusY s = two_set s.registers 28 29 _ _
pointer_set view pointer.X s = none_set [] s.registers
pointer_set view pointer.XPlus s = two_set s.registers 26 27 _ _
pointer_set view pointer.MinusX s = two_set s.registers 26 27 _ _

-- ---- states

pub record AreOthersKept (written : List ℕ) (s t : AbsState) : Type 0 where
  pub facts : t.facts ≡ s.facts
  pub others : KeepOthers written s.registers t.registers

module _ (rs : List ℕ) (s : AbsState) where
  -- the computed result, if there is one
  abbrev pub ComputedKeeps : Option Computed → Type 0
  ComputedKeeps None = ⊤
  ComputedKeeps (Some c) = KeepOthers rs s.registers c.registers

  abbrev pub Leaves : Raw → Type 0
  Leaves r = (to : Node) → Contains r.moves to → AreOthersKept rs s to.state

  same_state : AreOthersKept rs s s
  same_state = record { facts = refl; others = none_set rs s.registers }

  leaves_none : Leaves nowhere
  leaves_none to h = absurd (none_in to h)

  leaves_one : (k : NodeKey) (t : AbsState) → AreOthersKept rs s t → Leaves (one k t)
  leaves_one k t h = each_of (λ (n : Node). AreOthersKept rs s n.state) (record { key = k; state = t }) [] h (λ n h. absurd (none_in n h))

  leaves_same : (k : NodeKey) → Leaves (one k s)
  leaves_same k = leaves_one k s same_state

  leaves_if : (b : Bool) (p q : Raw) → Leaves p → Leaves q → Leaves (if b then p else q)
  leaves_if true p q h g = h
  leaves_if false p q h g = g

  leaves_branch : (t : Tri) (j k : NodeKey) (taken other : ℕ) → Leaves (branch_by t (off_table j taken) (off_table k other) s)
  leaves_branch One j k taken other = leaves_same (off_table j taken)
  leaves_branch Zero j k taken other = leaves_same (off_table k other)
  leaves_branch Any j k taken other =
      each_of (λ (n : Node). AreOthersKept rs s n.state) (record { key = off_table k other; state = s }) (record { key = off_table j taken; state = s } ∷ []) same_state (leaves_same (off_table j taken))

  leaves_by : (device : Device) (k : NodeKey) (c : Option Computed) (r : Raw) → ComputedKeeps c → Leaves r → Leaves (going_by (site_at device k s) c r)
  leaves_by device k None r h g = g
  leaves_by device k (Some d) r h g = leaves_one _ _ (record { facts = refl; others = h })

  leaves_set : (device : Device) (k : NodeKey) (t : AbsState) → t.facts ≡ s.facts → KeepOthers rs s.registers t.registers → Leaves (one k t)
  leaves_set device k t facts others = leaves_one k t (record { facts = facts; others = others })

  leaves_loading : (device : Device) (k : NodeKey) (registers : List AbsByte) (d : ℕ) (v : Option AbsByte) → ((w : AbsByte) → KeepOthers rs s.registers (slice_set registers d w))
      → Leaves (loading (site_at device k s) registers d v)
  leaves_loading device k registers d None h = leaves_none
  leaves_loading device k registers d (Some v) h = leaves_one _ _ (record { facts = refl; others = h v })

  leaves_interrupts : (device : Device) (k : NodeKey) (on : Bool) → Leaves (interrupts_row (site_at device k s) on)
  leaves_interrupts device k true = leaves_same _
  leaves_interrupts device k false = leaves_same _

  leaves_flag : (device : Device) (k : NodeKey) (n : ℕ) (on : Bool) → Leaves (flag_row (site_at device k s) n on)
  leaves_flag device k n on = leaves_if (n == 7) _ _ (leaves_interrupts device k on) (leaves_one _ _ (record { facts = refl; others = none_set rs s.registers }))

  leaves_jumping : (targets : Option (List ℕ)) (k : NodeKey) → Leaves (jumping targets k s)
  leaves_jumping None k = leaves_none
  leaves_jumping (Some targets) k = each_in_map (λ t. record { key = off_table k t; state = s }) (λ (n : Node). AreOthersKept rs s n.state) targets (λ t h. same_state)

  leaves_closed : (sp : SpForm) (pc : ℕ) (f : ℕ → Raw) → ((offset : ℕ) → Leaves (f offset)) → Leaves (at_closed sp pc f)
  leaves_closed (Closed offset) pc f h = h offset
  leaves_closed (Open offset high) pc f h = leaves_none

  leaves_pushing : (device : Device) (scratch : Bool) (k : NodeKey) (r offset : ℕ) → Leaves (pushing scratch (site_at device k s) r offset)
  leaves_pushing device scratch k r offset = leaves_if (nat_le (offset + 1) (size_of device)) _ _ (leaves_one _ _ (record { facts = refl; others = none_set rs s.registers })) leaves_none

  leaves_room : (device : Device) (k : NodeKey) (target offset : ℕ) → Leaves (making_room (site_at device k s) target offset)
  leaves_room device k target offset = leaves_if (nat_le (offset + back_of device) (size_of device)) _ _ (leaves_one _ _ (record { facts = refl; others = none_set rs s.registers })) leaves_none

  leaves_calling : (half : Bool) (pc : ℕ) (r : Raw) → Leaves r → Leaves (untracked_if half pc r)
  leaves_calling true pc r h = h
  leaves_calling false pc r h = h

  leaves_indirect : (device : Device) (targets : Option (List ℕ)) (k : NodeKey) → Leaves (indirect_call device targets k)
  leaves_indirect device None k = leaves_calling (is_half_written k.sp) k.pc _ leaves_none
  leaves_indirect device (Some targets) k = leaves_calling (is_half_written k.sp) k.pc _ leaves_none

  leaves_relative : (device : Device) (scratch : Bool) (k : NodeKey) (target : ℕ) → Leaves (relative_call scratch (site_at device k s) target)
  leaves_relative device true k target = leaves_closed k.sp k.pc _ (leaves_room device k target)
  leaves_relative device false k target = leaves_calling (is_half_written k.sp) k.pc _ leaves_none

  leaves_returning : (x : Exit) (pc : ℕ) (kind : Kind) (offset : ℕ) → Leaves (returning x pc kind offset)
  leaves_returning x pc kind (suc n) = leaves_none
  leaves_returning x pc Root zero = leaves_none
  leaves_returning x pc Call zero = leaves_none
  leaves_returning x pc (Vector v) zero = leaves_none

-- ---- by the operation

module _ (view : SpView) (s : AbsState) where
  binary_keeps : (op : BinaryOp) (d r : ℕ) → ComputedKeeps (set_by_binary op d) s (binary_after view s op d r)
  binary_keeps binary.Cpc d r = none_set [] s.registers
  binary_keeps binary.Sbc d r = one_set s.registers d _
  binary_keeps binary.Add d r = one_set s.registers d _
  binary_keeps binary.Cpse d r = tt
  binary_keeps binary.Cp d r = none_set [] s.registers
  binary_keeps binary.Sub d r = one_set s.registers d _
  binary_keeps binary.Adc d r = one_set s.registers d _
  binary_keeps binary.And d r = one_set s.registers d _
  binary_keeps binary.Eor d r = one_set s.registers d _
  binary_keeps binary.Or d r = one_set s.registers d _
  binary_keeps binary.Mov d r = one_set s.registers d _
  binary_keeps binary.Mul d r = two_set s.registers 0 1 _ _

  framed_binary_keeps : (op : BinaryOp) (d r : ℕ) → ComputedKeeps (set_by_binary op d) s (framed_binary view s op d r)
  framed_binary_keeps binary.Cpc d r = none_set [] s.registers
  framed_binary_keeps binary.Sbc d r = one_set s.registers d _
  framed_binary_keeps binary.Add d r = one_set s.registers d _
  framed_binary_keeps binary.Cpse d r = tt
  framed_binary_keeps binary.Cp d r = none_set [] s.registers
  framed_binary_keeps binary.Sub d r = one_set s.registers d _
  framed_binary_keeps binary.Adc d r = one_set s.registers d _
  framed_binary_keeps binary.And d r = one_set s.registers d _
  framed_binary_keeps binary.Eor d r = one_set s.registers d _
  framed_binary_keeps binary.Or d r = one_set s.registers d _
  framed_binary_keeps binary.Mov d r = one_set s.registers d _
  framed_binary_keeps binary.Mul d r = two_set s.registers 0 1 _ _

  pub binary_line_keeps : (framed : Bool) (op : BinaryOp) (d r : ℕ) → ComputedKeeps (set_by_binary op d) s (if framed then framed_binary view s op d r else binary_after view s op d r)
  binary_line_keeps true op d r = framed_binary_keeps op d r
  binary_line_keeps false op d r = binary_keeps op d r

  immediate_keeps : (op : ImmediateOp) (d n : ℕ) → KeepOthers (set_by_immediate op d) s.registers (immediate_after view s op d n).registers
  immediate_keeps immediate.Cpi d n = none_set [] s.registers
  immediate_keeps immediate.Sbci d n = one_set s.registers d _
  immediate_keeps immediate.Subi d n = one_set s.registers d _
  immediate_keeps immediate.Ori d n = one_set s.registers d _
  immediate_keeps immediate.Andi d n = one_set s.registers d _
  immediate_keeps immediate.Ldi d n = one_set s.registers d _

  framed_immediate_keeps : (op : ImmediateOp) (d n : ℕ) → KeepOthers (set_by_immediate op d) s.registers (framed_immediate view s op d n).registers
  framed_immediate_keeps immediate.Cpi d n = none_set [] s.registers
  framed_immediate_keeps immediate.Sbci d n = one_set s.registers d _
  framed_immediate_keeps immediate.Subi d n = one_set s.registers d _
  framed_immediate_keeps immediate.Ori d n = one_set s.registers d _
  framed_immediate_keeps immediate.Andi d n = one_set s.registers d _
  framed_immediate_keeps immediate.Ldi d n = one_set s.registers d _

  unary_keeps : (op : UnaryOp) (d : ℕ) → KeepOthers (d ∷ []) s.registers (unary_after s op d).registers
  unary_keeps unary.Com d = one_set s.registers d _
  unary_keeps unary.Neg d = one_set s.registers d _
  unary_keeps unary.Swap d = one_set s.registers d _
  unary_keeps unary.Inc d = one_set s.registers d _
  unary_keeps unary.Asr d = one_set s.registers d _
  unary_keeps unary.Lsr d = one_set s.registers d _
  unary_keeps unary.Ror d = one_set s.registers d _
  unary_keeps unary.Dec d = one_set s.registers d _

  framed_unary_keeps : (op : UnaryOp) (d : ℕ) → KeepOthers (d ∷ []) s.registers (framed_unary s op d).registers
  framed_unary_keeps unary.Com d = one_set s.registers d _
  framed_unary_keeps unary.Neg d = one_set s.registers d _
  framed_unary_keeps unary.Swap d = one_set s.registers d _
  framed_unary_keeps unary.Inc d = one_set s.registers d _
  framed_unary_keeps unary.Asr d = one_set s.registers d _
  framed_unary_keeps unary.Lsr d = one_set s.registers d _
  framed_unary_keeps unary.Ror d = one_set s.registers d _
  framed_unary_keeps unary.Dec d = one_set s.registers d _

  immediate_line_keeps : (line : Bool) (op : ImmediateOp) (d n : ℕ) → KeepOthers (set_by_immediate op d) s.registers (if line then framed_immediate view s op d n else immediate_after view s op d n).registers
  immediate_line_keeps true op d n = framed_immediate_keeps op d n
  immediate_line_keeps false op d n = immediate_keeps op d n

  unary_line_keeps : (line : Bool) (op : UnaryOp) (d : ℕ) → KeepOthers (d ∷ []) s.registers (if line then framed_unary s op d else unary_after s op d).registers
  unary_line_keeps true op d = framed_unary_keeps op d
  unary_line_keeps false op d = unary_keeps op d

-- ---- the table, but for stores, and for branches and skips that cut the state

abbrev pub IsRefinedBinary : BinaryOp → Type 0
IsRefinedBinary binary.Cpse = ⊥
IsRefinedBinary _ = ⊤

abbrev pub IsRefinedInstr : Instr → Type 0
IsRefinedInstr (i.Binary op d r) = IsRefinedBinary op
IsRefinedInstr (i.Std b q r) = ⊥
IsRefinedInstr (i.Sts a r) = ⊥
IsRefinedInstr (i.St p r) = ⊥
IsRefinedInstr (i.Out a r) = ⊥
IsRefinedInstr (i.Cbi a b) = ⊥
IsRefinedInstr (i.Sbi a b) = ⊥
IsRefinedInstr (i.Brbs n t) = ⊥
IsRefinedInstr (i.Brbc n t) = ⊥
IsRefinedInstr (i.Sbrc r b) = ⊥
IsRefinedInstr (i.Sbrs r b) = ⊥
IsRefinedInstr _ = ⊤

module _ (device : Device) (task : Task) (scratch : Bool) (k : NodeKey) (s : AbsState) where
  pub row_leaves : (instr : Instr) → IsRefinedInstr instr → Leaves (written instr) s (row_of task scratch (site_at device k s) instr)
  row_leaves (i.Movw d r) is = leaves_set _ s device _ _ refl (two_set s.registers (2 * d) (2 * d + 1) _ _)
  row_leaves (i.Muls d r) is = leaves_set _ s device _ _ refl (two_set s.registers 0 1 _ _)
  row_leaves (i.Mulsu d r) is = leaves_set _ s device _ _ refl (two_set s.registers 0 1 _ _)
  row_leaves (i.Fmul d r) is = leaves_set _ s device _ _ refl (two_set s.registers 0 1 _ _)
  row_leaves (i.Fmuls d r) is = leaves_set _ s device _ _ refl (two_set s.registers 0 1 _ _)
  row_leaves (i.Fmulsu d r) is = leaves_set _ s device _ _ refl (two_set s.registers 0 1 _ _)
  row_leaves (i.Binary op d r) is = leaves_by _ s device k _ _ (binary_line_keeps (view_by device k) s (is_followed (is_frame task.assumptions k.pc) d r) op d r) (leaves_branch _ s (byte_equal (value_at s.registers d).bits (value_at s.registers r).bits) k k _ _)
  row_leaves (i.Immediate op d n) is = leaves_set _ s device _ _ refl (immediate_line_keeps (view_by device k) s (is_frame task.assumptions k.pc) op d n)
  row_leaves (i.Unary op d) is = leaves_set _ s device _ _ refl (unary_line_keeps (view_by device k) s (is_frame task.assumptions k.pc) op d)
  row_leaves (i.Adiw d n) is = leaves_set _ s device _ _ refl (two_set s.registers (2 * d) (2 * d + 1) _ _)
  row_leaves (i.Sbiw d n) is = leaves_set _ s device _ _ refl (two_set s.registers (2 * d) (2 * d + 1) _ _)
  row_leaves (i.Bset n) is = leaves_flag _ s device k n true
  row_leaves (i.Bclr n) is = leaves_flag _ s device k n false
  row_leaves (i.Bld d b) is = leaves_set _ s device _ _ refl (one_set s.registers d _)
  row_leaves (i.Bst d b) is = leaves_set _ s device _ _ refl (none_set [] s.registers)
  row_leaves (i.Ldd d b q) is = leaves_loading _ s device k s.registers d (read_pointed device (reads_masks device task.assumptions) k s (pointed (view_by device k) s (base_register b) q)) (λ w. one_set s.registers d w)
  row_leaves (i.Lds d a) is = leaves_set _ s device _ _ refl (one_set s.registers d _)
  row_leaves (i.Ld d p) is =
      leaves_loading _ s device k (pointer_moved (view_by device k) p s) d (read_pointed device (reads_masks device task.assumptions) k s (pointed (view_by device k) s (pointer_register p) (step_before p))) (λ w. more_set (moved_pair p) s.registers (pointer_moved (view_by device k) p s) d w (pointer_set (view_by device k) p s))
  row_leaves (i.LpmZ d) is = leaves_set _ s device _ _ refl (one_set s.registers d _)
  row_leaves (i.ElpmZ d) is = leaves_set _ s device _ _ refl (one_set s.registers d _)
  row_leaves (i.LpmZPlus d) is = leaves_set _ s device _ _ refl (more_set (30 ∷ 31 ∷ []) s.registers _ d _ (two_set s.registers 30 31 _ _))
  row_leaves (i.ElpmZPlus d) is = leaves_set _ s device _ _ refl (more_set (30 ∷ 31 ∷ RAMPZ ∷ []) s.registers _ d _ (three_set s.registers 30 31 RAMPZ _ _ _))
  row_leaves i.Lpm is = leaves_set _ s device _ _ refl (one_set s.registers 0 _)
  row_leaves i.Elpm is = leaves_set _ s device _ _ refl (one_set s.registers 0 _)
  row_leaves (i.Pop d) is = leaves_closed _ s k.sp k.pc _ popped
    where
      popped : (offset : ℕ) → Leaves (d ∷ []) s (popping (site_at device k s) d offset)
      popped zero = leaves_none _ s
      popped (suc n) = leaves_set _ s device _ _ refl (one_set s.registers d _)
  row_leaves (i.Push r) is = leaves_closed _ s k.sp k.pc _ (leaves_pushing _ s device (scratch || has_scratch task.assumptions k.pc) k r)
  row_leaves (i.In d a) is = leaves_set _ s device _ _ refl (one_set s.registers d _)
  row_leaves i.Ijmp is = leaves_jumping _ s (targets_at task.assumptions (site_at device k s)) k
  row_leaves i.Icall is = leaves_indirect _ s device (targets_at task.assumptions (site_at device k s)) k
  row_leaves i.Eijmp is = leaves_jumping _ s (far_targets_at task.assumptions (site_at device k s)) k
  row_leaves i.Eicall is = leaves_indirect _ s device (far_targets_at task.assumptions (site_at device k s)) k
  row_leaves i.Ret is = leaves_closed _ s k.sp k.pc _ (leaves_returning _ s (ret_exit k) k.pc k.inst.kind)
  row_leaves i.Reti is = leaves_closed _ s k.sp k.pc _ (leaves_returning _ s (reti_exit k) k.pc k.inst.kind)
  row_leaves (i.Jmp t) is = leaves_same _ s _
  row_leaves (i.Call t) is = leaves_calling _ s (is_half_written k.sp) k.pc _ (leaves_none _ s)
  row_leaves (i.Rjmp t) is = leaves_same _ s _
  row_leaves (i.Rcall t) is = leaves_relative _ s device scratch k (wrapped device (far k.pc t))
  row_leaves (i.Sbic a b) is = leaves_branch _ s (tri_not (tri_at (read_at device (reads_masks device task.assumptions) k s (port device a)).bits b)) (reading_zero device (reads_masks device task.assumptions) k (port device a) b) k _ _
  row_leaves (i.Sbis a b) is = leaves_branch _ s (tri_at (read_at device (reads_masks device task.assumptions) k s (port device a)).bits b) k (reading_zero device (reads_masks device task.assumptions) k (port device a) b) _ _
  row_leaves i.Nop is = leaves_same _ s _
  row_leaves i.Sleep is = leaves_same _ s _
  row_leaves i.Break is = leaves_same _ s _
  row_leaves i.Wdr is = leaves_same _ s _
  row_leaves (i.Std b q r) is = absurd is
  row_leaves (i.Sts a r) is = absurd is
  row_leaves (i.St p r) is = absurd is
  row_leaves (i.Out a r) is = absurd is
  row_leaves (i.Cbi a b) is = absurd is
  row_leaves (i.Sbi a b) is = absurd is
  row_leaves (i.Brbs n t) is = absurd is
  row_leaves (i.Brbc n t) is = absurd is
  row_leaves (i.Sbrc r b) is = absurd is
  row_leaves (i.Sbrs r b) is = absurd is
