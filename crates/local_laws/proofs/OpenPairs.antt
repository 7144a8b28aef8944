-- If the stack pointer is half written after an instruction, its offset is that before it: a write of SPH opens the pair in place.
use Rattle.std.proofs.Common.{◌≡◌, refl, subst, ℕ, zero, suc, ◌+◌, ◌==◌, ◌||◌, nat_lt, nat_le, ⊎_elim, Bool, true, false, List, [], ◌∷◌, length, map, filter, Option, Some, None, if◌then◌else◌, Contains}
use Rattle.std.specs.Prelude.{⊤}
use Rattle.std.proofs.lemmas.List.Elements.{Contains-append_cases}
use Rattle.basics.specs.Items.{none_in, first_in, further_in}
use Rattle.avr_model.specs.Devices.{Image, size_of, back_of, wrapped, device_of}
use Rattle.avr_model.specs.Marks.{marks}
use Rattle.avr_model.specs.declared.device.Device.{Device}
use Rattle.avr_model.specs.declared.assumption.Entry.{Entry}
use Rattle.avr_model.specs.declared.instruction.Instr.{Instr}
use Rattle.avr_model.specs.declared.instruction.Instr.TheVariants as i
use Rattle.avr_model.specs.declared.instruction.BinaryOp.{BinaryOp}
use Rattle.avr_model.specs.declared.instruction.BinaryOp.TheVariants as binary
use Rattle.avr_model.specs.declared.instruction.Pointer.{Pointer}
use Rattle.avr_model.specs.Assumptions.{is_fixed_site, is_frame, has_scratch, store_line}
use Rattle.avr_model.specs.Image.{word_at}
use Rattle.avr_model.specs.Table.{length_of}
use Rattle.avr_model.specs.Sites.{is_scratch}
use Rattle.avr_model.specs.declared.device.Special.{Special}
use Rattle.avr_model.specs.declared.device.Special.TheVariants.{Spl, Sph, Sreg}
use Rattle.avr_model.specs.State.{register_at, special}
use Rattle.avr_model.specs.Text.{far, near}
use Rattle.bit_domain.specs.declared.bits.Tri.{Tri}
use Rattle.bit_domain.specs.declared.bits.Tri.TheVariants.{Zero, One, Any}
use Rattle.bit_domain.specs.TriByte.{tri_at}
use Rattle.bit_domain.specs.Logic.{byte_equal}
use Rattle.pair_domain.specs.declared.facts.PairFacts.{PairFacts}
use Rattle.pair_rules.specs.Refined.{refined}
use Rattle.pair_cuts.specs.Cuts.{flag_cut, bit_cut, equal_cut, pick_cut}
use Rattle.abs_state.specs.declared.values.AbsByte.{AbsByte}
use Rattle.abs_state.specs.declared.state.AbsState.{AbsState}
use Rattle.node_keys.specs.declared.keys.NodeKey.{NodeKey}
use Rattle.node_keys.specs.declared.keys.High.{High}
use Rattle.node_keys.specs.declared.keys.Kind.{Kind}
use Rattle.node_keys.specs.declared.keys.Kind.TheVariants.{Root, Call, Vector}
use Rattle.node_keys.specs.declared.keys.SpForm.{SpForm}
use Rattle.node_keys.specs.declared.keys.SpForm.TheVariants.{Closed, Open}
use Rattle.node_keys.specs.Keys.{offset_of}
use Rattle.node_keys.specs.Splits.{splits}
use Rattle.node_keys.specs.Wakes.{widened}
use Rattle.local_rules.specs.declared.computed.Computed.{Computed}
use Rattle.local_rules.specs.declared.local.Exit.{Exit}
use Rattle.local_rules.specs.declared.local.Node.{Node}
use Rattle.local_rules.specs.declared.local.NodeFault.TheVariants.{UnresolvedJump}
use Rattle.local_rules.specs.Raw.{Raw, nowhere, one, fails, moves_to, enters, all_of, at_word, off_table, next, further, untracked_if, too_deep_if}
use Rattle.local_rules.specs.FrameLines.{binary_at}
use Rattle.local_rules.specs.Registers.{bits, carry_bit, before, going_by, interrupts_row, flag_row}
use Rattle.local_rules.specs.Writes.{opening, closing, with_i, sreg_written, special_written, written_behind, written_at, fixed_write, listed_writes, may_wake, waking, pointer_write, high_part, closing_offset, flags_written, put_flags, reaches}
use Rattle.local_rules.specs.Flow.{branch_by, where_carry, going_where, carry_branch, flag_branch, skipping, jumping, at_closed, pushing, popping, making_room, is_half_written, indirect_call, relative_call, returning, targets_at, far_targets_at, ret_exit, reti_exit}
use Rattle.local_rules.specs.Local.{loading, pointer_moved, row_of, plain_row, row_by, row_at, row_in, cut_branch, cut_skip, paired_branch, paired_row, paired_binary, refined_nodes, refining, refined_if, storing, fetched, is_hung, picks, picking, picked_row, split_site, splitting, raw}
use Rattle.local_laws.specs.Laws.{OpenPairsStay}
use Rattle.local_laws.proofs.Members.{each_of, each_in_map}
use Rattle.local_rules.specs.Site.{Task, site_at}
use Rattle.local_rules.specs.Writes.{write_at}
use Rattle.local_rules.specs.HighBytes.{SpView, view_by}
use Rattle.local_rules.specs.Settling.{settled_state, node_where, settled_nodes, settling}
use Rattle.local_rules.specs.Reads.{pointed}
use Rattle.local_rules.specs.Local.{zeroing}
use Rattle.avr_model.specs.Effects.{port}

-- if it is half written, it has this offset
abbrev StaysAt : ℕ → SpForm → Type 0
StaysAt n (Closed offset) = ⊤
StaysAt n (Open offset high) = offset ≡ n

itself : (sp : SpForm) → StaysAt (offset_of sp) sp
itself (Closed offset) = tt
itself (Open offset high) = refl

module _ (n : ℕ) where
  abbrev IsStaying : Node → Type 0
  IsStaying to = StaysAt n to.key.sp

  -- for all successors
  abbrev AllStay : Raw → Type 0
  AllStay r = (to : Node) → Contains r.moves to → IsStaying to

  stay_none : AllStay nowhere
  stay_none to h = absurd (none_in to h)

  stay_one : (k : NodeKey) (s : AbsState) → StaysAt n k.sp → AllStay (one k s)
  stay_one k s h = each_of IsStaying (record { key = k; state = s }) [] h stay_none

  stay_two : (j k : NodeKey) (s : AbsState) → StaysAt n j.sp → StaysAt n k.sp → AllStay (moves_to (record { key = j; state = s } ∷ record { key = k; state = s } ∷ []))
  stay_two j k s h g = each_of IsStaying (record { key = j; state = s }) (record { key = k; state = s } ∷ []) h (stay_one k s g)

  stay_if : (b : Bool) (p q : Raw) → AllStay p → AllStay q → AllStay (if b then p else q)
  stay_if true p q h g = h
  stay_if false p q h g = g

  stay_both : (p q : Raw) → AllStay p → AllStay q → AllStay (all_of (p ∷ q ∷ []))
  stay_both p q h g to j =
      ⊎_elim (h to) (λ rest. ⊎_elim (g to) (stay_none to) (Contains-append_cases q.moves [] to rest)) (Contains-append_cases p.moves (all_of (q ∷ [])).moves to j)

  stay_all : {A : Type 0} (f : A → Raw) (xs : List A) → ((x : A) → AllStay (f x)) → AllStay (all_of (map f xs))
  stay_all f [] h to j = stay_none to j
  stay_all f (x ∷ xs) h to j = ⊎_elim (h x to) (stay_all f xs h to) (Contains-append_cases (f x).moves (all_of (map f xs)).moves to j)

  stay_ways : (t : Tri) (j k : NodeKey) (s : AbsState) (taken other : ℕ) → StaysAt n j.sp → StaysAt n k.sp → AllStay (branch_by t (off_table j taken) (off_table k other) s)
  stay_ways One j k s taken other h g = stay_one (off_table j taken) s h
  stay_ways Zero j k s taken other h g = stay_one (off_table k other) s g
  stay_ways Any j k s taken other h g = stay_two (off_table k other) (off_table j taken) s g h

  stay_where : (k : NodeKey) (x : Option AbsState) (pc : ℕ) → StaysAt n k.sp → AllStay (going_where k x pc)
  stay_where k None pc h = stay_none
  stay_where k (Some s) pc h = stay_one (off_table k pc) s h

  stay_carry : (t : Tri) (k : NodeKey) (s : AbsState) (set clear : ℕ) → StaysAt n k.sp → AllStay (carry_branch t k s set clear)
  stay_carry One k s set clear h = stay_where k (where_carry s.flags.carry s true) set h
  stay_carry Zero k s set clear h = stay_where k (where_carry s.flags.carry s false) clear h
  stay_carry Any k s set clear h =
      stay_both (going_where k (where_carry s.flags.carry s false) clear) (going_where k (where_carry s.flags.carry s true) set)
      (stay_where k (where_carry s.flags.carry s false) clear h) (stay_where k (where_carry s.flags.carry s true) set h)

  stay_branch : (m : ℕ) (k : NodeKey) (s : AbsState) (set clear : ℕ) (other : Raw) → StaysAt n k.sp → AllStay other → AllStay (flag_branch m (record { key = k; state = s }) set clear other)
  stay_branch m k s set clear other h g = stay_if (m == 0) _ _ (stay_carry (carry_bit s) k s set clear h) g

  stay_by : (device : Device) (k : NodeKey) (s : AbsState) (c : Option Computed) (r : Raw) → StaysAt n k.sp → AllStay r → AllStay (going_by (site_at device k s) c r)
  stay_by device k s None r h g = g
  stay_by device k s (Some c) r h g = stay_one _ _ h

  stay_loading : (device : Device) (k : NodeKey) (s : AbsState) (registers : List AbsByte) (d : ℕ) (v : Option AbsByte) → StaysAt n k.sp → AllStay (loading (site_at device k s) registers d v)
  stay_loading device k s registers d None h = stay_none
  stay_loading device k s registers d (Some v) h = stay_one _ _ h

  stay_interrupts : (device : Device) (k : NodeKey) (s : AbsState) (on : Bool) → StaysAt n k.sp → AllStay (interrupts_row (site_at device k s) on)
  stay_interrupts device k s true h = stay_one _ _ h
  stay_interrupts device k s false h = stay_one _ _ h

  stay_flag : (device : Device) (k : NodeKey) (s : AbsState) (m : ℕ) (on : Bool) → StaysAt n k.sp → AllStay (flag_row (site_at device k s) m on)
  stay_flag device k s m on h = stay_if (m == 7) _ _ (stay_interrupts device k s on h) (stay_one _ _ h)

  stay_jumping : (targets : Option (List ℕ)) (k : NodeKey) (s : AbsState) → StaysAt n k.sp → AllStay (jumping targets k s)
  stay_jumping None k s h = stay_none
  stay_jumping (Some targets) k s h = each_in_map (λ t. record { key = off_table k t; state = s }) IsStaying targets (λ t i. h)

  -- ---- the stack

  stay_closed : (sp : SpForm) (pc : ℕ) (f : ℕ → Raw) → ((offset : ℕ) → AllStay (f offset)) → AllStay (at_closed sp pc f)
  stay_closed (Closed offset) pc f h = h offset
  stay_closed (Open offset high) pc f h = stay_none

  stay_pushing : (device : Device) (scratch : Bool) (k : NodeKey) (s : AbsState) (r offset : ℕ) → AllStay (pushing scratch (site_at device k s) r offset)
  stay_pushing device scratch k s r offset = stay_if (nat_le (offset + 1) (size_of device)) _ _ (stay_one _ _ tt) stay_none

  stay_popping : (device : Device) (k : NodeKey) (s : AbsState) (d offset : ℕ) → AllStay (popping (site_at device k s) d offset)
  stay_popping device k s d zero = stay_none
  stay_popping device k s d (suc offset) = stay_one _ _ tt

  stay_room : (device : Device) (k : NodeKey) (s : AbsState) (target offset : ℕ) → AllStay (making_room (site_at device k s) target offset)
  stay_room device k s target offset = stay_if (nat_le (offset + back_of device) (size_of device)) _ _ (stay_one _ _ tt) stay_none

  stay_untracked : (b : Bool) (pc : ℕ) (r : Raw) → AllStay r → AllStay (untracked_if b pc r)
  stay_untracked true pc r h = h
  stay_untracked false pc r h = h

  stay_deep : (b : Bool) (pc offset : ℕ) (r : Raw) → AllStay r → AllStay (too_deep_if b pc offset r)
  stay_deep true pc offset r h = h
  stay_deep false pc offset r h = h

  stay_indirect : (device : Device) (targets : Option (List ℕ)) (k : NodeKey) → AllStay (indirect_call device targets k)
  stay_indirect device None k = stay_untracked (is_half_written k.sp) k.pc (fails (UnresolvedJump k.pc)) stay_none
  stay_indirect device (Some targets) k = stay_untracked (is_half_written k.sp) k.pc (enters _) stay_none

  stay_relative : (device : Device) (scratch : Bool) (k : NodeKey) (s : AbsState) (target : ℕ) → AllStay (relative_call scratch (site_at device k s) target)
  stay_relative device true k s target = stay_closed k.sp k.pc _ (stay_room device k s target)
  stay_relative device false k s target = stay_untracked (is_half_written k.sp) k.pc (enters _) stay_none

  stay_returning : (x : Exit) (pc : ℕ) (kind : Kind) (offset : ℕ) → AllStay (returning x pc kind offset)
  stay_returning x pc kind (suc offset) = stay_none
  stay_returning x pc Root zero = stay_none
  stay_returning x pc Call zero = stay_none
  stay_returning x pc (Vector v) zero = stay_none

  -- ---- where pairs are followed

  stay_node : (k : NodeKey) (x : Option AbsState) → StaysAt n k.sp → (to : Node) → Contains (node_where k x) to → IsStaying to
  stay_node k None h = stay_none
  stay_node k (Some s) h = each_of IsStaying (record { key = k; state = s }) [] h stay_none

  stay_refined : (image : Image) (instr : Instr) (s : AbsState) (nodes : List Node) → ((to : Node) → Contains nodes to → IsStaying to)
      → (to : Node) → Contains (refined_nodes image instr s nodes) to → IsStaying to
  stay_refined image instr s [] h to j = stay_none to j
  stay_refined image instr s (x ∷ xs) h to j =
      ⊎_elim (stay_node x.key (refined (marks image) image instr s x.state) (h x (first_in x xs)) to)
      (stay_refined image instr s xs (λ y i. h y (further_in x y xs i)) to)
      (Contains-append_cases (node_where x.key (refined (marks image) image instr s x.state)) (refined_nodes image instr s xs) to j)

  -- where high bytes are settled

  stay_settled : (view : SpView) (nodes : List Node) → ((to : Node) → Contains nodes to → IsStaying to) → (to : Node) → Contains (settled_nodes view nodes) to → IsStaying to
  stay_settled view [] h to j = stay_none to j
  stay_settled view (x ∷ xs) h to j =
      ⊎_elim (stay_node x.key (settled_state view x.state) (h x (first_in x xs)) to) (stay_settled view xs (λ y i. h y (further_in x y xs i)) to)
      (Contains-append_cases (node_where x.key (settled_state view x.state)) (settled_nodes view xs) to j)

  stay_settling : (view : SpView) (r : Raw) → AllStay r → AllStay (settling view r)
  stay_settling view r h = stay_settled view r.moves h

  stay_refining : (image : Image) (instr : Instr) (s : AbsState) (r : Raw) → AllStay r → AllStay (refining image instr s r)
  stay_refining image instr s r h = stay_refined image instr s r.moves h

-- ---- stores

-- the offset of this key
abbrev FromKey : NodeKey → Raw → Type 0
FromKey k r = AllStay (offset_of k.sp) r

module _ (k : NodeKey) where
  abbrev at : ℕ
  at = offset_of k.sp

  same : (s : AbsState) → FromKey k (one k s)
  same s = stay_one at k s (itself k.sp)

  stay_opening : (h : Option High) (s : AbsState) (pc : ℕ) → FromKey k (opening h k s pc)
  stay_opening None s pc = stay_none at
  stay_opening (Some h) s pc = stay_one at (record k { sp = Open (offset_of k.sp) h }) s refl

  stay_closing : (device : Device) (o : Option ℕ) (s : AbsState) (pc : ℕ) → FromKey k (closing device o k s pc)
  stay_closing device None s pc = stay_none at
  stay_closing device (Some m) s pc = stay_if at (nat_le m (size_of device)) _ _ (stay_one at _ _ tt) (stay_none at)

  stay_sreg : (t : Tri) (s : AbsState) (is_out : Bool) → FromKey k (sreg_written t k s is_out)
  stay_sreg Zero s is_out = stay_one at (with_i k is_out false) s (itself k.sp)
  stay_sreg One s is_out = stay_one at (with_i k is_out true) s (itself k.sp)
  stay_sreg Any s is_out = stay_two at (with_i k is_out false) (with_i k is_out true) s (itself k.sp) (itself k.sp)

  stay_written : (device : Device) (pc : ℕ) (s : AbsState) (is_out : Bool) (a : ℕ) (v : AbsByte) → FromKey k (written_at (write_at device pc k s v) is_out a)
  unfolding written_at
  stay_written device pc s is_out a v = behind (register_at device a)
    where
      behind_special : (x : Option Special) → FromKey k (special_written (write_at device pc k s v) is_out a x)
      behind_special (Some Spl) = stay_closing device (closing_offset device k.inst.kind k.sp v) s pc
      behind_special (Some Sph) = stay_opening (high_part k.inst.kind v) s pc
      behind_special (Some Sreg) = stay_sreg (tri_at v.bits 7) (put_flags s (flags_written v)) is_out
      behind_special None =
          each_in_map (λ m. record { key = record k { masks = m }; state = s }) (IsStaying at) (splits device k.masks a v.bits) (λ m i. itself k.sp)

      behind : (r : Option ℕ) → FromKey k (written_behind (write_at device pc k s v) is_out a r)
      behind (Some r) = same _
      behind None = behind_special (special device a)

  stay_fixed : (device : Device) (a : Option ℕ) (pc : ℕ) (s : AbsState) (v : AbsByte) → FromKey k (fixed_write a (write_at device pc k s v))
  stay_fixed device None pc s v = stay_none at
  stay_fixed device (Some a) pc s v = stay_written device pc s false a v

  stay_listed : (device : Device) (pc : ℕ) (s : AbsState) (addresses : List ℕ) (v : AbsByte) → FromKey k (listed_writes addresses (write_at device pc k s v))
  stay_listed device pc s addresses v to j =
      ⊎_elim (same s to) (stay_all at (λ a. written_at (write_at device pc k s v) false a) addresses (λ a. stay_written device pc s false a v) to)
      (Contains-append_cases (one k s).moves (all_of (map (λ a. written_at (write_at device pc k s v) false a) addresses)).moves to j)

  stay_waking : (b : Bool) (device : Device) (A : List Entry) (s : AbsState) (r : Raw) → FromKey k r → FromKey k (waking b (record { key = record k { masks = widened device A k.masks }; state = s }) r)
  stay_waking false device A s r h to j = h to j
  stay_waking true device A s r h to j =
      let woken : NodeKey = record k { masks = widened device A k.masks } in
      ⊎_elim (h to) (stay_one at woken s (itself k.sp) to) (Contains-append_cases r.moves (record { key = woken; state = s } ∷ []) to j)

  stay_pointer : (device : Device) (task : Task) (was : AbsState) (r up : ℕ) (pc : ℕ) (s : AbsState) (v : AbsByte)
      → FromKey k (pointer_write task was r up (write_at device pc k s v))
  stay_pointer device task was r up pc s v =
      stay_if at (is_fixed_site task.flash task.assumptions pc) _ _ (stay_fixed device (pointed (view_by device k) was r up).constant pc s v)
      (stay_waking (may_wake task.assumptions was r up (write_at device pc k s v)) device task.assumptions s _ (stay_listed device pc s (filter (λ a. reaches was r up a) (store_line task.assumptions pc)) v))

-- ---- the table

module _ (device : Device) (task : Task) (scratch : Bool) (k : NodeKey) where
  abbrev place : ℕ
  place = offset_of k.sp

  held : StaysAt place k.sp
  held = itself k.sp

  row_stays : (s : AbsState) (instr : Instr) → FromKey k (row_of task scratch (site_at device k s) instr)
  row_stays s (i.Movw d r) = stay_one place _ _ held
  row_stays s (i.Muls d r) = stay_one place _ _ held
  row_stays s (i.Mulsu d r) = stay_one place _ _ held
  row_stays s (i.Fmul d r) = stay_one place _ _ held
  row_stays s (i.Fmuls d r) = stay_one place _ _ held
  row_stays s (i.Fmulsu d r) = stay_one place _ _ held
  row_stays s (i.Binary op d r) =
      stay_by place device k s (binary_at (view_by device k) (is_frame task.assumptions k.pc) s op d r) (skipping task.flash (site_at device k s) k k (byte_equal (bits s d) (bits s r))) held
      (stay_ways place (byte_equal (bits s d) (bits s r)) k k s _ _ held held)
  row_stays s (i.Immediate op d m) = stay_one place _ _ held
  row_stays s (i.Unary op d) = stay_one place _ _ held
  row_stays s (i.Adiw d m) = stay_one place _ _ held
  row_stays s (i.Sbiw d m) = stay_one place _ _ held
  row_stays s (i.Bset m) = stay_flag place device k s m true held
  row_stays s (i.Bclr m) = stay_flag place device k s m false held
  row_stays s (i.Bld d b) = stay_one place _ _ held
  row_stays s (i.Bst d b) = stay_one place _ _ held
  row_stays s (i.Ldd d b q) = stay_loading place device k s s.registers d _ held
  row_stays s (i.Std b q r) = stay_pointer (next device k) device task s _ q k.pc s _
  row_stays s (i.Lds d a) = stay_one place _ _ held
  row_stays s (i.Sts a r) = stay_written (at_word k _) device k.pc s false a _
  row_stays s (i.Ld d p) = stay_loading place device k s _ d _ held
  row_stays s (i.St p r) = stay_pointer (next device k) device task s _ _ k.pc _ _
  row_stays s (i.LpmZ d) = stay_one place _ _ held
  row_stays s (i.ElpmZ d) = stay_one place _ _ held
  row_stays s (i.LpmZPlus d) = stay_one place _ _ held
  row_stays s (i.ElpmZPlus d) = stay_one place _ _ held
  row_stays s i.Lpm = stay_one place _ _ held
  row_stays s i.Elpm = stay_one place _ _ held
  row_stays s (i.Pop d) = stay_closed place k.sp k.pc _ (stay_popping place device k s d)
  row_stays s (i.Push r) = stay_closed place k.sp k.pc _ (stay_pushing place device (scratch || has_scratch task.assumptions k.pc) k s r)
  row_stays s (i.In d a) = stay_one place _ _ held
  row_stays s (i.Out a r) = stay_written (next device k) device k.pc s true _ _
  row_stays s (i.Cbi a b) = stay_written (next device k) device k.pc s false _ _
  row_stays s (i.Sbi a b) = stay_written (next device k) device k.pc s false _ _
  row_stays s i.Ijmp = stay_jumping place (targets_at task.assumptions (site_at device k s)) k s held
  row_stays s i.Icall = stay_indirect place device (targets_at task.assumptions (site_at device k s)) k
  row_stays s i.Eijmp = stay_jumping place (far_targets_at task.assumptions (site_at device k s)) k s held
  row_stays s i.Eicall = stay_indirect place device (far_targets_at task.assumptions (site_at device k s)) k
  row_stays s i.Ret = stay_closed place k.sp k.pc _ (stay_returning place (ret_exit k) k.pc k.inst.kind)
  row_stays s i.Reti = stay_closed place k.sp k.pc _ (stay_returning place (reti_exit k) k.pc k.inst.kind)
  row_stays s (i.Jmp target) = stay_one place _ _ held
  row_stays s (i.Call target) = stay_untracked place (is_half_written k.sp) k.pc (enters _) (stay_none place)
  row_stays s (i.Rjmp target) = stay_one place _ _ held
  row_stays s (i.Rcall target) = stay_relative place device scratch k s (wrapped device (far k.pc target))
  row_stays s (i.Brbs m target) = stay_branch place m k s _ _ _ held (stay_ways place _ k k s _ _ held held)
  row_stays s (i.Brbc m target) = stay_branch place m k s _ _ _ held (stay_ways place _ k k s _ _ held held)
  row_stays s (i.Sbic a b) = stay_ways place _ (zeroing task.assumptions (site_at device k s) (port device a) b) k s _ _ held held
  row_stays s (i.Sbis a b) = stay_ways place _ k (zeroing task.assumptions (site_at device k s) (port device a) b) s _ _ held held
  row_stays s (i.Sbrc r b) = stay_ways place _ k k s _ _ held held
  row_stays s (i.Sbrs r b) = stay_ways place _ k k s _ _ held held
  row_stays s i.Nop = stay_one place _ _ held
  row_stays s i.Sleep = stay_one place _ _ held
  row_stays s i.Break = stay_one place _ _ held
  row_stays s i.Wdr = stay_one place _ _ held

  plain_stays : (s : AbsState) (instr : Instr) → FromKey k (plain_row task scratch (site_at device k s) instr)
  plain_stays s instr = stay_settling place (view_by device k) (row_of task scratch (site_at device k (before instr s)) instr) (row_stays (before instr s) instr)

  cuts_stay : (x y : Option AbsState) (p q : ℕ) → FromKey k (all_of (going_where k x p ∷ going_where k y q ∷ []))
  cuts_stay x y p q = stay_both place (going_where k x p) (going_where k y q) (stay_where place k x p held) (stay_where place k y q held)

  branch_stays : (s : AbsState) (m set clear : ℕ) (other : Raw) → FromKey k other → FromKey k (paired_branch m (record { key = k; state = s }) set clear other)
  branch_stays s m set clear other h = stay_if place (nat_lt m 7) (cut_branch m k s set clear) other (cuts_stay (flag_cut m false s) (flag_cut m true s) clear set) h

  skip_stays : (s : AbsState) (x y : Option AbsState) → FromKey k (cut_skip task.flash (site_at device k s) x y)
  skip_stays s x y = cuts_stay y x (further device k 1) (further device k (1 + length_of (word_at task.flash (k.pc + 1))))

  refining_stays : (s : AbsState) (instr : Instr) → FromKey k (refining task.flash instr s (plain_row task scratch (site_at device k s) instr))
  refining_stays s instr = stay_refining place task.flash instr s (plain_row task scratch (site_at device k s) instr) (plain_stays s instr)

  binary_stays : (op : BinaryOp) (s : AbsState) (d r : ℕ) (other : Raw) → FromKey k other → FromKey k (paired_binary op (cut_skip task.flash (site_at device k s) (equal_cut d r true s) (equal_cut d r false s)) other)
  binary_stays binary.Cpse s d r other h = skip_stays s (equal_cut d r true s) (equal_cut d r false s)
  binary_stays op s d r other h = h

  storing_stays : (s : AbsState) (p : Pointer) (r : ℕ) (x : Option AbsState) → FromKey k (storing task (site_at device k s) p r x)
  storing_stays s p r None = stay_none place
  storing_stays s p r (Some moved) = stay_pointer (next device k) device task s _ _ k.pc moved _

  paired_stays : (s : AbsState) (instr : Instr) → FromKey k (paired_row task scratch (site_at device k s) instr)
  paired_stays s (i.Brbs m t) =
      branch_stays s m (wrapped device (near k.pc t)) (further device k 1) (plain_row task scratch (site_at device k s) (i.Brbs m t)) (plain_stays s (i.Brbs m t))
  paired_stays s (i.Brbc m t) =
      branch_stays s m (further device k 1) (wrapped device (near k.pc t)) (plain_row task scratch (site_at device k s) (i.Brbc m t)) (plain_stays s (i.Brbc m t))
  paired_stays s (i.Sbrc r b) = skip_stays s (bit_cut r b false s) (bit_cut r b true s)
  paired_stays s (i.Sbrs r b) = skip_stays s (bit_cut r b true s) (bit_cut r b false s)
  paired_stays s (i.Binary op d r) =
      binary_stays op s d r (refining task.flash (i.Binary op d r) s (plain_row task scratch (site_at device k s) (i.Binary op d r))) (refining_stays s (i.Binary op d r))
  paired_stays s (i.St p r) = storing_stays s p r (refined_if task (i.St p r) s (settled_state (view_by device k) (record (before (i.St p r) s) { registers = pointer_moved (view_by device k) p s })))
  paired_stays s instr = refining_stays s instr

  by_stays : (f : Option PairFacts) (s : AbsState) (instr : Instr) → FromKey k (row_by f task scratch (site_at device k s) instr)
  by_stays None s instr = plain_stays s instr
  by_stays (Some f) s instr = paired_stays s instr

  at_stays : (s : AbsState) (x : Option Instr) → FromKey k (row_at task scratch (site_at device k s) x)
  at_stays s None = stay_none place
  at_stays s (Some instr) = by_stays s.facts s instr

-- ---- the node

module _ (task : Task) where
  in_stays : (k : NodeKey) (s : AbsState) → FromKey k (row_in (device_of task.flash) task k s)
  in_stays k s = at_stays (device_of task.flash) task (is_scratch task.flash k.pc) k s (fetched (device_of task.flash) task.flash k.pc)

  picked_stays : (k : NodeKey) (byte : ℕ) (x : Option AbsState) → FromKey k (picked_row (row_in (device_of task.flash) task) (picking k byte) x)
  picked_stays k byte None = stay_none (offset_of k.sp)
  picked_stays k byte (Some u) = in_stays (picking k byte) u

  split_stays : (k : NodeKey) (s : AbsState) (jump : Option ℕ) → FromKey k (splitting jump (row_in (device_of task.flash) task) k s)
  split_stays k s None = in_stays k s
  split_stays k s (Some jump) =
      stay_if (offset_of k.sp) (nat_le (length (picks s)) 64) _ _
      (stay_all (offset_of k.sp) (λ byte. picked_row (row_in (device_of task.flash) task) (picking k byte) (pick_cut byte s)) (picks s) (λ byte. picked_stays k byte (pick_cut byte s)))
      (stay_none (offset_of k.sp))

  raw_stays : (k : NodeKey) (s : AbsState) → FromKey k (raw task k s)
  unfolding raw
  raw_stays k s =
      stay_untracked (offset_of k.sp) (is_hung (device_of task.flash) task.assumptions k k.sp) k.pc _
      (stay_deep (offset_of k.sp) (nat_lt (size_of (device_of task.flash)) (offset_of k.sp)) k.pc (offset_of k.sp) _ (split_stays k s (split_site task k.pc k.pick)))

pub all_open_pairs_stay : OpenPairsStay
all_open_pairs_stay = record {
  stays = λ task k s to offset high clean i is. subst (StaysAt (offset_of k.sp)) is (raw_stays task k s to i);
}
