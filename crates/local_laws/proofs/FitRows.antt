-- The instruction table, row by row: calls go to words of flash, and returns are at the frame's base.
use Rattle.std.proofs.Common.{◌≡◌, refl, sym, subst, ℕ, zero, suc, ◌<◌, ◌==◌, ◌||◌, Bool, true, false, List, [], ◌∷◌, map, filter, length, Option, Some, None, if◌then◌else◌, nat_le, Contains, arith, nat_lt, ◌≤◌, ltb-true, ◌+◌}
use Rattle.std.proofs.lemmas.Bool.Decides.{nat_tests}
use Rattle.std.proofs.lemmas.Map.Views.{Contains-from_any}
use Rattle.std.proofs.lemmas.Option.{same_Some}
use Rattle.basics.specs.Items.{none_in}
use Rattle.avr_model.proofs.AllLaws.{devices_are_alike}
use Rattle.avr_model.specs.State.{EIND}
use Rattle.avr_model.specs.Devices.{size_of, wrapped, width, device_of, words_of, limit_width}
use Rattle.avr_model.specs.declared.device.Device.{Device}
use Rattle.avr_model.specs.declared.assumption.Entry.{Entry}
use Rattle.avr_model.specs.declared.instruction.Instr.{Instr}
use Rattle.avr_model.specs.declared.instruction.Instr.TheVariants as i
use Rattle.avr_model.specs.declared.instruction.BinaryOp.{BinaryOp}
use Rattle.avr_model.specs.declared.instruction.BinaryOp.TheVariants as binary
use Rattle.avr_model.specs.declared.instruction.Pointer.{Pointer}
use Rattle.pair_domain.specs.declared.facts.PairFacts.{PairFacts}
use Rattle.avr_model.specs.Assumptions.{jump_line, is_frame, has_scratch, lists}
use Rattle.avr_model.specs.Masks.{reads_masks}
use Rattle.avr_model.specs.Text.{far, near}
use Rattle.avr_model.specs.Sites.{is_scratch, base_register, pointer_register, instruction_at}
use Rattle.avr_model.specs.Effects.{port}
use Rattle.bit_domain.specs.TriByte.{tri_at, byte_known}
use Rattle.bit_domain.specs.Tri.{tri_not}
use Rattle.bit_domain.specs.Logic.{byte_equal}
use Rattle.bit_domain.specs.Numbers.{PointerBits, pointer_bit, targets_of}
use Rattle.bit_domain.proofs.AllLaws.{numbers_are_permitted}
use Rattle.vector_table.specs.Entries.{AreEntries}
use Rattle.abs_state.specs.declared.state.AbsState.{AbsState}
use Rattle.node_keys.specs.declared.keys.NodeKey.{NodeKey}
use Rattle.node_keys.specs.Keys.{offset_of}
use Rattle.node_keys.specs.declared.keys.Kind.{Kind}
use Rattle.node_keys.specs.declared.keys.Kind.TheVariants.{Root, Call, Vector}
use Rattle.node_keys.specs.declared.keys.SpForm.{SpForm}
use Rattle.node_keys.specs.declared.keys.SpForm.TheVariants.{Closed, Open}
use Rattle.local_rules.specs.declared.local.CallSite.{CallSite}
use Rattle.local_rules.specs.declared.local.Exit.{Exit}
use Rattle.local_rules.specs.Raw.{enters, fails, next, at_word, further, leaves_by, Raw, untracked_if, too_deep_if}
use Rattle.local_rules.specs.declared.local.NodeFault.TheVariants.{UnresolvedJump}
use Rattle.local_rules.specs.Registers.{before, bits, value}
use Rattle.local_rules.specs.FrameLines.{binary_at}
use Rattle.local_rules.specs.HighBytes.{SpView, view_by}
use Rattle.local_rules.specs.Settling.{settling}
use Rattle.local_rules.specs.Reads.{read_at, pointed, read_pointed}
use Rattle.local_rules.specs.Flow.{reading_zero, flag_at, words_on, targets_by, z_with, targets_at, far_targets_at, is_half_written, site, calling, indirect_call, relative_call, at_closed, returning, ret_exit, reti_exit, pushing, popping, making_room}
use Rattle.local_rules.specs.Local.{step_before, pointer_moved, row_of, row_at, row_by, plain_row, paired_row, paired_binary, refining, storing, row_in, is_hung, fetched, picks, split_site, splitting, raw}
use Rattle.local_laws.proofs.Members.{each_of, each_in_map, filter_passes}
use Rattle.local_laws.specs.Laws.{LocalPartsFit}
use Rattle.local_laws.proofs.MonotoneFields.{InstrFits, fetched_fits}
use Rattle.local_laws.proofs.MonotoneRaw.{no_calls, no_exit}
use Rattle.local_laws.proofs.Picks.{splits_at}
use Rattle.local_laws.proofs.Ascending.{Ascends, site_targets_ascend, sites_ascend, one_ascends}
use Rattle.local_laws.proofs.Quiet.{IsFit, none_ascend, quiet_fits, if_quiet, branch_quiet, flag_branch_quiet, skipping_quiet, going_by_quiet, loading_quiet, flag_quiet, written_quiet, pointer_quiet, jumping_quiet, closed_quiet, pushing_quiet, room_quiet, popping_quiet, untracked_fits, too_deep_fits}
use Rattle.local_rules.specs.Site.{Task, site_at}
use Rattle.local_rules.specs.Local.{cut_skip}
use Rattle.pair_cuts.specs.Cuts.{equal_cut}

-- ---- the targets of indirect calls are words

targets_small : (device : Device) (line : Option (List ℕ)) (p : PointerBits) (targets : List ℕ) → ((z : ℕ) → Contains (words_on device p) z → z < words_of device)
    → targets_by device line p ≡ Some targets → (z : ℕ) → Contains targets z → z < words_of device
targets_small device None p targets small e z h = by (nat_le (length (targets_of (limit_width device) p)) 64) e
  where
    by : (b : Bool) → (if b then Some (words_on device p) else None) ≡ Some targets → z < words_of device
    by true e = let is : words_on device p ≡ targets = cc in small z (subst (λ (l : List ℕ). Contains l z) (sym is) h)
    by false e = absurd (cc)
targets_small device (Some listed) p targets small e z h =
    let all = words_on device p in
    let is : filter (lists all) listed ≡ targets = cc in
    let passes = filter_passes (lists all) listed z (subst (λ (l : List ℕ). Contains l z) (sym is) h) in
    small z (Contains-from_any {eq = λ (a b : ℕ). b == a} (λ a b is. grind (arith, nat_tests)) z all passes)

further_small : (device : Device) (k : NodeKey) (n : ℕ) → further device k n < words_of device
further_small device k n = devices_are_alike.inside device (k.pc + n)

-- words of flash, ascending for a valid assumption list
record AreTargetWords (device : Device) (A : List Entry) (targets : List ℕ) : Type 0 where
  small : (z : ℕ) → Contains targets z → z < words_of device
  ascending : AreEntries A → Ascends targets

calls_fit : (device : Device) (A : List Entry) (k : NodeKey) (back : ℕ) (targets : List ℕ) → back < words_of device → AreTargetWords device A targets → IsFit device A k (calling k back targets)
calls_fit device A k back targets low are =
    untracked_fits A k (is_half_written k.sp) k.pc (enters (map (λ t. site t back) targets)) record {
      words = record {
        calls = each_in_map (λ (t : ℕ). site t back) (λ (x : CallSite). (x.entry < words_of device) × (x.back < words_of device)) targets (λ t h. (are.small t h, low));
        exit = λ x e. absurd (cc);
      };
      ascending = λ entries. sites_ascend back targets (are.ascending entries);
    }

one_call : (device : Device) (A : List Entry) (k : NodeKey) (back target : ℕ) → back < words_of device → target < words_of device → IsFit device A k (calling k back (target ∷ []))
one_call device A k back target low small = calls_fit device A k back (target ∷ []) low record {
  small = each_of (λ z. z < words_of device) target [] small (λ z h. absurd (none_in z h));
  ascending = λ entries. one_ascends target;
}

indirect_fits : (device : Device) (A : List Entry) (k : NodeKey) (o : Option (List ℕ)) → ((targets : List ℕ) → o ≡ Some targets → AreTargetWords device A targets) → IsFit device A k (indirect_call device o k)
indirect_fits device A k None are = untracked_fits A k (is_half_written k.sp) k.pc (fails (UnresolvedJump k.pc)) (quiet_fits A k (fails (UnresolvedJump k.pc)) (refl, refl))
indirect_fits device A k (Some targets) are = calls_fit device A k (further device k 1) targets (further_small device k 1) (are targets refl)

relative_fits : (device : Device) (A : List Entry) (scratch : Bool) (k : NodeKey) (s : AbsState) (target : ℕ) → target < words_of device → IsFit device A k (relative_call scratch (site_at device k s) target)
relative_fits device A true k s target small = quiet_fits A k _ (closed_quiet k.sp k.pc (making_room (site_at device k s) target) (room_quiet device k s target))
relative_fits device A false k s target small = one_call device A k (further device k 1) target (further_small device k 1) small

-- ---- returns

leaving : (device : Device) (A : List Entry) (k : NodeKey) (x : Exit) → k.sp ≡ Closed 0 → x.masks ≡ k.masks → IsFit device A k (leaves_by x)
leaving device A k x at masks = record {
  words = record { calls = λ site h. absurd (none_in site h); exit = λ y e. (at, subst (λ (z : Exit). z.masks ≡ k.masks) (same_Some x y e) masks) };
  ascending = λ entries. none_ascend;
}

return_fits : (device : Device) (A : List Entry) (k : NodeKey) (x : Exit) → x.masks ≡ k.masks → IsFit device A k (at_closed k.sp k.pc (returning x k.pc k.inst.kind))
return_fits device A k x masks = at k.sp refl
  where
    by : (kind : Kind) (offset : ℕ) → k.sp ≡ Closed offset → IsFit device A k (returning x k.pc kind offset)
    by kind (suc n) e = quiet_fits A k _ (refl, refl)
    by Root zero e = quiet_fits A k _ (refl, refl)
    by Call zero e = leaving device A k x e masks
    by (Vector v) zero e = leaving device A k x e masks

    at : (sp : SpForm) → k.sp ≡ sp → IsFit device A k (at_closed sp k.pc (returning x k.pc k.inst.kind))
    at (Closed offset) e = by k.inst.kind offset e
    at (Open offset high) e = quiet_fits A k _ (refl, refl)

-- ---- the table

module _ (device : Device) (task : Task) (k : NodeKey) (s : AbsState) where
  all_words : (targets : List ℕ) → targets_at task.assumptions (site_at device k s) ≡ Some targets → AreTargetWords device task.assumptions targets
  all_words targets e =
      let p = z_with s (byte_known 0) in
      let f = pointer_bit p in
      record {
        small = targets_small device (jump_line task.assumptions k.pc) p targets (λ z h. ((numbers_are_permitted.members f (width device) z).0 h).small) e;
        ascending = λ entries. site_targets_ascend device task.assumptions k.pc p targets entries (numbers_are_permitted.ascending f (width device)) e;
      }

  far_words : (targets : List ℕ) → far_targets_at task.assumptions (site_at device k s) ≡ Some targets → AreTargetWords device task.assumptions targets
  far_words targets e =
      let p = z_with s (bits s EIND) in
      let f = pointer_bit p in
      record {
        small = targets_small device (jump_line task.assumptions k.pc) p targets (λ z h. ((numbers_are_permitted.members f (width device) z).0 h).small) e;
        ascending = λ entries. site_targets_ascend device task.assumptions k.pc p targets entries (numbers_are_permitted.ascending f (width device)) e;
      }

  row_fits : (scratch : Bool) (instr : Instr) → InstrFits instr → IsFit device task.assumptions k (row_of task scratch (site_at device k s) instr)
  row_fits scratch (i.Movw d r) fits = quiet_fits task.assumptions k _ (refl, refl)
  row_fits scratch (i.Muls d r) fits = quiet_fits task.assumptions k _ (refl, refl)
  row_fits scratch (i.Mulsu d r) fits = quiet_fits task.assumptions k _ (refl, refl)
  row_fits scratch (i.Fmul d r) fits = quiet_fits task.assumptions k _ (refl, refl)
  row_fits scratch (i.Fmuls d r) fits = quiet_fits task.assumptions k _ (refl, refl)
  row_fits scratch (i.Fmulsu d r) fits = quiet_fits task.assumptions k _ (refl, refl)
  row_fits scratch (i.Binary op d r) fits =
      quiet_fits task.assumptions k _ (going_by_quiet device k s (binary_at (view_by device k) (is_frame task.assumptions k.pc) s op d r) _ (skipping_quiet device task.flash k k s (byte_equal (bits s d) (bits s r))))
  row_fits scratch (i.Immediate op d n) fits = quiet_fits task.assumptions k _ (refl, refl)
  row_fits scratch (i.Unary op d) fits = quiet_fits task.assumptions k _ (refl, refl)
  row_fits scratch (i.Adiw d n) fits = quiet_fits task.assumptions k _ (refl, refl)
  row_fits scratch (i.Sbiw d n) fits = quiet_fits task.assumptions k _ (refl, refl)
  row_fits scratch (i.Bset n) fits = quiet_fits task.assumptions k _ (flag_quiet device k s n true)
  row_fits scratch (i.Bclr n) fits = quiet_fits task.assumptions k _ (flag_quiet device k s n false)
  row_fits scratch (i.Bld d b) fits = quiet_fits task.assumptions k _ (refl, refl)
  row_fits scratch (i.Bst d b) fits = quiet_fits task.assumptions k _ (refl, refl)
  row_fits scratch (i.Ldd d b q) fits = quiet_fits task.assumptions k _ (loading_quiet device k s s.registers d (read_pointed device (reads_masks device task.assumptions) k s (pointed (view_by device k) s (base_register b) q)))
  row_fits scratch (i.Std b q r) fits =
      quiet_fits task.assumptions k _ (pointer_quiet device task s (base_register b) q k.pc (next device k) s (value s r))
  row_fits scratch (i.Lds d a) fits = quiet_fits task.assumptions k _ (refl, refl)
  row_fits scratch (i.Sts a r) fits = quiet_fits task.assumptions k _ (written_quiet device k.pc (at_word k (further device k 2)) s false a (value s r))
  row_fits scratch (i.Ld d p) fits =
      quiet_fits task.assumptions k _ (loading_quiet device k s (pointer_moved (view_by device k) p s) d (read_pointed device (reads_masks device task.assumptions) k s (pointed (view_by device k) s (pointer_register p) (step_before p))))
  row_fits scratch (i.St p r) fits =
      quiet_fits task.assumptions k _ (pointer_quiet device task s (pointer_register p) (step_before p) k.pc (next device k)
      (record s { registers = pointer_moved (view_by device k) p s }) (value s r))
  row_fits scratch (i.LpmZ d) fits = quiet_fits task.assumptions k _ (refl, refl)
  row_fits scratch (i.ElpmZ d) fits = quiet_fits task.assumptions k _ (refl, refl)
  row_fits scratch (i.LpmZPlus d) fits = quiet_fits task.assumptions k _ (refl, refl)
  row_fits scratch (i.ElpmZPlus d) fits = quiet_fits task.assumptions k _ (refl, refl)
  row_fits scratch i.Lpm fits = quiet_fits task.assumptions k _ (refl, refl)
  row_fits scratch i.Elpm fits = quiet_fits task.assumptions k _ (refl, refl)
  row_fits scratch (i.Pop d) fits = quiet_fits task.assumptions k _ (closed_quiet k.sp k.pc (popping (site_at device k s) d) (popping_quiet device k s d))
  row_fits scratch (i.Push r) fits = quiet_fits task.assumptions k _ (closed_quiet k.sp k.pc (pushing (scratch || has_scratch task.assumptions k.pc) (site_at device k s) r) (pushing_quiet device (scratch || has_scratch task.assumptions k.pc) k s r))
  row_fits scratch (i.In d a) fits = quiet_fits task.assumptions k _ (refl, refl)
  row_fits scratch (i.Out a r) fits = quiet_fits task.assumptions k _ (written_quiet device k.pc (next device k) s true (port device a) (value s r))
  row_fits scratch (i.Cbi a b) fits = quiet_fits task.assumptions k _ (written_quiet device k.pc (next device k) s false (port device a) _)
  row_fits scratch (i.Sbi a b) fits = quiet_fits task.assumptions k _ (written_quiet device k.pc (next device k) s false (port device a) _)
  row_fits scratch i.Ijmp fits = quiet_fits task.assumptions k _ (jumping_quiet (targets_at task.assumptions (site_at device k s)) k s)
  row_fits scratch i.Icall fits = indirect_fits device task.assumptions k (targets_at task.assumptions (site_at device k s)) all_words
  row_fits scratch i.Eijmp fits = quiet_fits task.assumptions k _ (jumping_quiet (far_targets_at task.assumptions (site_at device k s)) k s)
  row_fits scratch i.Eicall fits = indirect_fits device task.assumptions k (far_targets_at task.assumptions (site_at device k s)) far_words
  row_fits scratch i.Ret fits = return_fits device task.assumptions k (ret_exit k) refl
  row_fits scratch i.Reti fits = return_fits device task.assumptions k (reti_exit k) refl
  row_fits scratch (i.Jmp target) fits = quiet_fits task.assumptions k _ (refl, refl)
  row_fits scratch (i.Call target) fits = one_call device task.assumptions k (further device k 2) (wrapped device target) (further_small device k 2) (devices_are_alike.inside device target)
  row_fits scratch (i.Rjmp target) fits = quiet_fits task.assumptions k _ (refl, refl)
  row_fits scratch (i.Rcall target) fits = relative_fits device task.assumptions scratch k s (wrapped device (far k.pc target)) (devices_are_alike.inside device (far k.pc target))
  row_fits scratch (i.Brbs n target) fits =
      quiet_fits task.assumptions k _ (flag_branch_quiet n k s (wrapped device (near k.pc target)) (further device k 1) _ (branch_quiet k s (flag_at k s n) (wrapped device (near k.pc target)) (further device k 1)))
  row_fits scratch (i.Brbc n target) fits =
      quiet_fits task.assumptions k _ (flag_branch_quiet n k s (further device k 1) (wrapped device (near k.pc target)) _ (branch_quiet k s (tri_not (flag_at k s n)) (wrapped device (near k.pc target)) (further device k 1)))
  row_fits scratch (i.Sbic a b) fits = quiet_fits task.assumptions k _ (skipping_quiet device task.flash (reading_zero device (reads_masks device task.assumptions) k (port device a) b) k s (tri_not (tri_at (read_at device (reads_masks device task.assumptions) k s (port device a)).bits b)))
  row_fits scratch (i.Sbis a b) fits = quiet_fits task.assumptions k _ (skipping_quiet device task.flash k (reading_zero device (reads_masks device task.assumptions) k (port device a) b) s (tri_at (read_at device (reads_masks device task.assumptions) k s (port device a)).bits b))
  row_fits scratch (i.Sbrc r b) fits = quiet_fits task.assumptions k _ (skipping_quiet device task.flash k k s (tri_not (tri_at (bits s r) b)))
  row_fits scratch (i.Sbrs r b) fits = quiet_fits task.assumptions k _ (skipping_quiet device task.flash k k s (tri_at (bits s r) b))
  row_fits scratch i.Nop fits = quiet_fits task.assumptions k _ (refl, refl)
  row_fits scratch i.Sleep fits = quiet_fits task.assumptions k _ (refl, refl)
  row_fits scratch i.Break fits = quiet_fits task.assumptions k _ (refl, refl)
  row_fits scratch i.Wdr fits = quiet_fits task.assumptions k _ (refl, refl)

-- ---- where pairs are followed

-- replacing the moves keeps calls and returns
settling_fits : (device : Device) (task : Task) (k : NodeKey) (view : SpView) (r : Raw) → IsFit device task.assumptions k r → IsFit device task.assumptions k (settling view r)
settling_fits device task k view r h = record { words = record { calls = h.words.calls; exit = h.words.exit }; ascending = h.ascending }

refining_fits : (device : Device) (task : Task) (k : NodeKey) (s : AbsState) (instr : Instr) (r : Raw) → IsFit device task.assumptions k r → IsFit device task.assumptions k (refining task.flash instr s r)
refining_fits device task k s instr r h = record { words = record { calls = h.words.calls; exit = h.words.exit }; ascending = h.ascending }

module _ (device : Device) (task : Task) (k : NodeKey) (s : AbsState) where
  plain_fits : (scratch : Bool) (instr : Instr) → InstrFits instr → IsFit device task.assumptions k (plain_row task scratch (site_at device k s) instr)
  plain_fits scratch instr fits = settling_fits device task k (view_by device k) _ (row_fits device task k (before instr s) scratch instr fits)

  storing_fits : (p : Pointer) (r : ℕ) (moved : Option AbsState) → IsFit device task.assumptions k (storing task (site_at device k s) p r moved)
  storing_fits p r None = quiet_fits task.assumptions k _ (refl, refl)
  storing_fits p r (Some moved) =
      quiet_fits task.assumptions k _ (pointer_quiet device task s (pointer_register p) (step_before p) k.pc (next device k) moved (value s r))

  if_fits : (b : Bool) (p q : Raw) → IsFit device task.assumptions k p → IsFit device task.assumptions k q → IsFit device task.assumptions k (if b then p else q)
  if_fits true p q h g = h
  if_fits false p q h g = g

  paired_binary_fits : (op : BinaryOp) (d r : ℕ) (other : Raw) → IsFit device task.assumptions k other → IsFit device task.assumptions k (paired_binary op (cut_skip task.flash (site_at device k s) (equal_cut d r true s) (equal_cut d r false s)) other)
  paired_binary_fits binary.Cpse d r other h = quiet_fits task.assumptions k _ (refl, refl)
  paired_binary_fits op d r other h = h

  paired_fits : (scratch : Bool) (instr : Instr) → InstrFits instr → IsFit device task.assumptions k (paired_row task scratch (site_at device k s) instr)
  paired_fits scratch (i.Brbs n t) fits = if_fits (nat_lt n 7) _ _ (quiet_fits task.assumptions k _ (refl, refl)) (plain_fits scratch (i.Brbs n t) fits)
  paired_fits scratch (i.Brbc n t) fits = if_fits (nat_lt n 7) _ _ (quiet_fits task.assumptions k _ (refl, refl)) (plain_fits scratch (i.Brbc n t) fits)
  paired_fits scratch (i.Sbrc r b) fits = quiet_fits task.assumptions k _ (refl, refl)
  paired_fits scratch (i.Sbrs r b) fits = quiet_fits task.assumptions k _ (refl, refl)
  paired_fits scratch (i.Binary op d r) fits =
      paired_binary_fits op d r _
      (refining_fits device task k s (i.Binary op d r) _ (plain_fits scratch (i.Binary op d r) fits))
  paired_fits scratch (i.St p r) fits = storing_fits p r _
  paired_fits scratch instr fits = refining_fits device task k s instr _ (plain_fits scratch instr fits)

module _ (task : Task) (k : NodeKey) (s : AbsState) where
  at_fits : (scratch : Bool) (x : Option Instr) → ((instr : Instr) → x ≡ Some instr → InstrFits instr) → IsFit (device_of task.flash) task.assumptions k (row_at task scratch (site_at (device_of task.flash) k s) x)
  at_fits scratch None fits = quiet_fits task.assumptions k _ (refl, refl)
  at_fits scratch (Some instr) fits = by s.facts
    where
      by : (f : Option PairFacts) → IsFit (device_of task.flash) task.assumptions k (row_by f task scratch (site_at (device_of task.flash) k s) instr)
      by None = plain_fits (device_of task.flash) task k s scratch instr (fits instr refl)
      by (Some f) = paired_fits (device_of task.flash) task k s scratch instr (fits instr refl)

  -- a node that splits neither calls nor returns
  split_fits : (jump : Option ℕ) → IsFit (device_of task.flash) task.assumptions k (splitting jump (row_in (device_of task.flash) task) k s)
  split_fits None = at_fits (is_scratch task.flash k.pc) (fetched (device_of task.flash) task.flash k.pc) (fetched_fits (device_of task.flash) task.flash k.pc)
  split_fits (Some jump) = quiet_fits task.assumptions k _ (if_quiet (nat_le (length (picks s)) 64) _ _ (no_calls _, no_exit _) (refl, refl))

  raw_fits : IsFit (device_of task.flash) task.assumptions k (raw task k s)
  unfolding raw
  raw_fits =
      untracked_fits task.assumptions k (is_hung (device_of task.flash) task.assumptions k k.sp) k.pc _
      (too_deep_fits task.assumptions k (nat_lt (size_of (device_of task.flash)) (offset_of k.sp)) k.pc (offset_of k.sp) _ (split_fits (split_site task k.pc k.pick)))

  -- there is no fault
  not_untracked : (b : Bool) (pc : ℕ) (r : Raw) → (untracked_if b pc r).faults ≡ [] → r.faults ≡ []
  not_untracked true pc r e = absurd (cc)
  not_untracked false pc r e = e

  not_deep : (b : Bool) (pc offset : ℕ) (r : Raw) → (too_deep_if b pc offset r).faults ≡ [] → (b ≡ false) × (r.faults ≡ [])
  not_deep true pc offset r e = absurd (cc)
  not_deep false pc offset r e = (refl, e)

  is_inside : (device : Device) (scratch b : Bool) → (row_at task scratch (site_at device k s) (if b then instruction_at task.flash k.pc else None)).faults ≡ [] → b ≡ true
  is_inside device scratch true e = refl
  is_inside device scratch false e = absurd (cc)

  -- a node lies in flash if its instruction has no fault, and if it splits
  is_within : (jump : Option ℕ) → split_site task k.pc k.pick ≡ jump → (splitting jump (row_in (device_of task.flash) task) k s).faults ≡ [] → nat_lt k.pc (words_of (device_of task.flash)) ≡ true
  is_within None site e = is_inside (device_of task.flash) (is_scratch task.flash k.pc) (nat_lt k.pc (words_of (device_of task.flash))) e
  is_within (Some jump) site e = (splits_at task k.pc k.pick jump site).0

  lies_inside : (raw task k s).faults ≡ [] → (k.pc < words_of (device_of task.flash)) × (offset_of k.sp ≤ size_of (device_of task.flash))
  unfolding raw
  lies_inside e =
      let row = not_untracked (is_hung (device_of task.flash) task.assumptions k k.sp) k.pc _ e in
      let shallow = not_deep (nat_lt (size_of (device_of task.flash)) (offset_of k.sp)) k.pc (offset_of k.sp) _ row in
      let small : offset_of k.sp ≤ size_of (device_of task.flash) = grind (arith, nat_tests, shallow.0) in
      (ltb-true k.pc (words_of (device_of task.flash)) (is_within (split_site task k.pc k.pick) refl shallow.1), small)

pub all_local_parts_fit : LocalPartsFit
all_local_parts_fit = record {
  fit = λ task k s. (raw_fits task k s).words;
  ascending = λ task k s are. (raw_fits task k s).ascending are;
  inside = λ task k s. lies_inside task k s;
}
