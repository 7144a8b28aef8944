-- All successors of a node follow pairs if the node does, and their intervals lie in the hulls of their registers.
use Rattle.std.proofs.Common.{◌≡◌, refl, sym, subst, ap, ◌∙◌, ℕ, ◌+◌, ◌<◌, ◌==◌, Bool, true, false, List, [], ◌∷◌, length, map, Option, Some, None, if◌then◌else◌, Contains, ⊎_elim, nat_lt, nat_le, ltb-true, eqb-true}
use Rattle.std.proofs.lemmas.List.Elements.{Contains-append_cases}
use Rattle.basics.specs.Items.{none_in, further_in, first_in}
use Rattle.basics.specs.Lists.{both_empty}
use Rattle.avr_model.specs.Devices.{size_of, wrapped, device_of}
use Rattle.avr_model.specs.Image.{word_at}
use Rattle.avr_model.specs.Marks.{marks}
use Rattle.avr_model.specs.Table.{length_of}
use Rattle.avr_model.specs.Text.{near}
use Rattle.avr_model.specs.declared.device.Device.{Device}
use Rattle.avr_model.specs.declared.instruction.Instr.{Instr}
use Rattle.avr_model.specs.declared.instruction.Instr.TheVariants as i
use Rattle.avr_model.specs.declared.instruction.BinaryOp.TheVariants as binary
use Rattle.avr_model.specs.declared.instruction.Pointer.{Pointer}
use Rattle.avr_model.specs.Assumptions.{is_frame}
use Rattle.avr_model.specs.Effects.{port}
use Rattle.avr_model.specs.Sites.{is_scratch, base_register, pointer_register}
use Rattle.avr_model.specs.Written.{written}
use Rattle.bit_domain.specs.declared.bits.Tri.{Tri}
use Rattle.bit_domain.specs.Tri.{tri_not}
use Rattle.bit_domain.specs.TriByte.{tri_at}
use Rattle.bit_domain.specs.Logic.{byte_equal}
use Rattle.pair_domain.specs.declared.facts.PairFacts.{PairFacts}
use Rattle.pair_domain.specs.Facts.{HasSixteen, is_followed}
use Rattle.pair_domain.proofs.AllLaws.{known_is_ordered}
use Rattle.abs_state.specs.declared.values.AbsByte.{AbsByte}
use Rattle.abs_state.specs.declared.state.AbsState.{AbsState}
use Rattle.abs_state.specs.Values.{value_at, set_of}
use Rattle.abs_state.specs.Ended.{is_one_of, ended}
use Rattle.abs_state.specs.Formed.{IsFormed}
use Rattle.abs_state.specs.FlagsSet.{sets_flags, sets_carry}
use Rattle.abs_state.proofs.AllLaws.{states_are_ordered, writes_end_facts}
use Rattle.pair_cuts.specs.Cuts.{flag_cut, bit_cut, equal_cut, pick_cut}
use Rattle.pair_rules.specs.Fits.{HasRegisters, IsPlain}
use Rattle.pair_rules.specs.Refined.{refined}
use Rattle.pair_laws.specs.CutLaws.{IsLeftOf}
use Rattle.pair_laws.proofs.AllLaws.{refined_is_ordered, flags_are_cut, bits_are_cut, equals_are_cut}
use Rattle.node_keys.specs.declared.keys.NodeKey.{NodeKey}
use Rattle.node_keys.specs.Keys.{offset_of, is_root}
use Rattle.local_rules.specs.declared.local.NodeFault.TheVariants.{UnresolvedJump}
use Rattle.local_rules.specs.Raw.{Raw, fails, all_of, at_word, off_table, next, further, untracked_if, too_deep_if}
use Rattle.local_rules.specs.Registers.{value, before, forgetting, going_by, binary_after}
use Rattle.local_rules.specs.FrameLines.{framed_binary, is_followed as is_followed_by}
use Rattle.local_rules.specs.Flow.{branch, going_where, flag_at, skipping}
use Rattle.local_rules.specs.HighBytes.{SpView, view_by}
use Rattle.local_rules.specs.Settling.{settled_state, settling}
use Rattle.local_rules.specs.Local.{step_before, pointer_moved, row_of, plain_row, paired_row, row_by, row_at, row_in, refining, refined_if, storing, is_hung, fetched, below, picks, picking, picked_row, split_site, splitting, raw}
use Rattle.local_rules.specs.Permitted.{may_be}
use Rattle.local_rules.specs.Cover.{IsNodeIn}
use Rattle.local_laws.proofs.Bare.{IsBare, bare}
use Rattle.local_laws.proofs.KeptNodes.{AreLow, low_behind, low_of, IsModeKept, none_kept, forgetting_kept, AllKept, kept_none, kept_both, kept_branch, kept_where, kept_written, kept_pointer, flag_branch_none}
use Rattle.local_laws.proofs.Members.{filter_within}
use Rattle.local_laws.proofs.MonotoneFields.{InstrFits, fetched_fits}
use Rattle.local_laws.proofs.MonotoneSplits.{fetched_has, mode_within, picked_node}
use Rattle.local_laws.proofs.EachState.{AllOf, each_branch}
use Rattle.local_laws.proofs.EachStore.{HasBehind, written_each, pointer_each}
use Rattle.local_laws.proofs.LeftNodes.{from_left}
use Rattle.local_laws.proofs.SettledValues.{is_settled}
use Rattle.local_laws.proofs.SettledMonotone.{settled_facts, settled_bare, plain_less}
use Rattle.local_laws.proofs.SettledNodes.{IsLow, low_same, low_register}
use Rattle.local_laws.proofs.PairedMonotone.{from_refined, moved_bare}
use Rattle.local_laws.proofs.PairedPlain.{row_plain}
use Rattle.local_laws.proofs.PairedStep.{IsStored, stored_same}
use Rattle.local_laws.proofs.Picks.{below_small}
use Rattle.local_laws.proofs.PlainRows.{IsRefinedInstr, row_leaves, pointer_set}
use Rattle.local_rules.specs.Site.{Task, site_at}

-- ---- where pairs aren't followed

no_facts : (x : Option PairFacts) → is_followed x ≡ false → x ≡ None
no_facts None e = refl
no_facts (Some f) e = absurd (cc)

settled_none : (view : SpView) (t u : AbsState) → settled_state view t ≡ Some u → IsModeKept false t → IsModeKept false u
settled_none view t u e h = none_kept u (settled_facts view t u e ∙ no_facts t.facts h.mode)

module _ (device : Device) (task : Task) (scratch : Bool) (k : NodeKey) (s : AbsState) (none : s.facts ≡ None) where
  -- the row before high bytes are settled
  abbrev plain : Instr → Raw
  plain instr = row_of task scratch (site_at device k (before instr s)) instr

  none_before : (instr : Instr) → (before instr s).facts ≡ None
  none_before instr = ap (ended (is_one_of (written instr)) (sets_flags instr) (sets_carry instr)) none

  kept_before : (instr : Instr) → IsModeKept false (before instr s)
  kept_before instr = none_kept (before instr s) (none_before instr)

  sixteen : (instr : Instr) → HasSixteen (before instr s).facts
  sixteen instr = subst HasSixteen (sym (none_before instr)) tt

  refined_none : (instr : Instr) → IsRefinedInstr instr → AllKept false (plain instr)
  refined_none instr is to j = none_kept to.state ((row_leaves device task scratch k (before instr s) instr is to j).facts ∙ none_before instr)

  -- `cpse` computes no result, with or without a line
  cpse_kept : (framed : Bool) (d r : ℕ) → AllKept false (going_by (site_at device k (before (i.Binary binary.Cpse d r) s)) (if framed then framed_binary (view_by device k) (before (i.Binary binary.Cpse d r) s) binary.Cpse d r else binary_after (view_by device k) (before (i.Binary binary.Cpse d r) s) binary.Cpse d r) (skipping task.flash (site_at device k (before (i.Binary binary.Cpse d r) s)) k k (byte_equal (value_at s.registers d).bits (value_at s.registers r).bits)))
  cpse_kept true d r = kept_branch false (byte_equal (value_at s.registers d).bits (value_at s.registers r).bits) k (before (i.Binary binary.Cpse d r) s) _ _ (kept_before (i.Binary binary.Cpse d r))
  cpse_kept false d r = kept_branch false (byte_equal (value_at s.registers d).bits (value_at s.registers r).bits) k (before (i.Binary binary.Cpse d r) s) _ _ (kept_before (i.Binary binary.Cpse d r))

  unsettled_kept : (instr : Instr) → AllKept false (plain instr)
  unsettled_kept (i.Binary binary.Cpse d r) = cpse_kept (is_followed_by (is_frame task.assumptions k.pc) d r) d r
  unsettled_kept (i.Binary binary.Cpc d r) = refined_none (i.Binary binary.Cpc d r) tt
  unsettled_kept (i.Binary binary.Sbc d r) = refined_none (i.Binary binary.Sbc d r) tt
  unsettled_kept (i.Binary binary.Add d r) = refined_none (i.Binary binary.Add d r) tt
  unsettled_kept (i.Binary binary.Cp d r) = refined_none (i.Binary binary.Cp d r) tt
  unsettled_kept (i.Binary binary.Sub d r) = refined_none (i.Binary binary.Sub d r) tt
  unsettled_kept (i.Binary binary.Adc d r) = refined_none (i.Binary binary.Adc d r) tt
  unsettled_kept (i.Binary binary.And d r) = refined_none (i.Binary binary.And d r) tt
  unsettled_kept (i.Binary binary.Eor d r) = refined_none (i.Binary binary.Eor d r) tt
  unsettled_kept (i.Binary binary.Or d r) = refined_none (i.Binary binary.Or d r) tt
  unsettled_kept (i.Binary binary.Mov d r) = refined_none (i.Binary binary.Mov d r) tt
  unsettled_kept (i.Binary binary.Mul d r) = refined_none (i.Binary binary.Mul d r) tt
  unsettled_kept (i.Std b q r) = kept_pointer false device task (before (i.Std b q r) s) (base_register b) q k.pc (next device k) (before (i.Std b q r) s) (value s r) (sixteen (i.Std b q r)) (kept_before (i.Std b q r))
  unsettled_kept (i.St p r) =
      kept_pointer false device task (before (i.St p r) s) (pointer_register p) (step_before p) k.pc (next device k) (record (before (i.St p r) s) { registers = pointer_moved (view_by device k) p (before (i.St p r) s) }) (value s r)
      (sixteen (i.St p r)) (none_kept (record (before (i.St p r) s) { registers = pointer_moved (view_by device k) p (before (i.St p r) s) }) (none_before (i.St p r)))
  unsettled_kept (i.Sts a r) = kept_written false device k.pc (at_word k (further device k 2)) (before (i.Sts a r) s) false a (value s r) (sixteen (i.Sts a r)) (kept_before (i.Sts a r))
  unsettled_kept (i.Out a r) = kept_written false device k.pc (next device k) (before (i.Out a r) s) true (port device a) (value s r) (sixteen (i.Out a r)) (kept_before (i.Out a r))
  unsettled_kept (i.Cbi a b) = kept_written false device k.pc (next device k) (before (i.Cbi a b) s) false (port device a) _ (sixteen (i.Cbi a b)) (kept_before (i.Cbi a b))
  unsettled_kept (i.Sbi a b) = kept_written false device k.pc (next device k) (before (i.Sbi a b) s) false (port device a) _ (sixteen (i.Sbi a b)) (kept_before (i.Sbi a b))
  unsettled_kept (i.Brbs n t) = flag_branch_none n k (before (i.Brbs n t) s) (wrapped device (near k.pc t)) (further device k 1) (flag_at k s n) (wrapped device (near k.pc t)) (further device k 1) (none_before (i.Brbs n t))
  unsettled_kept (i.Brbc n t) = flag_branch_none n k (before (i.Brbc n t) s) (further device k 1) (wrapped device (near k.pc t)) (tri_not (flag_at k s n)) (wrapped device (near k.pc t)) (further device k 1) (none_before (i.Brbc n t))
  unsettled_kept (i.Sbrc r b) = kept_branch false (tri_not (tri_at (value s r).bits b)) k (before (i.Sbrc r b) s) _ _ (kept_before (i.Sbrc r b))
  unsettled_kept (i.Sbrs r b) = kept_branch false (tri_at (value s r).bits b) k (before (i.Sbrs r b) s) _ _ (kept_before (i.Sbrs r b))
  unsettled_kept instr = refined_none instr tt

  plain_kept : (instr : Instr) → AllKept false (plain_row task scratch (site_at device k s) instr)
  plain_kept instr to j =
      let of = from_left (settled_state (view_by device k)) (plain instr).moves to j in
      settled_none (view_by device k) of.to.state to.state of.left (unsettled_kept instr of.to of.member)

-- ---- where they are

module _ (device : Device) (task : Task) (scratch : Bool) (k : NodeKey) (s : AbsState) (h : IsNodeIn device true k s) (f : PairFacts) (known : s.facts ≡ Some f) where
  abbrev row : Instr → Raw
  row instr = plain_row task scratch (site_at device k s) instr

  -- the row before high bytes are settled
  abbrev row_before : Instr → Raw
  row_before instr = row_of task scratch (site_at device k (before instr s)) instr

  abbrev paired : Instr → Raw
  paired instr = paired_row task scratch (site_at device k s) instr

  low : IsBare device k s
  low = bare k s h

  abbrev view : SpView
  view = view_by device k

  s_low : view.high ≡ false → AreLow s
  s_low none = low_of device (is_root k.inst.kind) s h.formed.count_registers none h.registers_of

  is_kept : IsModeKept true s
  is_kept = record { mode = h.mode; hulls = h.hulls }

  still : (flags carry : Bool) → IsModeKept true (forgetting [] flags carry s)
  still flags carry = forgetting_kept true flags carry s is_kept

  count : (instr : Instr) → HasSixteen (before instr s).facts
  count instr = known_is_ordered.count (before instr s).facts (writes_end_facts.fits (is_one_of (written instr)) (sets_flags instr) (sets_carry instr) s.facts h.formed.facts)

  -- a refined state follows pairs, as the plain one does
  refined_kept : (instr : Instr) (n : ℕ) (t u : AbsState) → HasRegisters instr → IsFormed t n → IsPlain task.flash instr s t
      → ((r : ℕ) → r < 32 → is_one_of (written instr) r ≡ false → set_of (value_at t.registers r) ≡ set_of (value_at s.registers r))
      → refined (marks task.flash) task.flash instr s t ≡ Some u → IsModeKept true u
  refined_kept instr n t u has formed plain others e =
      let under = refined_is_ordered.under (marks task.flash) task.flash instr (offset_of k.sp) n s t u has h.formed formed plain e in
      let mode : is_followed t.facts ≡ true = ap is_followed plain.facts ∙ writes_end_facts.followed (is_one_of (written instr)) (sets_flags instr) (sets_carry instr) s.facts ∙ h.mode in
      record {
        mode = mode_within u.facts t.facts under.facts mode;
        hulls = refined_is_ordered.hulls (marks task.flash) task.flash instr (offset_of k.sp) n s t u has h.formed formed plain.facts others h.hulls e;
      }

  -- a register that isn't written stays where high bytes are settled
  kept_others : (t u : AbsState) (r : ℕ) → settled_state view t ≡ Some u → value_at t.registers r ≡ value_at s.registers r → value_at u.registers r ≡ value_at s.registers r
  kept_others t u r e same =
      low_register view t u r (is_settled view t u e) (λ none. subst (λ (v : AbsByte). IsLow v.tag) (sym same) (s_low none r)) ∙ same

  refining_kept : (instr : Instr) → InstrFits instr → HasRegisters instr → IsRefinedInstr instr → (row instr).faults ≡ [] → AllKept true (refining task.flash instr s (row instr))
  refining_kept instr fits has is clean x j =
      let of = from_refined task.flash instr s (row instr).moves (row instr).moves (λ n m. m) x j in
      let met = (plain_less device task k s s low low (states_are_ordered.same s) scratch instr fits clean).moves of.to of.member in
      let was = from_left (settled_state view) (row_before instr).moves of.to of.member in
      let leaves = row_leaves device task scratch k (before instr s) instr is was.to was.member in
      refined_kept instr (offset_of of.to.key.sp) of.to.state x.state has met.node.formed (row_plain device task scratch k s h.formed.count_registers instr is has of.to of.member)
      (λ r lt other. ap set_of (kept_others was.to.state of.to.state r was.left (leaves.others r other))) of.left

  -- where no byte has the tag of a high byte, nothing is settled
  settled_kept : (r : Raw) → AllKept true r → (view.high ≡ false → AllOf AreLow r) → AllKept true (settling view r)
  settled_kept r all lows to j =
      let of = from_left (settled_state view) r.moves to j in
      subst (IsModeKept true) (low_same view of.to.state to.state (λ none. lows none of.to of.member) of.left) (all of.to of.member)

  stored_kept : (instr : Instr) → IsStored instr → AllKept true (row_before instr) → (view.high ≡ false → AllOf AreLow (row_before instr))
      → AllKept true (refining task.flash instr s (row instr))
  stored_kept instr is all lows = subst (AllKept true) (sym (stored_same task.flash s f instr is known (row instr))) (settled_kept (row_before instr) all lows)

  branch_low : (t : Tri) (flags carry : Bool) (taken other : ℕ) → view.high ≡ false → AllOf AreLow (branch t k (forgetting [] flags carry s) taken other)
  branch_low t flags carry taken other none = each_branch AreLow t (off_table k taken) (off_table k other) (forgetting [] flags carry s) (s_low none)

  behind_low : (flags carry : Bool) (v : AbsByte) → view.high ≡ false → IsLow v.tag → HasBehind AreLow device (forgetting [] flags carry s) v
  behind_low flags carry v none low = low_behind device (forgetting [] flags carry s) v low (s_low none)

  -- ---- cuts

  left_kept : (u : AbsState) → IsLeftOf s u (offset_of k.sp) → IsModeKept true u
  left_kept u left = record { mode = mode_within u.facts s.facts left.within.facts h.mode; hulls = left.hulls h.hulls }

  cut_kept : (n : ℕ) (b : Bool) → n < 7 → (pc : ℕ) → AllKept true (going_where k (flag_cut n b s) pc)
  cut_kept n b lt pc = kept_where true k (flag_cut n b s) pc (λ u e. left_kept u (flags_are_cut.leaves n b lt s u (offset_of k.sp) h.formed e))

  bit_kept : (r b : ℕ) (on : Bool) → r < 32 → b < 8 → (pc : ℕ) → AllKept true (going_where k (bit_cut r b on s) pc)
  bit_kept r b on lt lt' pc = kept_where true k (bit_cut r b on s) pc (λ u e. left_kept u (bits_are_cut.leaves r b on lt lt' s u (offset_of k.sp) h.formed e))

  equal_kept : (d r : ℕ) (b : Bool) → d < 32 → r < 32 → (pc : ℕ) → AllKept true (going_where k (equal_cut d r b s) pc)
  equal_kept d r b lt lt' pc = kept_where true k (equal_cut d r b s) pc (λ u e. left_kept u (equals_are_cut.leaves d r b lt lt' s u (offset_of k.sp) h.formed e))

  abbrev past : ℕ
  past = further device k (1 + length_of (word_at task.flash (k.pc + 1)))

  -- flag 7 isn't C
  high_flag : (n : ℕ) (low : Bool) (p q other : Raw) → nat_lt n 7 ≡ low → (n < 7 → AllKept true p) → AllKept true other → (view.high ≡ false → AllOf AreLow other)
      → AllKept true (if low then p else settling view (if n == 0 then q else other))
  high_flag n true p q other e cut all lows = cut (ltb-true n 7 e)
  high_flag n false p q other e cut all lows = by (n == 0) refl
    where
      by : (zero : Bool) → (n == 0) ≡ zero → AllKept true (settling view (if zero then q else other))
      by true is = let zero : n ≡ 0 = eqb-true n 0 is in let never : nat_lt 0 7 ≡ false = subst (λ m. nat_lt m 7 ≡ false) zero e in absurd (cc)
      by false is = settled_kept other all lows

  -- ---- a store through a pointer

  abbrev moved : Pointer → ℕ → AbsState
  moved p r = record (before (i.St p r) s) { registers = pointer_moved view p s }

  moved_kept : (p : Pointer) (r : ℕ) (t : AbsState) → settled_state view (moved p r) ≡ Some t → (x : Option AbsState) → refined (marks task.flash) task.flash (i.St p r) s t ≡ x
      → AllKept true (storing task (site_at device k s) p r x)
  moved_kept p r t is None e = kept_none true
  moved_kept p r t is (Some u) e =
      let was = moved_bare device task k s s low low (states_are_ordered.same s) h.hulls f f known known p r s low in
      let formed : IsFormed t (offset_of k.sp) = (settled_bare k view (moved p r) t was is).formed in
      let kept = refined_kept (i.St p r) (offset_of k.sp) t u tt formed (record { facts = settled_facts view (moved p r) t is; value = tt })
      (λ q lt other. ap set_of (kept_others (moved p r) t q is (pointer_set view p s q other))) e in
      let left = refined_is_ordered.formed (marks task.flash) task.flash (i.St p r) (offset_of k.sp) (offset_of k.sp) s t u tt h.formed formed e in
      kept_pointer true device task s (pointer_register p) (step_before p) k.pc (next device k) u (value s r)
      (known_is_ordered.count u.facts left.facts) kept

  moved_settled : (p : Pointer) (r : ℕ) (x : Option AbsState) → settled_state view (moved p r) ≡ x → AllKept true (storing task (site_at device k s) p r (refined_if task (i.St p r) s x))
  moved_settled p r None e = kept_none true
  moved_settled p r (Some t) e = moved_kept p r t e _ refl

  -- ---- all rows

  pub paired_kept : (instr : Instr) → InstrFits instr → HasRegisters instr → (paired instr).faults ≡ [] → AllKept true (paired instr)
  paired_kept (i.Brbs n t) fits has clean =
      high_flag n (nat_lt n 7) _ _ _ refl (λ lt. kept_both true (going_where k (flag_cut n false s) (further device k 1)) (going_where k (flag_cut n true s) (wrapped device (near k.pc t)))
      (cut_kept n false lt (further device k 1)) (cut_kept n true lt (wrapped device (near k.pc t))))
      (kept_branch true (flag_at k s n) k (before (i.Brbs n t) s) (wrapped device (near k.pc t)) (further device k 1) (still false false))
      (branch_low (flag_at k s n) false false (wrapped device (near k.pc t)) (further device k 1))
  paired_kept (i.Brbc n t) fits has clean =
      high_flag n (nat_lt n 7) _ _ _ refl (λ lt. kept_both true (going_where k (flag_cut n false s) (wrapped device (near k.pc t))) (going_where k (flag_cut n true s) (further device k 1))
      (cut_kept n false lt (wrapped device (near k.pc t))) (cut_kept n true lt (further device k 1)))
      (kept_branch true (tri_not (flag_at k s n)) k (before (i.Brbc n t) s) (wrapped device (near k.pc t)) (further device k 1) (still false false))
      (branch_low (tri_not (flag_at k s n)) false false (wrapped device (near k.pc t)) (further device k 1))
  paired_kept (i.Sbrc r b) fits has clean =
      kept_both true (going_where k (bit_cut r b true s) (further device k 1)) (going_where k (bit_cut r b false s) past) (bit_kept r b true fits.0 fits.1 (further device k 1)) (bit_kept r b false fits.0 fits.1 past)
  paired_kept (i.Sbrs r b) fits has clean =
      kept_both true (going_where k (bit_cut r b false s) (further device k 1)) (going_where k (bit_cut r b true s) past) (bit_kept r b false fits.0 fits.1 (further device k 1)) (bit_kept r b true fits.0 fits.1 past)
  paired_kept (i.Binary binary.Cpse d r) fits has clean =
      kept_both true (going_where k (equal_cut d r false s) (further device k 1)) (going_where k (equal_cut d r true s) past) (equal_kept d r false has.0 has.1 (further device k 1)) (equal_kept d r true has.0 has.1 past)
  paired_kept (i.Binary binary.Cpc d r) fits has clean = refining_kept (i.Binary binary.Cpc d r) fits has tt clean
  paired_kept (i.Binary binary.Sbc d r) fits has clean = refining_kept (i.Binary binary.Sbc d r) fits has tt clean
  paired_kept (i.Binary binary.Add d r) fits has clean = refining_kept (i.Binary binary.Add d r) fits has tt clean
  paired_kept (i.Binary binary.Cp d r) fits has clean = refining_kept (i.Binary binary.Cp d r) fits has tt clean
  paired_kept (i.Binary binary.Sub d r) fits has clean = refining_kept (i.Binary binary.Sub d r) fits has tt clean
  paired_kept (i.Binary binary.Adc d r) fits has clean = refining_kept (i.Binary binary.Adc d r) fits has tt clean
  paired_kept (i.Binary binary.And d r) fits has clean = refining_kept (i.Binary binary.And d r) fits has tt clean
  paired_kept (i.Binary binary.Eor d r) fits has clean = refining_kept (i.Binary binary.Eor d r) fits has tt clean
  paired_kept (i.Binary binary.Or d r) fits has clean = refining_kept (i.Binary binary.Or d r) fits has tt clean
  paired_kept (i.Binary binary.Mov d r) fits has clean = refining_kept (i.Binary binary.Mov d r) fits has tt clean
  paired_kept (i.Binary binary.Mul d r) fits has clean = refining_kept (i.Binary binary.Mul d r) fits has tt clean
  paired_kept (i.St p r) fits has clean = moved_settled p r _ refl
  paired_kept (i.Std b q r) fits has clean =
      stored_kept (i.Std b q r) tt (kept_pointer true device task (before (i.Std b q r) s) (base_register b) q k.pc (next device k) (before (i.Std b q r) s) (value s r) (count (i.Std b q r)) (still false false))
      (λ none. pointer_each AreLow device (before (i.Std b q r) s) (value s r) (behind_low false false (value s r) none (s_low none r)) task (before (i.Std b q r) s) (base_register b) q k.pc (next device k))
  paired_kept (i.Sts a r) fits has clean =
      stored_kept (i.Sts a r) tt (kept_written true device k.pc (at_word k (further device k 2)) (before (i.Sts a r) s) false a (value s r) (count (i.Sts a r)) (still false false))
      (λ none. written_each AreLow device (before (i.Sts a r) s) (value s r) (behind_low false false (value s r) none (s_low none r)) k.pc (at_word k (further device k 2)) false a)
  paired_kept (i.Out a r) fits has clean =
      stored_kept (i.Out a r) tt (kept_written true device k.pc (next device k) (before (i.Out a r) s) true (port device a) (value s r) (count (i.Out a r)) (still false false))
      (λ none. written_each AreLow device (before (i.Out a r) s) (value s r) (behind_low false false (value s r) none (s_low none r)) k.pc (next device k) true (port device a))
  paired_kept (i.Cbi a b) fits has clean =
      stored_kept (i.Cbi a b) tt (kept_written true device k.pc (next device k) (before (i.Cbi a b) s) false (port device a) _ (count (i.Cbi a b)) (still false false))
      (λ none. written_each AreLow device (before (i.Cbi a b) s) _ (behind_low false false _ none tt) k.pc (next device k) false (port device a))
  paired_kept (i.Sbi a b) fits has clean =
      stored_kept (i.Sbi a b) tt (kept_written true device k.pc (next device k) (before (i.Sbi a b) s) false (port device a) _ (count (i.Sbi a b)) (still false false))
      (λ none. written_each AreLow device (before (i.Sbi a b) s) _ (behind_low false false _ none tt) k.pc (next device k) false (port device a))
  paired_kept instr fits has clean = refining_kept instr fits has tt clean

-- ---- the node

module _ {device : Device} {followed : Bool} (task : Task) (k : NodeKey) (s : AbsState) (h : IsNodeIn device followed k s) where
  by_mode : (scratch : Bool) (instr : Instr) → InstrFits instr → HasRegisters instr → (f : Option PairFacts) → s.facts ≡ f
      → (row_by f task scratch (site_at device k s) instr).faults ≡ [] → AllKept followed (row_by f task scratch (site_at device k s) instr)
  by_mode scratch instr fits has None e clean =
      let mode : false ≡ followed = ap is_followed (sym e) ∙ h.mode in
      subst (λ (b : Bool). AllKept b (row_by None task scratch (site_at device k s) instr)) mode (plain_kept device task scratch k s e instr)
  by_mode scratch instr fits has (Some f) e clean =
      let mode : true ≡ followed = ap is_followed (sym e) ∙ h.mode in
      subst (λ (b : Bool). AllKept b (row_by (Some f) task scratch (site_at device k s) instr)) mode
      (paired_kept device task scratch k s (subst (λ (b : Bool). IsNodeIn device b k s) (sym mode) h) f e instr fits has clean)

  at_kept : (scratch : Bool) (x : Option Instr) → ((instr : Instr) → x ≡ Some instr → InstrFits instr) → ((instr : Instr) → x ≡ Some instr → HasRegisters instr)
      → (row_at task scratch (site_at device k s) x).faults ≡ [] → AllKept followed (row_at task scratch (site_at device k s) x)
  at_kept scratch None fits has clean = kept_none followed
  at_kept scratch (Some instr) fits has clean = by_mode scratch instr (fits instr refl) (has instr refl) s.facts refl clean

module _ {followed : Bool} (task : Task) (k : NodeKey) (s : AbsState) (h : IsNodeIn (device_of task.flash) followed k s) where
  in_kept : (row_in (device_of task.flash) task k s).faults ≡ [] → AllKept followed (row_in (device_of task.flash) task k s)
  in_kept clean =
      at_kept task k s h (is_scratch task.flash k.pc) (fetched (device_of task.flash) task.flash k.pc) (fetched_fits (device_of task.flash) task.flash k.pc) (fetched_has (device_of task.flash) task.flash k.pc) clean

-- ---- all successors have what those of its rows have

module _ (P : AbsState → Type 0) {followed : Bool} (task : Task) (k : NodeKey) (s : AbsState) (h : IsNodeIn (device_of task.flash) followed k s)
    (rows : (j : NodeKey) (u : AbsState) → j.inst ≡ k.inst → IsNodeIn (device_of task.flash) followed j u → (row_in (device_of task.flash) task j u).faults ≡ []
    → AllOf P (row_in (device_of task.flash) task j u)) where
  abbrev row_picked : ℕ → Raw
  row_picked byte = picked_row (row_in (device_of task.flash) task) (picking k byte) (pick_cut byte s)

  picked_have : (byte : ℕ) → byte < 256 → (x : Option AbsState) → pick_cut byte s ≡ x → (picked_row (row_in (device_of task.flash) task) (picking k byte) x).faults ≡ []
      → AllOf P (picked_row (row_in (device_of task.flash) task) (picking k byte) x)
  picked_have byte small None e clean to j = absurd (none_in to j)
  picked_have byte small (Some u) e clean to j = rows (picking k byte) u refl (picked_node k byte small s h u e) clean to j

  several_have : (xs : List ℕ) → ((x : ℕ) → Contains xs x → x < 256) → (all_of (map row_picked xs)).faults ≡ [] → AllOf P (all_of (map row_picked xs))
  several_have [] small clean to j = absurd (none_in to j)
  several_have (x ∷ xs) small clean to j =
      let none = both_empty (row_picked x).faults (all_of (map row_picked xs)).faults clean in
      ⊎_elim (picked_have x (small x (first_in x xs)) (pick_cut x s) refl none.0 to) (several_have xs (λ y m. small y (further_in x y xs m)) none.1 to)
      (Contains-append_cases (row_picked x).moves (all_of (map row_picked xs)).moves to j)

  splitting_have : (jump : Option ℕ) → (splitting jump (row_in (device_of task.flash) task) k s).faults ≡ [] → AllOf P (splitting jump (row_in (device_of task.flash) task) k s)
  splitting_have None clean = rows k s refl h clean
  splitting_have (Some jump) clean = by (nat_le (length (picks s)) 64) clean
    where
      by : (few : Bool) → (if few then all_of (map row_picked (picks s)) else fails (UnresolvedJump jump)).faults ≡ []
          → AllOf P (if few then all_of (map row_picked (picks s)) else fails (UnresolvedJump jump))
      by true clean = several_have (picks s) (λ x m. below_small 256 x (filter_within (may_be (value s 30)) (below 256) x m)) clean
      by false clean = λ to j. absurd (none_in to j)

  untracked_have : (b : Bool) (pc : ℕ) (r : Raw) → (r.faults ≡ [] → AllOf P r) → (untracked_if b pc r).faults ≡ [] → AllOf P (untracked_if b pc r)
  untracked_have true pc r all clean = absurd (cc)
  untracked_have false pc r all clean = all clean

  deep_have : (b : Bool) (pc offset : ℕ) (r : Raw) → (r.faults ≡ [] → AllOf P r) → (too_deep_if b pc offset r).faults ≡ [] → AllOf P (too_deep_if b pc offset r)
  deep_have true pc offset r all clean = absurd (cc)
  deep_have false pc offset r all clean = all clean

  pub raw_have : (raw task k s).faults ≡ [] → AllOf P (raw task k s)
  unfolding raw
  raw_have clean =
      untracked_have (is_hung (device_of task.flash) task.assumptions k k.sp) k.pc _
      (deep_have (nat_lt (size_of (device_of task.flash)) (offset_of k.sp)) k.pc (offset_of k.sp) _ (splitting_have (split_site task k.pc k.pick))) clean

pub raw_kept : {followed : Bool} (task : Task) (k : NodeKey) (s : AbsState) → IsNodeIn (device_of task.flash) followed k s → (raw task k s).faults ≡ [] → AllKept followed (raw task k s)
raw_kept {followed = followed} task k s h clean = raw_have (IsModeKept followed) task k s h (λ j u same node none. in_kept task j u node none) clean
