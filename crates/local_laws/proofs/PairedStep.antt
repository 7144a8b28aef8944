-- With pairs the row of each instruction covers the machine's step.
use Rattle.std.proofs.Common.{◌≡◌, refl, sym, subst, ap, ap₂, ◌∙◌, ℕ, ◌+◌, ◌<◌, ◌==◌, Bool, true, false, not, List, [], ◌∷◌, ◌++◌, Option, Some, None, if◌then◌else◌, nat_lt, ltb-true}
use Rattle.std.specs.Prelude.{⊤}
use Rattle.avr_model.specs.Masks.{reads_masks}
use Rattle.avr_model.proofs.AllLaws.{devices_are_alike}
use Rattle.avr_model.specs.Devices.{Image, image_of, wrapped}
use Rattle.avr_model.specs.Image.{word_at}
use Rattle.avr_model.specs.Marks.{marks}
use Rattle.avr_model.specs.Table.{length_of}
use Rattle.avr_model.specs.Text.{near}
use Rattle.avr_model.specs.declared.assumption.Entry.{Entry}
use Rattle.avr_model.specs.declared.instruction.Instr.{Instr}
use Rattle.avr_model.specs.declared.instruction.Instr.TheVariants as i
use Rattle.avr_model.specs.declared.instruction.BinaryOp.TheVariants as binary
use Rattle.avr_model.specs.declared.instruction.Pointer.{Pointer}
use Rattle.avr_model.specs.declared.instruction.Pointer.TheVariants as pointer
use Rattle.avr_model.specs.Effects.{going_to, skipping, further}
use Rattle.avr_model.specs.Sites.{instruction_at, is_scratch, pointer_register}
use Rattle.avr_model.specs.Sreg.{flag}
use Rattle.avr_model.specs.State.{State, register}
use Rattle.avr_model.specs.Written.{written}
use Rattle.sp_domain.specs.Tags.{Origin}
use Rattle.pair_domain.specs.declared.facts.PairFacts.{PairFacts}
use Rattle.abs_state.specs.declared.state.AbsState.{AbsState}
use Rattle.abs_state.specs.FlagsSet.{sets_flags, sets_carry}
use Rattle.abs_state.specs.Formed.{IsFormed}
use Rattle.abs_state.specs.Laws.{HoldsAt}
use Rattle.abs_state.specs.Stands.{RegistersStand}
use Rattle.abs_state.proofs.AllLaws.{states_are_ordered}
use Rattle.pair_cuts.specs.Cuts.{flag_cut, bit_cut, equal_cut}
use Rattle.pair_rules.specs.Refined.{refined, refined_known}
use Rattle.pair_rules.specs.Tags.{tagged}
use Rattle.pair_laws.specs.Laws.{registers_set, sreg_set, IsBehind}
use Rattle.pair_laws.specs.CutLaws.{StandsFor, IsLeftOf}
use Rattle.pair_laws.proofs.AllLaws.{operands_fit, refined_holds, refined_is_ordered, flags_are_cut, bits_are_cut, equals_are_cut}
use Rattle.node_keys.specs.declared.keys.NodeKey.{NodeKey}
use Rattle.node_keys.specs.Keys.{offset_of}
use Rattle.local_rules.specs.declared.local.Node.{Node}
use Rattle.local_rules.specs.Raw.{Raw, all_of, next, further as node_further}
use Rattle.local_rules.specs.Registers.{value, before}
use Rattle.local_rules.specs.Flow.{going_where}
use Rattle.local_rules.specs.Writes.{pointer_write}
use Rattle.local_rules.specs.HighBytes.{SpView, view_by}
use Rattle.local_rules.specs.Local.{step_before, pointer_moved, plain_row, paired_row, cut_branch, cut_skip, refined_nodes, refining, storing, refined_if, paired_store}
use Rattle.local_rules.specs.Settling.{settled_state, node_where}
use Rattle.local_rules.specs.Machine.{AreWords}
use Rattle.local_rules.specs.Cover.{Follows}
use Rattle.local_laws.proofs.Bare.{IsBare, InBareFrame, bare_key}
use Rattle.local_laws.proofs.Bits.{flag_is_bit}
use Rattle.local_laws.proofs.CoverMemory.{st_covered}
use Rattle.local_laws.proofs.CoverRows.{guarding, CoversRow}
use Rattle.local_laws.proofs.Ends.{held}
use Rattle.local_laws.proofs.FlowRows.{goes_near, goes_further, turned}
use Rattle.local_laws.proofs.Less.{forgetting_at, forgotten_spares}
use Rattle.local_laws.proofs.MonotoneFields.{instruction_fits}
use Rattle.local_laws.proofs.MonotoneRows.{moved_less}
use Rattle.local_laws.proofs.SettledCover.{frame_settled}
use Rattle.local_laws.proofs.SettledMonotone.{settled_bare, plain_less}
use Rattle.local_laws.proofs.SettledValues.{IsSettled, is_settled}
use Rattle.local_laws.proofs.MonotoneValues.{AreRegistersLess, IsStateLess, node_less, less_node}
use Rattle.local_laws.proofs.PairedCover.{is_before, refining_follows, two_ways}
use Rattle.local_laws.proofs.PlainRows.{IsRefinedInstr}
use Rattle.local_laws.proofs.Permitted.{pointer_pair, number_permitted}
use Rattle.local_laws.proofs.PointerReads.{pointer_stands}
use Rattle.local_laws.proofs.Sized.{sized_at}
use Rattle.local_laws.proofs.SplitMembers.{are_written}
use Rattle.local_rules.specs.Site.{Task, site_at, task_with}
use Rattle.local_rules.specs.Writes.{write_at}

-- ---- stores tell nothing of pairs but by the pointer that they move

abbrev pub IsStored : Instr → Type 0
IsStored (i.Std b q r) = ⊤
IsStored (i.Sts a r) = ⊤
IsStored (i.Out a r) = ⊤
IsStored (i.Cbi a b) = ⊤
IsStored (i.Sbi a b) = ⊤
IsStored _ = ⊥

module _ (image : Image) (s : AbsState) (f : PairFacts) where
  same_tags : (instr : Instr) → IsStored instr → (y : Option PairFacts) → tagged s.registers f instr y ≡ y
  same_tags instr is None = refl
  same_tags (i.Std b q r) is (Some g) = refl
  same_tags (i.Sts a r) is (Some g) = refl
  same_tags (i.Out a r) is (Some g) = refl
  same_tags (i.Cbi a b) is (Some g) = refl
  same_tags (i.Sbi a b) is (Some g) = refl
  same_tags instr is (Some g) = absurd is

  abbrev with_facts : AbsState → Option PairFacts → Option AbsState
  with_facts t x = Some (record t { facts = x })

  store_refined : (instr : Instr) → IsStored instr → (t : AbsState) → refined_known (marks image) image instr s t (Some f) ≡ Some t
  store_refined (i.Std b q r) is t = ap (with_facts t) (same_tags (i.Std b q r) tt t.facts)
  store_refined (i.Sts a r) is t = ap (with_facts t) (same_tags (i.Sts a r) tt t.facts)
  store_refined (i.Out a r) is t = ap (with_facts t) (same_tags (i.Out a r) tt t.facts)
  store_refined (i.Cbi a b) is t = ap (with_facts t) (same_tags (i.Cbi a b) tt t.facts)
  store_refined (i.Sbi a b) is t = ap (with_facts t) (same_tags (i.Sbi a b) tt t.facts)
  store_refined instr is t = absurd is

  nodes_same : (instr : Instr) → IsStored instr → s.facts ≡ Some f → (nodes : List Node) → refined_nodes image instr s nodes ≡ nodes
  nodes_same instr is e [] = refl
  nodes_same instr is e (n ∷ ns) =
      let here : refined (marks image) image instr s n.state ≡ Some n.state = ap (refined_known (marks image) image instr s n.state) e ∙ store_refined instr is n.state in
      ap₂ (λ (x : Option AbsState) (xs : List Node). node_where n.key x ++ xs) here (nodes_same instr is e ns)

  pub stored_same : (instr : Instr) → IsStored instr → s.facts ≡ Some f → (r : Raw) → refining image instr s r ≡ r
  stored_same instr is e r = ap (λ (nodes : List Node). record r { moves = nodes }) (nodes_same instr is e r.moves)

-- ending facts does not change how a pointer moves
pub same_moved : (view : SpView) (p : Pointer) (instr : Instr) (s : AbsState) → pointer_moved view p (before instr s) ≡ pointer_moved view p s
same_moved view pointer.ZPlus instr s = refl
same_moved view pointer.MinusZ instr s = refl
same_moved view pointer.YPlus instr s = refl
same_moved view pointer.MinusY instr s = refl
same_moved view pointer.X instr s = refl
same_moved view pointer.XPlus instr s = refl
same_moved view pointer.MinusX instr s = refl

-- a state with the flags and the slots of another
pub like_parts : (u s : AbsState) → u.flags ≡ s.flags → u.slots ≡ s.slots → u ≡ record s { registers = u.registers; facts = u.facts }
like_parts u s flags slots = ap₂ (λ f l. record u { flags = f; slots = l }) flags slots

module _ (ws : List ℕ) (A : List Entry) (m : State) (o : Origin) (k : NodeKey) (s : AbsState) (at : InBareFrame (reads_masks m.device A) m o k s) (b1 b2 : ℕ) (small : b1 < 256)
    (other : b2 < 256) (are : AreWords (image_of m.device ws)) (f : PairFacts) (followed : s.facts ≡ Some f) where
  -- the words, on the machine's device
  abbrev image : Image
  image = image_of m.device ws

  abbrev task : Task
  task = task_with image A

  abbrev scratch : Bool
  scratch = is_scratch image m.pc

  abbrev Covered : Instr → Raw → Type 0
  Covered instr r = CoversRow task m o k b1 b2 scratch instr r

  -- ---- branches and skips

  abbrev Left : (Bool → Option AbsState) → Bool → Type 0
  Left cut test = (t : AbsState) × ((cut test ≡ Some t) × (IsLeftOf s t (offset_of k.sp) × StandsFor o t m))

  chosen : (cut : Bool → Option AbsState) (test : Bool) → (t : AbsState) → cut test ≡ Some t → (if test then cut true else cut false) ≡ Some t
  chosen cut true t e = e
  chosen cut false t e = e

  by_test : (cut : Bool → Option AbsState) (test : Bool) → Left cut test → (taken taken' past past' : ℕ) → wrapped m.device taken ≡ taken' → wrapped m.device past ≡ past'
      → Follows (reads_masks m.device A) m o k (not scratch) b1 b2 (going_to m (if test then taken else past)) (all_of (going_where k (cut false) past' ∷ going_where k (cut true) taken' ∷ []))
  by_test cut test h taken taken' past past' is is' =
      two_ways m o k s at (not scratch) b1 b2 test (cut true) (cut false) taken taken' past past' is is' h.0 (chosen cut test h.0 h.1.0) h.1.1.0 h.1.1.1

  flag_left : (n : ℕ) → n < 7 → Left (λ (b : Bool). flag_cut n b s) (flag m.sreg n)
  flag_left n lt =
      let h = flags_are_cut.keeps n (flag m.sreg n) m lt refl o s (offset_of k.sp) at.node.formed (record { stands = at.stands; facts = at.facts }) in
      (h.0, (h.1.0, (flags_are_cut.leaves n (flag m.sreg n) lt s h.0 (offset_of k.sp) at.node.formed h.1.0, h.1.1)))

  bit_left : (r b : ℕ) → r < 32 → b < 8 → Left (λ (on : Bool). bit_cut r b on s) (flag (register m r) b)
  bit_left r b low lt =
      let on : Bool = flag (register m r) b in
      let h = bits_are_cut.keeps r b on m low lt (sym (flag_is_bit (register m r) b)) o s (offset_of k.sp) at.node.formed (record { stands = at.stands; facts = at.facts }) in
      (h.0, (h.1.0, (bits_are_cut.leaves r b on low lt s h.0 (offset_of k.sp) at.node.formed h.1.0, h.1.1)))

  equal_left : (d r : ℕ) → d < 32 → r < 32 → Left (λ (b : Bool). equal_cut d r b s) (register m d == register m r)
  equal_left d r one two =
      let b : Bool = register m d == register m r in
      let h = equals_are_cut.keeps d r b m one two refl o s (offset_of k.sp) at.node.formed (record { stands = at.stands; facts = at.facts }) in
      (h.0, (h.1.0, (equals_are_cut.leaves d r b one two s h.0 (offset_of k.sp) at.node.formed h.1.0, h.1.1)))

  skip_is : (test : Bool) (r : Raw)
      → Follows (reads_masks m.device A) m o k (not scratch) b1 b2 (going_to m (if test then further m (1 + length_of (word_at image (m.pc + 1))) else further m 1)) r
      → Follows (reads_masks m.device A) m o k (not scratch) b1 b2 (skipping image m test) r
  skip_is true r h = h
  skip_is false r h = h

  past_is : wrapped m.device (further m (1 + length_of (word_at image (m.pc + 1)))) ≡ node_further m.device k (1 + length_of (word_at image (k.pc + 1)))
  past_is = devices_are_alike.twice m.device (m.pc + (1 + length_of (word_at image (m.pc + 1)))) ∙ ap (λ pc. wrapped m.device (pc + (1 + length_of (word_at image (pc + 1))))) at.place.pc

  next_is : wrapped m.device (further m 1) ≡ node_further m.device k 1
  next_is = goes_further m o k s at (not scratch) b1 b2 1

  near_is : (t : ℕ) → wrapped m.device (near m.pc t) ≡ wrapped m.device (near k.pc t)
  near_is t = goes_near m o k s at (not scratch) b1 b2 t

  skip_by : (cut : Bool → Option AbsState) (test : Bool) → Left cut test → Follows (reads_masks m.device A) m o k (not scratch) b1 b2 (skipping image m test) (cut_skip image (site_at m.device k s) (cut true) (cut false))
  skip_by cut test h =
      skip_is test (cut_skip image (site_at m.device k s) (cut true) (cut false))
      (by_test cut test h (further m (1 + length_of (word_at image (m.pc + 1)))) (node_further m.device k (1 + length_of (word_at image (k.pc + 1)))) (further m 1) (node_further m.device k 1) past_is next_is)

  negated : (cut : Bool → Option AbsState) (test : Bool) → Left cut test → Left (λ (b : Bool). cut (not b)) (not test)
  negated cut true h = h
  negated cut false h = h

  branch_by : (n t : ℕ) (low : Bool) → nat_lt n 7 ≡ low → (plain : Raw) → Covered (i.Brbs n t) plain
      → Covered (i.Brbs n t) (if low then cut_branch n k s (wrapped m.device (near k.pc t)) (node_further m.device k 1) else plain)
  branch_by n t true e plain h = λ clean unflagged. by_test (λ b. flag_cut n b s) (flag m.sreg n) (flag_left n (ltb-true n 7 e)) (near m.pc t) (wrapped m.device (near k.pc t)) (further m 1) (node_further m.device k 1) (near_is t) next_is
  branch_by n t false e plain h = h

  branch_not_by : (n t : ℕ) (low : Bool) → nat_lt n 7 ≡ low → (plain : Raw) → Covered (i.Brbc n t) plain
      → Covered (i.Brbc n t) (if low then cut_branch n k s (node_further m.device k 1) (wrapped m.device (near k.pc t)) else plain)
  branch_not_by n t true e plain h = λ clean unflagged.
      subst (λ (pc : ℕ). Follows (reads_masks m.device A) m o k (not scratch) b1 b2 (going_to m pc) (cut_branch n k s (node_further m.device k 1) (wrapped m.device (near k.pc t))))
      (turned m o k s at (not scratch) b1 b2 (flag m.sreg n) (further m 1) (near m.pc t))
      (by_test (λ b. flag_cut n b s) (flag m.sreg n) (flag_left n (ltb-true n 7 e)) (further m 1) (node_further m.device k 1) (near m.pc t) (wrapped m.device (near k.pc t)) next_is (near_is t))
  branch_not_by n t false e plain h = h

  -- ---- a store through a pointer that moves

  module _ (p : Pointer) (r : ℕ) (is_there : instruction_at task.flash m.pc ≡ Some (i.St p r)) where
    abbrev instr : Instr
    instr = i.St p r

    abbrev ended : AbsState
    ended = before instr s

    there : InBareFrame (reads_masks m.device task.assumptions) m o k ended
    there = forgetting_at m o k s (written instr) (sets_flags instr) (sets_carry instr) at

    abbrev moved_state : AbsState
    moved_state = record ended { registers = pointer_moved (view_by m.device k) p s }

    moved_bare : IsBare m.device k moved_state
    moved_bare =
        let le : IsStateLess k.inst.kind (offset_of k.sp) ended ended = node_less k ended ended there.node there.node (states_are_ordered.same ended) in
        less_node k moved_state moved_state at.node.word at.node.small at.node.masks at.node.fits at.node.pick
        (record { registers = subst (λ vs. AreRegistersLess k.inst.kind vs vs) (same_moved (view_by m.device k) p instr s) (moved_less m.device task k (bare_key k s at.node) ended ended le p); flags = le.flags; slots = le.slots; facts = le.facts })

    behind : IsBehind o moved_state (registers_set task.flash (reads_masks m.device A) m instr b1 b2) (sreg_set task.flash (reads_masks m.device A) m instr b1 b2)
    behind = record { registers = subst (λ vs. RegistersStand o vs (registers_set task.flash (reads_masks m.device A) m instr b1 b2)) (same_moved (view_by m.device k) p instr s) (pointer_stands m o k ended there p); facts = held task.flash (reads_masks m.device A) m o k s b1 b2 instr are small other (sized_at task.flash m.pc instr is_there) at }

    -- the moved pointer's high byte is settled
    settled : (u : AbsState) × ((settled_state (view_by m.device k) moved_state ≡ Some u) × RegistersStand o u.registers (registers_set task.flash (reads_masks m.device A) m instr b1 b2))
    settled = frame_settled m o k s at moved_state (registers_set task.flash (reads_masks m.device A) m instr b1 b2) moved_bare.formed.count_registers behind.registers

    abbrev settled_at : AbsState
    settled_at = settled.0

    parts : IsSettled (view_by m.device k) moved_state settled_at
    parts = is_settled (view_by m.device k) moved_state settled_at settled.1.0

    settled_behind : IsBehind o settled_at (registers_set task.flash (reads_masks m.device A) m instr b1 b2) (sreg_set task.flash (reads_masks m.device A) m instr b1 b2)
    settled_behind =
        record {
          registers = settled.1.1;
          facts = subst (λ f. HoldsAt f (registers_set task.flash (reads_masks m.device A) m instr b1 b2) (sreg_set task.flash (reads_masks m.device A) m instr b1 b2)) (sym parts.facts) behind.facts;
        }

    settled_formed : IsFormed settled_at (offset_of k.sp)
    settled_formed = (settled_bare k (view_by m.device k) moved_state settled_at moved_bare settled.1.0).formed

    found : (u : AbsState) × (refined (marks task.flash) task.flash instr s settled_at ≡ Some u) × IsBehind o u (registers_set task.flash (reads_masks m.device A) m instr b1 b2) (sreg_set task.flash (reads_masks m.device A) m instr b1 b2)
    found =
        refined_holds.holds (marks task.flash) task.flash (reads_masks m.device A) o m instr b1 b2 (offset_of k.sp) (offset_of k.sp) s settled_at are tt at.node.formed settled_formed
        (is_before task.flash are m o k s at b1 b2 (not scratch) instr tt) settled_behind

    abbrev left : AbsState
    left = found.0

    formed : IsFormed left (offset_of k.sp)
    formed = refined_is_ordered.formed (marks task.flash) task.flash instr (offset_of k.sp) (offset_of k.sp) s settled_at left tt at.node.formed settled_formed found.1

    abbrev row_with : AbsState → Raw
    row_with u = pointer_write task s (pointer_register p) (step_before p) (write_at m.device k.pc (next m.device k) u (value s r))

    left_covered : Covered instr (row_with (record ended { registers = left.registers; facts = left.facts }))
    left_covered clean unflagged =
        (st_covered task m o k ended there scratch b1 b2 are_written refl p r s.flags s.facts left.registers left.facts (forgotten_spares (written instr) s.flags.carry) formed.count_registers formed.facts
        (number_permitted m o k s at (pointer_register p) (step_before p) (pointer_pair p)) found.2.registers unflagged.protected clean).leads found.2.facts

    pub store_covered : Covered instr (paired_store task (site_at m.device k s) p r)
    store_covered =
        let like = refined_is_ordered.like (marks task.flash) task.flash instr s settled_at left found.1 in
        subst (λ (x : Option AbsState). Covered instr (storing task (site_at m.device k s) p r (refined_if task instr s x))) (sym settled.1.0)
        (subst (λ (x : Option AbsState). Covered instr (storing task (site_at m.device k s) p r x)) (sym found.1)
        (subst (λ (u : AbsState). Covered instr (row_with u)) (sym (like_parts left ended (like.flags ∙ parts.flags) (like.slots ∙ parts.slots))) left_covered))

  -- ---- all rows

  refined_covered : (instr : Instr) → instruction_at image m.pc ≡ Some instr → IsRefinedInstr instr → Covered instr (plain_row task scratch (site_at m.device k s) instr)
      → Covered instr (refining image instr s (plain_row task scratch (site_at m.device k s) instr))
  refined_covered instr e is h clean unflagged =
      let leads = plain_less m.device task k s s at.node at.node (states_are_ordered.same s) scratch instr (instruction_fits image m.pc instr e) clean in
      refining_follows image are m o k s at b1 b2 (guarding scratch A k.pc instr) instr (operands_fit.fit image m.pc instr e) is (plain_row task scratch (site_at m.device k s) instr)
      (λ to member. (leads.moves to member).node) (h clean unflagged)

  same_covered : (instr : Instr) → IsStored instr → Covered instr (plain_row task scratch (site_at m.device k s) instr) → Covered instr (refining image instr s (plain_row task scratch (site_at m.device k s) instr))
  same_covered instr is h = subst (Covered instr) (sym (stored_same image s f instr is followed (plain_row task scratch (site_at m.device k s) instr))) h

  pub paired_covered : (instr : Instr) → instruction_at image m.pc ≡ Some instr → Covered instr (plain_row task scratch (site_at m.device k s) instr) → Covered instr (paired_row task scratch (site_at m.device k s) instr)
  paired_covered (i.Brbs n t) e h = branch_by n t (nat_lt n 7) refl _ h
  paired_covered (i.Brbc n t) e h = branch_not_by n t (nat_lt n 7) refl _ h
  paired_covered (i.Sbrc r b) e h = λ clean unflagged.
      let fit = instruction_fits image m.pc (i.Sbrc r b) e in
      skip_by (λ x. bit_cut r b (not x) s) (not (flag (register m r) b)) (negated (λ x. bit_cut r b x s) (flag (register m r) b) (bit_left r b fit.0 fit.1))
  paired_covered (i.Sbrs r b) e h = λ clean unflagged.
      let fit = instruction_fits image m.pc (i.Sbrs r b) e in
      skip_by (λ x. bit_cut r b x s) (flag (register m r) b) (bit_left r b fit.0 fit.1)
  paired_covered (i.Binary binary.Cpse d r) e h = λ clean unflagged.
      let fit = operands_fit.fit image m.pc (i.Binary binary.Cpse d r) e in
      skip_by (λ x. equal_cut d r x s) (register m d == register m r) (equal_left d r fit.0 fit.1)
  paired_covered (i.Binary binary.Cpc d r) e h = refined_covered (i.Binary binary.Cpc d r) e tt h
  paired_covered (i.Binary binary.Sbc d r) e h = refined_covered (i.Binary binary.Sbc d r) e tt h
  paired_covered (i.Binary binary.Add d r) e h = refined_covered (i.Binary binary.Add d r) e tt h
  paired_covered (i.Binary binary.Cp d r) e h = refined_covered (i.Binary binary.Cp d r) e tt h
  paired_covered (i.Binary binary.Sub d r) e h = refined_covered (i.Binary binary.Sub d r) e tt h
  paired_covered (i.Binary binary.Adc d r) e h = refined_covered (i.Binary binary.Adc d r) e tt h
  paired_covered (i.Binary binary.And d r) e h = refined_covered (i.Binary binary.And d r) e tt h
  paired_covered (i.Binary binary.Eor d r) e h = refined_covered (i.Binary binary.Eor d r) e tt h
  paired_covered (i.Binary binary.Or d r) e h = refined_covered (i.Binary binary.Or d r) e tt h
  paired_covered (i.Binary binary.Mov d r) e h = refined_covered (i.Binary binary.Mov d r) e tt h
  paired_covered (i.Binary binary.Mul d r) e h = refined_covered (i.Binary binary.Mul d r) e tt h
  paired_covered (i.St p r) e h = store_covered p r e
  paired_covered (i.Std b q r) e h = same_covered (i.Std b q r) tt h
  paired_covered (i.Sts a r) e h = same_covered (i.Sts a r) tt h
  paired_covered (i.Out a r) e h = same_covered (i.Out a r) tt h
  paired_covered (i.Cbi a b) e h = same_covered (i.Cbi a b) tt h
  paired_covered (i.Sbi a b) e h = same_covered (i.Sbi a b) tt h
  paired_covered instr e h = refined_covered instr e tt h
