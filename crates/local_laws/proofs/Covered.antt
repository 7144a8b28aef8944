-- The local part of a node covers each step of the machine there.
use Rattle.std.proofs.Common.{◌≡◌, refl, subst, ℕ, ◌<◌, Bool, true, false, List, Option, Some, None, sym, ap, nat_lt, nat_le, length, map, if◌then◌else◌, lt-ltb}
use Rattle.avr_model.specs.declared.device.Device.{Device}
use Rattle.avr_model.specs.Devices.{Image, image_of, words_of, size_of, device_of}
use Rattle.avr_model.specs.declared.assumption.Entry.{Entry}
use Rattle.avr_model.specs.declared.instruction.Instr.{Instr}
use Rattle.avr_model.specs.Masks.{reads_masks}
use Rattle.avr_model.specs.Sites.{instruction_at, is_scratch}
use Rattle.avr_model.specs.Written.{written}
use Rattle.avr_model.specs.State.{State, register}
use Rattle.sp_domain.specs.Tags.{Origin}
use Rattle.abs_state.specs.declared.state.AbsState.{AbsState}
use Rattle.node_keys.specs.declared.keys.NodeKey.{NodeKey}
use Rattle.node_keys.specs.Keys.{offset_of}
use Rattle.local_rules.specs.declared.local.NodeFault.TheVariants.{UnresolvedJump}
use Rattle.local_rules.specs.Raw.{Raw, fails, all_of, untracked_if, too_deep_if}
use Rattle.local_rules.specs.Local.{row_at, row_in, row_by, row_of, plain_row, is_hung, fetched, picks, picking, picked_row, split_site, splitting, raw}
use Rattle.abs_state.specs.FlagsSet.{sets_flags, sets_carry}
use Rattle.local_rules.specs.Registers.{before}
use Rattle.local_rules.specs.Machine.{AreWords}
use Rattle.local_rules.specs.Cover.{Follows, effect_by, CoversStep, InFrameIn}
use Rattle.local_laws.proofs.Bare.{InBareFrame, masked, bare_frame, bare_key}
use Rattle.local_laws.proofs.MonotoneFields.{instruction_fits}
use Rattle.local_laws.proofs.MonotoneRows.{row_less}
use Rattle.local_laws.proofs.MonotoneValues.{node_less}
use Rattle.local_laws.proofs.SettledCover.{settling_follows}
use Rattle.abs_state.proofs.AllLaws.{states_are_ordered}
use Rattle.local_laws.proofs.PairedStep.{paired_covered}
use Rattle.pair_domain.specs.declared.facts.PairFacts.{PairFacts}
use Rattle.pair_cuts.specs.Cuts.{pick_cut}
use Rattle.local_laws.proofs.Less.{forgetting_at, forgotten_spares}
use Rattle.local_laws.specs.Laws.{LocalPartsCover}
use Rattle.local_laws.proofs.CoverMemory.{addressed_covered}
use Rattle.local_laws.proofs.CoverRows.{guarding, guards_are, CoversRow, row_covered}
use Rattle.local_laws.proofs.Sized.{sized_at}
use Rattle.local_laws.proofs.Ends.{held}
use Rattle.local_laws.proofs.SplitMembers.{are_written}
use Rattle.local_laws.proofs.Targets.{scratch_makes_room}
use Rattle.local_laws.proofs.Quiet.{Quiet}
use Rattle.local_laws.proofs.Picks.{splits_at, at_quiet, in_picks, picked_at, all_covered}
use Rattle.local_rules.specs.Site.{Task, masks_by, site_at, task_with}

module _ (ws : List ℕ) (A : List Entry) (m : State) (o : Origin) (k : NodeKey) (s : AbsState) (at : InBareFrame (reads_masks m.device A) m o k s) (b1 b2 : ℕ) (small : b1 < 256)
    (other : b2 < 256) (are : AreWords (image_of m.device ws)) where
  -- the image, on the machine's device
  abbrev image : Image
  image = image_of m.device ws

  abbrev task : Task
  task = task_with image A

  -- if no interrupt may come with a half-written stack pointer, and the frame fits SRAM, the row decides
  not_hung : (hung : Bool) (instr : Option Instr) (r : Raw) → CoversStep task m o k b1 b2 instr r → CoversStep task m o k b1 b2 instr (untracked_if hung k.pc r)
  not_hung true None r h = λ clean. absurd (let e = clean in cc)
  not_hung true (Some instr) r h = λ clean. absurd (let e = clean in cc)
  not_hung false instr r h = h

  not_deep : (deep : Bool) (offset : ℕ) (instr : Option Instr) (r : Raw) → CoversStep task m o k b1 b2 instr r
      → CoversStep task m o k b1 b2 instr (too_deep_if deep k.pc offset r)
  not_deep true offset None r h = λ clean. absurd (let e = clean in cc)
  not_deep true offset (Some instr) r h = λ clean. absurd (let e = clean in cc)
  not_deep false offset instr r h = h

  plain_covered : (instr : Instr) → instruction_at image m.pc ≡ Some instr
      → CoversRow task m o k b1 b2 (is_scratch image m.pc) instr (plain_row task (is_scratch image m.pc) (site_at m.device k s) instr)
  plain_covered instr e =
      let t = before instr s in
      let there = forgetting_at m o k s (written instr) (sets_flags instr) (sets_carry instr) at in
      let spares = forgotten_spares (written instr) s.flags.carry in
      let sized = sized_at image m.pc instr e in
      let le = node_less k t t there.node there.node (states_are_ordered.same t) in
      let leads = row_less m.device task k (bare_key k s at.node) t t le (is_scratch image m.pc) instr (instruction_fits image m.pc instr e) in
      let row =
      row_covered A m o k t there b1 b2 image (is_scratch image m.pc) small instr spares sized (λ scratch. scratch_makes_room image m.pc instr scratch e)
      (λ names. addressed_covered task m o k t there (is_scratch image m.pc) b1 b2 are_written are small instr spares names refl) in
      λ clean unflagged.
      settling_follows m o k s at (guarding (is_scratch image m.pc) A k.pc instr) b1 b2 (effect_by task m instr b1 b2) (row_of task (is_scratch image m.pc) (site_at m.device k t) instr)
      (λ to member. ((leads clean).moves to member).node.formed.count_registers)
      ((row clean unflagged).leads (held image (reads_masks m.device A) m o k s b1 b2 instr are small other sized at))

  at_instruction : (instr : Option Instr) → instruction_at image m.pc ≡ instr → CoversStep task m o k b1 b2 instr (row_at task (is_scratch image m.pc) (site_at m.device k s) instr)
  at_instruction None e = λ clean. absurd (let e = clean in cc)
  at_instruction (Some instr) e = λ clean unflagged.
      subst (λ guarded. Follows (masks_by task) m o k guarded b1 b2 (effect_by task m instr b1 b2) (row_by s.facts task (is_scratch image m.pc) (site_at m.device k s) instr))
      (guards_are image A m.pc k.pc instr at.place.pc) (by s.facts refl clean unflagged)
    where
      by : (f : Option PairFacts) → s.facts ≡ f → CoversRow task m o k b1 b2 (is_scratch image m.pc) instr (row_by f task (is_scratch image m.pc) (site_at m.device k s) instr)
      by None is = plain_covered instr e
      by (Some f) is = paired_covered ws A m o k s at b1 b2 small other are f is instr e (plain_covered instr e)

  -- the machine's word is in its device's flash
  is_fetched : instruction_at image m.pc ≡ fetched m.device image m.pc
  is_fetched = sym (ap (λ (b : Bool). if b then instruction_at image m.pc else None) (lt-ltb m.pc (words_of m.device) at.machine.pc_small))

  -- the local part covers the machine's instruction
  abbrev Covering : Raw → Type 0
  Covering r = CoversStep task m o k b1 b2 (instruction_at image m.pc) r

  -- the node's row, for the machine's word
  row_in_covered : Covering (row_in m.device task k s)
  row_in_covered =
      let here = subst (λ x. Covering (row_at task (is_scratch image m.pc) (site_at m.device k s) x)) is_fetched (at_instruction (instruction_at image m.pc) refl) in
      subst (λ pc. Covering (row_at task (is_scratch image pc) (site_at m.device k s) (fetched m.device image pc))) at.place.pc here

module _ (ws : List ℕ) (A : List Entry) (m : State) (o : Origin) (k : NodeKey) (s : AbsState) (at : InBareFrame (reads_masks m.device A) m o k s) (b1 b2 : ℕ) (small : b1 < 256)
    (other : b2 < 256) (are : AreWords (image_of m.device ws)) where
  -- the image, on the machine's device
  abbrev flash : Image
  flash = image_of m.device ws

  abbrev Covers : Raw → Type 0
  Covers r = CoversStep (task_with flash A) m o k b1 b2 (instruction_at flash m.pc) r

  unresolved : (jump : ℕ) (instr : Option Instr) → CoversStep (task_with flash A) m o k b1 b2 instr (fails (UnresolvedJump jump))
  unresolved jump None = λ clean. absurd (let e = clean in cc)
  unresolved jump (Some instr) = λ clean. absurd (let e = clean in cc)

  -- the row with one byte picked
  abbrev row_picked : ℕ → Raw
  row_picked x = picked_row (row_in m.device (task_with flash A)) (picking k x) (pick_cut x s)

  -- a node that splits is covered by the row with r30's byte picked
  splitting_covered : (site : Option ℕ) → split_site (task_with flash A) k.pc k.pick ≡ site → Covers (splitting site (row_in m.device (task_with flash A)) k s)
  splitting_covered None e = row_in_covered ws A m o k s at b1 b2 small other are
  splitting_covered (Some jump) e = by (nat_le (length (picks s)) 64)
    where
      x : ℕ
      x = register m 30

      quiet : (cut : Option AbsState) → Quiet (picked_row (row_in m.device (task_with flash A)) (picking k x) cut)
      quiet None = (refl, refl)
      quiet (Some t) =
          at_quiet m.device (task_with flash A) (is_scratch flash k.pc) (picking k x) t (fetched m.device flash k.pc) (splits_at (task_with flash A) k.pc k.pick jump e).1

      found : (t : AbsState) × (pick_cut x s ≡ Some t) × InBareFrame (reads_masks m.device A) m o (picking k x) t
      found = picked_at m o k s at

      at_pick : CoversStep (task_with flash A) m o (picking k x) b1 b2 (instruction_at flash m.pc) (row_picked x)
      at_pick =
          subst (λ (cut : Option AbsState). CoversStep (task_with flash A) m o (picking k x) b1 b2 (instruction_at flash m.pc) (picked_row (row_in m.device (task_with flash A)) (picking k x) cut)) (sym found.1)
          (row_in_covered ws A m o (picking k x) found.0 found.2 b1 b2 small other are)

      by : (few : Bool) → Covers (if few then all_of (map row_picked (picks s)) else fails (UnresolvedJump jump))
      by true =
          all_covered (task_with flash A) m o k b1 b2 row_picked (picks s) x (in_picks m o k s at) (quiet (pick_cut x s)) (instruction_at flash m.pc) at_pick
      by false = unresolved jump (instruction_at flash m.pc)

  covered : Covers (raw (task_with flash A) k s)
  unfolding raw
  covered =
      not_hung ws A m o k s at b1 b2 small other are (is_hung m.device A k k.sp) (instruction_at flash m.pc) _
      (not_deep ws A m o k s at b1 b2 small other are (nat_lt (size_of m.device) (offset_of k.sp)) (offset_of k.sp) (instruction_at flash m.pc) _
      (splitting_covered (split_site (task_with flash A) k.pc k.pick) refl))

-- for words of the machine's device
covered_on : {followed : Bool} (device : Device) (ws : List ℕ) (A : List Entry) (m : State) (o : Origin) (k : NodeKey) (s : AbsState) (b1 b2 : ℕ) → m.device ≡ device
    → AreWords (image_of device ws) → InFrameIn followed (reads_masks device A) m o k s → b1 < 256 → b2 < 256
    → CoversStep (task_with (image_of device ws) A) m o k b1 b2 (instruction_at (image_of device ws) m.pc) (raw (task_with (image_of device ws) A) k s)
covered_on {followed = followed} device ws A m o k s b1 b2 told =
    subst
    (λ (d : Device). AreWords (image_of d ws) → InFrameIn followed (reads_masks d A) m o k s → b1 < 256 → b2 < 256
    → CoversStep (task_with (image_of d ws) A) m o k b1 b2 (instruction_at (image_of d ws) m.pc) (raw (task_with (image_of d ws) A) k s))
    told (λ are at small other. covered ws A m o k s (bare_frame m o k s (masked m.device A) at) b1 b2 small other are)

pub local_parts_cover : LocalPartsCover
local_parts_cover = record { covered = λ task m o k s b1 b2 are told at small other. covered_on (device_of task.flash) task.flash.words task.assumptions m o k s b1 b2 told are at small other }
