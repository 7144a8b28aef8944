-- A node, with pairs or without, and split or not, is monotone.
use Rattle.std.proofs.Common.{◌≡◌, refl, sym, subst, ap, ◌∙◌, ℕ, ◌<◌, ◌≤◌, ⊎_elim, Bool, true, false, length, map, Option, Some, None, if◌then◌else◌, Contains, arith, nat_lt, nat_le}
use Rattle.std.proofs.lemmas.Bool.{cases_eq}
use Rattle.std.proofs.lemmas.Bool.Decides.{nat_tests}
use Rattle.basics.specs.Booleans.{all_three}
use Rattle.basics.specs.Items.{none_in}
use Rattle.avr_model.specs.Devices.{Image, size_of, words_of, device_of}
use Rattle.avr_model.specs.declared.device.Device.{Device}
use Rattle.avr_model.specs.declared.instruction.Instr.{Instr}
use Rattle.avr_model.specs.Sites.{instruction_at, is_scratch}
use Rattle.avr_model.specs.State.{RAMPZ, EIND}
use Rattle.bit_domain.specs.TriByte.{has, byte_known}
use Rattle.bit_domain.proofs.AllLaws.{tests_tell_members}
use Rattle.pair_domain.specs.declared.facts.PairFacts.{PairFacts}
use Rattle.pair_domain.specs.Facts.{IsKnownWithin, is_followed}
use Rattle.abs_state.specs.declared.values.AbsByte.{AbsByte}
use Rattle.abs_state.specs.declared.state.AbsState.{AbsState}
use Rattle.abs_state.specs.Order.{IsByteWithin, IsStateWithin}
use Rattle.abs_state.specs.Banks.{IsBankIn, IsStateOf, is_tag_of}
use Rattle.abs_state.specs.Values.{with_bits}
use Rattle.abs_state.proofs.AllLaws.{states_are_ordered}
use Rattle.pair_cuts.specs.Cuts.{with_index, pick_cut}
use Rattle.pair_rules.specs.Fits.{HasRegisters}
use Rattle.pair_laws.proofs.AllLaws.{operands_fit, picks_are_cut}
use Rattle.abs_state.specs.Cuts.{cut_known}
use Rattle.pair_domain.specs.PairSets as pairs
use Rattle.node_keys.specs.declared.keys.NodeKey.{NodeKey}
use Rattle.node_keys.specs.Keys.{offset_of, is_root}
use Rattle.local_rules.specs.declared.local.NodeFault.TheVariants.{UnresolvedJump, Unsupported}
use Rattle.local_rules.specs.Raw.{Raw, nowhere, fails, all_of}
use Rattle.local_rules.specs.Registers.{value}
use Rattle.local_rules.specs.Local.{row_at, row_by, row_in, is_hung, fetched, below, picks, picking, picked_row, split_site, splitting, raw}
use Rattle.local_rules.specs.Permitted.{may_be}
use Rattle.local_rules.specs.Cover.{IsNodeIn}
use Rattle.local_laws.proofs.Bare.{IsBare, bare, node_of}
use Rattle.local_laws.proofs.Members.{fewer}
use Rattle.local_laws.proofs.MonotoneFields.{InstrFits, fetched_fits}
use Rattle.local_laws.proofs.MonotoneRaw.{LeadsLess, fails_less, untracked_less, too_deep_less, filtered_less}
use Rattle.local_laws.proofs.MonotoneValues.{IsStateLess, set_same, set_other, node_less, less_node}
use Rattle.local_laws.proofs.PairedCover.{left_bare}
use Rattle.local_laws.proofs.PairedMonotone.{paired_less}
use Rattle.local_laws.proofs.Picks.{below_small, picked_less, splits_at, at_quiet}
use Rattle.local_laws.proofs.Quiet.{Quiet}
use Rattle.local_laws.proofs.SettledMonotone.{plain_less}
use Rattle.local_rules.specs.Site.{Task, site_at}

-- an instruction of flash names registers
pub fetched_has : (device : Device) (image : Image) (pc : ℕ) (instr : Instr) → fetched device image pc ≡ Some instr → HasRegisters instr
fetched_has device image pc instr e = by (nat_lt pc (words_of device)) e
  where
    by : (inside : Bool) → (if inside then instruction_at image pc else None) ≡ Some instr → HasRegisters instr
    by true same = operands_fit.fit image pc instr same
    by false same = absurd (cc)

module _ {followed : Bool} (task : Task) (k : NodeKey) (s t : AbsState) (a : IsNodeIn (device_of task.flash) followed k s) (b : IsNodeIn (device_of task.flash) followed k t) (within : IsStateWithin s t) where
  low : IsBare (device_of task.flash) k s
  low = bare k s a

  high : IsBare (device_of task.flash) k t
  high = bare k t b

  row_by_less : (scratch : Bool) (instr : Instr) → InstrFits instr → HasRegisters instr → (f g : Option PairFacts) → s.facts ≡ f → t.facts ≡ g
      → LeadsLess (device_of task.flash) k.inst (row_by f task scratch (site_at (device_of task.flash) k s) instr) (row_by g task scratch (site_at (device_of task.flash) k t) instr)
  row_by_less scratch instr fits has None None e e' = plain_less (device_of task.flash) task k s t low high within scratch instr fits
  row_by_less scratch instr fits has None (Some g) e e' =
      let no : false ≡ true = sym (ap is_followed e) ∙ a.mode ∙ sym b.mode ∙ ap is_followed e' in absurd (cc)
  row_by_less scratch instr fits has (Some f) None e e' =
      let no : true ≡ false = sym (ap is_followed e) ∙ a.mode ∙ sym b.mode ∙ ap is_followed e' in absurd (cc)
  row_by_less scratch instr fits has (Some f) (Some g) e e' = paired_less (device_of task.flash) task k s t low high within a.hulls f g e e' scratch instr fits has

  row_at_less : (scratch : Bool) (x : Option Instr) → ((instr : Instr) → x ≡ Some instr → InstrFits instr) → ((instr : Instr) → x ≡ Some instr → HasRegisters instr)
      → LeadsLess (device_of task.flash) k.inst (row_at task scratch (site_at (device_of task.flash) k s) x) (row_at task scratch (site_at (device_of task.flash) k t) x)
  row_at_less scratch None fits has = fails_less k.inst (fails (Unsupported k.pc)) (Unsupported k.pc)
  row_at_less scratch (Some instr) fits has = row_by_less scratch instr (fits instr refl) (has instr refl) s.facts t.facts refl refl

  row_in_less : LeadsLess (device_of task.flash) k.inst (row_in (device_of task.flash) task k s) (row_in (device_of task.flash) task k t)
  row_in_less =
      row_at_less (is_scratch task.flash k.pc) (fetched (device_of task.flash) task.flash k.pc) (fetched_fits (device_of task.flash) task.flash k.pc) (fetched_has (device_of task.flash) task.flash k.pc)

-- ---- a byte that is picked

-- without pairs nothing else is cut
pick_plain : (byte : ℕ) (s : AbsState) → s.facts ≡ None → pick_cut byte s ≡ Some (with_index byte s)
pick_plain byte s e = ap (λ (x : Option PairFacts). cut_known pairs.cut_pair (with_index byte s) 15 x) e

pub mode_within : (x y : Option PairFacts) → IsKnownWithin x y → is_followed y ≡ true → is_followed x ≡ true
mode_within (Some f) y h e = refl
mode_within None None h e = e
mode_within None (Some g) h e = absurd h

module _ {device : Device} {followed : Bool} (k : NodeKey) (byte : ℕ) (small : byte < 256) (s : AbsState) (a : IsNodeIn device followed k s) where
  index_bare : IsBare device (picking k byte) (with_index byte s)
  index_bare =
      let h = bare k s a in
      let le : IsStateLess k.inst.kind (offset_of k.sp) (with_index byte s) (with_index byte s) =
      picked_less k.inst.kind (offset_of k.sp) byte s s (node_less k s s h h (states_are_ordered.same s)) in
      less_node (picking k byte) (with_index byte s) (with_index byte s) a.word a.small a.masks a.fits small le

  picked_mode : (u : AbsState) → pick_cut byte s ≡ Some u → (x : Option PairFacts) → s.facts ≡ x → is_followed u.facts ≡ is_followed x
  picked_mode u e None is =
      let same : Some u ≡ Some (with_index byte s) = sym e ∙ pick_plain byte s is in
      let eq : u ≡ with_index byte s = cc in
      ap (λ (v : AbsState). is_followed v.facts) eq ∙ ap is_followed is
  picked_mode u e (Some f) is = mode_within u.facts s.facts (picks_are_cut.leaves byte s u (offset_of k.sp) a.formed e).within.facts (ap is_followed is)

  -- the device says the same of the state with the byte
  index_of : IsStateOf device (is_root k.inst.kind) (with_index byte s)
  index_of =
      let tags = a.registers_of in
      let v : AbsByte = with_bits (value s 30).tag (byte_known byte) in
      record {
        registers = λ r lt. ⊎_elim
            (λ same. ap (λ (w : AbsByte). is_tag_of device w.tag) (set_same s.registers 30 r v same (omega (arith, a.formed.count_registers))) ∙ tags.registers 30 (omega arith))
            (λ other. ap (λ (w : AbsByte). is_tag_of device w.tag) (set_other s.registers 30 r v other) ∙ tags.registers r lt)
            (cases_eq r 30);
        slots = tags.slots;
        rampz = subst (IsBankIn (is_tag_of device) device (is_root k.inst.kind) RAMPZ) (sym (set_other s.registers 30 RAMPZ v (omega arith))) tags.rampz;
        eind = subst (IsBankIn (is_tag_of device) device (is_root k.inst.kind) EIND) (sym (set_other s.registers 30 EIND v (omega arith))) tags.eind;
      }

  pub picked_node : (u : AbsState) → pick_cut byte s ≡ Some u → IsNodeIn device followed (picking k byte) u
  picked_node u e =
      node_of (picking k byte) u (left_bare (picking k byte) (with_index byte s) u index_bare (picks_are_cut.leaves byte s u (offset_of k.sp) a.formed e))
      ((picks_are_cut.leaves byte s u (offset_of k.sp) a.formed e).of (is_tag_of device) device (is_root k.inst.kind) index_of) (picked_mode u e s.facts refl ∙ a.mode) (picks_are_cut.hulls byte s u (offset_of k.sp) a.formed a.hulls e)

module _ {followed : Bool} (task : Task) (k : NodeKey) (s t : AbsState) (a : IsNodeIn (device_of task.flash) followed k s) (b : IsNodeIn (device_of task.flash) followed k t) (within : IsStateWithin s t) where
  -- the row with one byte picked
  abbrev row_picked : AbsState → ℕ → Raw
  row_picked state byte = picked_row (row_in (device_of task.flash) task) (picking k byte) (pick_cut byte state)

  bytes_within : IsStateLess k.inst.kind (offset_of k.sp) s t
  bytes_within = node_less k s t (bare k s a) (bare k t b) within

  -- a possible byte of r30 is possible in the greater state too
  may_more : (byte : ℕ) → Contains (below 256) byte → may_be (value s 30) byte ≡ true → may_be (value t 30) byte ≡ true
  may_more byte i may =
      let v : AbsByte = value s 30 in
      let w : AbsByte = value t 30 in
      let less : IsByteWithin v w = (bytes_within.registers.each 30).within in
      let has_it : has v.bits byte ≡ true = grind arith in
      let low : nat_le w.low byte ≡ true = grind (arith, nat_tests, less.low) in
      let high : nat_le byte w.high ≡ true = grind (arith, nat_tests, less.high) in
      all_three (has w.bits byte) _ _ ((tests_tell_members.bytes w.bits byte).1 (less.bits byte (below_small 256 byte i) ((tests_tell_members.bytes v.bits byte).0 has_it))) low high

  module _ (jump : ℕ) (site : split_site task k.pc k.pick ≡ Some jump) where
    -- the row neither calls nor returns
    row_quiet : (byte : ℕ) (y : Option AbsState) → Quiet (picked_row (row_in (device_of task.flash) task) (picking k byte) y)
    row_quiet byte None = (refl, refl)
    row_quiet byte (Some u) =
        at_quiet (device_of task.flash) task (is_scratch task.flash k.pc) (picking k byte) u (fetched (device_of task.flash) task.flash k.pc) (splits_at task k.pc k.pick jump site).1

    nowhere_below : (q : Raw) → Quiet q → LeadsLess (device_of task.flash) k.inst nowhere q
    nowhere_below q quiet e = record { faultless = refl; moves = λ to j. absurd (none_in to j); calls = λ at j. absurd (none_in at j); exit = sym quiet.1 }

    picked_by : (byte : ℕ) → byte < 256 → (x : Option AbsState) → pick_cut byte s ≡ x
        → LeadsLess (device_of task.flash) k.inst (picked_row (row_in (device_of task.flash) task) (picking k byte) x) (row_picked t byte)
    picked_by byte small None e = nowhere_below (row_picked t byte) (row_quiet byte (pick_cut byte t))
    picked_by byte small (Some u) e =
        let more = picks_are_cut.more byte s t u (offset_of k.sp) a.formed b.formed within e in
        subst (λ (y : Option AbsState). LeadsLess (device_of task.flash) k.inst (row_in (device_of task.flash) task (picking k byte) u) (picked_row (row_in (device_of task.flash) task) (picking k byte) y)) (sym more.1.0)
        (row_in_less task (picking k byte) u more.0 (picked_node k byte small s a u e) (picked_node k byte small t b more.0 more.1.0) more.1.1)

    picked_row_less : (byte : ℕ) → Contains (below 256) byte → LeadsLess (device_of task.flash) k.inst (row_picked s byte) (row_picked t byte)
    picked_row_less byte i = picked_by byte (below_small 256 byte i) (pick_cut byte s) refl

  -- if the greater splits, so does the lesser, and in no more parts
  splitting_less : (jump : Option ℕ) → split_site task k.pc k.pick ≡ jump
      → LeadsLess (device_of task.flash) k.inst (splitting jump (row_in (device_of task.flash) task) k s) (splitting jump (row_in (device_of task.flash) task) k t)
  splitting_less None site = row_in_less task k s t a b within
  splitting_less (Some jump) site = by (nat_le (length (picks s)) 64) (nat_le (length (picks t)) 64) (λ is. grind (arith, nat_tests, few))
    where
      few : length (picks s) ≤ length (picks t)
      few = fewer (may_be (value s 30)) (may_be (value t 30)) (below 256) may_more

      by : (c d : Bool) → (d ≡ true → c ≡ true)
          → LeadsLess (device_of task.flash) k.inst (if c then all_of (map (row_picked s) (picks s)) else fails (UnresolvedJump jump))
          (if d then all_of (map (row_picked t) (picks t)) else fails (UnresolvedJump jump))
      by c false h = fails_less k.inst _ (UnresolvedJump jump)
      by true true h = filtered_less k.inst (row_picked s) (row_picked t) (may_be (value s 30)) (may_be (value t 30)) (below 256) (picked_row_less jump site) may_more
      by false true h = let never : false ≡ true = h refl in absurd (cc)

  pub raw_less : LeadsLess (device_of task.flash) k.inst (raw task k s) (raw task k t)
  unfolding raw
  raw_less =
      untracked_less k.inst (is_hung (device_of task.flash) task.assumptions k k.sp) k.pc _ _
      (too_deep_less k.inst (nat_lt (size_of (device_of task.flash)) (offset_of k.sp)) k.pc (offset_of k.sp) _ _ (splitting_less (split_site task k.pc k.pick) refl))
