-- A flag has its cause at the node's word, and a node that isn't clear has a cause.
use Rattle.std.proofs.Common.{◌≡◌, refl, sym, ap, ap₂, ◌∙◌, subst, ℕ, ◌+◌, ◌-◌, ◌<◌, ◌≤◌, nat_lt, nat_le, Bool, true, false, not, ◌&&◌, ◌||◌, ◌⊎◌, inl, inr, ⊎_elim, if◌then◌else◌, List, [], ◌∷◌, ◌++◌, Option, Some, None, arith}
use Rattle.std.specs.List.{list_any}
use Rattle.std.proofs.lemmas.Bool.{false_from_ne_true as never, and_from, or_left, or_right, or_from, or_cases, not-false, cases_lt}
use Rattle.std.proofs.lemmas.Option.{same_Some}
use Rattle.basics.specs.Numbers.{test_from_less, test_from_at_most}
use Rattle.basics.specs.Booleans.{never_both}
use Rattle.avr_model.specs.declared.choice.Choice.{Choice}
use Rattle.avr_model.specs.declared.choice.Choice.TheVariants.{Go, Take}
use Rattle.avr_model.specs.declared.choice.Flag.{Flag}
use Rattle.avr_model.specs.declared.choice.Flag.TheVariants.{Live, Protected, Transfer, Moved}
use Rattle.avr_model.specs.declared.device.Device.{Device}
use Rattle.avr_model.specs.declared.effect.Effect.{Effect}
use Rattle.avr_model.specs.declared.instruction.Instr.{Instr}
use Rattle.avr_model.specs.declared.instruction.Instr.TheVariants as i
use Rattle.avr_model.specs.Assumptions.{is_never, is_fixed_site}
use Rattle.avr_model.specs.Masks.{is_flagged_write}
use Rattle.avr_model.specs.declared.rows.MovingPlace.{MovingPlace}
use Rattle.avr_model.specs.Devices.{guarded_end, io_end, ramend, device_of}
use Rattle.avr_model.specs.Sites.{instruction_at}
use Rattle.avr_model.specs.State.{State, is_live}
use Rattle.avr_model.specs.Vectors.{vector_word, moving_of}
use Rattle.avr_model.specs.Step.{Overflow, Flagged, after, all_inside, live_write, flagged_write, protected_write, unlisted_transfer, deep_call, first_of, refused_transfer, moves_vectors, is_pointer_store, is_indirect, is_call, is_refused, is_guarding, flag_by, flagged_or, may_take, go, step}
use Rattle.pair_domain.specs.Facts.{is_followed}
use Rattle.abs_state.specs.declared.state.AbsState.{AbsState}
use Rattle.node_keys.specs.declared.keys.NodeKey.{NodeKey}
use Rattle.local_rules.specs.declared.local.Node.{Node}
use Rattle.edge_rules.specs.Families.{RankedFamily, IsSoundFamily}
use Rattle.edge_rules.specs.Frames.{Frame, Runs}
use Rattle.clear_laws.specs.Aims.{may_write, aim_of}
use Rattle.clear_laws.specs.Clear.{IsClear, MayBeFlagged, word_of_flag, IsHarmless, each_address, is_clear_by, is_flagged_address, is_address_harmless, is_transfer_listed, calls_cut, may_set, written_bits, may_move, is_aim_harmless}
use Rattle.clear_laws.specs.Causes.{may_write_protected, may_write_some_protected, may_write_stack, is_untold, may_write_live, IsCause, HasCause, MayFlag}
use Rattle.clear_laws.specs.StepLaws.{PlacesHaveCauses}
use Rattle.clear_laws.proofs.Below.{any_found, found_below}
use Rattle.clear_laws.proofs.Kept.{Holding}
use Rattle.clear_laws.proofs.Told.{clear_nodes_are_told}
use Rattle.clear_laws.proofs.Unflagged.{IsStore, flagged_by_write, flagged_within, writes, may_move_if, cut_if_deep, by_instruction, inside, IsTaken, taken_here}
use Rattle.bit_domain.specs.declared.bytes.TriByte.{TriByte}
use Rattle.local_rules.specs.Cover.{effect_by}
use Rattle.local_rules.specs.Site.{Task, masks_by}
use Rattle.clear_laws.specs.Clear.{store_at, is_slot_harmless}
use Rattle.node_keys.specs.Keys.{offset_of}

-- ---- which case a flag is of

abbrev IsCauseOf : ℕ → Option ℕ → Option ℕ → Option ℕ → Bool → Flag → Type 0
IsCauseOf pc live protected transfer moves (Live p x) = (pc ≡ p) × (live ≡ Some x)
IsCauseOf pc live protected transfer moves (Protected p x) = (pc ≡ p) × (protected ≡ Some x)
IsCauseOf pc live protected transfer moves (Transfer p x) = (pc ≡ p) × (transfer ≡ Some x)
IsCauseOf pc live protected transfer moves (Moved p) = (pc ≡ p) × (moves ≡ true)

flag_same : (p q : Flag) → Flagged p ≡ Flagged q → p ≡ q
flag_same p q e = cc

flagged_by : (t : Bool) (pc : ℕ) (a b c : Option ℕ) (d : Bool) (x : State) (flag : Flag) → (if t then flagged_or (flag_by pc a b c d) x else Overflow pc) ≡ Flagged flag
    → IsCauseOf pc a b c d flag
flagged_by false pc a b c d x flag e = absurd (cc)
flagged_by true pc (Some a) b c d x flag e = subst (IsCauseOf pc (Some a) b c d) (flag_same (Live pc a) flag e) (refl, refl)
flagged_by true pc None (Some b) c d x flag e = subst (IsCauseOf pc None (Some b) c d) (flag_same (Protected pc b) flag e) (refl, refl)
flagged_by true pc None None (Some c) d x flag e = subst (IsCauseOf pc None None (Some c) d) (flag_same (Transfer pc c) flag e) (refl, refl)
flagged_by true pc None None None true x flag e = subst (IsCauseOf pc None None None true) (flag_same (Moved pc) flag e) (refl, refl)
flagged_by true pc None None None false x flag e = absurd (cc)

-- an instruction that may go to an unlisted word is indirect
listed_by : (a b : Bool) → not (not a || b) ≡ true → a ≡ true
listed_by true b h = refl
listed_by false b h = absurd (cc)

-- ---- one write

no_some : (o : Option ℕ) (x : ℕ) → o ≡ None → o ≡ Some x → ⊥
no_some o x none some = let no : None ≡ Some x = sym none ∙ some in cc

one_of : (b : Bool) (a x : ℕ) → (if b then Some a else None) ≡ Some x → (b ≡ true) × (a ≡ x)
one_of true a x e = (refl, cc)
one_of false a x e = absurd (cc)

flagged_of : (stores fixed protected : Bool) (a x : ℕ) → (if stores && not fixed then (if protected then Some a else None) else None) ≡ Some x
    → ((stores && not fixed && protected) ≡ true) × (a ≡ x)
flagged_of false fixed protected a x e = absurd (cc)
flagged_of true true protected a x e = absurd (cc)
flagged_of true false false a x e = absurd (cc)
flagged_of true false true a x e = (refl, cc)

indirect_by : (b : Bool) (o : Option ℕ) (x : ℕ) → (if b then o else None) ≡ Some x → b ≡ true
indirect_by true o x e = refl
indirect_by false o x e = absurd (cc)

-- ---- transfers

-- an indirect transfer or a call stores nothing, and does not set a moving bit
aim_none : (device : Device) (k : NodeKey) (s : AbsState) (instr : Instr) → (is_indirect instr || is_call instr) ≡ true → aim_of device k s instr ≡ None
aim_none device k s i.Ijmp e = refl
aim_none device k s i.Icall e = refl
aim_none device k s i.Eijmp e = refl
aim_none device k s i.Eicall e = refl
aim_none device k s (i.Call t) e = refl
aim_none device k s (i.Rcall t) e = refl
aim_none device k s _ e = absurd (cc)

none_set : (value : TriByte) (os : List (Option MovingPlace)) → list_any (may_set (λ a. false) value) os ≡ false
none_set value [] = refl
none_set value (None ∷ os) = none_set value os
none_set value (Some s ∷ os) = none_set value os

and_none : (a b : Bool) → b ≡ false → (a && b) ≡ false
and_none true b h = h
and_none false b h = refl

move_none : (task : Task) (k : NodeKey) (s : AbsState) (instr : Instr) → (is_indirect instr || is_call instr) ≡ true → may_move task k s instr ≡ false
move_none task k s i.Ijmp e = and_none (masks_by task) _ (none_set (written_bits s i.Ijmp) (moving_of (device_of task.flash)))
move_none task k s i.Icall e = and_none (masks_by task) _ (none_set (written_bits s i.Icall) (moving_of (device_of task.flash)))
move_none task k s i.Eijmp e = and_none (masks_by task) _ (none_set (written_bits s i.Eijmp) (moving_of (device_of task.flash)))
move_none task k s i.Eicall e = and_none (masks_by task) _ (none_set (written_bits s i.Eicall) (moving_of (device_of task.flash)))
move_none task k s (i.Call t) e = and_none (masks_by task) _ (none_set (written_bits s (i.Call t)) (moving_of (device_of task.flash)))
move_none task k s (i.Rcall t) e = and_none (masks_by task) _ (none_set (written_bits s (i.Rcall t)) (moving_of (device_of task.flash)))
move_none task k s _ e = absurd (cc)

-- what calls a word with a `recur` line is a call
cut_calls : (task : Task) (k : NodeKey) (s : AbsState) (instr : Instr) → calls_cut task k s instr ≡ true → is_call instr ≡ true
cut_calls task k s i.Icall e = refl
cut_calls task k s i.Eicall e = refl
cut_calls task k s (i.Call t) e = refl
cut_calls task k s (i.Rcall t) e = refl
cut_calls task k s _ e = absurd (cc)

either_true : (a b : Bool) → (a ≡ false → b ≡ false → ⊥) → (a || b) ≡ true
either_true true b h = refl
either_true false true h = refl
either_true false false h = absurd (h refl refl)

module _ (task : Task) (f : RankedFamily) (n : Node) where
  -- a transfer to listed words that calls no word with a `recur` line is clear
  clear_listed : (instr : Instr) → instruction_at task.flash n.key.pc ≡ Some instr → (is_indirect instr || is_call instr) ≡ true
      → is_transfer_listed task n.key.pc n.state instr ≡ true → calls_cut task n.key n.state instr ≡ false → IsClear task f n
  clear_listed instr is goes listed uncut =
      clear_nodes_are_told.clear task f n (λ d. true) (λ d lt none may. absurd (let no : true ≡ false = none in cc))
      (ap (is_clear_by task f.bound (record { key = n.key; state = n.state }) (λ d. true)) is
      ∙ and_from (is_aim_harmless task f.bound (store_at n.key.pc n.state instr) (is_slot_harmless (offset_of n.key.sp) (λ d. true)) (aim_of (device_of task.flash) n.key n.state instr))
      (is_transfer_listed task n.key.pc n.state instr && (not (calls_cut task n.key n.state instr) && not (may_move task n.key n.state instr)))
      (ap (is_aim_harmless task f.bound (store_at n.key.pc n.state instr) (is_slot_harmless (offset_of n.key.sp) (λ d. true))) (aim_none (device_of task.flash) n.key n.state instr goes))
      (and_from (is_transfer_listed task n.key.pc n.state instr) (not (calls_cut task n.key n.state instr) && not (may_move task n.key n.state instr)) listed
      (and_from (not (calls_cut task n.key n.state instr)) (not (may_move task n.key n.state instr)) (ap not uncut) (ap not (move_none task n.key n.state instr goes)))))

  pub not_listed : (instr : Instr) → instruction_at task.flash n.key.pc ≡ Some instr → (is_indirect instr || is_call instr) ≡ true → (IsClear task f n → ⊥)
      → (not (is_transfer_listed task n.key.pc n.state instr) || calls_cut task n.key n.state instr) ≡ true
  not_listed instr is goes unclear =
      either_true (not (is_transfer_listed task n.key.pc n.state instr)) (calls_cut task n.key n.state instr)
      (λ listed uncut. unclear (clear_listed instr is goes (not-false (is_transfer_listed task n.key.pc n.state instr) listed) uncut))

  -- what may go to an unlisted word or calls one with a `recur` line is a transfer or a call
  pub unlisted_goes : (instr : Instr) → (not (is_transfer_listed task n.key.pc n.state instr) || calls_cut task n.key n.state instr) ≡ true → (is_indirect instr || is_call instr) ≡ true
  unlisted_goes instr h =
      ⊎_elim (λ unlisted. or_left (is_indirect instr) (is_call instr) (listed_by (is_indirect instr) _ unlisted))
      (λ cut. or_right (is_indirect instr) (is_call instr) (cut_calls task n.key n.state instr cut))
      (or_cases (not (is_transfer_listed task n.key.pc n.state instr)) (calls_cut task n.key n.state instr) h)

  -- With pairs, a store that may reach neither the stack nor an address that is flagged as protected goes to harmless addresses only.
  module _ (instr : Instr) (is : instruction_at task.flash n.key.pc ≡ Some instr) (followed : is_followed n.state.facts ≡ true) (direct : is_indirect instr ≡ false)
      (uncut : calls_cut task n.key n.state instr ≡ false) (stays : may_move task n.key n.state instr ≡ false)
      (dead : may_write_stack (device_of task.flash) f.bound n.state instr ≡ false) (free : may_write_some_protected task (store_at n.key.pc n.state instr) ≡ false) where
    abbrev below : ℕ
    below = io_end (device_of task.flash)

    abbrev last : ℕ
    last = ramend (device_of task.flash)

    unreached : (a : ℕ) → may_write n.state instr a ≡ true → a ≤ last → last < a + f.bound → ⊥
    unreached a may le lt =
        let same : last - (last - a) ≡ a = omega (arith, le) in
        never_both _ (any_found (λ d. may_write n.state instr (last - d)) (last - a) f.bound (omega (arith, le, lt)) (ap (may_write n.state instr) same ∙ may)) dead

    unflagged : (a : ℕ) → may_write n.state instr a ≡ true → a ≤ below → is_flagged_address task (store_at n.key.pc n.state instr) a ≡ false
    unflagged a may low =
        never (is_flagged_address task (store_at n.key.pc n.state instr) a)
        (λ flagged. never_both _ (any_found (may_write_protected task (store_at n.key.pc n.state instr)) a (guarded_end (device_of task.flash) + 1) (flagged_within task (store_at n.key.pc n.state instr) a flagged) (and_from _ _ flagged may)) free)

    harmless_address : (a : ℕ) → a < 65536 → may_write n.state instr a ≡ true → is_address_harmless task f.bound (store_at n.key.pc n.state instr) a ≡ true
    harmless_address a small may =
        ⊎_elim
        (λ above.
        ⊎_elim (λ over. or_left _ _ (or_right _ _ (test_from_less last a over)))
        (λ inside.
        or_left _ _ (or_left _ _ (and_from (nat_lt below a) (nat_le (a + f.bound) last) (test_from_less below a above)
        (test_from_at_most (a + f.bound) last (⊎_elim (λ no. absurd (unreached a may inside no)) (λ within. within) (cases_lt last (a + f.bound))))))) (cases_lt last a))
        (λ low. or_right _ _ (and_from (nat_le a below) _ (test_from_at_most a below low) (ap not (unflagged a may low)))) (cases_lt below a)

    pub clear_store : IsClear task f n
    clear_store =
        record {
          store = λ x aim at same.
              let e : instr ≡ x = same_Some instr x (sym is ∙ at) in
              subst (λ y. IsHarmless task f n y aim) e (each_address followed harmless_address);
          transfer = λ x at indirect.
              let e : instr ≡ x = same_Some instr x (sym is ∙ at) in
              absurd (never_both _ (ap is_indirect e ∙ indirect) direct);
          calls = λ x at. let e : instr ≡ x = same_Some instr x (sym is ∙ at) in subst (λ y. calls_cut task n.key n.state y ≡ false) e uncut;
          stays = λ x at. let e : instr ≡ x = same_Some instr x (sym is ∙ at) in subst (λ y. may_move task n.key n.state y ≡ false) e stays;
        }

  clear_without : instruction_at task.flash n.key.pc ≡ None → IsClear task f n
  clear_without is =
      record {
        store = λ instr aim at same. absurd (let no : None ≡ Some instr = sym is ∙ at in cc);
        transfer = λ instr at indirect. absurd (let no : None ≡ Some instr = sym is ∙ at in cc);
        calls = λ instr at. absurd (let no : None ≡ Some instr = sym is ∙ at in cc);
        stays = λ instr at. absurd (let no : None ≡ Some instr = sym is ∙ at in cc);
      }

-- ---- a step that is flagged

module _ (task : Task) (f : RankedFamily) (sound : IsSoundFamily task f) (m : State) (g : Frame) (gs : List Frame) (runs : Runs task f m g gs)
    (holds : Holding task f m.memory g gs) where
  abbrev top : ℕ
  top = ramend (device_of task.flash)

  at_word : g.node.key.pc ≡ m.pc
  at_word = sym runs.running.place.pc

  cause : (test : Node → Instr → Bool) (instr : Instr) → instruction_at task.flash m.pc ≡ Some instr → (IsClear task f g.node → ⊥) → test g.node instr ≡ true → IsCause task f m.pc test
  cause test instr is unclear passes =
      record { node = g.node; present = runs.present; is = at_word; unclear = unclear; instr = instr; instruction = is; passes = passes }

  module _ (b1 b2 : ℕ) (instr : Instr) (is : instruction_at task.flash m.pc ≡ Some instr) where
    abbrev effect : Effect
    effect = effect_by task m instr b1 b2

    abbrev Store : Type 0
    Store = IsStore task f sound m g gs runs holds b1 b2 instr is

    -- the stack reaches each live byte
    live_reached : (x : ℕ) → is_live m.memory x ≡ true → may_write g.node.state instr x ≡ true → may_write_stack (device_of task.flash) f.bound g.node.state instr ≡ true
    live_reached x live may =
        let le : x ≤ top = inside task f sound m g gs runs holds x live in
        let same : top - (top - x) ≡ x = omega (arith, le) in
        any_found (λ d. may_write g.node.state instr (top - d)) (top - x) f.bound (omega (arith, le, holds.above x live, holds.depth)) (ap (may_write g.node.state instr) same ∙ may)

    written_live : (x : ℕ) → live_write m.memory (effect.stores ++ effect.pushes) ≡ Some x → may_write_live task f.bound g.node.key (store_at m.pc g.node.state instr) ≡ true
    unfolding live_write
    written_live x e = ⊎_elim (λ s. absurd (no_some _ x s.live e)) by_store (writes task f sound m g gs runs holds b1 b2 instr is)
      where
        by_store : Store → may_write_live task f.bound g.node.key (store_at m.pc g.node.state instr) ≡ true
        by_store w =
            let t = one_of (is_live m.memory w.address) w.address x (sym (ap₂ (λ ss ps. live_write m.memory (ss ++ ps)) w.stores w.pushes) ∙ e) in
            or_left (may_write_stack (device_of task.flash) f.bound g.node.state instr) _ (live_reached w.address t.0 w.may)

    written_protected : (x : ℕ) → protected_write task.flash task.assumptions m.pc instr effect ≡ Some x → may_write_protected task (store_at m.pc g.node.state instr) x ≡ true
    unfolding protected_write
    written_protected x e = ⊎_elim (λ s. absurd (no_some _ x s.protected e)) by_store (writes task f sound m g gs runs holds b1 b2 instr is)
      where
        by_store : Store → may_write_protected task (store_at m.pc g.node.state instr) x ≡ true
        by_store w =
            let t =
            flagged_of (is_pointer_store instr) (is_fixed_site task.flash task.assumptions m.pc) (is_flagged_write (device_of task.flash) task.assumptions m.pc w.address w.byte) w.address x
            (sym (ap (λ ws. if is_pointer_store instr && not (is_fixed_site task.flash task.assumptions m.pc) then flagged_write (device_of task.flash) task.assumptions m.pc ws else None) w.stores) ∙ e) in
            subst (λ a. may_write_protected task (store_at m.pc g.node.state instr) a ≡ true) t.1
            (and_from (is_flagged_address task (store_at m.pc g.node.state instr) w.address) _ (flagged_by_write task instr m.pc g.node.state w.address w.byte w.has_byte t.0) w.may)

    -- a refused transfer is one to an unlisted word, or a call of a word with a `recur` line
    refused_goes : (o d : Option ℕ) (x : ℕ) → unlisted_transfer task.assumptions m.pc instr effect ≡ o → deep_call task.flash task.assumptions m instr effect ≡ d
        → first_of o d ≡ Some x → (is_indirect instr || is_call instr) ≡ true
    unfolding unlisted_transfer
    refused_goes (Some y) d x unlisted deep e = or_left (is_indirect instr) (is_call instr) (indirect_by (is_indirect instr) _ y unlisted)
    refused_goes None (Some y) x unlisted deep e =
        or_right (is_indirect instr) (is_call instr)
        (cut_calls task g.node.key g.node.state instr (cut_if_deep task f sound m g gs runs holds b1 b2 instr is y deep unlisted))
    refused_goes None None x unlisted deep e = absurd (cc)

    written_unlisted : (x : ℕ) → refused_transfer task.flash task.assumptions m instr effect ≡ Some x → (IsClear task f g.node → ⊥)
        → (not (is_transfer_listed task m.pc g.node.state instr) || calls_cut task g.node.key g.node.state instr) ≡ true
    unfolding refused_transfer
    written_unlisted x e unclear =
        subst (λ p. (not (is_transfer_listed task p g.node.state instr) || calls_cut task g.node.key g.node.state instr) ≡ true) at_word
        (not_listed task f g.node instr (subst (λ p. instruction_at task.flash p ≡ Some instr) (sym at_word) is)
        (refused_goes (unlisted_transfer task.assumptions m.pc instr effect) (deep_call task.flash task.assumptions m instr effect) x refl refl e) unclear)

    caused_by : (flag : Flag)
        → IsCauseOf m.pc (live_write m.memory (effect.stores ++ effect.pushes)) (protected_write task.flash task.assumptions m.pc instr effect)
        (refused_transfer task.flash task.assumptions m instr effect) (moves_vectors (device_of task.flash) (masks_by task) effect.stores) flag
        → (IsClear task f g.node → ⊥) → MayFlag task f flag
    caused_by (Live p x) h unclear =
        subst (λ pc. IsCause task f pc (λ (n : Node) y. may_write_live task f.bound n.key (store_at pc n.state y))) h.0
        (cause (λ (n : Node) y. may_write_live task f.bound n.key (store_at m.pc n.state y)) instr is unclear (written_live x h.1))
    caused_by (Protected p x) h unclear =
        subst (λ pc. IsCause task f pc (λ (n : Node) y. may_write_protected task (store_at pc n.state y) x)) h.0
        (cause (λ (n : Node) y. may_write_protected task (store_at m.pc n.state y) x) instr is unclear (written_protected x h.1))
    caused_by (Transfer p x) h unclear =
        subst (λ pc. IsCause task f pc (λ (n : Node) y. not (is_transfer_listed task pc n.state y) || calls_cut task n.key n.state y)) h.0
        (cause (λ (n : Node) y. not (is_transfer_listed task m.pc n.state y) || calls_cut task n.key n.state y) instr is unclear (written_unlisted x h.1 unclear))
    caused_by (Moved p) h unclear =
        subst (λ pc. IsCause task f pc (λ (n : Node) y. may_move task n.key n.state y)) h.0
        (cause (λ (n : Node) y. may_move task n.key n.state y) instr is unclear (may_move_if task f sound m g gs runs holds b1 b2 instr is h.1))

  going : (b1 b2 : ℕ) (flag : Flag) (x : Option Instr) → instruction_at task.flash m.pc ≡ x → go task.flash task.assumptions m x b1 b2 ≡ Flagged flag → MayFlag task f flag
  going b1 b2 flag None is e = absurd (cc)
  going b1 b2 flag (Some instr) is e =
      let effect = effect_by task m instr b1 b2 in
      caused_by b1 b2 instr is flag
      (flagged_by (all_inside m.device effect.pushes || is_refused (refused_transfer task.flash task.assumptions m instr effect)) m.pc
      (live_write m.memory (effect.stores ++ effect.pushes)) (protected_write task.flash task.assumptions m.pc instr effect)
      (refused_transfer task.flash task.assumptions m instr effect) (moves_vectors (device_of task.flash) (masks_by task) effect.stores)
      (after m (is_guarding task.flash task.assumptions m.pc instr) effect) flag e)
      (λ clear. by_instruction task f sound m g gs runs holds clear flag b1 b2 (Some instr) is e)

  -- a step is flagged only for a cause, or for taking such a vector
  pub caused_here : (c : Choice) (flag : Flag) → step task.flash task.assumptions m c ≡ Flagged flag → MayFlag task f flag ⊎ IsTaken task f sound m g gs runs holds c
  caused_here (Go b1 b2) flag e = inl (going b1 b2 flag (instruction_at task.flash m.pc) refl e)
  caused_here (Take v clears) flag e =
      inr (taken_here task f sound m g gs runs holds v clears flag (may_take m v clears) (is_never task.assumptions (vector_word (device_of task.flash) v)) refl refl e)

-- ---- words

module _ (task : Task) (f : RankedFamily) where
  forgets : (pc : ℕ) (test : Node → Instr → Bool) → IsCause task f pc test → MayBeFlagged task f pc
  forgets pc test c = record { node = c.node; present = c.present; is = c.is; unclear = c.unclear }

  pub may_be_flagged : (flag : Flag) → MayFlag task f flag → MayBeFlagged task f (word_of_flag flag)
  may_be_flagged (Live pc a) c = forgets pc (λ (n : Node) y. may_write_live task f.bound n.key (store_at pc n.state y)) c
  may_be_flagged (Protected pc a) c = forgets pc (λ (n : Node) y. may_write_protected task (store_at pc n.state y) a) c
  may_be_flagged (Transfer pc target) c = forgets pc (λ (n : Node) y. not (is_transfer_listed task pc n.state y) || calls_cut task n.key n.state y) c
  may_be_flagged (Moved pc) c = forgets pc (λ (n : Node) y. may_move task n.key n.state y) c

  module _ (pc : ℕ) (may : MayBeFlagged task f pc) where
    at_pc : (instr : Instr) → instruction_at task.flash may.node.key.pc ≡ Some instr → instruction_at task.flash pc ≡ Some instr
    at_pc instr is = subst (λ p. instruction_at task.flash p ≡ Some instr) may.is is

    caused : (test : Node → Instr → Bool) (instr : Instr) → instruction_at task.flash may.node.key.pc ≡ Some instr → test may.node instr ≡ true → IsCause task f pc test
    caused test instr is passes =
        record { node = may.node; present = may.present; is = may.is; unclear = may.unclear; instr = instr; instruction = at_pc instr is; passes = passes }

    -- a store without pairs has no other cause
    untold : (followed l : Bool) (instr : Instr) → instruction_at task.flash may.node.key.pc ≡ Some instr → is_followed may.node.state.facts ≡ followed
        → may_write_stack (device_of task.flash) f.bound may.node.state instr ≡ l → is_indirect instr ≡ false → calls_cut task may.node.key may.node.state instr ≡ false
        → may_move task may.node.key may.node.state instr ≡ false → may_write_some_protected task (store_at pc may.node.state instr) ≡ false
        → may_write_live task f.bound may.node.key (store_at pc may.node.state instr) ≡ true
    untold followed true instr is mode live indirect uncut stays some = or_left _ (is_untold task may.node.key (store_at pc may.node.state instr)) live
    untold false false instr is mode live indirect uncut stays some =
        or_right (may_write_stack (device_of task.flash) f.bound may.node.state instr) _
        (ap₂ (λ a b. not a && b) mode (ap₂ (λ a b. not (a || b)) (or_from (is_indirect instr) _ indirect (or_from (calls_cut task may.node.key may.node.state instr) _ uncut stays)) some))
    untold true false instr is mode live indirect uncut stays some =
        absurd (may.unclear (clear_store task f may.node instr is mode indirect uncut stays live (subst (λ q. may_write_some_protected task (store_at q may.node.state instr) ≡ false) (sym may.is) some)))

    -- a transfer or a call
    by_going : (instr : Instr) → instruction_at task.flash may.node.key.pc ≡ Some instr → (is_indirect instr || is_call instr) ≡ true → HasCause task f pc
    by_going instr is goes =
        inr (inr (inl (caused (λ (n : Node) y. not (is_transfer_listed task pc n.state y) || calls_cut task n.key n.state y) instr is
        (subst (λ q. (not (is_transfer_listed task q may.node.state instr) || calls_cut task may.node.key may.node.state instr) ≡ true) may.is (not_listed task f may.node instr is goes may.unclear)))))

    -- none of them: a write that may set a moving bit, a protected address, or neither
    by_tests : (instr : Instr) → instruction_at task.flash may.node.key.pc ≡ Some instr → is_indirect instr ≡ false → is_call instr ≡ false → (v p : Bool)
        → may_move task may.node.key may.node.state instr ≡ v → may_write_some_protected task (store_at pc may.node.state instr) ≡ p → HasCause task f pc
    by_tests instr is direct plain true p moves some = inr (inr (inr (caused (λ (n : Node) y. may_move task n.key n.state y) instr is moves)))
    by_tests instr is direct plain false true moves some =
        let found = found_below (may_write_protected task (store_at pc may.node.state instr)) (guarded_end (device_of task.flash) + 1) some in
        inl (found.0, caused (λ (n : Node) y. may_write_protected task (store_at pc n.state y) found.0) instr is found.1.1)
    by_tests instr is direct plain false false moves some =
        let uncut = never (calls_cut task may.node.key may.node.state instr) (λ cut. never_both (is_call instr) (cut_calls task may.node.key may.node.state instr cut) plain) in
        inr (inl (caused (λ (n : Node) y. may_write_live task f.bound n.key (store_at pc n.state y)) instr is
        (untold (is_followed may.node.state.facts) (may_write_stack (device_of task.flash) f.bound may.node.state instr) instr is refl refl direct uncut moves some)))

    by_kind : (instr : Instr) → instruction_at task.flash may.node.key.pc ≡ Some instr → (t c : Bool) → is_indirect instr ≡ t → is_call instr ≡ c → HasCause task f pc
    by_kind instr is true c indirect calls = by_going instr is (or_left (is_indirect instr) (is_call instr) indirect)
    by_kind instr is false true direct calls = by_going instr is (or_right (is_indirect instr) (is_call instr) calls)
    by_kind instr is false false direct plain =
        by_tests instr is direct plain (may_move task may.node.key may.node.state instr) (may_write_some_protected task (store_at pc may.node.state instr)) refl refl

    by_instr : (x : Option Instr) → instruction_at task.flash may.node.key.pc ≡ x → HasCause task f pc
    by_instr None is = absurd (may.unclear (clear_without task f may.node is))
    by_instr (Some instr) is = by_kind instr is (is_indirect instr) (is_call instr) refl refl

    pub has_cause : HasCause task f pc
    has_cause = by_instr (instruction_at task.flash may.node.key.pc) refl

  cause_there : (pc : ℕ) → HasCause task f pc → MayBeFlagged task f pc
  cause_there pc (inl c) = forgets pc (λ (n : Node) y. may_write_protected task (store_at pc n.state y) c.0) c.1
  cause_there pc (inr (inl c)) = forgets pc (λ (n : Node) y. may_write_live task f.bound n.key (store_at pc n.state y)) c
  cause_there pc (inr (inr (inl c))) = forgets pc (λ (n : Node) y. not (is_transfer_listed task pc n.state y) || calls_cut task n.key n.state y) c
  cause_there pc (inr (inr (inr c))) = forgets pc (λ (n : Node) y. may_move task n.key n.state y) c

pub places_have_causes : PlacesHaveCauses
places_have_causes task f pc = (has_cause task f pc, cause_there task f pc)
