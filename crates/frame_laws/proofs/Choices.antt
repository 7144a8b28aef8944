-- Each choice is fine: an instruction or an interrupt.
use Rattle.std.proofs.Common.{◌≡◌, ℕ, ◌+◌, ◌%◌, Bool, true, false, not, ◌&&◌, ◌||◌, ◌==◌, if◌then◌else◌, List, [], ◌++◌, Option, Some, None, refl, sym, ap, ◌∙◌, subst, arith, Contains, ◌<◌, ◌≤◌}
use Rattle.std.proofs.lemmas.Bool.Decides.{nat_tests}
use Rattle.basics.specs.Booleans.{never_both}
use Rattle.avr_model.specs.declared.device.Device.{Device}
use Rattle.avr_model.proofs.AllLaws.{devices_are_alike}
use Rattle.avr_model.specs.Devices.{words_of, ramend, wrapped, device_of}
use Rattle.avr_model.specs.declared.assumption.Entry.{Entry}
use Rattle.avr_model.specs.declared.instruction.Instr.{Instr}
use Rattle.avr_model.specs.declared.choice.Choice.{Choice}
use Rattle.avr_model.specs.declared.choice.Choice.TheVariants.{Go, Take}
use Rattle.avr_model.specs.declared.effect.Effect.{Effect}
use Rattle.avr_model.specs.Sreg.{flag}
use Rattle.avr_model.specs.Assumptions.{is_never, recur_line}
use Rattle.avr_model.specs.Masks.{reads_masks}
use Rattle.avr_model.specs.Vectors.{is_enabled, last_vector, vector_word, watchdog}
use Rattle.avr_model.specs.Sites.{instruction_at}
use Rattle.avr_model.specs.State.{State, i_flag}
use Rattle.avr_model.specs.Effects.{effect_of, calling, way_back}
use Rattle.avr_model.specs.Step.{Answer, Illegal, Undefined, Overflow, Flagged, Done, after, all_inside, live_write, protected_write, refused_transfer, moves_vectors, is_guarding, may_take, enables_taken, entering, never_target, take, go, step}
use Rattle.avr_model.specs.Run.{HasBytes}
use Rattle.node_keys.specs.declared.keys.NodeKey.{NodeKey}
use Rattle.node_keys.specs.Keys.{cut_at}
use Rattle.node_keys.specs.Place.{EnablesAre}
use Rattle.node_keys.specs.declared.keys.EdgeKind.TheVariants as kind
use Rattle.node_keys.specs.declared.keys.SpForm.{SpForm}
use Rattle.node_keys.specs.declared.keys.SpForm.TheVariants.{Closed, Open}
use Rattle.abs_state.specs.declared.state.AbsState.{AbsState}
use Rattle.local_rules.specs.declared.local.CallSite.{CallSite}
use Rattle.local_rules.specs.Raw.{Raw, untracked_if}
use Rattle.local_rules.specs.Local.{raw, is_hung}
use Rattle.local_rules.specs.Cover.{Follows, stays, calls, leaves, CoversStep}
use Rattle.local_rules.specs.Machine.{IsMachine, AreWords}
use Rattle.local_laws.proofs.AllLaws.{local_parts_fit, open_pairs_hang, enabled_too, taken_both}
use Rattle.local_laws.specs.Laws.{LocalPartsCover, MachinesStay, LiveBytesStay}
use Rattle.edge_rules.specs.Edges.{raw_of, IsFaultless, Enters, by_call, by_interrupt, called_inst, vector_inst}
use Rattle.edge_rules.specs.Families.{RankedFamily, IsSoundFamily}
use Rattle.edge_rules.specs.Frames.{Frame, Runs, called, interrupted, IsFine}
use Rattle.frame_laws.proofs.Answers.{IsFineFor, StepGoesOn, answer_fine, listed_by, not_deep, protected_is_store, store_pushes_nothing}
use Rattle.frame_laws.proofs.Steps.{Follow, frames_local, frames_enter, frames_return}
use Rattle.local_rules.specs.Site.{Task}

-- ---- where an interrupt may come

not_hung : (b : Bool) (pc : ℕ) (r : Raw) → (untracked_if b pc r).faults ≡ [] → b ≡ false
not_hung true pc r h = absurd (cc)
not_hung false pc r h = refl

-- a node without a fault isn't hung
faultless_not_hung : (task : Task) (k : NodeKey) (s : AbsState) → (raw task k s).faults ≡ [] → is_hung (device_of task.flash) task.assumptions k k.sp ≡ false
unfolding raw
faultless_not_hung task k s h = not_hung (is_hung (device_of task.flash) task.assumptions k k.sp) k.pc _ h

all_four : (a b c d : Bool) → (a && b && not c && d) ≡ true → (a ≡ true) × (b ≡ true) × (c ≡ false) × (d ≡ true)
all_four a b c d h = (grind arith, grind arith, grind arith, grind arith)

pub vector_small : (device : Device) (enables v : ℕ) → is_enabled device enables v ≡ true → v ≤ last_vector device
unfolding is_enabled
vector_small device enables v h = grind (arith, nat_tests)

-- if an interrupt may be taken at a node without a fault, its stack pointer is whole
closed_where_taken : (device : Device) (A : List Entry) (k : NodeKey) (v : ℕ) (form : SpForm) → k.sp ≡ form → k.i ≡ true → k.delay ≡ false → is_enabled device k.masks v ≡ true
    → is_never A (vector_word device v) ≡ false → is_hung device A k form ≡ false → (offset : ℕ) × (k.sp ≡ Closed offset)
closed_where_taken device A k v (Closed offset) is i delay enabled allowed hung = (offset, is)
closed_where_taken device A k v (Open offset high) is i delay enabled allowed hung =
    absurd (never_both (is_hung device A k (Open offset high)) (open_pairs_hang.hung device A k v offset high i delay enabled allowed) hung)

not_never : (A : List Entry) (word : ℕ) → never_target A word ≡ None → is_never A word ≡ false
not_never A word h = by_test (is_never A word) refl h
  where
    by_test : (b : Bool) → is_never A word ≡ b → (if b then Some word else None) ≡ None → b ≡ false
    by_test false is h = refl
    by_test true is h = absurd (cc)

-- I is cleared
flag_cleared : (sreg : ℕ) → flag (sreg % 128) 7 ≡ false
flag_cleared sreg = grind (arith, nat_tests)

-- the goal of an answer, if the state is a machine's
fine_if : (task : Task) (f : RankedFamily) (c : Choice) (g : Frame) (gs : List Frame) (a : Answer) → ((n : State) → a ≡ Done n → IsMachine n)
    → IsFineFor (Follow task f c g gs) a → IsFine task f c g gs a
fine_if task f c g gs Illegal machine h = tt
fine_if task f c g gs (Undefined pc) machine h = h
fine_if task f c g gs (Overflow pc) machine h = h
fine_if task f c g gs (Flagged flag) machine h = tt
fine_if task f c g gs (Done n) machine h = h (machine n refl)

module _ (cover : LocalPartsCover) (machines : MachinesStay) (live : LiveBytesStay) (task : Task) (f : RankedFamily) (sized : AreWords task.flash) (sound : IsSoundFamily task f) where
  module _ (m : State) (g : Frame) (gs : List Frame) (runs : Runs task f m g gs) where
    faultless : IsFaultless task g.node
    faultless = sound.faultless g.node runs.present

    module _ (b1 b2 : ℕ) where
      -- a called word is in the device's flash
      calls_inside : (site : CallSite) → Contains (raw_of task g.node).calls site → wrapped m.device site.entry ≡ site.entry
      calls_inside site member =
          devices_are_alike.same m.device site.entry
          (subst (λ device. site.entry < words_of device) (sym runs.device) ((local_parts_fit.fit task g.node.key g.node.state).calls site member).0)

      -- a guarded call is no deeper than the `recur` line of its word permits
      abbrev NotDeep : Bool → Effect → Type 0
      NotDeep guarded e = (target back most : ℕ) → guarded ≡ true → e ≡ calling m target back → recur_line task.assumptions (wrapped m.device target) ≡ Some most → ramend m.device ≤ m.sp + most

      called_shallow : (guarded : Bool) (e : Effect) → NotDeep guarded e → (site : CallSite) → Contains (raw_of task g.node).calls site → guarded ≡ true → e ≡ calling m site.entry site.back
          → (most : ℕ) → cut_at task.assumptions (called_inst g.node.key site.entry) ≡ Some most → ramend m.device ≤ m.sp + most
      unfolding cut_at
      called_shallow guarded e not_deep site member on same most cut =
          not_deep site.entry site.back most on same (ap (recur_line task.assumptions) (calls_inside site member) ∙ cut)

      follows_on : (guarded : Bool) (e : Effect) → NotDeep guarded e → Follows (reads_masks (device_of task.flash) task.assumptions) m g.origin g.node.key guarded b1 b2 e (raw_of task g.node) → StepGoesOn (Follow task f (Go b1 b2) g gs) m guarded e
      follows_on guarded e not_deep (stays to member inst lands) = frames_local live task f sound m g gs runs b1 b2 guarded e to faultless member inst lands
      follows_on guarded e not_deep (calls offset site member form on same) =
          let k = g.node.key in
          subst (λ b. StepGoesOn (Follow task f (Go b1 b2) g gs) m b e) (sym on)
          (subst (StepGoesOn (Follow task f (Go b1 b2) g gs) m true) (sym same)
          (frames_enter live task f sound m g gs runs kind.Call (called_inst k site.entry) site.back offset form (by_call offset site faultless form member) (called_shallow guarded e not_deep site member on same)
          site.entry m.sreg m.enables (calls_inside site member) refl runs.running.place.i runs.running.place.enables
          (Go b1 b2) (λ state above. called b1 b2 site state _ faultless member above)))
      follows_on guarded e not_deep (leaves x exit kind form is) = frames_return live task f sound m g gs runs b1 b2 guarded e x faultless exit form is kind

      -- an instruction with its effect
      answers : (instr : Instr) → CoversStep task m g.origin g.node.key b1 b2 (Some instr) (raw_of task g.node) → IsFineFor (Follow task f (Go b1 b2) g gs) (go task.flash task.assumptions m (Some instr) b1 b2)
      answers instr covered =
          let still = reads_masks (device_of task.flash) task.assumptions in
          let e = effect_of task.flash still m instr b1 b2 in
          let guarded = is_guarding task.flash task.assumptions m.pc instr in
          let on : protected_write task.flash task.assumptions m.pc instr e ≡ None → refused_transfer task.flash task.assumptions m instr e ≡ None → StepGoesOn (Follow task f (Go b1 b2) g gs) m guarded e =
          λ protected listed. follows_on guarded e
          (λ target back most on same line. not_deep task.flash task.assumptions still m instr b1 b2 target back most listed on same line)
          (covered faultless (record { protected = protected; listed = listed_by task.flash task.assumptions m instr e listed })) in
          answer_fine (Follow task f (Go b1 b2) g gs) m.pc (after m guarded e) (all_inside m.device e.pushes) (live_write m.memory (e.stores ++ e.pushes)) (protected_write task.flash task.assumptions m.pc instr e) (refused_transfer task.flash task.assumptions m instr e)
          (moves_vectors (device_of task.flash) still e.stores)
          (λ listed. inside_by (protected_write task.flash task.assumptions m.pc instr e) refl
          (λ protected. (on protected listed).inside)
          (λ a is. ap (all_inside m.device) (store_pushes_nothing task.flash still m instr b1 b2 (protected_is_store task m.pc instr e a is))))
          (λ missed protected listed. (on protected listed).done missed)
        where
          inside_by : {P : Type 0} (p : Option ℕ) {q : Option ℕ} → q ≡ p → (q ≡ None → P) → ((a : ℕ) → q ≡ Some a → P) → P
          inside_by None is none some = none is
          inside_by (Some a) is none some = some a is

      goes : (o : Option Instr) → CoversStep task m g.origin g.node.key b1 b2 o (raw_of task g.node) → IsFineFor (Follow task f (Go b1 b2) g gs) (go task.flash task.assumptions m o b1 b2)
      goes None covered = absurd (covered faultless)
      goes (Some instr) covered = answers instr covered

    -- what holds of the machine's device holds of the image's
    on_words : (P : Device → Type 0) → P m.device → P (device_of task.flash)
    on_words P h = subst P runs.device h

    vector_is : (v : ℕ) → is_enabled m.device m.enables v ≡ true → wrapped m.device (vector_word m.device v) ≡ vector_word (device_of task.flash) v
    vector_is v enabled =
        devices_are_alike.same m.device (vector_word m.device v) (devices_are_alike.vectors m.device v (vector_small m.device m.enables v enabled))
        ∙ ap (λ device. vector_word device v) runs.device

    -- an interrupt's instance isn't cut
    never_cut : (v : ℕ) (clears : Bool) (most : ℕ) → cut_at task.assumptions (vector_inst task.flash g.node.key v clears) ≡ Some most → ramend m.device ≤ m.sp + most
    unfolding cut_at
    never_cut v clears most cut = absurd (cc)

    -- the entry of an interrupt that may be taken
    entered_by : (v : ℕ) (clears : Bool) → (offset : ℕ) × (g.node.key.sp ≡ Closed offset) → g.node.key.i ≡ true → g.node.key.delay ≡ false → is_enabled (device_of task.flash) g.node.key.masks v ≡ true
        → is_never task.assumptions (vector_word (device_of task.flash) v) ≡ false → (not clears || (v == watchdog (device_of task.flash))) ≡ true → is_enabled m.device m.enables v ≡ true
        → StepGoesOn (Follow task f (Take v clears) g gs) m true (entering m v clears)
    entered_by v clears closed i delay enabled allowed clearable on =
        let k = g.node.key in
        let place = runs.running.place in
        let enters : Enters task g.node (kind.Interrupt v clears) (vector_inst task.flash k v clears) k.pc = by_interrupt closed.0 v clears faultless closed.1 i delay enabled allowed clearable in
        subst (λ pc. StepGoesOn (Follow task f (Take v clears) g gs) m true (record (entering m v clears) { pushes = way_back m.device m.sp pc })) (sym place.pc)
        (frames_enter live task f sound m g gs runs (kind.Interrupt v clears) (vector_inst task.flash k v clears) k.pc closed.0 closed.1 enters (never_cut v clears)
        (vector_word m.device v) (m.sreg % 128) (enables_taken m.device m.enables clears) (vector_is v on) (omega arith) (flag_cleared m.sreg) (on_words (λ device. EnablesAre (reads_masks (device_of task.flash) task.assumptions) (enables_taken m.device m.enables clears) (enables_taken device k.masks clears))
        (taken_both (reads_masks (device_of task.flash) task.assumptions) m.device m.enables k.masks clears place.enables))
        (Take v clears) (λ state above. interrupted v clears state _ enters above))

    taken : (v : ℕ) (clears t : Bool) → may_take m v clears ≡ t → IsFineFor (Follow task f (Take v clears) g gs) (if t then take task.assumptions m (entering m v clears) else Illegal)
    taken v clears false legal = tt
    taken v clears true legal =
        let k = g.node.key in
        let place = runs.running.place in
        let all = all_four (is_enabled m.device m.enables v) (i_flag m) m.delay (not clears || (v == watchdog m.device)) legal in
        let enabled : is_enabled (device_of task.flash) k.masks v ≡ true = on_words (λ device. is_enabled device k.masks v ≡ true) (enabled_too (reads_masks (device_of task.flash) task.assumptions) m.device m.enables k.masks v place.enables all.0) in
        let i : k.i ≡ true = sym place.i ∙ all.1 in
        let delay : k.delay ≡ false = sym place.delay ∙ all.2 in
        let e = entering m v clears in
        let unlined : never_target task.assumptions e.pc ≡ None → is_never task.assumptions (vector_word (device_of task.flash) v) ≡ false =
        λ none. subst (λ (word : ℕ). is_never task.assumptions word ≡ false) (vector_is v all.0) (not_never task.assumptions e.pc none) in
        let on : is_never task.assumptions (vector_word (device_of task.flash) v) ≡ false → StepGoesOn (Follow task f (Take v clears) g gs) m true e =
        λ allowed. entered_by v clears (closed_where_taken (device_of task.flash) task.assumptions k v k.sp refl i delay enabled allowed (faultless_not_hung task k g.node.state faultless)) i delay enabled allowed (on_words (λ device. (not clears || (v == watchdog device)) ≡ true) all.3) all.0 in
        answer_fine (Follow task f (Take v clears) g gs) m.pc (after m true e) (all_inside m.device e.pushes) (live_write m.memory e.pushes) None (never_target task.assumptions e.pc) false
        (λ none. (on (unlined none)).inside) (λ missed _ none. (on (unlined none)).done missed)

    owed : (c : Choice) → HasBytes c → IsFineFor (Follow task f c g gs) (step task.flash task.assumptions m c)
    owed (Go b1 b2) bytes = goes b1 b2 (instruction_at task.flash m.pc) (cover.covered task m g.origin g.node.key g.node.state b1 b2 sized runs.device runs.running bytes.0 bytes.1)
    owed (Take v clears) bytes = taken v clears (may_take m v clears) refl

    pub fine : (c : Choice) → HasBytes c → IsFine task f c g gs (step task.flash task.assumptions m c)
    fine c bytes = fine_if task f c g gs (step task.flash task.assumptions m c) (λ n done. machines.step task m n c sized runs.running.machine bytes done) (owed c bytes)
