-- The local part in terms of a step.
use Rattle.std.proofs.Common.{◌≡◌, ◌≢◌, refl, sym, ap₂, subst, ℕ, ◌<◌, ◌||◌, Bool, true, false, if◌then◌else◌, List, [], ◌∷◌, ◌++◌, Option, Some, None, Ok, Contains}
use Rattle.local_laws.proofs.Stays.{done_is}
use Rattle.avr_model.specs.Masks.{reads_masks}
use Rattle.avr_model.specs.declared.assumption.Entry.{Entry}
use Rattle.avr_model.specs.declared.choice.Flag.{Flag}
use Rattle.avr_model.specs.declared.effect.Effect.{Effect}
use Rattle.avr_model.specs.declared.instruction.Instr.{Instr}
use Rattle.avr_model.specs.Sites.{instruction_at}
use Rattle.avr_model.specs.Sreg.{flag}
use Rattle.avr_model.specs.State.{State}
use Rattle.avr_model.specs.Step.{Answer, Undefined, Overflow, Done, after, all_inside, live_write, protected_write, unlisted_transfer, refused_transfer, first_of, deep_call, moves_vectors, is_guarding, flag_by, flagged_or, is_refused, go}
use Rattle.avr_model.specs.Devices.{Image, device_of}
use Rattle.sp_domain.specs.Tags.{Origin}
use Rattle.abs_state.specs.declared.state.AbsState.{AbsState}
use Rattle.pair_domain.proofs.AllLaws.{known_is_ordered}
use Rattle.abs_state.proofs.AllLaws.{values_say_less}
use Rattle.node_keys.specs.declared.keys.NodeKey.{NodeKey}
use Rattle.local_rules.specs.declared.local.Node.{Node}
use Rattle.local_rules.specs.declared.local.NodeFault.{NodeFault}
use Rattle.local_rules.specs.declared.local.Local.{Local}
use Rattle.local_rules.specs.Raw.{Raw}
use Rattle.local_rules.specs.Local.{raw, joined_onto, settled, local}
use Rattle.local_rules.specs.Cover.{InFrameIn, IsNodeIn, IsWithinBase, CoversStep, ArrivesAt, Follows, stays, calls, leaves, effect_by, IsStep}
use Rattle.local_laws.specs.Laws.{JoinsAreLeast, LocalPartsAreNodes, AreNodesIn, StepsAreCovered}
use Rattle.local_laws.proofs.Covered.{local_parts_cover}
use Rattle.local_laws.proofs.Memory.{live_bytes_stay}
use Rattle.local_rules.specs.Site.{Task, masks_by}

-- ---- a local part that is there

-- the joined part of a raw part without faults
abbrev pub joined : Raw → Local
joined r = record { same = joined_onto [] r.moves; calls = r.calls; exit = r.exit }

settled_is : (r : Raw) (faults : List NodeFault) (l : Local) → settled r faults ≡ Ok l → (faults ≡ []) × (joined r ≡ l)
settled_is r [] l e = (refl, cc)
settled_is r (f ∷ fs) l e = absurd (cc)

local_is : (task : Task) (k : NodeKey) (s : AbsState) (l : Local) → local task k s ≡ Ok l → ((raw task k s).faults ≡ []) × (joined (raw task k s) ≡ l)
unfolding local
local_is task k s l e = settled_is (raw task k s) (raw task k s).faults l e

-- ---- a step that is done

-- there is no flag, and the state is the one after the effect
flags_none : (pc : ℕ) (live protected refused : Option ℕ) (moves : Bool) (m n : State) → flagged_or (flag_by pc live protected refused moves) m ≡ Done n
    → (live ≡ None) × ((protected ≡ None) × ((refused ≡ None) × (m ≡ n)))
flags_none pc (Some a) protected refused moves m n e = absurd (cc)
flags_none pc None (Some a) refused moves m n e = absurd (cc)
flags_none pc None None (Some t) moves m n e = absurd (cc)
flags_none pc None None None true m n e = absurd (cc)
flags_none pc None None None false m n e = (refl, (refl, (refl, done_is m n e)))

-- the step does not overflow
passes : (test : Bool) (a : Answer) (pc : ℕ) (n : State) → (if test then a else Overflow pc) ≡ Done n → (test ≡ true) × (a ≡ Done n)
passes true a pc n e = (refl, e)
passes false a pc n e = absurd (cc)

inside_if_let : (inside : Bool) (refused : Option ℕ) → (inside || is_refused refused) ≡ true → refused ≡ None → inside ≡ true
inside_if_let true refused h e = refl
inside_if_let false None h e = h
inside_if_let false (Some t) h e = absurd (cc)

-- a transfer that isn't refused is listed
listed_if_let : (image : Image) (A : List Entry) (m : State) (instr : Instr) (e : Effect) → refused_transfer image A m instr e ≡ None → unlisted_transfer A m.pc instr e ≡ None
unfolding refused_transfer
listed_if_let image A m instr e h = by (unlisted_transfer A m.pc instr e) h
  where
    by : (listed : Option ℕ) → first_of listed (deep_call image A m instr e) ≡ None → listed ≡ None
    by None is = refl
    by (Some t) is = absurd (cc)

flagged_defined : (flags : Option Flag) (m : State) (pc : ℕ) → flagged_or flags m ≢ Undefined pc
flagged_defined None m pc e = cc
flagged_defined (Some f) m pc e = cc

some_defined : (test : Bool) (flags : Option Flag) (m : State) (at pc : ℕ) → (if test then flagged_or flags m else Overflow at) ≢ Undefined pc
some_defined true flags m at pc e = flagged_defined flags m pc e
some_defined false flags m at pc e = cc

module _ {followed : Bool} (task : Task) (m : State) (o : Origin) (k : NodeKey) (s : AbsState) (b1 b2 : ℕ) (told : m.device ≡ device_of task.flash) (at : InFrameIn followed (reads_masks (device_of task.flash) task.assumptions) m o k s) (small1 : b1 < 256) (small2 : b2 < 256) where
  is_defined : (r : Raw) (found : Option Instr) (pc : ℕ) → CoversStep task m o k b1 b2 found r → r.faults ≡ [] → go task.flash task.assumptions m found b1 b2 ≢ Undefined pc
  is_defined r None pc covered none e = covered none
  is_defined r (Some instr) pc covered none e = some_defined _ _ _ m.pc pc e

  module _ (joins : JoinsAreLeast) (nodes : LocalPartsAreNodes) (none : (raw task k s).faults ≡ [])
      (within : (to : Node) → Contains (joined (raw task k s)).same to → IsWithinBase o.base to.key.sp) where
    are_nodes : AreNodesIn (device_of task.flash) followed (raw task k s).moves
    are_nodes to member = (nodes.nodes task k s to (subst (λ device. IsNodeIn device followed k s) told at.node) none member).1

    -- a raw successor is below a joined one, and the machine is there too
    lands_joined : (guarded : Bool) (e : Effect) (to : Node) → Contains (raw task k s).moves to → to.key.inst ≡ k.inst → ArrivesAt (reads_masks (device_of task.flash) task.assumptions) m o guarded e to
        → live_write m.memory (e.stores ++ e.pushes) ≡ None → all_inside m.device e.pushes ≡ true → IsStep (reads_masks (device_of task.flash) task.assumptions) m o k b1 b2 (joined (raw task k s)) (after m guarded e)
    lands_joined guarded e to member inst lands unhit inside =
        let above = joins.above (raw task k s).moves to are_nodes member in
        let whole : IsWithinBase o.base to.key.sp = within (record { key = to.key; state = above.state }) above.present in
        let kept = live_bytes_stay.kept m guarded e at.machine unhit in
        let n = after m guarded e in
        stays (record { key = to.key; state = above.state }) above.present inst (lands.place whole)
        (values_say_less.state o to.state above.state (after m guarded e) above.above (record { registers = lands.registers; flags = lands.flags; less = lands.less; slots = lands.slots whole inside kept }))
        (known_is_ordered.less to.state.facts above.state.facts n.registers (flag n.sreg 0) (flag n.sreg 1) (flag n.sreg 4) above.above.facts lands.facts)

    follows_steps : (guarded : Bool) (e : Effect) → live_write m.memory (e.stores ++ e.pushes) ≡ None → all_inside m.device e.pushes ≡ true
        → Follows (reads_masks (device_of task.flash) task.assumptions) m o k guarded b1 b2 e (raw task k s) → IsStep (reads_masks (device_of task.flash) task.assumptions) m o k b1 b2 (joined (raw task k s)) (after m guarded e)
    follows_steps guarded e unhit inside (stays to member inst lands) = lands_joined guarded e to member inst lands unhit inside
    follows_steps guarded e unhit inside (calls offset site member form guards is) = calls offset site member form (ap₂ (after m) guards is)
    follows_steps guarded e unhit inside (leaves x exit kind form returns) = leaves x guarded e exit kind form returns refl

    go_steps : (n : State) (found : Option Instr) → CoversStep task m o k b1 b2 found (raw task k s) → go task.flash task.assumptions m found b1 b2 ≡ Done n
        → IsStep (reads_masks (device_of task.flash) task.assumptions) m o k b1 b2 (joined (raw task k s)) n
    go_steps n None covered e = absurd (covered none)
    go_steps n (Some instr) covered e =
        let effect = effect_by task m instr b1 b2 in
        let refused = refused_transfer task.flash task.assumptions m instr effect in
        let guarded = is_guarding task.flash task.assumptions m.pc instr in
        let passed = passes (all_inside m.device effect.pushes || is_refused refused) _ m.pc n e in
        let unflagged = flags_none m.pc (live_write m.memory (effect.stores ++ effect.pushes)) (protected_write task.flash task.assumptions m.pc instr effect) refused
        (moves_vectors (device_of task.flash) (masks_by task) effect.stores) (after m guarded effect) n passed.1 in
        let inside = inside_if_let (all_inside m.device effect.pushes) refused passed.0 unflagged.1.1.0 in
        subst (IsStep (reads_masks (device_of task.flash) task.assumptions) m o k b1 b2 (joined (raw task k s))) unflagged.1.1.1
        (follows_steps guarded effect unflagged.0 inside
        (covered none (record { protected = unflagged.1.0; listed = listed_if_let task.flash task.assumptions m instr effect unflagged.1.1.0 })))

pub steps_are_covered : JoinsAreLeast → LocalPartsAreNodes → StepsAreCovered
steps_are_covered joins nodes = record {
  defined = λ task m o k s l b1 b2 pc are told at small1 small2 there.
      let here = local_is task k s l there in
      is_defined task m o k s b1 b2 told at small1 small2 (raw task k s) (instruction_at task.flash m.pc) pc (local_parts_cover.covered task m o k s b1 b2 are told at small1 small2) here.0;
  done = λ task m n o k s l b1 b2 are told at small1 small2 there within e.
      let here = local_is task k s l there in
      subst (λ x. IsStep (reads_masks (device_of task.flash) task.assumptions) m o k b1 b2 x n) here.1
      (go_steps task m o k s b1 b2 told at small1 small2 joins nodes here.0 (subst (λ x. (to : Node) → Contains x.same to → IsWithinBase o.base to.key.sp) (sym here.1) within)
      n (instruction_at task.flash m.pc) (local_parts_cover.covered task m o k s b1 b2 are told at small1 small2) e);
}
