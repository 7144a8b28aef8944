-- Every live byte is in a slot at which its frame's node may hold one, or in a return address; each step keeps this.
use Rattle.std.proofs.Common.{◌≡◌, refl, sym, ap, ◌∙◌, subst, ℕ, ◌+◌, ◌-◌, ◌<◌, ◌≤◌, Bool, true, false, List, [], ◌∷◌, length, Some, ⊎_elim, Contains, arith}
use Rattle.std.specs.Prelude.{⊤}
use Rattle.basics.specs.Items.{none_in}
use Rattle.avr_model.proofs.AllLaws.{devices_are_alike}
use Rattle.avr_model.specs.Devices.{ramend, back_of, device_of}
use Rattle.avr_model.specs.declared.choice.Choice.{Choice}
use Rattle.avr_model.specs.declared.choice.Choice.TheVariants.{Go, Take}
use Rattle.avr_model.specs.State.{State, Memory, is_live}
use Rattle.avr_model.specs.Step.{Done, step}
use Rattle.sp_domain.specs.Tags.{Origin}
use Rattle.abs_state.specs.declared.state.AbsState.{AbsState}
use Rattle.abs_state.specs.PairsBack.{returned}
use Rattle.node_keys.specs.declared.keys.InstKey.{InstKey}
use Rattle.node_keys.specs.declared.keys.NodeKey.{NodeKey}
use Rattle.node_keys.specs.declared.keys.EdgeKind.{EdgeKind}
use Rattle.node_keys.specs.declared.keys.EdgeKind.TheVariants as kind
use Rattle.node_keys.specs.declared.keys.High.{High}
use Rattle.node_keys.specs.declared.keys.SpForm.{SpForm}
use Rattle.node_keys.specs.declared.keys.SpForm.TheVariants.{Closed, Open}
use Rattle.node_keys.specs.Keys.{offset_of}
use Rattle.node_keys.specs.Place.{SpIs}
use Rattle.local_rules.specs.declared.local.Node.{Node}
use Rattle.local_rules.specs.declared.local.Exit.{Exit}
use Rattle.local_rules.specs.Local.{joined_onto}
use Rattle.local_rules.specs.Machine.{IsMachine}
use Rattle.local_laws.proofs.AllLaws.{joins_are_least, open_pairs_stay, above_if_live}
use Rattle.edge_rules.specs.declared.edge.Edge.{Edge}
use Rattle.edge_rules.specs.Edges.{raw_of, IsFaultless, Enters, by_call, by_interrupt, returned_key, IsEdge, moving, returning}
use Rattle.edge_rules.specs.Families.{RankedFamily, IsSoundFamily}
use Rattle.edge_rules.specs.Frames.{Frame, AreLeft, Runs, Change, moved, called, returned_to, interrupted}
use Rattle.clear_laws.specs.Held.{MayHold, kept, pushed}
use Rattle.clear_laws.proofs.Bases.{within}
use Rattle.clear_laws.proofs.Effects.{IsSpWhole}
use Rattle.clear_laws.proofs.Steps.{Fresh, ComesFrom, IsLiveAbove, comes_by_go, comes_by_take, is_above}
use Rattle.local_rules.specs.Site.{Task}

-- the frame's live slots may hold a live byte at its node
abbrev pub IsFrameHeld : Task → List Node → Memory → Frame → Type 0
IsFrameHeld task nodes memory g = (d : ℕ) → d < offset_of g.node.key.sp → is_live memory (g.origin.base - d) ≡ true → MayHold task nodes g.node.key d

abbrev pub AreFramesHeld : Task → List Node → Memory → List Frame → Type 0
AreFramesHeld task nodes memory [] = ⊤
AreFramesHeld task nodes memory (g ∷ gs) = IsFrameHeld task nodes memory g × AreFramesHeld task nodes memory gs

-- No byte is live below the running frame's slots, which lie within the bound; each suspended frame was so too.
pub record Holding (task : Task) (f : RankedFamily) (memory : Memory) (g : Frame) (gs : List Frame) : Type 0 where
  pub above : (a : ℕ) → is_live memory a ≡ true → g.origin.base < a + offset_of g.node.key.sp
  pub depth : ramend (device_of task.flash) + offset_of g.node.key.sp ≤ g.origin.base + f.bound
  pub running : IsFrameHeld task f.nodes memory g
  pub left : AreFramesHeld task f.nodes memory gs

pub whole_where_entered : {task : Task} {n : Node} {way : EdgeKind} {inst : InstKey} {back : ℕ} → Enters task n way inst back → IsSpWhole n.key.sp
whole_where_entered (by_call offset site faultless form member) = (offset, form)
whole_where_entered (by_interrupt offset v clears faultless form i delay enabled allowed clearable) = (offset, form)

nothing_moves : (moves : List Node) (to : Node) → moves ≡ [] → Contains (joined_onto [] moves) to → ⊥
nothing_moves moves to e h = let from = joins_are_least.keys moves to h in none_in from.0 (subst (λ (l : List Node). Contains l from.0) e from.1.0)

fits : (base sp a offset : ℕ) (is_open : Bool) (form : SpForm) → form ≡ Closed offset → SpIs base is_open sp form → (is_open ≡ false → sp < a) → base < a + offset
fits base sp a offset is_open form e is h = let at = subst (SpIs base is_open sp) e is in omega (arith, at.1, h at.0)

open_is : (base : ℕ) (is_open : Bool) (sp offset : ℕ) (h : High) (form : SpForm) → form ≡ Open offset h → SpIs base is_open sp form → is_open ≡ true
open_is base is_open sp offset h form e is = (subst (SpIs base is_open sp) e is).0

few_live : (n : State) → IsMachine n → n.memory.below + length n.memory.live < 33280
few_live n machine = omega (arith, machine.below, machine.count_live, devices_are_alike.most_ramend n.device)

module _ (task : Task) (f : RankedFamily) (sound : IsSoundFamily task f) where
  -- if the running frame's stack pointer is whole
  closed_above : (n : State) (h : Frame) (hs : List Frame) → Runs task f n h hs → IsLiveAbove n → IsSpWhole h.node.key.sp → (a : ℕ) → is_live n.memory a ≡ true
      → h.origin.base < a + offset_of h.node.key.sp
  closed_above n h hs next above form a live =
      let offset : offset_of h.node.key.sp ≡ form.0 = ap offset_of form.1 in
      omega (arith, offset, fits h.origin.base n.sp a form.0 n.is_open h.node.key.sp form.1 next.running.place.sp (λ closed. above closed a live))

  closed_depth : (n : State) (h : Frame) (hs : List Frame) → Runs task f n h hs → IsSpWhole h.node.key.sp
      → ramend (device_of task.flash) + offset_of h.node.key.sp ≤ h.origin.base + f.bound
  closed_depth n h hs next form =
      let offset : offset_of h.node.key.sp ≡ form.0 = ap offset_of form.1 in
      omega (arith, offset, within task f n.memory sound hs h.node.key.inst h.origin next.left, sound.offsets h.node form.0 next.present form.1)

  -- suspended frames keep this if no byte above the next return address became live
  left_held : (memory old new : Memory) (gs : List Frame) (inst : InstKey) (o : Origin) → AreLeft task f memory gs inst o
      → ((a : ℕ) → o.base + back_of (device_of task.flash) < a → is_live new a ≡ true → is_live old a ≡ true) → AreFramesHeld task f.nodes old gs → AreFramesHeld task f.nodes new gs
  left_held memory old new [] inst o left was held = tt
  left_held memory old new (g ∷ gs) inst o left was held =
      let offset : offset_of g.node.key.sp ≡ left.0.offset = ap offset_of left.0.closed in (
        λ d lt live. held.0 d lt (was (g.origin.base - d) (omega (arith, lt, offset, left.0.place)) live),
        left_held memory old new gs g.node.key.inst g.origin left.1 (λ a lt live. was a (omega (arith, lt, left.0.place)) live) held.1,
      )

  module _ (m n : State) (g : Frame) (gs : List Frame) (runs : Runs task f m g gs) (holds : Holding task f m.memory g gs) where
    -- what lies above the running frame's base is live only if it was
    was_above : (c : Choice) → ComesFrom task g m n c → (a : ℕ) → g.origin.base < a → is_live n.memory a ≡ true → is_live m.memory a ≡ true
    was_above c comes a lt live = ⊎_elim (λ l. l) (λ (new : Fresh task g n c a). absurd (omega (arith, lt, new.low))) (comes a live)

    -- a slot that was live is one of the running frame's
    slot_below : (d : ℕ) → is_live m.memory (g.origin.base - d) ≡ true → d < offset_of g.node.key.sp
    slot_below d live = omega (arith, holds.above (g.origin.base - d) live, above_if_live m.memory.below m.memory.live (g.origin.base - d) live)

    module _ (b1 b2 : ℕ) (to : Node) (state : AbsState) (faultless : IsFaultless task g.node) (member : Contains (joined_onto [] (raw_of task g.node).moves) to) where
      abbrev h : Frame
      h = record { node = record { key = to.key; state = state }; origin = g.origin }

      abbrev edge : Edge
      edge = record { kind = kind.Local; to = to.key; state = to.state }

      is_edge : IsEdge task f.nodes g.node edge
      is_edge = moving to faultless member

      -- a half-written stack pointer has the old offset
      offset_kept : (offset : ℕ) (high : High) → to.key.sp ≡ Open offset high → offset ≡ offset_of g.node.key.sp
      offset_kept offset high e =
          let from = joins_are_least.keys (raw_of task g.node).moves to member in
          open_pairs_stay.stays task g.node.key g.node.state from.0 offset high faultless from.1.0 (ap (λ (k : NodeKey). k.sp) from.1.1 ∙ e)

      -- a pushed byte is in the slot that this move adds
      new_slot : (d : ℕ) → Fresh task g n (Go b1 b2) (g.origin.base - d) → is_live n.memory (g.origin.base - d) ≡ true → MayHold task f.nodes to.key d
      new_slot d new live =
          let inside = above_if_live n.memory.below n.memory.live (g.origin.base - d) live in
          ⊎_elim
          (λ p.
          let same : offset_of g.node.key.sp ≡ d = omega (arith, p.1, inside, ap offset_of new.closed) in
          subst (MayHold task f.nodes to.key) same (pushed g.node edge runs.present is_edge refl p.0))
          (λ none. absurd (nothing_moves _ to none member))
          (new.which b1 b2 refl)

      slots_held : ComesFrom task g m n (Go b1 b2) → IsFrameHeld task f.nodes n.memory h
      slots_held comes d lt live =
          ⊎_elim (λ was. kept g.node edge d runs.present is_edge tt (holds.running d (slot_below d was) was) lt) (λ new. new_slot d new live) (comes (g.origin.base - d) live)

      above_moved : (form : SpForm) → to.key.sp ≡ form → Runs task f n h gs → IsLiveAbove n → ComesFrom task g m n (Go b1 b2) → (a : ℕ) → is_live n.memory a ≡ true
          → g.origin.base < a + offset_of to.key.sp
      above_moved (Closed offset) e next above comes a live = closed_above n h gs next above (offset, e) a live
      above_moved (Open offset high) e next above comes a live =
          let same : offset_of to.key.sp ≡ offset_of g.node.key.sp = ap offset_of e ∙ offset_kept offset high e in
          let is_open = open_is g.origin.base n.is_open n.sp offset high to.key.sp e next.running.place.sp in
          ⊎_elim (λ was. omega (arith, same, holds.above a was))
          (λ (new : Fresh task g n (Go b1 b2) a). absurd (let no : true ≡ false = sym is_open ∙ new.whole in cc)) (comes a live)

      depth_moved : (form : SpForm) → to.key.sp ≡ form → Runs task f n h gs → ramend (device_of task.flash) + offset_of to.key.sp ≤ g.origin.base + f.bound
      depth_moved (Closed offset) e next = closed_depth n h gs next (offset, e)
      depth_moved (Open offset high) e next =
          let same : offset_of to.key.sp ≡ offset_of g.node.key.sp = ap offset_of e ∙ offset_kept offset high e in
          omega (arith, same, holds.depth)

      after_move : Runs task f n h gs → IsLiveAbove n → ComesFrom task g m n (Go b1 b2) → Holding task f n.memory h gs
      after_move next above comes =
          record {
            above = above_moved to.key.sp refl next above comes;
            depth = depth_moved to.key.sp refl next;
            running = slots_held comes;
            left = left_held m.memory m.memory n.memory gs g.node.key.inst g.origin runs.left (λ a lt live. was_above (Go b1 b2) comes a (omega (arith, lt)) live) holds.left;
          }

    -- an entry: the new frame has no slots
    after_entry : (c : Choice) (h : Frame) → h.node.key.sp ≡ Closed 0 → Runs task f n h (g ∷ gs) → IsLiveAbove n → ComesFrom task g m n c → Holding task f n.memory h (g ∷ gs)
    after_entry c h form next above comes =
        let none : offset_of h.node.key.sp ≡ 0 = ap offset_of form in
        record {
          above = closed_above n h (g ∷ gs) next above (0, form);
          depth = closed_depth n h (g ∷ gs) next (0, form);
          running = λ d lt live. absurd (omega (arith, lt, none));
          left =
              left_held n.memory m.memory n.memory (g ∷ gs) h.node.key.inst h.origin next.left
              (λ a lt live. ⊎_elim (λ l. l)
              (λ (new : Fresh task g n c a). absurd (omega (arith, lt, new.low, next.left.0.place, ap offset_of next.left.0.closed, ap offset_of new.closed))) (comes a live))
              (holds.running, holds.left);
        }

    -- a return: the frame before has the slots that it had at the entry
    module _ (b1 b2 : ℕ) (h : Frame) (hs : List Frame) (way : EdgeKind) (back : ℕ) (x : Exit) (after state : AbsState) (frames : gs ≡ h ∷ hs)
        (enters : Enters task h.node way g.node.key.inst back) (faultless : IsFaultless task g.node) (exit : (raw_of task g.node).exit ≡ Some x)
        (returns : returned h.node.state g.node.state ≡ Some after) where
      abbrev to : Frame
      to = record { node = record { key = returned_key way h.node.key back x; state = state }; origin = h.origin }

      is_left : AreLeft task f m.memory (h ∷ hs) g.node.key.inst g.origin
      is_left = subst (λ fs. AreLeft task f m.memory fs g.node.key.inst g.origin) frames runs.left

      were_held : AreFramesHeld task f.nodes m.memory (h ∷ hs)
      were_held = subst (AreFramesHeld task f.nodes m.memory) frames holds.left

      after_return : Runs task f n to hs → IsLiveAbove n → ComesFrom task g m n (Go b1 b2) → Holding task f n.memory to hs
      after_return next above comes =
          let left = is_left in
          let offset : offset_of h.node.key.sp ≡ left.0.offset = ap offset_of left.0.closed in
          let edge = returning way g.node.key.inst back g.node x after enters runs.present refl faultless exit returns in
          record {
            above = closed_above n to hs next above (left.0.offset, left.0.closed);
            depth = closed_depth n to hs next (left.0.offset, left.0.closed);
            running = λ d lt live.
                kept h.node _ d left.0.present edge tt
                (were_held.0 d lt (was_above (Go b1 b2) comes (h.origin.base - d) (omega (arith, lt, offset, left.0.place)) live)) lt;
            left = left_held m.memory m.memory n.memory hs h.node.key.inst h.origin left.1 (λ a lt live. was_above (Go b1 b2) comes a (omega (arith, lt, left.0.place)) live) were_held.1;
          }

    -- each change of the frames
    holding_after : (c : Choice) (h : Frame) (hs : List Frame) → Runs task f n h hs → Change task g gs c h hs → IsLiveAbove n → ComesFrom task g m n c → Holding task f n.memory h hs
    holding_after _ _ _ next (moved b1 b2 to state faultless member over) above comes = after_move b1 b2 to state faultless member next above comes
    holding_after _ _ _ next (called b1 b2 site state o faultless member over) above comes = after_entry (Go b1 b2) _ refl next above comes
    holding_after _ _ _ next (interrupted v clears state o enters over) above comes = after_entry (Take v clears) _ refl next above comes
    holding_after _ _ _ next (returned_to b1 b2 h hs way back x after state frames enters faultless exit returns over) above comes =
        after_return b1 b2 h hs way back x after state frames enters faultless exit returns next above comes

    whole_at_take : (v : ℕ) (clears : Bool) (h : Frame) (hs : List Frame) → Change task g gs (Take v clears) h hs → IsSpWhole g.node.key.sp
    whole_at_take _ _ _ _ (interrupted v clears state o enters over) = whole_where_entered enters

    comes : (few : n.memory.below + length n.memory.live < 33280) (c : Choice) (h : Frame) (hs : List Frame) → Change task g gs c h hs → step task.flash task.assumptions m c ≡ Done n → ComesFrom task g m n c
    comes few (Go b1 b2) h hs change e = comes_by_go task f sound m n few g gs runs b1 b2 e
    comes few (Take v clears) h hs change e = comes_by_take task f sound m n few g gs runs v clears e (whole_at_take v clears h hs change)

    -- a step keeps the invariant of live bytes
    pub step_holds : (c : Choice) (h : Frame) (hs : List Frame) → step task.flash task.assumptions m c ≡ Done n → Runs task f n h hs → Change task g gs c h hs → Holding task f n.memory h hs
    step_holds c h hs e next change =
        let few = few_live n next.running.machine in
        holding_after c h hs next change (is_above task f sound m n few g gs runs c e) (comes few c h hs change e)
