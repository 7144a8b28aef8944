-- The slots that may hold a live byte are the least map that the rules preserve.
use Rattle.std.proofs.Common.{◌≡◌, refl, subst, ℕ, ◌+◌, ◌<◌, ◌||◌, Bool, true, false, if◌then◌else◌, nat_le, List, [], Option, Some, None, Contains, arith}
use Rattle.basics.specs.Booleans.{left_of_and}
use Rattle.basics.specs.Items.{none_in, each_of_join}
use Rattle.avr_model.specs.declared.device.Device.{Device}
use Rattle.avr_model.specs.declared.instruction.Instr.{Instr}
use Rattle.avr_model.specs.declared.instruction.Instr.TheVariants as i
use Rattle.avr_model.specs.Devices.{Image, size_of, device_of}
use Rattle.avr_model.specs.Marks.{marks}
use Rattle.avr_model.specs.Sites.{instruction_at, is_scratch, adds_low}
use Rattle.pair_domain.specs.declared.facts.PairFacts.{PairFacts}
use Rattle.abs_state.specs.declared.state.AbsState.{AbsState}
use Rattle.pair_rules.specs.Refined.{refined}
use Rattle.node_keys.specs.declared.keys.NodeKey.{NodeKey}
use Rattle.node_keys.specs.declared.keys.InstKey.{InstKey}
use Rattle.node_keys.specs.declared.keys.EdgeKind.{EdgeKind}
use Rattle.node_keys.specs.declared.keys.EdgeKind.TheVariants as kind
use Rattle.node_keys.specs.declared.keys.SpForm.{SpForm}
use Rattle.node_keys.specs.declared.keys.SpForm.TheVariants.{Closed, Open}
use Rattle.node_keys.specs.Keys.{offset_of}
use Rattle.local_rules.specs.declared.local.Node.{Node}
use Rattle.local_rules.specs.Raw.{Raw, one}
use Rattle.local_rules.specs.Registers.{before}
use Rattle.local_rules.specs.Flow.{at_closed, pushing}
use Rattle.local_rules.specs.Local.{row_of, row_by, plain_row, refining}
use Rattle.local_rules.specs.HighBytes.{SpView, view_of}
use Rattle.local_rules.specs.Settling.{node_where, settled_state, settling}
use Rattle.local_laws.proofs.AllLaws.{joins_are_least, each_of}
use Rattle.edge_rules.specs.declared.edge.Edge.{Edge}
use Rattle.edge_rules.specs.Edges.{raw_of, IsFaultless, IsEdge, moving, entering, returning, Enters, by_call, by_interrupt}
use Rattle.avr_model.specs.Assumptions.{has_scratch}
use Rattle.avr_model.specs.Step.{is_push}
use Rattle.clear_laws.specs.Held.{MayHold, kept, pushed, IsMapClosed, pushes_register, is_guarded_push}
use Rattle.clear_laws.specs.StepLaws.{HeldSlotsAreLeast}
use Rattle.clear_laws.proofs.Rows.{row_by_unless_added}
use Rattle.local_rules.specs.Site.{Task, site_at}

module _ (task : Task) (nodes : List Node) where
  least : (may : NodeKey → ℕ → Bool) → IsMapClosed task nodes may → (k : NodeKey) (d : ℕ) → MayHold task nodes k d → may k d ≡ true
  least may closed _ _ (kept n e d member edge stays held lt) = closed.keeps n e d member edge stays (least may closed n.key d held) lt
  least may closed _ _ (pushed n e member edge is push) = closed.pushes n e member edge is push

-- ---- a push leads above its offset

abbrev AllAbove : ℕ → Raw → Type 0
AllAbove offset r = (to : Node) → Contains r.moves to → offset < offset_of to.key.sp

one_above : (offset : ℕ) (k : NodeKey) (s : AbsState) → offset < offset_of k.sp → AllAbove offset (one k s)
one_above offset k s lt = each_of (λ (to : Node). offset < offset_of to.key.sp) (record { key = k; state = s }) [] lt (λ to h. absurd (none_in to h))

if_above : (b : Bool) (offset : ℕ) (r q : Raw) → AllAbove offset r → AllAbove offset q → AllAbove offset (if b then r else q)
if_above true offset r q h g = h
if_above false offset r q h g = g

push_above : (device : Device) (scratch : Bool) (k : NodeKey) (s : AbsState) (r : ℕ) (sp : SpForm) → AllAbove (offset_of sp) (at_closed sp k.pc (pushing scratch (site_at device k s) r))
push_above device scratch k s r (Closed offset) =
    if_above (nat_le (offset + 1) (size_of device)) offset _ _ (one_above offset _ _ (omega arith)) (λ to h. absurd (none_in to h))
push_above device scratch k s r (Open offset high) = λ to h. absurd (none_in to h)

push_adds_none : (instr : Instr) → is_push instr ≡ true → adds_low instr ≡ false
push_adds_none (i.Push r) push = refl
push_adds_none _ push = absurd (cc)

row_above : (device : Device) (task : Task) (scratch : Bool) (k : NodeKey) (s : AbsState) (instr : Instr) → is_push instr ≡ true
    → AllAbove (offset_of k.sp) (row_of task scratch (site_at device k s) instr)
row_above device task scratch k s (i.Push r) push = push_above device (scratch || has_scratch task.assumptions k.pc) k s r k.sp
row_above device task scratch k s _ push = absurd (cc)

-- with pairs, refined successors have the same keys
where_above : (offset : ℕ) (k : NodeKey) (x : Option AbsState) → offset < offset_of k.sp → (to : Node) → Contains (node_where k x) to → offset < offset_of to.key.sp
where_above offset k None lt to h = absurd (none_in to h)
where_above offset k (Some s) lt to h = one_above offset k s lt to h

refined_above : (image : Image) (instr : Instr) (s : AbsState) (offset : ℕ) (r : Raw) → AllAbove offset r → AllAbove offset (refining image instr s r)
refined_above image instr s offset r h =
    each_of_join (λ (n : Node). node_where n.key (refined (marks image) image instr s n.state)) (λ (to : Node). offset < offset_of to.key.sp) r.moves
    (λ n to i j. where_above offset n.key (refined (marks image) image instr s n.state) (h n i) to j)

settled_above : (view : SpView) (offset : ℕ) (r : Raw) → AllAbove offset r → AllAbove offset (settling view r)
settled_above view offset r h =
    each_of_join (λ (n : Node). node_where n.key (settled_state view n.state)) (λ (to : Node). offset < offset_of to.key.sp) r.moves
    (λ n to i j. where_above offset n.key (settled_state view n.state) (h n i) to j)

row_by_above : (device : Device) (task : Task) (scratch : Bool) (k : NodeKey) (s : AbsState) (facts : Option PairFacts) (instr : Instr) → is_push instr ≡ true
    → AllAbove (offset_of k.sp) (row_by facts task scratch (site_at device k s) instr)
row_by_above device task scratch k s None instr push =
    settled_above (view_of (site_at device k s)) (offset_of k.sp) (row_of task scratch (site_at device k (before instr s)) instr)
    (row_above device task scratch k (before instr s) instr push)
row_by_above device task scratch k s (Some f) (i.Push r) push =
    refined_above task.flash (i.Push r) s (offset_of k.sp) (plain_row task scratch (site_at device k s) (i.Push r))
    (settled_above (view_of (site_at device k s)) (offset_of k.sp) (row_of task scratch (site_at device k (before (i.Push r) s)) (i.Push r))
    (row_above device task scratch k (before (i.Push r) s) (i.Push r) push))
row_by_above device task scratch k s (Some f) _ push = absurd (cc)

raw_above : (task : Task) (n : Node) (x : Option Instr) → instruction_at task.flash n.key.pc ≡ x → pushes_register x ≡ true → IsFaultless task n
    → AllAbove (offset_of n.key.sp) (raw_of task n)
raw_above task n None is push clean = absurd (cc)
raw_above task n (Some instr) is push clean =
    λ to member.
    let row = row_by_unless_added task n.key n.state instr is clean (push_adds_none instr push) in
    row_by_above (device_of task.flash) task (is_scratch task.flash n.key.pc) n.key n.state n.state.facts instr push to
    (subst (λ (l : List Node). Contains l to) row.moves member)

not_local : {task : Task} {n : Node} {way : EdgeKind} {inst : InstKey} {back : ℕ} → Enters task n way inst back → way ≡ kind.Local → ⊥
not_local (by_call offset site faultless form member) = λ e. cc
not_local (by_interrupt offset v clears faultless form i delay enabled allowed clearable) = λ e. cc

module _ (task : Task) (nodes : List Node) where
  pushed_below : (n : Node) (e : Edge) → is_guarded_push task n.key.pc ≡ true → IsEdge task nodes n e → e.kind ≡ kind.Local → offset_of n.key.sp < offset_of e.to.sp
  pushed_below n _ push (moving to faultless member) is =
      let from = joins_are_least.keys (raw_of task n).moves to member in
      subst (λ (k : NodeKey). offset_of n.key.sp < offset_of k.sp) from.1.1
      (raw_above task n (instruction_at task.flash n.key.pc) refl (left_of_and _ _ push) faultless from.0 from.1.0)
  pushed_below n _ push (entering way inst back enters) is = absurd (not_local enters is)
  pushed_below n _ push (returning way inst back leaver x state enters present same faultless exit after) is = absurd (cc)

  below : (k : NodeKey) (d : ℕ) → MayHold task nodes k d → d < offset_of k.sp
  below _ _ (kept n e d member edge stays held lt) = lt
  below _ _ (pushed n e member edge is push) = pushed_below n e push edge is

pub held_slots_are_least : HeldSlotsAreLeast
held_slots_are_least =
    record {
      least = λ task nodes may k d closed. least task nodes may closed k d;
      below = below;
    }
