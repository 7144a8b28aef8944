-- Laws of the local part of a node.
use Rattle.std.specs.Prelude.{ℕ, Some, None, Ok, Bool, true, false, ◌≢◌, ◌≡◌, ◌<◌, List, [], ◌++◌, map, Contains, ◌≤◌}
use Rattle.std.specs.List.Sorted.{IsStrictlySortedBy}
use Rattle.std.specs.Ordering.{nat_cmp}
use Rattle.avr_model.specs.Devices.{device_of, words_of, size_of}
use Rattle.avr_model.specs.declared.device.Device.{Device}
use Rattle.avr_model.specs.declared.assumption.Entry.{Entry}
use Rattle.avr_model.specs.Assumptions.{is_never}
use Rattle.avr_model.specs.Masks.{reads_masks}
use Rattle.avr_model.specs.Sites.{instruction_at}
use Rattle.avr_model.specs.State.{State, IsReset}
use Rattle.avr_model.specs.Vectors.{is_enabled, vector_word}
use Rattle.sp_domain.specs.Tags.{Origin}
use Rattle.abs_state.specs.declared.state.AbsState.{AbsState}
use Rattle.abs_state.specs.Order.{IsStateWithin}
use Rattle.vector_table.specs.Entries.{AreEntries}
use Rattle.node_keys.specs.declared.keys.NodeKey.{NodeKey}
use Rattle.node_keys.specs.declared.keys.High.{High}
use Rattle.node_keys.specs.declared.keys.SpForm.TheVariants.{Closed, Open}
use Rattle.node_keys.specs.Keys.{offset_of}
use Rattle.node_keys.specs.Order.{node_cmp}
use Rattle.local_rules.specs.declared.local.CallSite.{CallSite}
use Rattle.local_rules.specs.declared.local.Exit.{Exit}
use Rattle.local_rules.specs.declared.local.Node.{Node}
use Rattle.local_rules.specs.Raw.{Raw}
use Rattle.local_rules.specs.Local.{is_hung, raw, joined_onto, local}
use Rattle.local_rules.specs.Cover.{InFrameIn, IsNodeIn, CoversStep, IsWithinBase, IsStep}
use Rattle.local_rules.specs.Machine.{IsMachine, AreWords, floor_of}
use Rattle.local_rules.specs.declared.local.Local.{Local}
use Rattle.abs_state.specs.Laws.{Keeps}
use Rattle.avr_model.specs.declared.choice.Choice.{Choice}
use Rattle.avr_model.specs.declared.choice.Choice.TheVariants.{Go}
use Rattle.avr_model.specs.declared.effect.Effect.{Effect}
use Rattle.avr_model.specs.Run.{HasBytes}
use Rattle.avr_model.specs.Step.{step, Done, Undefined, after, live_write}
use Rattle.local_rules.specs.Order.{IsBelowOne, IsBelow}
use Rattle.local_rules.specs.Site.{Task}

-- The local part of a node covers each step of the machine at the node, with flash of its device, whose words have 16 bits.
pub record LocalPartsCover : Type 0 where
  pub covered : {followed : Bool} (task : Task) (m : State) (o : Origin) (k : NodeKey) (s : AbsState) (b1 b2 : ℕ) → AreWords task.flash → m.device ≡ device_of task.flash
      → InFrameIn followed (reads_masks (device_of task.flash) task.assumptions) m o k s → b1 < 256 → b2 < 256 → CoversStep task m o k b1 b2 (instruction_at task.flash m.pc) (raw task k s)

-- each joined successor is below one of the same key, calls are among the others' calls, and the return is the same
pub record IsLocalWithin (l m : Local) : Type 0 where
  pub same : (to : Node) → Contains l.same to → IsBelowOne m.same to
  pub calls : (site : CallSite) → Contains l.calls site → Contains m.calls site
  pub exit : l.exit ≡ m.exit

-- the local part of the node exists, and is within m
pub record LeadsWithin (task : Task) (k : NodeKey) (s : AbsState) (m : Local) : Type 0 where
  pub part : Local
  pub leads : local task k s ≡ Ok part
  pub within : IsLocalWithin part m

-- The local part is monotone in the state, also after successors of one key are joined.
pub record LocalPartsAreMonotone : Type 0 where
  pub below : {followed : Bool} (task : Task) (k : NodeKey) (s t : AbsState) → IsNodeIn (device_of task.flash) followed k s
      → IsNodeIn (device_of task.flash) followed k t → IsStateWithin s t
      → IsBelow (raw task k s) (raw task k t)
  pub joined : {followed : Bool} (task : Task) (k : NodeKey) (s t : AbsState) (m : Local) → IsNodeIn (device_of task.flash) followed k s
      → IsNodeIn (device_of task.flash) followed k t → IsStateWithin s t
      → local task k t ≡ Ok m → LeadsWithin task k s m

-- Calls enter words of the device's flash and return to such words. A return is at the frame's base, and keeps the enable bits.
pub record LeadsToWords (device : Device) (k : NodeKey) (r : Raw) : Type 0 where
  pub calls : (site : CallSite) → Contains r.calls site → (site.entry < words_of device) × (site.back < words_of device)
  pub exit : (x : Exit) → r.exit ≡ Some x → (k.sp ≡ Closed 0) × (x.masks ≡ k.masks)

-- calls ascend strictly by entry
abbrev pub AscendByEntry : List CallSite → Type 0
AscendByEntry sites = IsStrictlySortedBy nat_cmp (map (λ (site : CallSite). site.entry) sites)

-- Words and offsets of calls and returns fit their types. For a valid assumption list calls ascend. A node without a fault lies in the
-- device's flash, and its offset in the SRAM.
pub record LocalPartsFit : Type 0 where
  pub fit : (task : Task) (k : NodeKey) (s : AbsState) → LeadsToWords (device_of task.flash) k (raw task k s)
  pub ascending : (task : Task) (k : NodeKey) (s : AbsState) → AreEntries task.assumptions → AscendByEntry (raw task k s).calls
  pub inside : (task : Task) (k : NodeKey) (s : AbsState) → (raw task k s).faults ≡ []
      → (k.pc < words_of (device_of task.flash)) × (offset_of k.sp ≤ size_of (device_of task.flash))

-- Successors of a node of the analysis are nodes of the analysis, in the same instance.
pub record LocalPartsAreNodes : Type 0 where
  pub nodes : {followed : Bool} (task : Task) (k : NodeKey) (s : AbsState) (to : Node) → IsNodeIn (device_of task.flash) followed k s → (raw task k s).faults ≡ []
      → Contains (raw task k s).moves to → (to.key.inst ≡ k.inst) × IsNodeIn (device_of task.flash) followed to.key to.state

-- If the stack pointer is half written after an instruction, its offset is that before the instruction.
pub record OpenPairsStay : Type 0 where
  pub stays : (task : Task) (k : NodeKey) (s : AbsState) (to : Node) (offset : ℕ) (high : High) → (raw task k s).faults ≡ []
      → Contains (raw task k s).moves to → to.key.sp ≡ Open offset high → offset ≡ offset_of k.sp

-- some node of the list has this key
abbrev pub HasKey : List Node → NodeKey → Type 0
HasKey nodes k = (n : Node) × (Contains nodes n × (n.key ≡ k))

-- all are nodes of the analysis of the device
abbrev pub AreNodesIn : Device → Bool → List Node → Type 0
AreNodesIn device followed nodes = (n : Node) → Contains nodes n → IsNodeIn device followed n.key n.state

-- Joined successors ascend strictly by key. Each raw one is below the one of its key, which is the least upper bound.
pub record JoinsAreLeast : Type 0 where
  pub ascending : (nodes : List Node) → IsStrictlySortedBy node_cmp (map (λ n. n.key) (joined_onto [] nodes))
  pub nodes : {device : Device} {followed : Bool} (nodes : List Node) → AreNodesIn device followed nodes → AreNodesIn device followed (joined_onto [] nodes)
  pub above : {device : Device} {followed : Bool} (nodes : List Node) (n : Node) → AreNodesIn device followed nodes → Contains nodes n → IsBelowOne (joined_onto [] nodes) n
  pub keys : (nodes : List Node) (n : Node) → Contains (joined_onto [] nodes) n → HasKey nodes n.key
  pub least : {device : Device} {followed : Bool} (nodes : List Node) (n : Node) (t : AbsState) → AreNodesIn device followed nodes → Contains (joined_onto [] nodes) n
      → ((raw : Node) → Contains nodes raw → raw.key ≡ n.key → IsStateWithin raw.state t) → IsStateWithin n.state t

-- A reset state is a machine's state, and so is each state after a step that is done.
pub record MachinesStay : Type 0 where
  pub reset : (device : Device) (m : State) → IsReset device m → IsMachine m
  pub step : (task : Task) (m n : State) (c : Choice) → AreWords task.flash → IsMachine m → HasBytes c → step task.flash task.assumptions m c ≡ Done n
      → IsMachine n

-- An effect that writes no live byte keeps the live bytes above the stack pointer.
pub record LiveBytesStay : Type 0 where
  pub kept : (m : State) (guarded : Bool) (e : Effect) → IsMachine m → live_write m.memory (e.stores ++ e.pushes) ≡ None
      → Keeps m.memory (after m guarded e).memory (floor_of (after m guarded e).is_open (after m guarded e).sp)

-- An open stack pointer is a fault if an interrupt may be taken: I is set, no delay is due, and an enabled vector's word has no `never`
-- line.
pub record OpenPairsHang : Type 0 where
  pub hung : (device : Device) (A : List Entry) (k : NodeKey) (v offset : ℕ) (high : High) → k.i ≡ true → k.delay ≡ false → is_enabled device k.masks v ≡ true
      → is_never A (vector_word device v) ≡ false → is_hung device A k (Open offset high) ≡ true

-- The local part in terms of a step: without a fault no step is undefined, and a step that is done is covered. No closed successor may
-- lie deeper than the base.
pub record StepsAreCovered : Type 0 where
  pub defined : {followed : Bool} (task : Task) (m : State) (o : Origin) (k : NodeKey) (s : AbsState) (l : Local) (b1 b2 pc : ℕ)
      → AreWords task.flash → m.device ≡ device_of task.flash → InFrameIn followed (reads_masks (device_of task.flash) task.assumptions) m o k s → b1 < 256 → b2 < 256 → local task k s ≡ Ok l → step task.flash task.assumptions m (Go b1 b2) ≢ Undefined pc
  pub done : {followed : Bool} (task : Task) (m n : State) (o : Origin) (k : NodeKey) (s : AbsState) (l : Local) (b1 b2 : ℕ)
      → AreWords task.flash → m.device ≡ device_of task.flash → InFrameIn followed (reads_masks (device_of task.flash) task.assumptions) m o k s → b1 < 256 → b2 < 256 → local task k s ≡ Ok l
      → ((to : Node) → Contains l.same to → IsWithinBase o.base to.key.sp)
      → step task.flash task.assumptions m (Go b1 b2) ≡ Done n → IsStep (reads_masks (device_of task.flash) task.assumptions) m o k b1 b2 l n
