-- The frames of a machine's state: the running one, and those suspended by a call or an interrupt, the latest first. Source: own.
use Rattle.std.specs.Prelude.{ℕ, ◌+◌, ◌-◌, ◌≡◌, ◌<◌, ◌≤◌, ⊤, Bool, true, List, [], ◌∷◌, length, Some, Contains, slice_index}
use Rattle.avr_model.specs.Devices.{ramend, back_of, device_of}
use Rattle.avr_model.specs.Assumptions.{has_pairs}
use Rattle.avr_model.specs.Masks.{reads_masks}
use Rattle.avr_model.specs.declared.choice.Choice.{Choice}
use Rattle.avr_model.specs.declared.choice.Choice.TheVariants.{Go, Take}
use Rattle.avr_model.specs.Sreg.{flag}
use Rattle.avr_model.specs.State.{State, Memory, byte_in, is_live}
use Rattle.avr_model.specs.Effects.{back_bytes}
use Rattle.avr_model.specs.Step.{Answer, Illegal, Undefined, Overflow, Flagged, Done}
use Rattle.sp_domain.specs.declared.slots.Slot.{Slot}
use Rattle.sp_domain.specs.declared.slots.Slot.TheVariants.{Guarded}
use Rattle.sp_domain.specs.Tags.{Origin, LessHolds}
use Rattle.sp_domain.specs.Slots.{slot_at}
use Rattle.abs_state.specs.declared.state.AbsState.{AbsState}
use Rattle.abs_state.specs.declared.values.AbsByte.{AbsByte}
use Rattle.abs_state.specs.Frames.{entered}
use Rattle.abs_state.specs.PairsBack.{returned}
use Rattle.abs_state.specs.Laws.{HoldsAt}
use Rattle.abs_state.specs.Order.{IsStateWithin}
use Rattle.abs_state.specs.Stands.{RegistersStand, FlagsStand, SlotsStand}
use Rattle.node_keys.specs.declared.keys.InstKey.{InstKey}
use Rattle.node_keys.specs.declared.keys.EdgeKind.{EdgeKind}
use Rattle.node_keys.specs.declared.keys.EdgeKind.TheVariants as kind
use Rattle.node_keys.specs.declared.keys.SpForm.TheVariants.{Closed}
use Rattle.node_keys.specs.Keys.{root_inst, entry_key}
use Rattle.local_rules.specs.declared.local.Node.{Node}
use Rattle.local_rules.specs.declared.local.CallSite.{CallSite}
use Rattle.local_rules.specs.declared.local.Exit.{Exit}
use Rattle.local_rules.specs.Local.{joined_onto}
use Rattle.local_rules.specs.Cover.{InFrameIn}
use Rattle.local_rules.specs.Machine.{AreBanks}
use Rattle.edge_rules.specs.Edges.{IsFaultless, raw_of, Enters, called_inst, vector_inst, returned_key}
use Rattle.edge_rules.specs.Families.{RankedFamily}
use Rattle.edge_rules.specs.Roots.{root_of}
use Rattle.local_rules.specs.Site.{Task}

-- a node of the family, and the frame's origin: registers and status register at the entry, and its base
pub record Frame : Type 0 where
  pub node : Node
  pub origin : Origin

-- The frame is suspended by the entry of this instance with this origin, and what it needs later holds: its registers and flags are the
-- entry values of the next frame, and its own origin's RAMPZ and EIND hold no more than they can; its guarded slots are live and hold bytes of their values; its stack pointer was whole, and the next
-- base is as far below as a return address is long; the bytes between are live and hold the return address, the low byte at the highest
-- address; below that base the bound leaves room for the need of the entered instance.
pub record IsLeft (task : Task) (f : RankedFamily) (memory : Memory) (g : Frame) (inst : InstKey) (o : Origin) : Type 0 where
  pub present : Contains f.nodes g.node
  pub registers : RegistersStand g.origin g.node.state.registers o.registers
  pub flags : FlagsStand g.origin g.node.state.flags o.sreg
  pub less : LessHolds o.registers g.node.state.flags.carry (flag o.sreg 0)
  pub facts : HoldsAt g.node.state.facts o.registers o.sreg
  pub banks : AreBanks (device_of task.flash) g.origin.registers
  pub slots : SlotsStand g.origin memory g.node.state.slots
  pub offset : ℕ
  pub closed : g.node.key.sp ≡ Closed offset
  pub place : o.base + back_of (device_of task.flash) + offset ≡ g.origin.base
  pub way : EdgeKind
  pub back : ℕ
  pub enters : Enters task g.node way inst back
  pub need : (ramend (device_of task.flash) - o.base) + f.need_of inst ≤ f.bound
  pub bytes : (k : ℕ) → k < back_of (device_of task.flash)
      → byte_in memory.below memory.bytes (o.base + back_of (device_of task.flash) - k) ≡ slice_index (back_bytes (back_of (device_of task.flash)) back) k
  pub live : (k : ℕ) → k < back_of (device_of task.flash) → is_live memory (o.base + back_of (device_of task.flash) - k) ≡ true

-- the suspended frames below a frame of this instance and origin; the last one is the root's, or this one is
abbrev pub AreLeft : Task → RankedFamily → Memory → List Frame → InstKey → Origin → Type 0
AreLeft task f memory [] inst o = (inst ≡ root_inst) × (o.base ≡ ramend (device_of task.flash))
AreLeft task f memory (g ∷ gs) inst o = IsLeft task f memory g inst o × AreLeft task f memory gs g.node.key.inst g.origin

-- the machine has the image's device, and runs in the frame g, above the frames gs
pub record Runs (task : Task) (f : RankedFamily) (m : State) (g : Frame) (gs : List Frame) : Type 0 where
  pub device : m.device ≡ device_of task.flash
  pub present : Contains f.nodes g.node
  pub running : InFrameIn (has_pairs task.assumptions) (reads_masks (device_of task.flash) task.assumptions) m g.origin g.node.key g.node.state
  pub left : AreLeft task f m.memory gs g.node.key.inst g.origin

-- the machine has some frames
abbrev pub HasFrames : Task → RankedFamily → State → Type 0
HasFrames task f m = (g : Frame) × (gs : List Frame) × Runs task f m g gs

-- the machine has the root's frame alone, as after reset
pub record HasRootFrame (task : Task) (f : RankedFamily) (m : State) : Type 0 where
  pub state : AbsState
  pub runs : Runs task f m (record { node = record { key = entry_key root_inst; state = state }; origin = record { registers = m.registers; sreg = m.sreg; base = ramend (device_of task.flash) } }) []
  pub above : IsStateWithin (root_of task.assumptions) state

-- ---- one step

-- The frames after a step. An instruction moves the running frame along a local edge, adds the frame of a call, or removes it and moves
-- the one before along the return edge. An interrupt adds its frame. The new state is above that of the edge.
pub data Change (task : Task) (g : Frame) (gs : List Frame) : Choice → Frame → List Frame → Type 0 where
  moved : (b1 b2 : ℕ) (to : Node) (state : AbsState) → IsFaultless task g.node → Contains (joined_onto [] (raw_of task g.node).moves) to
      → IsStateWithin to.state state
      → Change task g gs (Go b1 b2) (record { node = record { key = to.key; state = state }; origin = g.origin }) gs
  called : (b1 b2 : ℕ) (site : CallSite) (state : AbsState) (o : Origin) → IsFaultless task g.node → Contains (raw_of task g.node).calls site
      → IsStateWithin (entered g.node.state) state
      → Change task g gs (Go b1 b2) (record { node = record { key = entry_key (called_inst g.node.key site.entry); state = state }; origin = o })
      (g ∷ gs)
  returned_to : (b1 b2 : ℕ) (h : Frame) (hs : List Frame) (way : EdgeKind) (back : ℕ) (x : Exit) (after state : AbsState) → gs ≡ h ∷ hs
      → Enters task h.node way g.node.key.inst back → IsFaultless task g.node → (raw_of task g.node).exit ≡ Some x
      → returned h.node.state g.node.state ≡ Some after → IsStateWithin after state
      → Change task g gs (Go b1 b2) (record { node = record { key = returned_key way h.node.key back x; state = state }; origin = h.origin }) hs
  interrupted : (v : ℕ) (clears : Bool) (state : AbsState) (o : Origin) → Enters task g.node (kind.Interrupt v clears) (vector_inst task.flash g.node.key v clears) g.node.key.pc
      → IsStateWithin (entered g.node.state) state
      → Change task g gs (Take v clears) (record { node = record { key = entry_key (vector_inst task.flash g.node.key v clears); state = state }; origin = o })
      (g ∷ gs)

-- the machine has frames that follow from these by one change
abbrev pub HasNext : Task → RankedFamily → Choice → Frame → List Frame → State → Type 0
HasNext task f c g gs m = (h : Frame) × (hs : List Frame) × Runs task f m h hs × Change task g gs c h hs

-- The answer of a step after which the machine still has frames: no undefined word, and no push outside SRAM.
abbrev pub IsFine : Task → RankedFamily → Choice → Frame → List Frame → Answer → Type 0
IsFine task f c g gs Illegal = ⊤
IsFine task f c g gs (Undefined pc) = ⊥
IsFine task f c g gs (Overflow pc) = ⊥
IsFine task f c g gs (Flagged flag) = ⊤
IsFine task f c g gs (Done m) = HasNext task f c g gs m

-- ---- what each kind of step does to the frames

-- the running frame moved along a local edge
pub record HasMoved (task : Task) (f : RankedFamily) (g : Frame) (gs : List Frame) (n : State) : Type 0 where
  pub to : Node
  pub member : Contains (joined_onto [] (raw_of task g.node).moves) to
  pub state : AbsState
  pub above : IsStateWithin to.state state
  pub runs : Runs task f n (record { node = record { key = to.key; state = state }; origin = g.origin }) gs

-- the frame of a called instance was added
pub record HasCalled (task : Task) (f : RankedFamily) (g : Frame) (gs : List Frame) (n : State) : Type 0 where
  pub site : CallSite
  pub member : Contains (raw_of task g.node).calls site
  pub state : AbsState
  pub above : IsStateWithin (entered g.node.state) state
  pub origin : Origin
  pub runs : Runs task f n (record { node = record { key = entry_key (called_inst g.node.key site.entry); state = state }; origin = origin }) (g ∷ gs)

-- the running frame was removed, and the one before went to the target of this exit
pub record HasReturned (task : Task) (f : RankedFamily) (g : Frame) (gs : List Frame) (n : State) : Type 0 where
  pub caller : Frame
  pub rest : List Frame
  pub frames : gs ≡ caller ∷ rest
  pub way : EdgeKind
  pub back : ℕ
  pub enters : Enters task caller.node way g.node.key.inst back
  pub exit : Exit
  pub leaves : (raw_of task g.node).exit ≡ Some exit
  pub after : AbsState
  pub returns : returned caller.node.state g.node.state ≡ Some after
  pub state : AbsState
  pub above : IsStateWithin after state
  pub runs : Runs task f n (record { node = record { key = returned_key way caller.node.key back exit; state = state }; origin = caller.origin }) rest

-- the frame of this interrupt was added
pub record HasInterrupted (task : Task) (f : RankedFamily) (g : Frame) (gs : List Frame) (v : ℕ) (clears : Bool) (n : State) : Type 0 where
  pub enters : Enters task g.node (kind.Interrupt v clears) (vector_inst task.flash g.node.key v clears) g.node.key.pc
  pub state : AbsState
  pub above : IsStateWithin (entered g.node.state) state
  pub origin : Origin
  pub runs : Runs task f n (record { node = record { key = entry_key (vector_inst task.flash g.node.key v clears); state = state }; origin = origin }) (g ∷ gs)

-- ---- the bytes that the frames stand for

-- the slot is guarded
abbrev pub IsGuarded : Slot AbsByte → Type 0
IsGuarded (Guarded v) = ⊤
IsGuarded s = ⊥

-- The address is a guarded slot of a suspended frame, or one of the `back` bytes of its return address.
pub data FramesHold (back : ℕ) : List Frame → Origin → ℕ → Type 0 where
  slot : (g : Frame) (gs : List Frame) (o : Origin) (d : ℕ) → d < length g.node.state.slots → IsGuarded (slot_at g.node.state.slots d)
      → FramesHold back (g ∷ gs) o (g.origin.base - d)
  way : (g : Frame) (gs : List Frame) (o : Origin) (k : ℕ) → k < back → FramesHold back (g ∷ gs) o (o.base + 1 + k)
  deeper : (g : Frame) (gs : List Frame) (o : Origin) (a : ℕ) → FramesHold back gs g.origin a → FramesHold back (g ∷ gs) o a
