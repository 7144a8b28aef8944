-- A node's local part covers a step of the machine in the node's frame.
use Rattle.std.specs.Prelude.{ℕ, ◌+◌, ◌^◌, ◌%◌, ◌≡◌, ◌≢◌, ◌<◌, ◌≤◌, ⊤, Bool, true, false, [], Option, Some, None, Contains}
use Rattle.avr_model.specs.declared.device.Device.{Device}
use Rattle.avr_model.specs.declared.effect.Effect.{Effect}
use Rattle.avr_model.specs.declared.instruction.Instr.{Instr}
use Rattle.avr_model.specs.Devices.{io_end, size_of, ramend, wrapped, limit_of, depth_of, back_of, has_sph}
use Rattle.avr_model.specs.Sreg.{flag}
use Rattle.avr_model.specs.Vectors.{enable_count}
use Rattle.avr_model.specs.State.{State, plus_sp}
use Rattle.avr_model.specs.Effects.{effect_of, calling, popped_word}
use Rattle.avr_model.specs.Step.{after, all_inside, protected_write, unlisted_transfer, is_guarding}
use Rattle.sp_domain.specs.Tags.{Origin, LessHolds, HasByteNumbers}
use Rattle.pair_domain.specs.Facts.{is_followed}
use Rattle.abs_state.specs.declared.state.AbsState.{AbsState}
use Rattle.abs_state.specs.Stands.{RegistersStand, FlagsStand, SlotsStand, Stands}
use Rattle.abs_state.specs.Laws.{Keeps, HoldsAt}
use Rattle.abs_state.specs.Hulls.{IsInHulls}
use Rattle.abs_state.specs.Formed.{IsFormed, IsUntagged}
use Rattle.abs_state.specs.Banks.{IsStateOf}
pub use Rattle.abs_state.specs.Formed.{TagFits, SlotFits, TagsFit}
use Rattle.node_keys.specs.declared.keys.NodeKey.{NodeKey}
use Rattle.node_keys.specs.declared.keys.Kind.{Kind}
use Rattle.node_keys.specs.declared.keys.Kind.TheVariants.{Root, Call, Vector}
use Rattle.node_keys.specs.declared.keys.High.{High}
use Rattle.node_keys.specs.declared.keys.High.TheVariants.{Known, Tag}
use Rattle.node_keys.specs.declared.keys.SpForm.{SpForm}
use Rattle.node_keys.specs.declared.keys.SpForm.TheVariants.{Closed, Open}
use Rattle.node_keys.specs.Keys.{offset_of, is_root, PickFits}
use Rattle.node_keys.specs.Place.{EnablesAre, AtNode}
use Rattle.local_rules.specs.Site.{Task, masks_by}
use Rattle.local_rules.specs.declared.local.Node.{Node}
use Rattle.local_rules.specs.declared.local.Local.{Local}
use Rattle.local_rules.specs.declared.local.CallSite.{CallSite}
use Rattle.local_rules.specs.declared.local.Exit.{Exit}
use Rattle.local_rules.specs.Machine.{IsMachine, AreBanks, floor_of}
use Rattle.local_rules.specs.Raw.{Raw}

-- ---- nodes that the analysis works with

abbrev pub HighFitsKind : Kind → High → Type 0
HighFitsKind Root (Known h) = h < 256
HighFitsKind Root (Tag k) = ⊥
HighFitsKind Call (Known h) = ⊥
HighFitsKind Call (Tag k) = k < 65536
HighFitsKind (Vector v) (Known h) = ⊥
HighFitsKind (Vector v) (Tag k) = k < 65536

abbrev pub FormFitsKind : Device → Kind → SpForm → Type 0
FormFitsKind device kind (Closed offset) = ⊤
FormFitsKind device kind (Open offset h) = (has_sph device ≡ true) × HighFitsKind kind h

-- a half-written stack pointer: there is SPH, and in the root its high byte is known, elsewhere it has a tag
abbrev pub FormFits : Device → NodeKey → Type 0
FormFits device k = FormFitsKind device k.inst.kind k.sp

-- The parts of a key are in range for the device: a word address and an offset that its texts admit, an enable bit for each vector, a form
-- that the instance's kind permits, and a byte if one is picked.
pub record IsKey (device : Device) (k : NodeKey) : Type 0 where
  pub word : k.pc < limit_of device
  pub small : offset_of k.sp ≤ depth_of device
  pub masks : k.masks < 2 ^ enable_count device
  pub fits : FormFits device k
  pub pick : PickFits k.pick

-- A node of the analysis of a device: its key is in range, its state is formed for the key's offset, numbers in tags are in range, and in
-- the root no byte is tagged. Tags, RAMPZ and EIND are those of the device. It follows pairs or doesn't, as `followed` says, and each
-- interval lies in the hull of its registers.
pub record IsNodeIn (device : Device) (followed : Bool) (k : NodeKey) (s : AbsState) : Type 0 where
  pub word : k.pc < limit_of device
  pub small : offset_of k.sp ≤ depth_of device
  pub masks : k.masks < 2 ^ enable_count device
  pub fits : FormFits device k
  pub pick : PickFits k.pick
  pub formed : IsFormed s (offset_of k.sp)
  pub tags : TagsFit s
  pub carry_bytes : HasByteNumbers s.flags.carry
  pub untagged : k.inst.kind ≡ Root → IsUntagged s
  pub registers_of : IsStateOf device (is_root k.inst.kind) s
  pub mode : is_followed s.facts ≡ followed
  pub hulls : IsInHulls s

-- a node of an analysis that doesn't follow pairs
abbrev pub IsNode : Device → NodeKey → AbsState → Type 0
IsNode device k s = IsNodeIn device false k s

-- ---- where the machine is

-- The machine is at the node in a frame with this origin, and the state and its facts on pairs hold. The base of the root's frame is the
-- top of the device's SRAM, and no base is above it. If `may`, the frame's slots lie in SRAM or above it, so none is an enable bit. The
-- origin's RAMPZ and EIND hold no more than they can, so their entry tags survive the cut of a write.
pub record InFrameIn (followed may : Bool) (m : State) (o : Origin) (k : NodeKey) (s : AbsState) : Type 0 where
  pub machine : IsMachine m
  pub node : IsNodeIn m.device followed k s
  pub place : AtNode may o.base m k
  pub stands : Stands o s m
  pub facts : HoldsAt s.facts m.registers m.sreg
  pub banks : AreBanks m.device o.registers
  pub root : k.inst.kind ≡ Root → o.base ≡ ramend m.device
  pub top : o.base ≤ ramend m.device
  pub room : may ≡ true → offset_of k.sp + io_end m.device ≤ o.base

-- a closed offset is at most the base, and then the stack pointer stays in SRAM
abbrev pub IsWithinBase : ℕ → SpForm → Type 0
IsWithinBase base (Closed offset) = offset ≤ base
IsWithinBase base (Open offset h) = ⊤

abbrev pub HasRoom : Device → ℕ → SpForm → Type 0
HasRoom device base (Closed offset) = (base ≤ ramend device) × (ramend device + offset ≤ base + size_of device)
HasRoom device base (Open offset h) = ⊤

-- ---- what a step does

-- The step writes no protected address and goes to no unlisted word. It may write a live byte: that it pushes nothing outside SRAM
-- follows from its cover.
pub record IsUnflagged (task : Task) (m : State) (instr : Instr) (e : Effect) : Type 0 where
  pub protected : protected_write task.flash task.assumptions m.pc instr e ≡ None
  pub listed : unlisted_transfer task.assumptions m.pc instr e ≡ None

-- after the effect the machine is at the node, in a frame with this origin, and the node's state holds
pub record ArrivesAt (may : Bool) (m : State) (o : Origin) (guarded : Bool) (e : Effect) (to : Node) : Type 0 where
  pub inside : HasRoom m.device o.base to.key.sp → all_inside m.device e.pushes ≡ true
  pub place : IsWithinBase o.base to.key.sp → AtNode may o.base (after m guarded e) to.key
  pub registers : RegistersStand o to.state.registers (after m guarded e).registers
  pub flags : FlagsStand o to.state.flags (after m guarded e).sreg
  pub less : LessHolds (after m guarded e).registers to.state.flags.carry (flag (after m guarded e).sreg 0)
  pub facts : HoldsAt to.state.facts (after m guarded e).registers (after m guarded e).sreg
  pub slots : IsWithinBase o.base to.key.sp → all_inside m.device e.pushes ≡ true
      → Keeps m.memory (after m guarded e).memory (floor_of (after m guarded e).is_open (after m guarded e).sp)
      → SlotsStand o (after m guarded e).memory to.state.slots

-- the effect is a return with this exit: it goes to the popped word, and keeps registers, flags 0 to 6 and memory
pub record IsReturn (may : Bool) (m : State) (b1 b2 : ℕ) (x : Exit) (e : Effect) : Type 0 where
  pub pc : e.pc ≡ wrapped m.device (popped_word may m b1 b2)
  pub registers : e.registers ≡ []
  pub flags : e.sreg % 128 ≡ m.sreg % 128
  pub i : flag e.sreg 7 ≡ x.i
  pub sp : e.sp ≡ plus_sp m.device m.sp (back_of m.device)
  pub closed : e.is_open ≡ false
  pub enables : EnablesAre may e.enables x.masks
  pub stores : e.stores ≡ []
  pub pushes : e.pushes ≡ []
  pub delay : e.delay ≡ x.delay

-- the effect is covered: by a node of the same instance, by a call, or by the return
pub data Follows (may : Bool) (m : State) (o : Origin) (k : NodeKey) (guarded : Bool) (b1 b2 : ℕ) (e : Effect) (r : Raw) : Type 0 where
  stays : (to : Node) → Contains r.moves to → to.key.inst ≡ k.inst → ArrivesAt may m o guarded e to → Follows may m o k guarded b1 b2 e r
  calls : (offset : ℕ) (site : CallSite) → Contains r.calls site → k.sp ≡ Closed offset → guarded ≡ true → e ≡ calling m site.entry site.back
      → Follows may m o k guarded b1 b2 e r
  leaves : (x : Exit) → r.exit ≡ Some x → k.inst.kind ≢ Root → k.sp ≡ Closed 0 → IsReturn may m b1 b2 x e → Follows may m o k guarded b1 b2 e r

-- the effect of an instruction under the list
abbrev pub effect_by : Task → State → Instr → ℕ → ℕ → Effect
effect_by task m instr b1 b2 = effect_of task.flash (masks_by task) m instr b1 b2

-- If the local part has no fault, the instruction exists, and its effect is covered unless it is flagged for a protected address or an
-- unlisted word.
abbrev pub CoversStep : Task → State → Origin → NodeKey → ℕ → ℕ → Option Instr → Raw → Type 0
CoversStep task m o k b1 b2 None r = r.faults ≡ [] → ⊥
CoversStep task m o k b1 b2 (Some instr) r =
    r.faults ≡ [] → IsUnflagged task m instr (effect_by task m instr b1 b2)
    → Follows (masks_by task) m o k (is_guarding task.flash task.assumptions m.pc instr) b1 b2 (effect_by task m instr b1 b2) r

-- a step of the machine that the local part has
pub data IsStep (may : Bool) (m : State) (o : Origin) (k : NodeKey) (b1 b2 : ℕ) (l : Local) (n : State) : Type 0 where
  stays : (to : Node) → Contains l.same to → to.key.inst ≡ k.inst → AtNode may o.base n to.key → Stands o to.state n → HoldsAt to.state.facts n.registers n.sreg
      → IsStep may m o k b1 b2 l n
  calls : (offset : ℕ) (site : CallSite) → Contains l.calls site → k.sp ≡ Closed offset → n ≡ after m true (calling m site.entry site.back)
      → IsStep may m o k b1 b2 l n
  leaves : (x : Exit) (guarded : Bool) (e : Effect) → l.exit ≡ Some x → k.inst.kind ≢ Root → k.sp ≡ Closed 0 → IsReturn may m b1 b2 x e
      → n ≡ after m guarded e → IsStep may m o k b1 b2 l n
