-- The stores and pushes of each instruction.
use Rattle.std.proofs.Common.{◌≡◌, refl, subst, ℕ, ◌<◌, ◌≤◌, Bool, true, false, List, [], Option, Some, None, arith}
use Rattle.avr_model.proofs.AllLaws.{devices_are_alike}
use Rattle.avr_model.specs.declared.device.Device.{Device}
use Rattle.avr_model.specs.declared.instruction.Instr.{Instr}
use Rattle.avr_model.specs.declared.instruction.Instr.TheVariants as i
use Rattle.avr_model.specs.declared.instruction.BinaryOp.{BinaryOp}
use Rattle.avr_model.specs.declared.instruction.BinaryOp.TheVariants as binary
use Rattle.avr_model.specs.declared.instruction.ImmediateOp.{ImmediateOp}
use Rattle.avr_model.specs.declared.instruction.ImmediateOp.TheVariants as immediate
use Rattle.avr_model.specs.declared.instruction.UnaryOp.{UnaryOp}
use Rattle.avr_model.specs.declared.instruction.UnaryOp.TheVariants as unary
use Rattle.avr_model.specs.declared.effect.Effect.{Effect}
use Rattle.avr_model.specs.Devices.{Image, io_end, has_sph, wrapped}
use Rattle.avr_model.specs.Text.{far}
use Rattle.avr_model.specs.State.{State, register}
use Rattle.avr_model.specs.Effects.{set, port, way_back, binary_effect, immediate_effect, unary_effect, effect_of}
use Rattle.avr_model.specs.Step.{is_pointer_store, is_push}
use Rattle.avr_model.specs.Vectors.{sets_moving}
use Rattle.bit_domain.specs.declared.bits.Tri.TheVariants.{Any}
use Rattle.bit_domain.specs.TriByte.{Has, byte_any}
use Rattle.bit_domain.proofs.AllLaws.{bytes_are_sets}
use Rattle.std.proofs.lemmas.Bool.{and_from}
use Rattle.abs_state.specs.declared.state.AbsState.{AbsState}
use Rattle.sp_domain.specs.Tags.{Origin}
use Rattle.node_keys.specs.declared.keys.NodeKey.{NodeKey}
use Rattle.node_keys.specs.declared.keys.SpForm.{SpForm}
use Rattle.node_keys.specs.declared.keys.SpForm.TheVariants.{Closed, Open}
use Rattle.local_rules.specs.declared.local.CallSite.{CallSite}
use Rattle.local_rules.specs.declared.local.NodeFault.{NodeFault}
use Rattle.local_rules.specs.Registers.{bits}
use Rattle.local_laws.proofs.AllLaws.{bare_frame, register_stands}
use Rattle.local_rules.specs.Raw.{Raw, enters, fails, untracked_if}
use Rattle.local_rules.specs.Flow.{is_half_written, at_closed, indirect_call, relative_call, targets_at, far_targets_at}
use Rattle.local_rules.specs.Local.{row_of}
use Rattle.local_rules.specs.Cover.{InFrameIn}
use Rattle.basics.specs.Numbers.{equals_itself}
use Rattle.clear_laws.specs.Aims.{Aim, may_write, aim_of}
use Rattle.clear_laws.specs.Clear.{stored_bits, may_reach, written_bits}
use Rattle.clear_laws.proofs.Moving.{set_is_reached}
use Rattle.clear_laws.proofs.Ports.{PortFits}
use Rattle.clear_laws.proofs.Rows.{pushes}
use Rattle.clear_laws.proofs.Aims.{IsAimed, displaced, by_pointer, direct, displaced_off, pointer_off, displaced_permitted, pointer_permitted}
use Rattle.local_rules.specs.Site.{Task, site_at}

-- the stack pointer is whole
abbrev pub IsSpWhole : SpForm → Type 0
IsSpWhole sp = (offset : ℕ) × (sp ≡ Closed offset)

-- If the byte sets a moving bit at this address, the instruction may write there, and its bits permit the byte.
abbrev pub MaySetTo : Bool → Device → NodeKey → AbsState → Instr → ℕ → ℕ → Type 0
MaySetTo may device k s instr a byte = may ≡ true → sets_moving device a byte ≡ true → (may_reach device k s instr a ≡ true) × Has (written_bits s instr) byte

-- The stores and pushes of an instruction: none; a byte in I/O; a byte within its aim, at a permitted address; a register pushed; or a
-- return address pushed. It pushes only if the stack pointer is whole, at a node without a fault. A guarded call has no successor in its
-- frame.
pub data Does (may : Bool) (device : Device) (m : State) (base : ℕ) (k : NodeKey) (s : AbsState) (instr : Instr) (e : Effect) (row guarded_row : Raw) : Type 0 where
  nothing : e.stores ≡ [] → e.pushes ≡ [] → Does may device m base k s instr e row guarded_row
  to_port : (a byte : ℕ) → a ≤ io_end device → is_pointer_store instr ≡ false → MaySetTo may device k s instr a byte → e.stores ≡ set a byte → e.pushes ≡ [] → Does may device m base k s instr e row guarded_row
  by_aim : (a byte : ℕ) (aim : Aim) → aim_of device k s instr ≡ Some aim → IsAimed base aim a → may_write s instr a ≡ true → Has (stored_bits s instr) byte → MaySetTo may device k s instr a byte
      → e.stores ≡ set a byte → e.pushes ≡ []
      → Does may device m base k s instr e row guarded_row
  pushing : (byte : ℕ) → is_push instr ≡ true → pushes instr ≡ true → (row.faults ≡ [] → IsSpWhole k.sp) → e.is_open ≡ false → e.stores ≡ []
      → e.pushes ≡ set m.sp byte → Does may device m base k s instr e row guarded_row
  entering : (back : ℕ) → guarded_row.moves ≡ [] → pushes instr ≡ true → (row.faults ≡ [] → IsSpWhole k.sp) → e.is_open ≡ false → e.stores ≡ []
      → e.pushes ≡ way_back device m.sp back → Does may device m base k s instr e row guarded_row

-- ---- nodes with no fault

whole_at : (sp : SpForm) (pc : ℕ) (f : ℕ → Raw) → (at_closed sp pc f).faults ≡ [] → IsSpWhole sp
whole_at (Closed offset) pc f h = (offset, refl)
whole_at (Open offset high) pc f h = absurd (cc)

whole_by : (sp : SpForm) (pc : ℕ) (r : Raw) → (untracked_if (is_half_written sp) pc r).faults ≡ [] → IsSpWhole sp
whole_by (Closed offset) pc r h = (offset, refl)
whole_by (Open offset high) pc r h = absurd (cc)

no_moves : (b : Bool) (pc : ℕ) (sites : List CallSite) → (untracked_if b pc (enters sites)).moves ≡ []
no_moves true pc sites = refl
no_moves false pc sites = refl

no_failed_moves : (b : Bool) (pc : ℕ) (f : NodeFault) → (untracked_if b pc (fails f)).moves ≡ []
no_failed_moves true pc f = refl
no_failed_moves false pc f = refl

module _ (device : Device) (k : NodeKey) where
  no_indirect_moves : (targets : Option (List ℕ)) → (indirect_call device targets k).moves ≡ []
  no_indirect_moves None = no_failed_moves (is_half_written k.sp) k.pc _
  no_indirect_moves (Some targets) = no_moves (is_half_written k.sp) k.pc _

  whole_indirect : (targets : Option (List ℕ)) → (indirect_call device targets k).faults ≡ [] → IsSpWhole k.sp
  whole_indirect None h = whole_by k.sp k.pc _ h
  whole_indirect (Some targets) h = whole_by k.sp k.pc _ h

  whole_relative : (scratch : Bool) (s : AbsState) (target : ℕ) → (relative_call scratch (site_at device k s) target).faults ≡ [] → IsSpWhole k.sp
  whole_relative true s target h = whole_at k.sp k.pc _ h
  whole_relative false s target h = whole_by k.sp k.pc _ h

port_low : (device : Device) (a : ℕ) → a < 64 → port device a ≤ io_end device
port_low device a h = omega (arith, devices_are_alike.least_io device)

-- a moving bit is in I/O, beyond the reach of `cbi` and `sbi`
low_port : (device : Device) (a byte : ℕ) → a < 32 → sets_moving device (port device a) byte ≡ true → ⊥
low_port device a byte low sets = let high = (set_is_reached device (port device a) byte sets).0 in omega (arith, low, high)

set_is_low : (device : Device) (a byte : ℕ) → sets_moving device a byte ≡ true → a ≤ io_end device
set_is_low device a byte sets = let there = (set_is_reached device a byte sets).1 in let inside = devices_are_alike.guarded_in device in omega (arith, there, inside)

-- ---- operations on registers

module _ (image : Image) (m : State) where
  binary_plain : (op : BinaryOp) (d r : ℕ) → ((binary_effect image m op d r).stores ≡ []) × ((binary_effect image m op d r).pushes ≡ [])
  binary_plain binary.Cpc d r = (refl, refl)
  binary_plain binary.Sbc d r = (refl, refl)
  binary_plain binary.Add d r = (refl, refl)
  binary_plain binary.Cpse d r = (refl, refl)
  binary_plain binary.Cp d r = (refl, refl)
  binary_plain binary.Sub d r = (refl, refl)
  binary_plain binary.Adc d r = (refl, refl)
  binary_plain binary.And d r = (refl, refl)
  binary_plain binary.Eor d r = (refl, refl)
  binary_plain binary.Or d r = (refl, refl)
  binary_plain binary.Mov d r = (refl, refl)
  binary_plain binary.Mul d r = (refl, refl)

  immediate_plain : (op : ImmediateOp) (d n : ℕ) → ((immediate_effect m op d n).stores ≡ []) × ((immediate_effect m op d n).pushes ≡ [])
  immediate_plain immediate.Cpi d n = (refl, refl)
  immediate_plain immediate.Sbci d n = (refl, refl)
  immediate_plain immediate.Subi d n = (refl, refl)
  immediate_plain immediate.Ori d n = (refl, refl)
  immediate_plain immediate.Andi d n = (refl, refl)
  immediate_plain immediate.Ldi d n = (refl, refl)

  unary_plain : (op : UnaryOp) (d : ℕ) → ((unary_effect m op d).stores ≡ []) × ((unary_effect m op d).pushes ≡ [])
  unary_plain unary.Com d = (refl, refl)
  unary_plain unary.Neg d = (refl, refl)
  unary_plain unary.Swap d = (refl, refl)
  unary_plain unary.Inc d = (refl, refl)
  unary_plain unary.Asr d = (refl, refl)
  unary_plain unary.Lsr d = (refl, refl)
  unary_plain unary.Ror d = (refl, refl)
  unary_plain unary.Dec d = (refl, refl)

-- ---- the table, where the row is that of a state t of which the node may have forgotten something

module _ {followed may : Bool} (task : Task) (m : State) (o : Origin) (k : NodeKey) (s t : AbsState) (at : InFrameIn followed may m o k s)
    (sees : has_sph m.device ≡ false → may ≡ true) (scratch : Bool) (b1 b2 : ℕ) where
  abbrev DoesBy : Device → Instr → Type 0
  DoesBy device instr =
      Does may device m o.base k s instr (effect_of task.flash may m instr b1 b2) (row_of task scratch (site_at device k t) instr) (row_of task false (site_at device k t) instr)

  holds : (r : ℕ) → Has (bits s r) (register m r)
  holds r = (register_stands m o k s (bare_frame m o k s sees at) r).bits

  any_holds : (x : ℕ) → Has byte_any x
  any_holds x = bytes_are_sets.built (λ i. Any) x (λ i lt. tt)

  does_by : (instr : Instr) → PortFits instr → DoesBy m.device instr
  does_by (i.Movw d r) fits = nothing refl refl
  does_by (i.Muls d r) fits = nothing refl refl
  does_by (i.Mulsu d r) fits = nothing refl refl
  does_by (i.Fmul d r) fits = nothing refl refl
  does_by (i.Fmuls d r) fits = nothing refl refl
  does_by (i.Fmulsu d r) fits = nothing refl refl
  does_by (i.Binary op d r) fits = let p = binary_plain task.flash m op d r in nothing p.0 p.1
  does_by (i.Immediate op d n) fits = let p = immediate_plain task.flash m op d n in nothing p.0 p.1
  does_by (i.Unary op d) fits = let p = unary_plain task.flash m op d in nothing p.0 p.1
  does_by (i.Adiw d n) fits = nothing refl refl
  does_by (i.Sbiw d n) fits = nothing refl refl
  does_by (i.Bset n) fits = nothing refl refl
  does_by (i.Bclr n) fits = nothing refl refl
  does_by (i.Bld d b) fits = nothing refl refl
  does_by (i.Bst d b) fits = nothing refl refl
  does_by (i.Ldd d b q) fits = nothing refl refl
  does_by (i.Std b q r) fits =
      by_aim _ _ _ refl (displaced m o k s at sees b q) (displaced_permitted m o k s at sees b q) (holds r)
      (λ on sets. (and_from _ _ (displaced_permitted m o k s at sees b q) (displaced_off m o k s at sees b q on (set_is_low m.device _ _ sets)), holds r)) refl refl
  does_by (i.Lds d a) fits = nothing refl refl
  does_by (i.Sts a r) fits = by_aim _ _ _ refl (direct m o k s at sees a) (equals_itself a) (any_holds _) (λ on sets. (equals_itself a, holds r)) refl refl
  does_by (i.Ld d p) fits = nothing refl refl
  does_by (i.St p r) fits =
      by_aim _ _ _ refl (by_pointer m o k s at sees p) (pointer_permitted m o k s at sees p) (holds r)
      (λ on sets. (and_from _ _ (pointer_permitted m o k s at sees p) (pointer_off m o k s at sees p on (set_is_low m.device _ _ sets)), holds r)) refl refl
  does_by (i.LpmZ d) fits = nothing refl refl
  does_by (i.ElpmZ d) fits = nothing refl refl
  does_by (i.LpmZPlus d) fits = nothing refl refl
  does_by (i.ElpmZPlus d) fits = nothing refl refl
  does_by i.Lpm fits = nothing refl refl
  does_by i.Elpm fits = nothing refl refl
  does_by (i.Pop d) fits = nothing refl refl
  does_by (i.Push r) fits = pushing _ refl refl (whole_at k.sp k.pc _) refl refl refl
  does_by (i.In d a) fits = nothing refl refl
  does_by (i.Out a r) fits = to_port (port m.device a) _ (port_low m.device a fits) refl (λ on sets. (equals_itself (port m.device a), holds r)) refl refl
  does_by (i.Cbi a b) fits = to_port (port m.device a) _ (port_low m.device a (omega (arith, fits))) refl (λ on sets. absurd (low_port m.device a _ fits sets)) refl refl
  does_by (i.Sbi a b) fits = to_port (port m.device a) _ (port_low m.device a (omega (arith, fits))) refl (λ on sets. absurd (low_port m.device a _ fits sets)) refl refl
  does_by i.Ijmp fits = nothing refl refl
  does_by i.Icall fits =
      entering _ (no_indirect_moves m.device k (targets_at task.assumptions (site_at m.device k t))) refl (whole_indirect m.device k (targets_at task.assumptions (site_at m.device k t))) refl refl refl
  does_by i.Eijmp fits = nothing refl refl
  does_by i.Eicall fits =
      entering _ (no_indirect_moves m.device k (far_targets_at task.assumptions (site_at m.device k t))) refl (whole_indirect m.device k (far_targets_at task.assumptions (site_at m.device k t))) refl refl refl
  does_by i.Ret fits = nothing refl refl
  does_by i.Reti fits = nothing refl refl
  does_by (i.Jmp target) fits = nothing refl refl
  does_by (i.Call target) fits = entering _ (no_moves (is_half_written k.sp) k.pc _) refl (whole_by k.sp k.pc _) refl refl refl
  does_by (i.Rjmp target) fits = nothing refl refl
  does_by (i.Rcall target) fits =
      entering _ (no_moves (is_half_written k.sp) k.pc _) refl (whole_relative m.device k scratch t (wrapped m.device (far k.pc target))) refl refl refl
  does_by (i.Brbs n target) fits = nothing refl refl
  does_by (i.Brbc n target) fits = nothing refl refl
  does_by (i.Sbic a b) fits = nothing refl refl
  does_by (i.Sbis a b) fits = nothing refl refl
  does_by (i.Sbrc r b) fits = nothing refl refl
  does_by (i.Sbrs r b) fits = nothing refl refl
  does_by i.Nop fits = nothing refl refl
  does_by i.Sleep fits = nothing refl refl
  does_by i.Break fits = nothing refl refl
  does_by i.Wdr fits = nothing refl refl

  pub does : (device : Device) → m.device ≡ device → (instr : Instr) → PortFits instr → DoesBy device instr
  does device same instr fits = subst (λ (d : Device). DoesBy d instr) same (does_by instr fits)
