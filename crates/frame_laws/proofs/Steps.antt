-- Each kind of step keeps the frames.
use Rattle.std.proofs.Common.{◌≡◌, ◌≢◌, ℕ, ◌+◌, ◌-◌, ◌%◌, ◌≤◌, Bool, true, false, List, [], ◌∷◌, ◌++◌, length, Option, Some, None, refl, sym, ap, ap₂, ◌∙◌, subst, subst₂, arith, Contains, ◌<◌}
use Rattle.avr_model.specs.declared.device.Device.{Device}
use Rattle.avr_model.proofs.AllLaws.{devices_are_alike}
use Rattle.avr_model.specs.Devices.{words_of, io_end, size_of, ramend, back_of, wrapped, device_of}
use Rattle.avr_model.specs.Assumptions.{has_pairs}
use Rattle.avr_model.specs.declared.choice.Choice.{Choice}
use Rattle.avr_model.specs.declared.choice.Choice.TheVariants.{Go}
use Rattle.avr_model.specs.declared.effect.Effect.{Effect}
use Rattle.avr_model.specs.Sreg.{flag}
use Rattle.avr_model.specs.Masks.{reads_masks}
use Rattle.avr_model.specs.State.{State, Memory, minus_sp, plus_sp}
use Rattle.avr_model.specs.Effects.{way_back, going_to}
use Rattle.avr_model.specs.Step.{after, all_inside, live_write, registers_after, with_registers, sreg_after, sp_after, open_after, enables_after}
use Rattle.sp_domain.specs.Tags.{Origin, LessHolds}
use Rattle.pair_domain.proofs.AllLaws.{known_is_ordered}
use Rattle.abs_state.specs.declared.state.AbsState.{AbsState}
use Rattle.abs_state.specs.Stands.{RegistersStand, FlagsStand, Stands}
use Rattle.abs_state.specs.Formed.{IsFormed}
use Rattle.abs_state.specs.Frames.{entered}
use Rattle.abs_state.specs.Laws.{Keeps, HoldsAt}
use Rattle.abs_state.specs.Order.{IsStateWithin}
use Rattle.abs_state.proofs.AllLaws.{states_are_ordered, values_say_less, slots_follow, entries_are_true, returns_are_true}
use Rattle.node_keys.specs.declared.keys.InstKey.{InstKey}
use Rattle.node_keys.specs.declared.keys.EdgeKind.{EdgeKind}
use Rattle.node_keys.specs.declared.keys.Kind.TheVariants.{Root}
use Rattle.node_keys.specs.declared.keys.High.{High}
use Rattle.node_keys.specs.declared.keys.SpForm.{SpForm}
use Rattle.node_keys.specs.declared.keys.SpForm.TheVariants.{Closed, Open}
use Rattle.node_keys.specs.Keys.{root_inst, entry_key, offset_of, cut_at}
use Rattle.node_keys.specs.Place.{EnablesAre, SpIs}
use Rattle.local_rules.specs.declared.local.Node.{Node}
use Rattle.local_rules.specs.declared.local.Exit.{Exit}
use Rattle.local_rules.specs.Cover.{IsNodeIn, IsWithinBase, HasRoom, ArrivesAt, IsReturn}
use Rattle.local_rules.specs.Machine.{IsMachine, AreBanks, floor_of}
use Rattle.local_laws.specs.Laws.{LiveBytesStay}
use Rattle.local_laws.proofs.AllLaws.{inside_pushed, sp_down, sp_up, joins_are_least, local_parts_are_nodes, local_parts_fit, open_pairs_stay}
use Rattle.edge_rules.specs.Edges.{raw_of, IsFaultless, Enters, by_call, by_interrupt, returned_key, moving, entering, returning}
use Rattle.edge_rules.specs.Families.{RankedFamily, IsCovered, IsSoundFamily}
use Rattle.edge_rules.specs.Nest.{recurs, enters as by_node}
use Rattle.edge_rules.specs.Frames.{Frame, AreLeft, Runs, Change, moved, returned_to, HasNext}
use Rattle.frame_laws.proofs.Left.{not_root, root_base, within, base_inside, left_kept}
use Rattle.frame_laws.proofs.Way.{WayBack, way_pushed, way_read}
use Rattle.frame_laws.proofs.Answers.{StepGoesOn}
use Rattle.local_rules.specs.Site.{Task}

-- an entry: the return address is pushed, and registers stay
abbrev pub entry_effect : State → ℕ → ℕ → ℕ → ℕ → Effect
entry_effect m target sreg enables back =
    record (going_to m target) { sreg = sreg; sp = minus_sp m.device m.sp (back_of m.device); is_open = false; enables = enables; pushes = way_back m.device m.sp back }

pub floor_fits : (base : ℕ) (is_open : Bool) (sp : ℕ) (form : SpForm) → SpIs base is_open sp form → floor_of is_open sp ≤ base
floor_fits base true sp (Closed offset) h = absurd (let e = h.0 in cc)
floor_fits base false sp (Closed offset) h = omega (arith, h.1)
floor_fits base true sp (Open offset high) h = omega arith
floor_fits base false sp (Open offset high) h = absurd (let e = h.0 in cc)

-- facts on pairs hold in greater states
pub facts_less : (s t : AbsState) (m : State) → IsStateWithin s t → HoldsAt s.facts m.registers m.sreg → HoldsAt t.facts m.registers m.sreg
facts_less s t m le h = known_is_ordered.less s.facts t.facts m.registers (flag m.sreg 0) (flag m.sreg 1) (flag m.sreg 4) le.facts h

-- the machine has frames after this choice, if its state is a machine's
abbrev pub Follow : Task → RankedFamily → Choice → Frame → List Frame → State → Type 0
Follow task f c g gs n = IsMachine n → HasNext task f c g gs n

-- the word that an entry pushes is in the device's flash
back_inside : {task : Task} {n : Node} {way : EdgeKind} {inst : InstKey} {back : ℕ} → Enters task n way inst back → back < words_of (device_of task.flash)
back_inside {task = task} {n = n} (by_call offset site faultless form member) = ((local_parts_fit.fit task n.key n.state).calls site member).1
back_inside {task = task} {n = n} (by_interrupt offset v clears faultless form i delay enabled allowed clearable) = (local_parts_fit.inside task n.key n.state faultless).0

module _ (live : LiveBytesStay) (task : Task) (f : RankedFamily) (sound : IsSoundFamily task f) where
  module _ (m : State) (g : Frame) (gs : List Frame) (runs : Runs task f m g gs) where
    -- a property of the words' device holds of the machine's
    on_machine : (P : Device → Type 0) → P (device_of task.flash) → P m.device
    on_machine P h = subst P (sym runs.device) h

    in_bound : ramend m.device + f.need_of g.node.key.inst ≤ g.origin.base + f.bound
    in_bound = on_machine (λ device. ramend device + f.need_of g.node.key.inst ≤ g.origin.base + f.bound) (within task f sound m.memory gs g.node.key.inst g.origin runs.left)

    low_base : g.origin.base ≤ ramend m.device
    low_base = on_machine (λ device. g.origin.base ≤ ramend device) (base_inside task f sound m.memory gs g.node.key.inst g.origin runs.left)

    same_back : back_of (device_of task.flash) ≡ back_of m.device
    same_back = ap back_of (sym runs.device)

    small : f.bound ≤ size_of m.device
    small = on_machine (λ device. f.bound ≤ size_of device) sound.small

    -- a step that writes no live byte keeps this
    kept_by : (guarded : Bool) (e : Effect) → live_write m.memory (e.stores ++ e.pushes) ≡ None → Keeps m.memory (after m guarded e).memory (floor_of (after m guarded e).is_open (after m guarded e).sp)
    kept_by guarded e miss = live.kept m guarded e runs.running.machine miss

    count_slots : length g.node.state.slots ≡ offset_of g.node.key.sp
    count_slots = runs.running.node.formed.count_slots

    -- ---- a local step

    -- a closed successor has room
    room_at : (to : Node) → Contains f.nodes to → to.key.inst ≡ g.node.key.inst → (form : SpForm) → to.key.sp ≡ form → HasRoom m.device g.origin.base form
    room_at to present inst (Closed offset) is = (low_base, omega (arith, in_bound, small, sound.offsets to offset present is, ap f.need_of inst))
    room_at to present inst (Open offset high) is = tt

    base_at : (base : ℕ) (form : SpForm) → HasRoom m.device base form → IsWithinBase base form
    base_at base (Closed offset) room = omega (arith, room.0, room.1)
    base_at base (Open offset high) room = tt

    -- a successor's slots lie in SRAM or above it: a closed one has room, and an open one keeps the offset
    place_at : (to : Node) → Contains f.nodes to → to.key.inst ≡ g.node.key.inst → (form : SpForm) → to.key.sp ≡ form
        → ((offset : ℕ) (high : High) → form ≡ Open offset high → offset ≡ offset_of g.node.key.sp) → reads_masks (device_of task.flash) task.assumptions ≡ true → offset_of form + io_end m.device ≤ g.origin.base
    place_at to present inst (Closed offset) is stays may = omega (arith, in_bound, small, sound.offsets to offset present is, ap f.need_of inst)
    place_at to present inst (Open offset high) is stays may = omega (arith, runs.running.room may, stays offset high refl)

    module _ (b1 b2 : ℕ) (guarded : Bool) (e : Effect) where
      pub frames_local : (to : Node) → IsFaultless task g.node → Contains (raw_of task g.node).moves to → to.key.inst ≡ g.node.key.inst → ArrivesAt (reads_masks (device_of task.flash) task.assumptions) m g.origin guarded e to
          → StepGoesOn (Follow task f (Go b1 b2) g gs) m guarded e
      frames_local to faultless member inst lands =
          let moves = (raw_of task g.node).moves in
          let joined = joins_are_least.above moves to (λ x i. (local_parts_are_nodes.nodes task g.node.key g.node.state x (sound.formed g.node runs.present) faultless i).1) member in
          let edge : Node = record { key = to.key; state = joined.state } in
          let cov = sound.edges g.node _ runs.present (moving edge faultless joined.present) in
          let node : Node = record { key = to.key; state = cov.state } in
          let room = room_at node cov.present inst to.key.sp refl in
          let place = lands.place (base_at g.origin.base to.key.sp room) in
          let n = after m guarded e in
          record {
            inside = lands.inside room;
            done = λ miss machine.
                let kept = kept_by guarded e miss in
                let stands : Stands g.origin to.state n = record {
                  registers = lands.registers;
                  flags = lands.flags;
                  less = lands.less;
                  slots = lands.slots (base_at g.origin.base to.key.sp room) (lands.inside room) kept;
                } in
                let left = left_kept task f sound m.memory n.memory _ kept gs g.node.key.inst g.origin (floor_fits g.origin.base n.is_open n.sp to.key.sp place.sp) runs.left in (
                  record { node = node; origin = g.origin },
                  gs,
                  record {
                    device = runs.device;
                    present = cov.present;
                    running = record {
                      machine = machine;
                      node = on_machine (λ device. IsNodeIn device (has_pairs task.assumptions) to.key cov.state) (sound.formed node cov.present);
                      place = place;
                      stands = values_say_less.state g.origin to.state cov.state n (states_are_ordered.through to.state joined.state cov.state joined.above cov.above) stands;
                      facts = facts_less to.state cov.state n (states_are_ordered.through to.state joined.state cov.state joined.above cov.above) lands.facts;
                      banks = runs.running.banks;
                      root = subst (λ (i : InstKey). i.kind ≡ Root → g.origin.base ≡ ramend m.device) (sym inst) runs.running.root;
                      top = runs.running.top;
                      room = λ may. place_at node cov.present inst to.key.sp refl (λ offset high is. open_pairs_stay.stays task g.node.key g.node.state to offset high faultless member is) may;
                    };
                    left = subst (λ i. AreLeft task f n.memory gs i g.origin) (sym inst) left;
                  },
                  moved b1 b2 edge cov.state faultless joined.present cov.above,
                );
          }

    -- ---- an entry

    closed_sp : (offset : ℕ) → g.node.key.sp ≡ Closed offset → m.sp + offset ≡ g.origin.base
    closed_sp offset form = (subst (SpIs g.origin.base m.is_open m.sp) form runs.running.place.sp).1

    -- the origin of the entered frame
    abbrev entry_origin : Origin
    entry_origin = record { registers = m.registers; sreg = m.sreg; base = minus_sp m.device m.sp (back_of m.device) }

    -- the instance is entered where the bound leaves room for it: a cut one no deeper than its line permits
    module _ (way : EdgeKind) (inst : InstKey) (back offset : ℕ) (form : g.node.key.sp ≡ Closed offset) (enters : Enters task g.node way inst back)
        (shallow : (depth : ℕ) → cut_at task.assumptions inst ≡ Some depth → ramend m.device ≤ m.sp + depth) where
      top : m.sp ≤ ramend m.device
      top = omega (arith, low_base, closed_sp offset form)

      covered : IsCovered f.nodes (record { key = entry_key inst; state = entered g.node.state })
      covered = sound.edges g.node _ runs.present (entering way inst back enters)

      fits_by : (cut : Option ℕ) → cut_at task.assumptions inst ≡ cut → ramend m.device + back_of m.device + f.need_of inst ≤ m.sp + f.bound
      fits_by None is =
          let below = sound.needs g.node.key.inst inst (offset_of g.node.key.sp) (by_node g.node way back runs.present refl refl enters is) in
          omega (arith, in_bound, below, ap offset_of form, closed_sp offset form, same_back)
      fits_by (Some depth) is =
          let below = sound.needs root_inst inst depth (recurs _ covered.present refl is refl) in
          omega (arith, below, sound.bounded, shallow depth is, same_back)

      fits : ramend m.device + back_of m.device + f.need_of inst ≤ m.sp + f.bound
      fits = fits_by (cut_at task.assumptions inst) refl

      room : ramend m.device + back_of m.device ≤ m.sp + size_of m.device
      room = omega (arith, fits, small)

      few : back_of m.device ≤ 3
      few = devices_are_alike.most_back m.device

      -- the next base is as far below the stack pointer as a return address is long
      down : minus_sp m.device m.sp (back_of m.device) + back_of m.device ≡ m.sp
      down = sp_down m.device m.sp (back_of m.device) (omega (arith, room)) (omega (arith, few)) runs.running.machine.sp_fits

      abbrev entry_frame : Frame
      entry_frame = record { node = record { key = entry_key inst; state = covered.state }; origin = entry_origin }

      left_by : (n : Memory) → Keeps m.memory n (minus_sp m.device m.sp (back_of m.device)) → WayBack (back_of m.device) n (minus_sp m.device m.sp (back_of m.device)) back → AreLeft task f n (g ∷ gs) inst entry_origin
      left_by n kept pushed =
          let sp = closed_sp offset form in
          let way_left : WayBack (back_of (device_of task.flash)) n entry_origin.base back = subst (λ device. WayBack (back_of device) n entry_origin.base back) runs.device pushed in (
            record {
              present = runs.present;
              registers = runs.running.stands.registers;
              flags = runs.running.stands.flags;
              less = runs.running.stands.less;
              facts = runs.running.facts;
              banks = subst (λ device. AreBanks device g.origin.registers) runs.device runs.running.banks;
              slots = slots_follow.kept g.origin m.memory n (minus_sp m.device m.sp (back_of m.device)) g.node.state.slots kept (omega (arith, count_slots, ap offset_of form, down, sp)) runs.running.stands.slots;
              offset = offset;
              closed = form;
              place = omega (arith, down, same_back, sp);
              way = way;
              back = back;
              enters = enters;
              need = subst (λ device. (ramend device - entry_origin.base) + f.need_of inst ≤ f.bound) runs.device (omega (arith, fits, down, top));
              bytes = way_left.bytes;
              live = way_left.live;
            },
            left_kept task f sound m.memory n (minus_sp m.device m.sp (back_of m.device)) kept gs g.node.key.inst g.origin (omega (arith, down, sp)) runs.left,
          )

      module _ (target sreg enables : ℕ) (to : wrapped m.device target ≡ inst.entry) (flags : sreg % 128 ≡ m.sreg % 128) (i : flag sreg 7 ≡ inst.i) (masks : EnablesAre (reads_masks (device_of task.flash) task.assumptions) enables inst.masks) where
        pub frames_enter : (c : Choice)
            → ((state : AbsState) → IsStateWithin (entered g.node.state) state → Change task g gs c (record { node = record { key = entry_key inst; state = state }; origin = entry_origin }) (g ∷ gs))
            → StepGoesOn (Follow task f c g gs) m true (entry_effect m target sreg enables back)
        frames_enter c change =
            let n = after m true (entry_effect m target sreg enables back) in
            let formed = runs.running.node.formed in
            let stands : Stands entry_origin (entered g.node.state) n = record {
              registers = entries_are_true.registers g.origin g.node.state m.registers m.sreg entry_origin.base formed.count_registers runs.running.stands.registers;
              flags = entries_are_true.flags g.origin g.node.state (offset_of g.node.key.sp) m.registers m.sreg sreg entry_origin.base formed flags runs.running.stands.flags;
              less = tt;
              slots = λ d lt. absurd (omega arith);
            } in
            record {
              inside = inside_pushed m.device (back_of m.device) m.sp offset g.origin.base back (closed_sp offset form) low_base (omega (arith, room, closed_sp offset form));
              done = λ miss machine. (
                entry_frame,
                g ∷ gs,
                record {
                  device = runs.device;
                  present = covered.present;
                  running = record {
                    machine = machine;
                    node = on_machine (λ device. IsNodeIn device (has_pairs task.assumptions) (entry_key inst) covered.state) (sound.formed _ covered.present);
                    place = record { pc = to; enables = masks; i = i; delay = refl; sp = (refl, omega arith) };
                    stands = values_say_less.state entry_origin (entered g.node.state) covered.state n covered.above stands;
                    facts =
                        facts_less (entered g.node.state) covered.state n covered.above
                        (entries_are_true.facts g.node.state m.registers (flag m.sreg 0) (flag m.sreg 1) (flag m.sreg 4) (flag n.sreg 0) (flag n.sreg 1) (flag n.sreg 4) runs.running.facts);
                    banks = runs.running.machine.banks;
                    root = λ kind. absurd (not_root enters kind);
                    top = omega (arith, down, top);
                    room = λ may. omega (arith, room, down);
                  };
                  left = left_by n.memory (kept_by true (entry_effect m target sreg enables back) miss)
                      (way_pushed m.device (back_of m.device) m.memory m.sp back few runs.running.machine.below runs.running.machine.count_bytes runs.running.machine.count_live top runs.running.machine.sp_fits room);
                },
                change covered.state covered.above,
              );
            }

    -- ---- a return

    module _ (b1 b2 : ℕ) (guarded : Bool) (e : Effect) (x : Exit) (faultless : IsFaultless task g.node) (exit : (raw_of task g.node).exit ≡ Some x) (form : g.node.key.sp ≡ Closed 0) (is : IsReturn (reads_masks (device_of task.flash) task.assumptions) m b1 b2 x e) where
      abbrev returned_state : State
      returned_state = after m guarded e

      same_registers : returned_state.registers ≡ m.registers
      same_registers = ap₂ (λ rs ws. registers_after m.device (with_registers m.registers rs) ws) is.registers is.stores

      same_sreg : returned_state.sreg ≡ e.sreg
      same_sreg = ap (sreg_after m.device e.sreg) is.stores

      raised_sp : returned_state.sp ≡ plus_sp m.device m.sp (back_of m.device)
      raised_sp = ap₂ (sp_after m.device) is.sp is.stores

      still_closed : returned_state.is_open ≡ false
      still_closed = ap₂ (open_after m.device) is.closed is.stores

      -- the slots of the frame that continues lie in SRAM or above it
      caller_room : (h : Frame) (hs : List Frame) → AreLeft task f m.memory hs h.node.key.inst h.origin → Contains f.nodes h.node → (offset : ℕ) → h.node.key.sp ≡ Closed offset
          → offset_of h.node.key.sp + io_end m.device ≤ h.origin.base
      caller_room h hs left present offset closed =
          on_machine (λ device. offset_of h.node.key.sp + io_end device ≤ h.origin.base)
          (omega (arith, ap offset_of closed, sound.offsets h.node offset present closed, within task f sound m.memory hs h.node.key.inst h.origin left, sound.small))

      pops : (hs : List Frame) → gs ≡ hs → g.node.key.inst.kind ≢ Root → AreLeft task f m.memory hs g.node.key.inst g.origin
          → live_write m.memory (e.stores ++ e.pushes) ≡ None → Follow task f (Go b1 b2) g gs returned_state
      pops [] frames kind left miss machine = absurd (kind (ap (λ (i : InstKey). i.kind) left.0))
      pops (h ∷ hs) frames kind left miss machine =
          let n = returned_state in
          let was = left.0 in
          let caller = sound.formed h.node was.present in
          let callee = subst (λ sp. IsFormed g.node.state (offset_of sp)) form runs.running.node.formed in
          let sp : m.sp ≡ g.origin.base = omega (arith, closed_sp 0 form) in
          let base_low : h.origin.base ≤ ramend m.device = on_machine (λ device. h.origin.base ≤ ramend device) (base_inside task f sound m.memory hs h.node.key.inst h.origin left.1) in
          let up : plus_sp m.device m.sp (back_of m.device) ≡ m.sp + back_of m.device = sp_up m.device m.sp (back_of m.device) (omega (arith, sp, was.place, base_low, same_back, devices_are_alike.in_sp m.device)) in
          let floor : floor_of n.is_open n.sp ≡ g.origin.base + back_of (device_of task.flash) = ap₂ floor_of still_closed raised_sp ∙ omega (arith, up, sp, same_back) in
          let kept = subst (Keeps m.memory n.memory) floor (kept_by guarded e miss) in
          let slots = slots_follow.kept h.origin m.memory n.memory (g.origin.base + back_of (device_of task.flash)) h.node.state.slots kept (omega (arith, was.place, ap offset_of was.closed, caller.formed.count_slots)) was.slots in
          let back = returns_are_true.stands h.origin g.origin h.node.state g.node.state (offset_of h.node.key.sp) g.origin.registers m.registers g.origin.sreg m.sreg e.sreg n.memory
          caller.formed callee was.registers was.flags was.less slots was.facts (record { registers_kept = refl; flags_kept = refl }) runs.running.stands.registers runs.running.stands.flags
          runs.running.facts is.flags in
          let edge = returning was.way g.node.key.inst was.back g.node x back.0 was.enters runs.present refl faultless exit back.1 in
          let cov = sound.edges h.node _ was.present edge in
          let word_inside : was.back < words_of m.device = on_machine (λ device. was.back < words_of device) (back_inside was.enters) in
          let key = returned_key was.way h.node.key was.back x in
          let node = sound.formed (record { key = key; state = cov.state }) cov.present in
          let stands : Stands h.origin back.0 n = record {
            registers = subst (RegistersStand h.origin back.0.registers) (sym same_registers) back.2;
            flags = subst (FlagsStand h.origin back.0.flags) (sym same_sreg) back.3;
            less = subst₂ (λ (rs : List ℕ) (x : ℕ). LessHolds rs back.0.flags.carry (flag x 0)) (sym same_registers) (sym same_sreg) back.4;
            slots = back.5;
          } in (
            record { node = record { key = key; state = cov.state }; origin = h.origin },
            hs,
            record {
              device = runs.device;
              present = cov.present;
              running = record {
                machine = machine;
                node = on_machine (λ device. IsNodeIn device (has_pairs task.assumptions) key cov.state) node;
                place = record {
                  pc = is.pc
                      ∙ ap (wrapped m.device)
                      (way_read (reads_masks (device_of task.flash) task.assumptions) m (back_of m.device) g.origin.base was.back b1 b2 runs.running.machine.below runs.running.machine.count_live sp (omega (arith, was.place, base_low, same_back))
                      (on_machine (λ device. WayBack (back_of device) m.memory g.origin.base was.back) (record { bytes = was.bytes; live = was.live }))
                      (omega (arith, word_inside, devices_are_alike.in_back m.device)))
                      ∙ devices_are_alike.same m.device was.back word_inside;
                  enables = subst (λ ws. EnablesAre (reads_masks (device_of task.flash) task.assumptions) (enables_after m.device e.enables ws) x.masks) (sym is.stores) is.enables;
                  i = ap (λ s. flag s 7) same_sreg ∙ is.i;
                  delay = is.delay;
                  sp = subst (SpIs h.origin.base n.is_open n.sp) (sym was.closed) (still_closed, omega (arith, raised_sp, up, was.place, same_back, sp));
                };
                stands = values_say_less.state h.origin back.0 cov.state n cov.above stands;
                facts = facts_less back.0 cov.state n cov.above (subst₂ (HoldsAt back.0.facts) (sym same_registers) (sym same_sreg) back.6);
                banks = on_machine (λ device. AreBanks device h.origin.registers) was.banks;
                root = λ kind. root_base task f n.memory hs h.node.key.inst h.origin (left_kept task f sound m.memory n.memory (g.origin.base + back_of (device_of task.flash)) kept hs h.node.key.inst h.origin (omega (arith, was.place)) left.1) kind ∙ ap ramend (sym runs.device);
                top = base_low;
                room = λ may. caller_room h hs left.1 was.present was.offset was.closed;
              };
              left = left_kept task f sound m.memory n.memory (g.origin.base + back_of (device_of task.flash)) kept hs h.node.key.inst h.origin (omega (arith, was.place)) left.1;
            },
            returned_to b1 b2 h hs was.way was.back x back.0 cov.state frames was.enters faultless exit back.1 cov.above,
          )

      pub frames_return : g.node.key.inst.kind ≢ Root → StepGoesOn (Follow task f (Go b1 b2) g gs) m guarded e
      frames_return kind =
          record {
            inside = ap (all_inside m.device) is.pushes;
            done = λ miss machine. pops gs refl kind runs.left miss machine;
          }
