-- Common parts of rows: successors that keep the stack pointer, register reads and writes, and flags that stay.
use Rattle.std.proofs.Common.{◌≡◌, refl, sym, ◌∙◌, ap, ap₂, subst, subst₂, ℕ, ◌+◌, ◌-◌, ◌<◌, ⊎_elim, Bool, true, false, List, [], ◌∷◌, length, slice_index, slice_set, arith, Contains, length-set, Option}
use Rattle.std.proofs.lemmas.Grind.{elements}
use Rattle.std.proofs.lemmas.Bool.{cases_lt, cases_eq}
use Rattle.std.proofs.lemmas.Bool.Decides.{nat_tests}
use Rattle.std.proofs.lemmas.List.{get_or_past}
use Rattle.basics.specs.Items.{first_in}
use Rattle.avr_model.proofs.AllLaws.{devices_are_alike}
use Rattle.avr_model.specs.Devices.{wrapped}
use Rattle.avr_model.specs.declared.effect.Write.{Write}
use Rattle.avr_model.specs.declared.effect.Effect.{Effect}
use Rattle.avr_model.specs.Sreg.{flag}
use Rattle.avr_model.specs.State.{State, Memory, REGISTERS, register, is_live, live_in}
use Rattle.avr_model.specs.Effects.{going_to, setting, further}
use Rattle.avr_model.specs.Step.{after, with_registers, registers_after, sreg_after, sp_after, open_after, enables_after, all_inside}
use Rattle.sp_domain.specs.declared.slots.Slot.{Slot}
use Rattle.sp_domain.specs.declared.slots.Slot.TheVariants.{Free, Guarded}
use Rattle.sp_domain.specs.Tags.{Origin, LessHolds}
use Rattle.sp_domain.specs.Slots.{slot_at}
use Rattle.pair_domain.specs.declared.facts.PairFacts.{PairFacts}
use Rattle.abs_state.specs.declared.values.AbsByte.{AbsByte}
use Rattle.abs_state.specs.declared.values.AbsFlags.{AbsFlags}
use Rattle.abs_state.specs.declared.state.AbsState.{AbsState}
use Rattle.abs_state.specs.Values.{value_at, unknown}
use Rattle.abs_state.specs.Stands.{ByteStands, FlagsStand, RegistersStand, SlotStands, SlotsStand}
use Rattle.abs_state.specs.Laws.{Keeps, HoldsAt}
use Rattle.abs_state.proofs.AllLaws.{any_stands}
use Rattle.node_keys.specs.declared.keys.NodeKey.{NodeKey}
use Rattle.node_keys.specs.declared.keys.SpForm.{SpForm}
use Rattle.node_keys.specs.declared.keys.SpForm.TheVariants.{Closed, Open}
use Rattle.node_keys.specs.Keys.{offset_of}
use Rattle.node_keys.specs.Place.{EnablesAre, SpIs}
use Rattle.local_rules.specs.declared.local.Node.{Node}
use Rattle.local_rules.specs.Raw.{moves_to, next, at_word, off_table, setting as node_setting, further as node_further}
use Rattle.local_rules.specs.Registers.{value}
use Rattle.local_rules.specs.Machine.{floor_of}
use Rattle.local_rules.specs.Cover.{stays}
use Rattle.local_laws.proofs.Bare.{InBareFrame}
use Rattle.local_laws.proofs.Landing.{HeldAt, ArrivesWhere, FollowsWhere}
use Rattle.local_laws.proofs.Bytes.{byte_in_list}
use Rattle.local_rules.specs.Site.{site_at}

pub second : {A : Type 0} (x y : A) (xs : List A) → Contains (x ∷ y ∷ xs) y
second x y xs = (1, omega arith, refl)

-- ---- registers

pub set_stands : (o : Origin) (values : List AbsByte) (registers : List ℕ) (d : ℕ) (v : AbsByte) (x : ℕ) → length values ≡ REGISTERS → length registers ≡ REGISTERS
    → ByteStands o v x → RegistersStand o values registers → RegistersStand o (slice_set values d v) (slice_set registers d x)
set_stands o values registers d v x count_values count_registers h old r lt =
    ⊎_elim
    (λ same.
    let here : value_at (slice_set values d v) r ≡ v = grind (arith, elements) in
    let byte : slice_index (slice_set registers d x) r ≡ x = grind (arith, elements) in
    subst (λ w. ByteStands o w (slice_index (slice_set registers d x) r)) (sym here) (subst (ByteStands o v) (sym byte) h))
    (λ other.
    let here : value_at (slice_set values d v) r ≡ value_at values r = grind (arith, elements) in
    let byte : slice_index (slice_set registers d x) r ≡ slice_index registers r = grind (arith, elements) in
    subst (λ w. ByteStands o w (slice_index (slice_set registers d x) r)) (sym here) (subst (ByteStands o (value_at values r)) (sym byte) (old r lt)))
    (cases_eq r d)

-- ---- slots

live_above_none : (below : ℕ) (live : List Bool) (a : ℕ) → live_in below live a ≡ true → 0 < a
unfolding live_in
live_above_none below live a h = grind (arith, nat_tests)

pub slot_kept : (o : Origin) (old new : Memory) (floor a : ℕ) (slot : Slot AbsByte) → Keeps old new floor → (is_live old a ≡ true → floor < a) → SlotStands o old a slot → SlotStands o new a slot
slot_kept o old new floor a Free keeps lt h = tt
slot_kept o old new floor a (Guarded v) keeps lt h = (keeps.live a (lt h.0) h.0, subst (ByteStands o v) (sym (keeps.bytes a (lt h.0) h.0)) h.1)

-- a live byte of a frame lies above the floor of its node
pub above_floor : (base sp d : ℕ) (memory : Memory) (is_open : Bool) (form : SpForm) → SpIs base is_open sp form → d < offset_of form
    → is_live memory (base - d) ≡ true → floor_of is_open sp < base - d
above_floor base sp d memory false (Closed offset) h lt live = omega (arith, h.1)
above_floor base sp d memory true (Closed offset) h lt live = absurd (let e = h.0 in cc)
above_floor base sp d memory false (Open offset high) h lt live = absurd (let e = h.0 in cc)
above_floor base sp d memory true (Open offset high) h lt live = live_above_none memory.below memory.live (base - d) live

-- ---- a node that the machine is at

module _ {may : Bool} (m : State) (o : Origin) (k : NodeKey) (s : AbsState) (at : InBareFrame may m o k s) where
  pub register_stands : (r : ℕ) → ByteStands o (value s r) (register m r)
  register_stands r =
      ⊎_elim
      (λ lt. at.stands.registers r lt)
      (λ over. subst (λ v. ByteStands o v (register m r)) (sym (get_or_past s.registers r unknown (omega (arith, at.node.formed.count_registers)))) (any_stands o (register m r) (byte_in_list m.registers r at.machine.register_bytes)))
      (cases_lt r REGISTERS)

  pub set_one : (d : ℕ) (v : AbsByte) (x : ℕ) → ByteStands o v x → RegistersStand o (slice_set s.registers d v) (slice_set m.registers d x)
  set_one d v x h = set_stands o s.registers m.registers d v x at.node.formed.count_registers at.machine.count_registers h at.stands.registers

  pub set_two : (d e : ℕ) (v w : AbsByte) (x y : ℕ) → ByteStands o v x → ByteStands o w y
      → RegistersStand o (slice_set (slice_set s.registers d v) e w) (slice_set (slice_set m.registers d x) e y)
  set_two d e v w x y h g =
      set_stands o (slice_set s.registers d v) (slice_set m.registers d x) e w y
      (length-set s.registers d v ∙ at.node.formed.count_registers) (length-set m.registers d x ∙ at.machine.count_registers) g (set_one d v x h)

  -- the frame's slots hold while live bytes above the stack pointer are kept
  pub slots_kept : (new : Memory) → Keeps m.memory new (floor_of m.is_open m.sp) → SlotsStand o new s.slots
  slots_kept new keeps d lt =
      slot_kept o m.memory new (floor_of m.is_open m.sp) (o.base - d) (slot_at s.slots d) keeps
      (above_floor o.base m.sp d m.memory m.is_open k.sp at.place.sp (omega (arith, at.node.formed.count_slots))) (at.stands.slots d lt)

  pub next_is : wrapped m.device (further m 1) ≡ node_further m.device k 1
  next_is = devices_are_alike.twice m.device (m.pc + 1) ∙ ap (λ pc. wrapped m.device (pc + 1)) at.place.pc

  -- A successor with the same stack pointer and slots, of an effect that pushes nothing.
  pub frame_kept : (told : Option PairFacts) (guarded : Bool) (e : Effect) (to : Node) → e.pushes ≡ [] → to.key.sp ≡ k.sp → to.state.slots ≡ s.slots
      → sp_after m.device e.sp e.stores ≡ m.sp → open_after m.device e.is_open e.stores ≡ m.is_open
      → e.pc ≡ to.key.pc → EnablesAre may (enables_after m.device e.enables e.stores) to.key.masks → flag (sreg_after m.device e.sreg e.stores) 7 ≡ to.key.i → e.delay ≡ to.key.delay
      → RegistersStand o to.state.registers (registers_after m.device (with_registers m.registers e.registers) e.stores)
      → FlagsStand o to.state.flags (sreg_after m.device e.sreg e.stores)
      → LessHolds (registers_after m.device (with_registers m.registers e.registers) e.stores) to.state.flags.carry (flag (sreg_after m.device e.sreg e.stores) 0)
      → (HeldAt m told e → HoldsAt to.state.facts (registers_after m.device (with_registers m.registers e.registers) e.stores) (sreg_after m.device e.sreg e.stores))
      → ArrivesWhere may m o told guarded e to
  frame_kept told guarded e to pushes sp slots sp_is open_is pc enables i delay registers flags less facts =
      record {
        lands = λ held. record {
          inside = λ room. ap (all_inside m.device) pushes;
          place = λ within. record { pc = pc; enables = enables; i = i; delay = delay; sp = place };
          registers = registers;
          flags = flags;
          less = less;
          facts = facts held;
          slots = λ within inside kept. subst (SlotsStand o (after m guarded e).memory) (sym slots) (slots_kept (after m guarded e).memory (subst (Keeps m.memory (after m guarded e).memory) floor kept));
        };
      }
    where
      place : SpIs o.base (open_after m.device e.is_open e.stores) (sp_after m.device e.sp e.stores) to.key.sp
      place =
          subst (λ form. SpIs o.base (open_after m.device e.is_open e.stores) (sp_after m.device e.sp e.stores) form) (sym sp)
          (subst₂ (λ is_open pointer. SpIs o.base is_open pointer k.sp) (sym open_is) (sym sp_is) at.place.sp)

      floor : floor_of (after m guarded e).is_open (after m guarded e).sp ≡ floor_of m.is_open m.sp
      floor = ap₂ floor_of open_is sp_is

  pub same_frame : (guarded : Bool) (e : Effect) (to : Node) → e.pushes ≡ [] → to.key.sp ≡ k.sp → to.state.slots ≡ s.slots
      → sp_after m.device e.sp e.stores ≡ m.sp → open_after m.device e.is_open e.stores ≡ m.is_open
      → e.pc ≡ to.key.pc → EnablesAre may (enables_after m.device e.enables e.stores) to.key.masks → flag (sreg_after m.device e.sreg e.stores) 7 ≡ to.key.i → e.delay ≡ to.key.delay
      → RegistersStand o to.state.registers (registers_after m.device (with_registers m.registers e.registers) e.stores)
      → FlagsStand o to.state.flags (sreg_after m.device e.sreg e.stores)
      → LessHolds (registers_after m.device (with_registers m.registers e.registers) e.stores) to.state.flags.carry (flag (sreg_after m.device e.sreg e.stores) 0)
      → (HeldAt m s.facts e → HoldsAt to.state.facts (registers_after m.device (with_registers m.registers e.registers) e.stores) (sreg_after m.device e.sreg e.stores))
      → ArrivesWhere may m o s.facts guarded e to
  same_frame = frame_kept s.facts

  -- the only successor
  pub only : (guarded : Bool) (b1 b2 : ℕ) (e : Effect) (to : Node) → to.key.inst ≡ k.inst → ArrivesWhere may m o s.facts guarded e to
      → FollowsWhere may m o s.facts k guarded b1 b2 e (moves_to (to ∷ []))
  only guarded b1 b2 e to inst at_node = record { leads = λ held. stays to (first_in to []) inst (at_node.lands held) }

  -- a row that sets registers and flags and continues
  pub sets : (guarded : Bool) (b1 b2 : ℕ) (writes : List Write) (sreg : ℕ) (registers : List AbsByte) (flags : AbsFlags) → flag sreg 7 ≡ flag m.sreg 7
      → RegistersStand o registers (with_registers m.registers writes) → FlagsStand o flags sreg
      → LessHolds (with_registers m.registers writes) flags.carry (flag sreg 0)
      → FollowsWhere may m o s.facts k guarded b1 b2 (setting m writes sreg) (node_setting (site_at m.device k s) registers flags)
  sets guarded b1 b2 writes sreg registers flags i h g less =
      only guarded b1 b2 _ _ refl
      (same_frame guarded (setting m writes sreg) (record { key = next m.device k; state = record s { registers = registers; flags = flags } }) refl refl refl refl refl next_is at.place.enables (i ∙ at.place.i) refl h g less (λ held. held))

  -- a row that goes to a word, modulo the number of words, and changes nothing else
  pub goes_to : (guarded : Bool) (pc pc' : ℕ) → wrapped m.device pc ≡ pc' → ArrivesWhere may m o s.facts guarded (going_to m pc) (record { key = at_word k pc'; state = s })
  goes_to guarded pc pc' is =
      same_frame guarded (going_to m pc) (record { key = at_word k pc'; state = s }) refl refl refl refl refl is at.place.enables at.place.i refl at.stands.registers at.stands.flags at.stands.less (λ held. held)

  -- the same, ending the pick of a jump table, with other enable bits in the key
  pub turns_with : (guarded : Bool) (masks : ℕ) → EnablesAre may m.enables masks → (pc pc' : ℕ) → wrapped m.device pc ≡ pc'
      → ArrivesWhere may m o s.facts guarded (going_to m pc) (record { key = off_table (record k { masks = masks }) pc'; state = s })
  turns_with guarded masks enables pc pc' is =
      same_frame guarded (going_to m pc) (record { key = off_table (record k { masks = masks }) pc'; state = s }) refl refl refl refl refl is enables at.place.i refl at.stands.registers
      at.stands.flags at.stands.less (λ held. held)

  -- the same, with the same enable bits in the key
  pub turns_to : (guarded : Bool) (pc pc' : ℕ) → wrapped m.device pc ≡ pc' → ArrivesWhere may m o s.facts guarded (going_to m pc) (record { key = off_table k pc'; state = s })
  turns_to guarded pc pc' is = turns_with guarded k.masks at.place.enables pc pc' is

  -- a row that goes to a word and cuts the ranges of some registers
  pub goes_cut : (guarded : Bool) (pc pc' : ℕ) (values : List AbsByte) → wrapped m.device pc ≡ pc' → RegistersStand o values m.registers
      → ArrivesWhere may m o s.facts guarded (going_to m pc) (record { key = off_table k pc'; state = record s { registers = values } })
  goes_cut guarded pc pc' values is stand =
      same_frame guarded (going_to m pc) (record { key = off_table k pc'; state = record s { registers = values } }) refl refl refl refl refl is at.place.enables at.place.i refl stand
      at.stands.flags at.stands.less (λ held. held)
