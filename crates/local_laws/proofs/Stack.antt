-- Pushed and popped bytes, and calls of a compiler's small frame.
use Rattle.std.proofs.Common.{◌≡◌, refl, sym, ap, ◌∙◌, subst, ℕ, zero, suc, ◌+◌, ◌-◌, ◌<◌, ◌≤◌, ◌==◌, ◌&&◌, Bool, true, false, not, nat_le, if◌then◌else◌, ◌%◌, List, [], ◌∷◌, ◌++◌, take, length, replicate, arith, length-take, ap₂}
use Rattle.std.proofs.lemmas.Bool.Decides.{nat_tests}
use Rattle.std.proofs.lemmas.List.{append_assoc, append-nil}
use Rattle.basics.specs.Items.{first_in}
use Rattle.avr_model.proofs.AllLaws.{devices_are_alike}
use Rattle.avr_model.specs.Devices.{spl_address, sreg_address, io_end, size_of, ramend, back_of, has_sph, sp_count, wrapped}
use Rattle.avr_model.specs.declared.device.Device.{Device}
use Rattle.avr_model.specs.declared.effect.Effect.{Effect}
use Rattle.avr_model.specs.Sreg.{flag}
use Rattle.avr_model.specs.State.{State, Memory, register, sram_at, is_sram, is_live, plus_sp, minus_sp, low, high, read, read_behind, is_sph}
use Rattle.avr_model.specs.Effects.{further, calling, back_bytes, pushed_from, push_effect, pop_effect}
use Rattle.avr_model.specs.Step.{after, memory_after, all_inside}
use Rattle.sp_domain.specs.declared.slots.Slot.{Slot}
use Rattle.sp_domain.specs.declared.slots.Slot.TheVariants.{Free, Guarded}
use Rattle.sp_domain.specs.Tags.{Origin}
use Rattle.sp_domain.specs.Slots.{slot_at}
use Rattle.abs_state.specs.declared.values.AbsByte.{AbsByte}
use Rattle.abs_state.specs.declared.state.AbsState.{AbsState}
use Rattle.abs_state.specs.Stands.{ByteStands, SlotStands, SlotsStand}
use Rattle.abs_state.specs.Laws.{Keeps}
use Rattle.abs_state.proofs.AllLaws.{slots_follow, any_stands}
use Rattle.node_keys.specs.declared.keys.NodeKey.{NodeKey}
use Rattle.node_keys.specs.declared.keys.SpForm.TheVariants.{Closed}
use Rattle.node_keys.specs.Keys.{offset_of}
use Rattle.node_keys.specs.Place.{SpIs}
use Rattle.local_rules.specs.declared.local.NodeFault.TheVariants.{TooDeep}
use Rattle.local_rules.specs.Raw.{Raw, fails, next, at_word, further as node_further}
use Rattle.local_rules.specs.Registers.{value, set as node_set}
use Rattle.local_rules.specs.Reads.{value_of}
use Rattle.local_rules.specs.Flow.{if_room, pushed_slot, pushing, popping, making_room, at_closed, relative_call}
use Rattle.local_laws.proofs.Bare.{InBareFrame}
use Rattle.local_laws.proofs.Landing.{FollowsWhere}
use Rattle.local_laws.proofs.Specials.{none_behind}
use Rattle.local_laws.proofs.Frame.{only, register_stands, set_one, next_is}
use Rattle.local_laws.proofs.Memory.{inside_if_live, pushed_byte, pushed_live}
use Rattle.local_laws.proofs.Less.{Spares, less_set}
use Rattle.local_laws.proofs.ReadValues.{inside_numbers, read_small}
use Rattle.local_laws.proofs.FlowRows.{closed, call_covered, further_is}
use Rattle.local_rules.specs.Site.{site_at}

inside_one : (device : Device) (sp offset base : ℕ) → sp + offset ≡ base → base ≤ ramend device → ramend device + (offset + 1) ≤ base + size_of device
    → is_sram device sp ≡ true
inside_one device sp offset base e low room = grind (arith, nat_tests)

and_true : (a : Bool) → a ≡ true → (a && true) ≡ true
and_true a e = grind arith

first_true : (a : Bool) → (a && true) ≡ true → a ≡ true
first_true a e = grind arith

-- within its numbers the stack pointer moves as a number does
down_by : (has_high : Bool) (sp k : ℕ) → k ≤ sp → k < 256 → sp < (if has_high then 65536 else 256)
    → (sp + ((if has_high then 65536 else 256) - k % (if has_high then 65536 else 256))) % (if has_high then 65536 else 256) + k ≡ sp
down_by true sp k le small fits = omega arith
down_by false sp k le small fits = omega arith

pub sp_down : (device : Device) (sp k : ℕ) → k ≤ sp → k < 256 → sp < sp_count device → minus_sp device sp k + k ≡ sp
sp_down device sp k le small fits = down_by (has_sph device) sp k le small fits

up_by : (has_high : Bool) (sp k : ℕ) → sp + k < (if has_high then 65536 else 256) → (sp + k) % (if has_high then 65536 else 256) ≡ sp + k
up_by true sp k fits = omega arith
up_by false sp k fits = omega arith

pub sp_up : (device : Device) (sp k : ℕ) → sp + k < sp_count device → plus_sp device sp k ≡ sp + k
sp_up device sp k fits = up_by (has_sph device) sp k fits

-- the pushed bytes of a word lie in SRAM
pub inside_pushed : (device : Device) (n sp offset base word : ℕ) → sp + offset ≡ base → base ≤ ramend device → ramend device + (offset + n) ≤ base + size_of device
    → all_inside device (pushed_from device sp (back_bytes n word)) ≡ true
inside_pushed device zero sp offset base word e low room = refl
inside_pushed device (suc n) sp offset base word e low room =
    let fits : sp < sp_count device = omega (arith, devices_are_alike.in_sp device, e, low) in
    let some : 1 ≤ sp = omega (arith, e, low, room) in
    let next_one : minus_sp device sp 1 + 1 ≡ sp = sp_down device sp 1 some (omega arith) fits in
    let here : is_sram device sp ≡ true = inside_one device sp offset base e low (omega (arith, room)) in
    let there = inside_pushed device n (minus_sp device sp 1) (offset + 1) base (high word) (omega (arith, next_one, e)) low (omega (arith, room)) in
    ap₂ (λ (a b : Bool). a && b) here there

-- free slots hold
freed : (o : Origin) (memory : Memory) (n : ℕ) (slots : List (Slot AbsByte)) → SlotsStand o memory slots → SlotsStand o memory (slots ++ replicate n Free)
freed o memory zero slots h = subst (SlotsStand o memory) (sym (append-nil slots)) h
freed o memory (suc n) slots h =
    subst (SlotsStand o memory) (append_assoc slots (Free ∷ []) (replicate n Free)) (freed o memory n (slots ++ Free ∷ []) (slots_follow.pushed o memory slots Free h tt))

-- the byte of an address in SRAM
in_sram : (device : Device) (a l h f i b x : ℕ) → is_sram device a ≡ true
    → (if a == spl_address device then l else (if is_sph device a then h else (if a == sreg_address device then f else (if nat_le a (io_end device) then i else (if is_sram device a then b else x))))) ≡ b
in_sram device a l h f i b x inside = grind (arith, nat_tests, devices_are_alike.least_io device)

live_read : (still : Bool) (m : State) (a input : ℕ) → m.memory.below ≡ io_end m.device → length m.memory.live ≡ size_of m.device → is_live m.memory a ≡ true → read still m a input ≡ sram_at m a
unfolding read
live_read still m a input is count live =
    let inside = inside_if_live m.device m.memory.below m.memory.live a is count live in
    ap (read_behind still m a input) (none_behind m.device a (inside_numbers m.device a inside).0) ∙ in_sram m.device a _ _ _ _ (sram_at m a) input inside

-- the value of a slot holds of its byte
slot_read : (still : Bool) (m : State) (o : Origin) (a input : ℕ) (slot : Slot AbsByte) → m.memory.below ≡ io_end m.device → length m.memory.live ≡ size_of m.device → read still m a input < 256 → SlotStands o m.memory a slot
    → ByteStands o (value_of slot) (read still m a input)
slot_read still m o a input Free is count small h = any_stands o (read still m a input) small
slot_read still m o a input (Guarded v) is count small h = subst (ByteStands o v) (sym (live_read still m a input is count h.0)) h.1

module _ {may : Bool} (m : State) (o : Origin) (k : NodeKey) (s : AbsState) (at : InBareFrame may m o k s) where
  sp_is : (offset : ℕ) → k.sp ≡ Closed offset → m.sp + offset ≡ o.base
  sp_is offset form = (subst (SpIs o.base m.is_open m.sp) form at.place.sp).1

  count : (offset : ℕ) → k.sp ≡ Closed offset → length s.slots ≡ offset
  count offset form = at.node.formed.count_slots ∙ ap offset_of form

  -- the slots of the frame while live bytes from its last one on are kept
  kept_below : (offset floor : ℕ) (new : Memory) → k.sp ≡ Closed offset → floor + offset ≤ o.base → Keeps m.memory new floor → SlotsStand o new s.slots
  kept_below offset floor new form le keeps = slots_follow.kept o m.memory new floor s.slots keeps (omega (arith, count offset form)) at.stands.slots

  module _ (guarded : Bool) (b1 b2 : ℕ) where
    -- a row that has room
    with_room : (n : ℕ) (r : Raw) (e : Effect) → (if_room m.device n k.pc r).faults ≡ [] → FollowsWhere may m o s.facts k guarded b1 b2 e r → FollowsWhere may m o s.facts k guarded b1 b2 e (if_room m.device n k.pc r)
    with_room n r e none h = by_room (nat_le n (size_of m.device)) none
      where
        by_room : (fits : Bool) → (if fits then r else fails (TooDeep k.pc n)).faults ≡ [] → FollowsWhere may m o s.facts k guarded b1 b2 e (if fits then r else fails (TooDeep k.pc n))
        by_room true free = h
        by_room false wrong = absurd (cc)

    -- ---- pop

    popped : (d offset : ℕ) → b1 < 256 → Spares s.flags.carry d → k.sp ≡ Closed offset → (popping (site_at m.device k s) d offset).faults ≡ [] → FollowsWhere may m o s.facts k guarded b1 b2 (pop_effect may m d b1) (popping (site_at m.device k s) d offset)
    popped d zero small spare form none = absurd (cc)
    popped d (suc n) small spare form none =
        let sp = sp_is (suc n) form in
        let slots = count (suc n) form in
        let up : plus_sp m.device m.sp 1 ≡ m.sp + 1 = sp_up m.device m.sp 1 (omega (arith, sp, at.top, devices_are_alike.in_sp m.device)) in
        let address : o.base - n ≡ plus_sp m.device m.sp 1 = omega (arith, sp, up) in
        only m o k s at guarded b1 b2 (pop_effect may m d b1)
        (record { key = record (next m.device k) { sp = Closed n }; state = record s { registers = node_set s d (value_of (slot_at s.slots n)); slots = take n s.slots } }) refl
        (record {
          lands = λ held. record {
            inside = λ room. refl;
            place = λ within. record { pc = next_is m o k s at; enables = at.place.enables; i = at.place.i; delay = refl; sp = (refl, omega (arith, sp, up)) };
            registers = set_one m o k s at d (value_of (slot_at s.slots n)) (read may m (plus_sp m.device m.sp 1) b1)
                (slot_read may m o (plus_sp m.device m.sp 1) b1 (slot_at s.slots n) at.machine.below at.machine.count_live (read_small m o k s at (plus_sp m.device m.sp 1) b1 small)
                (subst (λ a. SlotStands o m.memory a (slot_at s.slots n)) address (at.stands.slots n (omega arith))));
            flags = at.stands.flags;
            less = less_set m.registers s.flags.carry (flag m.sreg 0) d (read may m (plus_sp m.device m.sp 1) b1) spare at.stands.less;
            facts = held;
            slots = λ within inside kept.
                slots_follow.kept o m.memory (after m guarded (pop_effect may m d b1)).memory (plus_sp m.device m.sp 1) (take n s.slots) kept (omega (arith, sp, up, length-take n s.slots))
                (slots_follow.taken o m.memory s.slots n at.stands.slots);
          };
        })

    pub pop_covered : (d : ℕ) → b1 < 256 → Spares s.flags.carry d → (at_closed k.sp k.pc (popping (site_at m.device k s) d)).faults ≡ [] → FollowsWhere may m o s.facts k guarded b1 b2 (pop_effect may m d b1) (at_closed k.sp k.pc (popping (site_at m.device k s) d))
    pop_covered d small spare none = closed m o k s at guarded b1 b2 k.sp k.pc (pop_effect may m d b1) (popping (site_at m.device k s) d) none (λ offset. popped d offset small spare)

  module _ (scratch : Bool) (b1 b2 : ℕ) where
    -- ---- push

    pushed_stands : (b : Bool) (r : ℕ) → is_sram m.device m.sp ≡ true → minus_sp m.device m.sp 1 < m.sp
        → SlotStands o (memory_after m.memory (not b) false (minus_sp m.device m.sp 1) [] (record { address = m.sp; byte = register m r } ∷ [])) m.sp (pushed_slot b (value s r))
    pushed_stands true r inside lt = tt
    pushed_stands false r inside lt = (
      pushed_live m.device m.memory (minus_sp m.device m.sp 1) at.machine.below at.machine.count_bytes at.machine.count_live m.sp (register m r) inside lt,
      subst (ByteStands o (value s r)) (sym (pushed_byte m.device m.memory (minus_sp m.device m.sp 1) at.machine.below at.machine.count_bytes at.machine.count_live true m.sp (register m r) inside)) (register_stands m o k s at r),
    )

    pushed : (r offset : ℕ) → k.sp ≡ Closed offset → (pushing scratch (site_at m.device k s) r offset).faults ≡ [] → FollowsWhere may m o s.facts k (not scratch) b1 b2 (push_effect m r) (pushing scratch (site_at m.device k s) r offset)
    pushed r offset form none =
        let sp = sp_is offset form in
        let slots = count offset form in
        let new = (after m (not scratch) (push_effect m r)).memory in
        let down : offset + 1 ≤ o.base → minus_sp m.device m.sp 1 + 1 ≡ m.sp = λ within. sp_down m.device m.sp 1 (omega (arith, sp, within)) (omega arith) at.machine.sp_fits in
        with_room (not scratch) b1 b2 (offset + 1) _ (push_effect m r) none
        (only m o k s at (not scratch) b1 b2 (push_effect m r)
        (record { key = record (next m.device k) { sp = Closed (offset + 1) }; state = record s { slots = s.slots ++ pushed_slot scratch (value s r) ∷ [] } }) refl
        (record {
          lands = λ held. record {
            inside = λ room. and_true (is_sram m.device m.sp) (inside_one m.device m.sp offset o.base sp room.0 room.1);
            place = λ within. record { pc = next_is m o k s at; enables = at.place.enables; i = at.place.i; delay = refl; sp = (refl, omega (arith, sp, down within)) };
            registers = at.stands.registers;
            flags = at.stands.flags;
            less = at.stands.less;
            facts = held;
            slots = λ within inside kept.
                let here : m.sp ≡ o.base - length s.slots = omega (arith, sp, slots) in
                let lt : minus_sp m.device m.sp 1 < m.sp = omega (arith, down within) in
                slots_follow.pushed o new s.slots (pushed_slot scratch (value s r)) (kept_below offset (minus_sp m.device m.sp 1) new form (omega (arith, sp, down within)) kept)
                (subst (λ a. SlotStands o new a (pushed_slot scratch (value s r))) here (pushed_stands scratch r (first_true (is_sram m.device m.sp) inside) lt));
          };
        }))

    pub push_covered : (r : ℕ) → (at_closed k.sp k.pc (pushing scratch (site_at m.device k s) r)).faults ≡ []
        → FollowsWhere may m o s.facts k (not scratch) b1 b2 (push_effect m r) (at_closed k.sp k.pc (pushing scratch (site_at m.device k s) r))
    push_covered r none = closed m o k s at (not scratch) b1 b2 k.sp k.pc (push_effect m r) (pushing scratch (site_at m.device k s) r) none (pushed r)

    -- ---- calls

    roomier : (target target' offset : ℕ) → wrapped m.device target ≡ target' → k.sp ≡ Closed offset → (making_room (site_at m.device k s) target' offset).faults ≡ []
        → FollowsWhere may m o s.facts k (not scratch) b1 b2 (calling m target (further m 1)) (making_room (site_at m.device k s) target' offset)
    roomier target target' offset is form none =
        let sp = sp_is offset form in
        let slots = count offset form in
        let new = (after m (not scratch) (calling m target (further m 1))).memory in
        let back : ℕ = back_of m.device in
        let down : offset + back ≤ o.base → minus_sp m.device m.sp back + back ≡ m.sp = λ within.
        sp_down m.device m.sp back (omega (arith, sp, within)) (omega (arith, devices_are_alike.most_back m.device)) at.machine.sp_fits in
        with_room (not scratch) b1 b2 (offset + back) _ (calling m target (further m 1)) none
        (only m o k s at (not scratch) b1 b2 (calling m target (further m 1))
        (record { key = record (at_word k target') { sp = Closed (offset + back) }; state = record s { slots = s.slots ++ replicate back Free } }) refl
        (record {
          lands = λ held. record {
            inside = λ room. inside_pushed m.device back m.sp offset o.base (further m 1) sp room.0 room.1;
            place = λ within. record { pc = is; enables = at.place.enables; i = at.place.i; delay = refl; sp = (refl, omega (arith, sp, down within)) };
            registers = at.stands.registers;
            flags = at.stands.flags;
            less = at.stands.less;
            facts = held;
            slots = λ within inside kept. freed o new back s.slots (kept_below offset (minus_sp m.device m.sp back) new form (omega (arith, sp, down within)) kept);
          };
        }))

    rcall_by : (b : Bool) (target target' : ℕ) → b ≡ scratch → wrapped m.device target ≡ target' → (relative_call b (site_at m.device k s) target').faults ≡ []
        → FollowsWhere may m o s.facts k (not scratch) b1 b2 (calling m target (further m 1)) (relative_call b (site_at m.device k s) target')
    rcall_by true target target' small is none =
        closed m o k s at (not scratch) b1 b2 k.sp k.pc (calling m target (further m 1)) (making_room (site_at m.device k s) target') none (λ offset form free. roomier target target' offset is form free)
    rcall_by false target target' small is none =
        call_covered m o k s at (not scratch) b1 b2 target target' (further m 1) (node_further m.device k 1) (target' ∷ []) (ap not (sym small)) is
        (further_is m o k s at (not scratch) b1 b2 1) (first_in target' []) none

    pub rcall_covered : (target target' : ℕ) → wrapped m.device target ≡ target' → (relative_call scratch (site_at m.device k s) target').faults ≡ []
        → FollowsWhere may m o s.facts k (not scratch) b1 b2 (calling m target (further m 1)) (relative_call scratch (site_at m.device k s) target')
    rcall_covered target target' is none = rcall_by scratch target target' refl is none
