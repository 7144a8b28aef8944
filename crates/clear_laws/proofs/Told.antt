-- The test for clear nodes is right.
use Rattle.std.proofs.Common.{◌≡◌, refl, sym, ap, ◌∙◌, subst, ℕ, zero, suc, ◌+◌, ◌*◌, ◌<◌, ◌==◌, Bool, true, false, not, ◌&&◌, ◌||◌, nat_lt, nat_le, List, Option, Some, None, ⊎_elim, arith, eqb-true}
use Rattle.std.proofs.lemmas.Bool.{cases_lt, and_from, or_cases, and_parts, or_right, not-true}
use Rattle.basics.specs.Numbers.{less_from_test, equals_itself, at_most_from_test, test_from_less, test_from_at_most}
use Rattle.basics.specs.Booleans.{not_from_never}
use Rattle.std.proofs.lemmas.Option.{same_Some}
use Rattle.avr_model.specs.declared.device.Device.{Device}
use Rattle.avr_model.specs.declared.instruction.Instr.{Instr}
use Rattle.avr_model.specs.Assumptions.{jump_line, lists}
use Rattle.avr_model.specs.Bits.{all_below}
use Rattle.avr_model.specs.Devices.{io_end, ramend, wrapped, eind_most, device_of}
use Rattle.avr_model.specs.Sites.{instruction_at}
use Rattle.avr_model.specs.Step.{is_indirect}
use Rattle.bit_domain.specs.declared.bytes.TriByte.{TriByte}
use Rattle.bit_domain.specs.TriByte.{has}
use Rattle.pair_domain.specs.Facts.{is_followed}
use Rattle.abs_state.specs.declared.state.AbsState.{AbsState}
use Rattle.node_keys.specs.Keys.{offset_of}
use Rattle.local_rules.specs.declared.local.Node.{Node}
use Rattle.edge_rules.specs.Families.{RankedFamily}
use Rattle.clear_laws.specs.Held.{MayHold}
use Rattle.clear_laws.specs.Aims.{Span, Reach, Aim, may_write, aim_of}
use Rattle.clear_laws.specs.Aims.reach as reach
use Rattle.clear_laws.specs.Clear.{IsHarmless, no_address, under_stack, above_memory, one_register, each_address, free_slot, IsClear, is_flagged_address, is_address_harmless, are_addresses_harmless, permits_pair, AreTargetsListed, is_span_harmless, is_reach_harmless, is_slot_harmless, is_aim_harmless, target_bank, is_target_listed, is_bank_listed, are_targets_listed, is_transfer_listed, calls_cut, may_move, is_clear_by}
use Rattle.clear_laws.specs.StepLaws.{ClearNodesAreTold}
use Rattle.local_rules.specs.Site.{Task}
use Rattle.clear_laws.specs.Clear.{store_at}

all_three : (a b c : Bool) → a ≡ true → b ≡ true → c ≡ false → (a && b && not c) ≡ true
all_three a b c h g k = grind arith

-- one of the three
first_of : (a b c : Bool) → a ≡ true → (a || b || c) ≡ true
first_of a b c h = grind arith

second_of : (a b c : Bool) → b ≡ true → (a || b || c) ≡ true
second_of a b c h = grind arith

third_of : (a b c : Bool) → c ≡ true → (a || b || c) ≡ true
third_of a b c h = grind arith

-- ---- transfers

pub below_each : (p : ℕ → Bool) (n k : ℕ) → all_below n p ≡ true → k < n → p k ≡ true
unfolding all_below
below_each p zero k h lt = absurd (omega (arith, lt))
below_each p (suc n) k h lt =
    let parts = and_parts (all_below n p) (p n) h in
    ⊎_elim (λ smaller. below_each p n k parts.0 smaller) (λ over. let same : n ≡ k = omega (arith, lt, over) in ap p (sym same) ∙ parts.1) (cases_lt k n)

pub each_below : (p : ℕ → Bool) (n : ℕ) → ((k : ℕ) → k < n → p k ≡ true) → all_below n p ≡ true
unfolding all_below
each_below p zero h = refl
each_below p (suc n) h = and_from (all_below n p) (p n) (each_below p n (λ k lt. h k (omega (arith, lt)))) (h n (omega arith))

pub passes : (a b : Bool) → a ≡ true → (not a || b) ≡ true → b ≡ true
passes a b h g = grind arith

pub may_pass : (a b : Bool) → (a ≡ true → b ≡ true) → (not a || b) ≡ true
may_pass true b h = or_right false b (h refl)
may_pass false b h = refl

module _ (device : Device) (s : AbsState) (bank : TriByte) where
  targets_listed : (line : Option (List ℕ)) → are_targets_listed device s bank line ≡ true → AreTargetsListed device s bank line
  targets_listed None h = tt
  targets_listed (Some listed) h =
      λ e z most third small permitted.
      let words = passes (has bank e) (all_below 65536 (is_target_listed device s listed e)) third (below_each (is_bank_listed device s bank listed) (eind_most device + 1) e h (omega (arith, most))) in
      passes (permits_pair s 30 z) (lists listed (wrapped device (65536 * e + z))) permitted (below_each (is_target_listed device s listed e) 65536 z words small)

  targets_told : (line : Option (List ℕ)) → AreTargetsListed device s bank line → are_targets_listed device s bank line ≡ true
  targets_told None h = refl
  targets_told (Some listed) h =
      each_below (is_bank_listed device s bank listed) (eind_most device + 1)
      (λ e lt. may_pass (has bank e) (all_below 65536 (is_target_listed device s listed e))
      (λ third. each_below (is_target_listed device s listed e) 65536
      (λ z small. may_pass (permits_pair s 30 z) (lists listed (wrapped device (65536 * e + z))) (λ permitted. h e z (omega (arith, lt)) third small permitted))))

-- ---- stores

abbrev to_span : ℕ → ℕ → Span
to_span first last = record { first = first; last = last }

one_span : (span : Span) → span.first ≡ span.last → span ≡ record { first = span.first; last = span.first }
one_span span e = ap (λ (last : ℕ). to_span span.first last) (sym e)

module _ (task : Task) (f : RankedFamily) (n : Node) (held : ℕ → Bool) where
  -- the test has all slots that may hold a live byte
  abbrev Frees : Type 0
  Frees = (d : ℕ) → d < offset_of n.key.sp → held d ≡ false → MayHold task f.nodes n.key d → ⊥

  abbrev Holds : Type 0
  Holds = (d : ℕ) → d < offset_of n.key.sp → held d ≡ true → MayHold task f.nodes n.key d

  abbrev below : ℕ
  below = io_end (device_of task.flash)

  abbrev top : ℕ
  top = ramend (device_of task.flash)

  module _ (instr : Instr) (aim : Aim) where
    module _ (span : Span) where
      abbrev under : Bool
      under = nat_lt below span.first && nat_le (span.last + f.bound) top

      abbrev over : Bool
      over = nat_lt top span.first

      abbrev single : Bool
      single = (span.first == span.last) && nat_le span.first below && not (is_flagged_address task (store_at n.key.pc n.state instr) span.first)

      by_span : aim.reach ≡ reach.Within span → is_span_harmless task f.bound (store_at n.key.pc n.state instr) span ≡ true → IsHarmless task f n instr aim
      by_span is h = ⊎_elim (λ first. ⊎_elim by_under by_over (or_cases under over first)) by_single (or_cases (under || over) single h)
        where
          by_under : under ≡ true → IsHarmless task f n instr aim
          by_under t =
              let parts = and_parts (nat_lt below span.first) (nat_le (span.last + f.bound) top) t in
              under_stack span is (less_from_test below span.first parts.0) (at_most_from_test (span.last + f.bound) top parts.1)

          by_over : over ≡ true → IsHarmless task f n instr aim
          by_over t = above_memory span is (less_from_test top span.first t)

          by_single : single ≡ true → IsHarmless task f n instr aim
          by_single t =
              let outer = and_parts ((span.first == span.last) && nat_le span.first below) (not (is_flagged_address task (store_at n.key.pc n.state instr) span.first)) t in
              let inner = and_parts (span.first == span.last) (nat_le span.first below) outer.0 in
              let same : span.first ≡ span.last = eqb-true span.first span.last inner.0 in
              one_register span.first (is ∙ ap reach.Within (one_span span same))
              (at_most_from_test span.first below inner.1) (not-true (is_flagged_address task (store_at n.key.pc n.state instr) span.first) outer.1)

    by_reach : (r : Reach) → aim.reach ≡ r → is_reach_harmless task f.bound (store_at n.key.pc n.state instr) r ≡ true → IsHarmless task f n instr aim
    by_reach reach.Nothing is h = no_address is
    by_reach (reach.Within span) is h = by_span span is h
    by_reach reach.Beyond is h = absurd (cc)

    abbrev is_fine : ℕ → Bool
    is_fine a = not (may_write n.state instr a) || is_address_harmless task f.bound (store_at n.key.pc n.state instr) a

    by_addresses : are_addresses_harmless task f.bound (store_at n.key.pc n.state instr) ≡ true → IsHarmless task f n instr aim
    by_addresses h =
        let parts = and_parts (is_followed n.state.facts) (all_below 65536 is_fine) h in
        each_address parts.0
        (λ a small may. passes (may_write n.state instr a) (is_address_harmless task f.bound (store_at n.key.pc n.state instr) a) may (below_each is_fine 65536 a parts.1 small))

    -- the three tests
    abbrev by_span_test : Bool
    by_span_test = is_reach_harmless task f.bound (store_at n.key.pc n.state instr) aim.reach

    abbrev by_each_test : Bool
    by_each_test = are_addresses_harmless task f.bound (store_at n.key.pc n.state instr)

    abbrev by_slot_test : Bool
    by_slot_test = is_slot_harmless (offset_of n.key.sp) held aim.slot

    by_slot : Frees → (s : Option ℕ) → aim.slot ≡ s → is_slot_harmless (offset_of n.key.sp) held s ≡ true → IsHarmless task f n instr aim
    by_slot frees None is h = absurd (cc)
    by_slot frees (Some d) is h =
        let parts = and_parts (nat_lt d (offset_of n.key.sp)) (not (held d)) h in
        let lt = less_from_test d (offset_of n.key.sp) parts.0 in
        free_slot d is lt (frees d lt (not-true (held d) parts.1))

    harmless : Frees → is_aim_harmless task f.bound (store_at n.key.pc n.state instr) (is_slot_harmless (offset_of n.key.sp) held) (Some aim) ≡ true → IsHarmless task f n instr aim
    harmless frees h =
        ⊎_elim (λ e. ⊎_elim (by_reach aim.reach refl) by_addresses (or_cases by_span_test by_each_test e)) (by_slot frees aim.slot refl)
        (or_cases (by_span_test || by_each_test) by_slot_test h)

    reach_told : (r : Reach) → aim.reach ≡ r → is_reach_harmless task f.bound (store_at n.key.pc n.state instr) r ≡ true → is_aim_harmless task f.bound (store_at n.key.pc n.state instr) (is_slot_harmless (offset_of n.key.sp) held) (Some aim) ≡ true
    reach_told r is h = first_of by_span_test by_each_test by_slot_test (ap (is_reach_harmless task f.bound (store_at n.key.pc n.state instr)) is ∙ h)

    told : Holds → IsHarmless task f n instr aim → is_aim_harmless task f.bound (store_at n.key.pc n.state instr) (is_slot_harmless (offset_of n.key.sp) held) (Some aim) ≡ true
    told holds (no_address is) = reach_told reach.Nothing is refl
    told holds (under_stack span is low high) =
        reach_told (reach.Within span) is
        (first_of (under span) (over span) (single span) (and_from (nat_lt below span.first) (nat_le (span.last + f.bound) top) (test_from_less below span.first low) (test_from_at_most (span.last + f.bound) top high)))
    told holds (above_memory span is above) = reach_told (reach.Within span) is (second_of (under span) (over span) (single span) (test_from_less top span.first above))
    told holds (one_register a is low free) =
        let span : Span = record { first = a; last = a } in
        reach_told (reach.Within span) is
        (third_of (under span) (over span) (single span) (all_three (a == a) (nat_le a below) (is_flagged_address task (store_at n.key.pc n.state instr) a) (equals_itself a) (test_from_at_most a below low) free))
    told holds (each_address followed h) =
        second_of by_span_test by_each_test by_slot_test
        (and_from (is_followed n.state.facts) (all_below 65536 is_fine) followed
        (each_below is_fine 65536 (λ a small. may_pass (may_write n.state instr a) (is_address_harmless task f.bound (store_at n.key.pc n.state instr) a) (h a small))))
    told holds (free_slot d is lt none) =
        third_of by_span_test by_each_test by_slot_test
        (ap (is_slot_harmless (offset_of n.key.sp) held) is
        ∙ and_from (nat_lt d (offset_of n.key.sp)) (not (held d)) (test_from_less d (offset_of n.key.sp) lt) (not_from_never (held d) (λ h. none (holds d lt h))))

  -- ---- nodes

  aim_clear : Frees → (instr : Instr) (x : Option Aim) → aim_of (device_of task.flash) n.key n.state instr ≡ x → is_aim_harmless task f.bound (store_at n.key.pc n.state instr) (is_slot_harmless (offset_of n.key.sp) held) x ≡ true
      → (aim : Aim) → aim_of (device_of task.flash) n.key n.state instr ≡ Some aim → IsHarmless task f n instr aim
  aim_clear frees instr None is h aim same = absurd (let no : None ≡ Some aim = sym is ∙ same in cc)
  aim_clear frees instr (Some x) is h aim same = let e : x ≡ aim = same_Some x aim (sym is ∙ same) in subst (IsHarmless task f n instr) e (harmless instr x frees h)

  aim_told : Holds → (instr : Instr) (x : Option Aim) → aim_of (device_of task.flash) n.key n.state instr ≡ x
      → ((aim : Aim) → aim_of (device_of task.flash) n.key n.state instr ≡ Some aim → IsHarmless task f n instr aim) → is_aim_harmless task f.bound (store_at n.key.pc n.state instr) (is_slot_harmless (offset_of n.key.sp) held) x ≡ true
  aim_told holds instr None is h = refl
  aim_told holds instr (Some aim) is h = told instr aim holds (h aim is)

  module _ (x : Instr) (is : instruction_at task.flash n.key.pc ≡ Some x) where
    abbrev stores_harmless : Bool
    stores_harmless = is_aim_harmless task f.bound (store_at n.key.pc n.state x) (is_slot_harmless (offset_of n.key.sp) held) (aim_of (device_of task.flash) n.key n.state x)

    abbrev transfers_listed : Bool
    transfers_listed = is_transfer_listed task n.key.pc n.state x

    -- it calls no word with a `recur` line, and does not set a moving bit
    abbrev stays : Bool
    stays = not (calls_cut task n.key n.state x) && not (may_move task n.key n.state x)

    clear_at : Frees → (stores_harmless && (transfers_listed && stays)) ≡ true → IsClear task f n
    clear_at frees h =
        let outer = and_parts stores_harmless (transfers_listed && stays) h in
        let inner = and_parts transfers_listed stays outer.1 in
        let last = and_parts (not (calls_cut task n.key n.state x)) (not (may_move task n.key n.state x)) inner.1 in
        record {
          store = λ instr aim at same.
              let e : x ≡ instr = same_Some x instr (sym is ∙ at) in
              aim_clear frees instr (aim_of (device_of task.flash) n.key n.state instr) refl
              (subst (λ y. is_aim_harmless task f.bound (store_at n.key.pc n.state y) (is_slot_harmless (offset_of n.key.sp) held) (aim_of (device_of task.flash) n.key n.state y) ≡ true) e outer.0) aim same;
          transfer = λ instr at indirect.
              let e : x ≡ instr = same_Some x instr (sym is ∙ at) in
              targets_listed (device_of task.flash) n.state (target_bank n.state instr) (jump_line task.assumptions n.key.pc)
              (passes (is_indirect instr) (are_targets_listed (device_of task.flash) n.state (target_bank n.state instr) (jump_line task.assumptions n.key.pc)) indirect
              (subst (λ y. is_transfer_listed task n.key.pc n.state y ≡ true) e inner.0));
          calls = λ instr at.
              let e : x ≡ instr = same_Some x instr (sym is ∙ at) in
              subst (λ y. calls_cut task n.key n.state y ≡ false) e (not-true (calls_cut task n.key n.state x) last.0);
          stays = λ instr at.
              let e : x ≡ instr = same_Some x instr (sym is ∙ at) in
              subst (λ y. may_move task n.key n.state y ≡ false) e (not-true (may_move task n.key n.state x) last.1);
        }

    told_at : Holds → IsClear task f n → (stores_harmless && (transfers_listed && stays)) ≡ true
    told_at holds clear =
        and_from stores_harmless (transfers_listed && stays) (aim_told holds x (aim_of (device_of task.flash) n.key n.state x) refl (λ aim. clear.store x aim is))
        (and_from transfers_listed stays (may_pass (is_indirect x) (are_targets_listed (device_of task.flash) n.state (target_bank n.state x) (jump_line task.assumptions n.key.pc))
        (λ indirect. targets_told (device_of task.flash) n.state (target_bank n.state x) (jump_line task.assumptions n.key.pc) (clear.transfer x is indirect)))
        (and_from (not (calls_cut task n.key n.state x)) (not (may_move task n.key n.state x)) (ap not (clear.calls x is)) (ap not (clear.stays x is))))

  clear_by : Frees → (x : Option Instr) → instruction_at task.flash n.key.pc ≡ x → is_clear_by task f.bound (record { key = n.key; state = n.state }) held x ≡ true → IsClear task f n
  clear_by frees None is h =
      record {
        store = λ instr aim at same. absurd (let no : None ≡ Some instr = sym is ∙ at in cc);
        transfer = λ instr at indirect. absurd (let no : None ≡ Some instr = sym is ∙ at in cc);
        calls = λ instr at. absurd (let no : None ≡ Some instr = sym is ∙ at in cc);
        stays = λ instr at. absurd (let no : None ≡ Some instr = sym is ∙ at in cc);
      }
  clear_by frees (Some x) is h = clear_at x is frees h

  told_by : Holds → (x : Option Instr) → instruction_at task.flash n.key.pc ≡ x → IsClear task f n → is_clear_by task f.bound (record { key = n.key; state = n.state }) held x ≡ true
  told_by holds None is h = refl
  told_by holds (Some x) is h = told_at x is holds h

pub clear_nodes_are_told : ClearNodesAreTold
clear_nodes_are_told =
    record {
      clear = λ task f n held frees h. clear_by task f n held frees (instruction_at task.flash n.key.pc) refl h;
      told = λ task f n held holds clear. told_by task f n held holds (instruction_at task.flash n.key.pc) refl clear;
    }
