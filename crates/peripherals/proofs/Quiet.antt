-- Steps before which no source is due.
use Rattle.std.proofs.Common.{arith, zero, suc, ◌≡◌, refl, sym, ap, subst, ◌∙◌, ℕ, ◌+◌, ◌-◌, ◌<◌, min, Bool, true, false, ◌&&◌, ◌||◌, ◌==◌, not, nat_lt, List, length, Option, Some, None, IfSome, slice_get}
use Rattle.std.proofs.lemmas.Bool.Decides.{nat_tests}
use Rattle.avr_model.specs.Vectors.{is_enabled, watchdog}
use Rattle.avr_model.specs.declared.device.Device.{Device}
use Rattle.avr_model.specs.declared.choice.Choice.{Choice}
use Rattle.avr_model.specs.declared.assumption.Entry.{Entry}
use Rattle.avr_model.specs.Devices.{Image}
use Rattle.avr_model.specs.State.{State}
use Rattle.avr_model.specs.Step.{Answer, Illegal, Undefined, Overflow, Flagged, Done, step}
use Rattle.avr_model.specs.Run.{Machine, moved_on}
use Rattle.avr_model.specs.Laws.{DevicesStay}
use Rattle.avr_machine.specs.declared.menu.Menu.{Menu}
use Rattle.peripherals.specs.declared.peripherals.Source.{Source}
use Rattle.peripherals.specs.Spelling.{Setup}
use Rattle.peripherals.specs.Due.{Progress, is_of, is_due, is_ready, is_ready_source, first_from, first_ready, or_else, next_on}
use Rattle.peripherals.specs.Hooks.{stands_in}
use Rattle.peripherals.specs.Midway.{IsPicked, IsQuiet}
use Rattle.peripherals.proofs.Ready.{first_later, first_none, first_same, ready_same}

-- ---- all sources

-- if one more source isn't ready before the nearer step, the rest decides
pub quiet_more : (setup : Setup) (may : ℕ → Bool) (taken : List ℕ) (n count until one next : ℕ) → count ≡ length setup.sources → n < count → next ≡ min until one
    → ((timers : Bool) (step : ℕ) → step < one → is_ready setup may timers taken step n ≡ false)
    → ((timers : Bool) (step : ℕ) → step < until → first_ready setup may timers taken step ≡ first_from (is_ready setup may timers taken step) n (length setup.sources - n))
    → (timers : Bool) (step : ℕ) → step < next → first_ready setup may timers taken step ≡ first_from (is_ready setup may timers taken step) (n + 1) (length setup.sources - (n + 1))
quiet_more setup may taken n count until one next all inside is here before timers step early =
    first_later (is_ready setup may timers taken step) n (length setup.sources) _ (before timers step (omega (arith, is, early))) (omega (arith, all, inside)) (sym (here timers step (omega (arith, is, early))))

pub quiet_all : (setup : Setup) (may : ℕ → Bool) (taken : List ℕ) (n until : ℕ) → length setup.sources ≡ n
    → ((timers : Bool) (step : ℕ) → step < until → first_ready setup may timers taken step ≡ first_from (is_ready setup may timers taken step) n (length setup.sources - n))
    → IsQuiet setup may taken until
quiet_all setup may taken n until over before timers step early = sym (first_none (is_ready setup may timers taken step) n (length setup.sources) _ (before timers step early) over)

-- ---- what is picked

last_false : (a b : Bool) → (a && b && false) ≡ false
last_false true true = refl
last_false true false = refl
last_false false b = refl

-- none is ready if none may be taken
never : (may : ℕ → Bool) (timers : Bool) (o : Option Source) (taken step : ℕ) → ((v : ℕ) → may v ≡ false) → is_ready_source may timers o taken step ≡ false
never may timers None taken step none = refl
never may timers (Some s) taken step none = rw (none s.vector) (last_false (is_of timers s.kind) (is_due s taken step))

first_never : (ready : ℕ → Bool) (at n : ℕ) → ((k : ℕ) → ready k ≡ false) → first_from ready at n ≡ None
first_never ready at zero none = refl
first_never ready at (suc n) none = rw (none at) (first_never ready (at + 1) n none)

-- the menu has each enabled vector, or none
stands_not : (takes b w : Bool) → takes ≡ false → ((takes && b) && (not false || w)) ≡ false
stands_not takes b w e = grind (arith, e)

stands_all : (takes b w : Bool) → takes ≡ true → b ≡ ((takes && b) && (not false || w))
stands_all true true w e = refl
stands_all true false w e = refl
stands_all false b w e = cc

module _ (setup : Setup) (menu : Menu) (taken : List ℕ) (now masks until : ℕ) where
  not_taken : (timers : Bool) → menu.takes ≡ false → first_ready setup (stands_in menu) timers taken now ≡ None
  not_taken timers e =
      first_never (is_ready setup (stands_in menu) timers taken now) 0 (length setup.sources)
      (λ k. never (stands_in menu) timers (slice_get setup.sources k) _ now (λ v. stands_not menu.takes (is_enabled menu.device menu.masks v) (v == watchdog menu.device) e))

  is_quiet : IsQuiet setup (is_enabled menu.device masks) taken until → (timers : Bool) → now < until → menu.masks ≡ masks → menu.takes ≡ true → first_ready setup (stands_in menu) timers taken now ≡ None
  is_quiet quiet timers early same e =
      let may : (v : ℕ) → is_enabled menu.device masks v ≡ stands_in menu v = λ v. ap (λ (x : ℕ). is_enabled menu.device x v) (sym same) ∙ stands_all menu.takes (is_enabled menu.device menu.masks v) (v == watchdog menu.device) e in
      sym (first_same (is_ready setup (is_enabled menu.device masks) timers taken now) (is_ready setup (stands_in menu) timers taken now) 0 (length setup.sources)
      (λ k. ready_same (is_enabled menu.device masks) (stands_in menu) timers (slice_get setup.sources k) _ now may))
      ∙ quiet timers now early

  by_takes : (takes : Bool) → menu.takes ≡ takes → IsQuiet setup (is_enabled menu.device masks) taken until → (not takes || (nat_lt now until && (menu.masks == masks))) ≡ true → (timers : Bool) → first_ready setup (stands_in menu) timers taken now ≡ None
  by_takes false e quiet h timers = not_taken timers e
  by_takes true e quiet h timers = is_quiet quiet timers (grind (arith, nat_tests, h)) (grind (arith, nat_tests, h)) e

  none_else : (a b : Option ℕ) → a ≡ None → b ≡ None → None ≡ or_else a b
  none_else a b e f = rw (e, f) refl

  -- no source is picked
  pub none_picked : IsQuiet setup (is_enabled menu.device masks) taken until → true ≡ (not menu.takes || (nat_lt now until && (menu.masks == masks))) → IsPicked setup now taken menu None
  none_picked quiet h = none_else _ _ (by_takes menu.takes refl quiet (sym h) true) (by_takes menu.takes refl quiet (sym h) false)

-- nothing is said of any step
pub quiet_unknown : (setup : Setup) (may : ℕ → Bool) (taken : List ℕ) (until : ℕ) → until ≡ 0 → IsQuiet setup may taken until
quiet_unknown setup may taken until none timers step early = absurd (omega (arith, none, early))

-- the counts stay the same if no source is taken
pub quiet_next : (setup : Setup) (may : ℕ → Bool) (p : Progress) (answer : Option ℕ) (until : ℕ) → IsQuiet setup may p.taken until → IfSome answer (λ n. until ≡ 0) → IsQuiet setup may (next_on setup p answer).taken until
quiet_next setup may p None until quiet none = quiet
quiet_next setup may p (Some n) until quiet none = quiet_unknown setup may (next_on setup p (Some n)).taken until none

-- ---- the device

stays : (at : Machine) (a : Answer) → ((s : State) → a ≡ Done s → s.device ≡ at.state.device) → (moved_on at a).state.device ≡ at.state.device
stays at Illegal h = refl
stays at (Undefined pc) h = refl
stays at (Overflow pc) h = refl
stays at (Flagged flag) h = refl
stays at (Done s) h = h s refl

-- a step leaves what is known of the sources
pub quiet_stays : DevicesStay → (image : Image) (A : List Entry) (setup : Setup) (at : Machine) (c : Choice) (end : Machine) (masks : ℕ) (taken : List ℕ) (until : ℕ) → end ≡ moved_on at (step image A at.state c)
    → IsQuiet setup (is_enabled at.state.device masks) taken until → IsQuiet setup (is_enabled end.state.device masks) taken until
quiet_stays law image A setup at c end masks taken until is quiet =
    let same : end.state.device ≡ at.state.device = ap (λ (x : Machine). x.state.device) is ∙ stays at (step image A at.state c) (λ s e. law.after_one image A at.state s c e) in
    subst (λ (d : Device). IsQuiet setup (is_enabled d masks) taken until) (sym same) quiet
