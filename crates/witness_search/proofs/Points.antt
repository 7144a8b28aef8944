-- The choice of waypoints by a menu is that by the state.
use Rattle.std.proofs.Common.{◌≡◌, refl, ap, ◌∙◌, ℕ, ◌+◌, ◌==◌, ◌&&◌, ◌||◌, not, Bool, true, false, if◌then◌else◌, List, [], ◌∷◌}
use Rattle.avr_model.specs.declared.choice.Choice.TheVariants.{Go}
use Rattle.avr_model.specs.declared.device.Device.{Device}
use Rattle.avr_model.specs.Vectors.{is_enabled, watchdog}
use Rattle.avr_model.specs.State.{State, i_flag}
use Rattle.avr_model.specs.Step.{may_take}
use Rattle.avr_machine.specs.declared.menu.Menu.{Menu}
use Rattle.avr_machine.specs.Menu.{has_choice}
use Rattle.stimulus.specs.Driving.{IsMenuOf}
use Rattle.witness_search.specs.declared.waypoint.Waypoint.{Waypoint}
use Rattle.witness_search.specs.Waypoints.{fits_way, interrupt_of, is_due, taken, left_after, due_at, pick_due, due_left}

regrouped : (enabled i delay clears watchdog : Bool) → ((enabled && i && not delay && (not false || watchdog)) && (not clears || watchdog)) ≡ (enabled && i && not delay && (not clears || watchdog))
regrouped true true true clears watchdog = refl
regrouped true true false clears watchdog = refl
regrouped true false delay clears watchdog = refl
regrouped false i delay clears watchdog = refl

legal_as : (menu : Menu) (m : State) (w : Waypoint) → IsMenuOf menu m → has_choice menu (interrupt_of w) ≡ may_take m w.vector w.clears
legal_as menu m w is =
    ap (λ (t : Bool). t && (not w.clears || (w.vector == watchdog menu.device))) (is.takes w.vector)
    ∙ ap (λ (device : Device). may_take m w.vector false && (not w.clears || (w.vector == watchdog device))) is.device
    ∙ regrouped (is_enabled m.device m.enables w.vector) (i_flag m) m.delay w.clears (w.vector == watchdog m.device)

due_as : (may : Bool) (menu : Menu) (m : State) (w : Waypoint) → IsMenuOf menu m → is_due may w menu ≡ due_at may w m
due_as may menu m w is =
    ap (λ (x : ℕ). (x == w.pc) && fits_way may menu.masks w.masks && (menu.sp + w.depth == w.end) && has_choice menu (interrupt_of w)) is.pc
    ∙ ap (λ (x : ℕ). (m.pc == w.pc) && fits_way may x w.masks && (menu.sp + w.depth == w.end) && has_choice menu (interrupt_of w)) is.masks
    ∙ ap (λ (x : ℕ). (m.pc == w.pc) && fits_way may m.enables w.masks && (x + w.depth == w.end) && has_choice menu (interrupt_of w)) is.sp
    ∙ ap (λ (b : Bool). (m.pc == w.pc) && fits_way may m.enables w.masks && (m.sp + w.depth == w.end) && b) (legal_as menu m w is)

pub taken_is : (may : Bool) (fill : ℕ) (ws : List Waypoint) (menu : Menu) (m : State) → IsMenuOf menu m → taken may fill ws menu ≡ pick_due may fill ws m
taken_is may fill [] menu m is = refl
taken_is may fill (w ∷ ws) menu m is = ap (λ (b : Bool). if b then interrupt_of w else Go fill fill) (due_as may menu m w is)

pub left_is : (may : Bool) (ws : List Waypoint) (menu : Menu) (m : State) → IsMenuOf menu m → left_after may ws menu ≡ due_left may ws m
left_is may [] menu m is = refl
left_is may (w ∷ ws) menu m is = ap (λ (b : Bool). if b then ws else w ∷ ws) (due_as may menu m w is)
