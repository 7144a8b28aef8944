-- Waypoints: interrupts that a trial takes when they are due. Source: own.
use Rattle.std.specs.Prelude.{ℕ, ◌+◌, Bool, if◌then◌else◌, ◌==◌, ◌&&◌, List, [], ◌∷◌}
use Rattle.avr_model.specs.declared.choice.Choice.{Choice}
use Rattle.avr_model.specs.declared.choice.Choice.TheVariants.{Go, Take}
use Rattle.avr_model.specs.State.{State}
use Rattle.avr_model.specs.Step.{may_take}
use Rattle.avr_model.specs.Vectors.{are_among}
use Rattle.avr_machine.specs.declared.menu.Menu.{Menu}
use Rattle.avr_machine.specs.Menu.{has_choice}
use Rattle.witness_search.specs.declared.waypoint.Waypoint.{Waypoint}

abbrev pub interrupt_of : Waypoint → Choice
interrupt_of w = Take w.vector w.clears

-- The enable bits equal the waypoint's; if `may`, they are among the waypoint's.
abbrev pub fits_way : Bool → ℕ → ℕ → Bool
fits_way may enables masks = if may then are_among enables masks else enables == masks

-- ---- by a machine's state

-- the state is at the waypoint, and its interrupt may be taken
abbrev pub due_at : Bool → Waypoint → State → Bool
due_at may w m = (m.pc == w.pc) && fits_way may m.enables w.masks && (m.sp + w.depth == w.end) && may_take m w.vector w.clears

-- the choice: the next waypoint's interrupt if it is due, else an instruction with the fill byte as input
abbrev pub pick_due : Bool → ℕ → List Waypoint → State → Choice
pick_due may fill [] m = Go fill fill
pick_due may fill (w ∷ ws) m = if due_at may w m then interrupt_of w else Go fill fill

-- the waypoints that are left after this choice
abbrev pub due_left : Bool → List Waypoint → State → List Waypoint
due_left may [] m = []
due_left may (w ∷ ws) m = if due_at may w m then ws else w ∷ ws

-- ---- by a menu: the same

abbrev pub is_due : Bool → Waypoint → Menu → Bool
is_due may w menu = (menu.pc == w.pc) && fits_way may menu.masks w.masks && (menu.sp + w.depth == w.end) && has_choice menu (interrupt_of w)

abbrev pub taken : Bool → ℕ → List Waypoint → Menu → Choice
taken may fill [] menu = Go fill fill
taken may fill (w ∷ ws) menu = if is_due may w menu then interrupt_of w else Go fill fill

abbrev pub left_after : Bool → List Waypoint → Menu → List Waypoint
left_after may [] menu = []
left_after may (w ∷ ws) menu = if is_due may w menu then ws else w ∷ ws
