-- Trials by places: their end, and trials that repeat a state.
use Rattle.std.proofs.Common.{arith, ◌≡◌, ◌≢◌, refl, sym, ap, subst, ◌∙◌, ℕ, ◌<◌, ◌≤◌, ◌+◌, ◌-◌, max, ◌⊎◌, inl, inr, ◌==◌, Bool, true, false, if◌then◌else◌, List, [], ◌∷◌, ◌++◌, length, Option, Some, None, IfSome, IfNone}
use Rattle.std.proofs.lemmas.List.{append-nil, length-append}
use Rattle.basics.specs.Booleans.{last_of_four}
use Rattle.avr_model.specs.declared.choice.Choice.{Choice}
use Rattle.avr_model.specs.declared.choice.Choice.TheVariants.{Go}
use Rattle.avr_model.specs.declared.choice.Flag.{Flag}
use Rattle.avr_model.specs.declared.choice.StepResult.TheVariants as answer
use Rattle.avr_model.specs.declared.instruction.Instr.{Instr}
use Rattle.avr_model.specs.Masks.{reads_masks}
use Rattle.avr_model.specs.Devices.{device_of}
use Rattle.avr_model.specs.Sites.{instruction_at}
use Rattle.avr_model.specs.State.{State, filled, depth_of_state}
use Rattle.avr_model.specs.Step.{Answer, Illegal, Overflow, Done, step, go, take, entering, may_take, flagged_or, result_of}
use Rattle.avr_model.specs.Run.{Machine, HasBytes, IsRun, starting, depth_of, moved_on}
use Rattle.stimulus.specs.Driving.{machine_after}
use Rattle.stimulus.specs.Laws.{DepthIsKept}
use Rattle.stimulus.proofs.AllLaws.{depth_from_reset}
use Rattle.witness_search.specs.declared.waypoint.Waypoint.{Waypoint}
use Rattle.witness_search.specs.Waypoints.{fits_way, interrupt_of, due_at, pick_due, due_left}
use Rattle.witness_search.specs.Trials.{trial_by}
use Rattle.witness_search.specs.Attempts.{IsAttempted}
use Rattle.witness_search.proofs.Leading.{Leads, leads_on, after_leads, ends_there, stops_there, run_by, never_reached, holds_depth, done_if}
use Rattle.local_rules.specs.Site.{Task}

-- ---- no choice of a trial is illegal

flagged_legal : (flag : Option Flag) (m : State) → result_of (flagged_or flag m) ≢ answer.Illegal
flagged_legal None m = λ e. cc
flagged_legal (Some flag) m = λ e. cc

told_legal : (b : Bool) (flag : Option Flag) (m : State) (pc : ℕ) → result_of (if b then flagged_or flag m else Overflow pc) ≢ answer.Illegal
told_legal true flag m pc = flagged_legal flag m
told_legal false flag m pc = λ e. cc

module _ (task : Task) where
  go_legal : (m : State) (instr : Option Instr) (b1 b2 : ℕ) → result_of (go task.flash task.assumptions m instr b1 b2) ≢ answer.Illegal
  go_legal m None b1 b2 = λ e. cc
  go_legal m (Some instr) b1 b2 = told_legal _ _ _ m.pc

  take_legal : (m : State) (v : ℕ) (clears b : Bool) → b ≡ true → result_of (if b then take task.assumptions m (entering m v clears) else Illegal) ≢ answer.Illegal
  take_legal m v clears true is = told_legal _ _ _ m.pc
  take_legal m v clears false is = absurd cc

  picked : (may : Bool) (fill : ℕ) (w : Waypoint) (m : State) (b : Bool) → due_at may w m ≡ b → result_of (step task.flash task.assumptions m (if b then interrupt_of w else Go fill fill)) ≢ answer.Illegal
  picked may fill w m true is = take_legal m w.vector w.clears (may_take m w.vector w.clears) (last_of_four (m.pc == w.pc) (fits_way may m.enables w.masks) (m.sp + w.depth == w.end) (may_take m w.vector w.clears) is)
  picked may fill w m false is = go_legal m (instruction_at task.flash m.pc) fill fill

  pick_legal : (may : Bool) (fill : ℕ) (ws : List Waypoint) (m : State) → result_of (step task.flash task.assumptions m (pick_due may fill ws m)) ≢ answer.Illegal
  pick_legal may fill [] m = go_legal m (instruction_at task.flash m.pc) fill fill
  pick_legal may fill (w ∷ ws) m = picked may fill w m (due_at may w m) refl

bytes_if : (fill : ℕ) (w : Waypoint) (b : Bool) → fill < 256 → HasBytes (if b then interrupt_of w else Go fill fill)
bytes_if fill w true byte = tt
bytes_if fill w false byte = (byte, byte)

pick_bytes : (may : Bool) (fill : ℕ) → fill < 256 → (ws : List Waypoint) (m : State) → HasBytes (pick_due may fill ws m)
pick_bytes may fill byte [] m = (byte, byte)
pick_bytes may fill byte (w ∷ ws) m = bytes_if fill w (due_at may w m) byte

pub longer : (before : List Choice) (c : Choice) → length (before ++ c ∷ []) ≡ length before + 1
longer before c = length-append before (c ∷ [])

-- ---- a state that comes again

cycle_of : (between : List Choice) (c : Choice) → (d : Choice) × (ds : List Choice) × (between ++ c ∷ [] ≡ d ∷ ds)
cycle_of [] c = (c, [], refl)
cycle_of (d ∷ ds) c = (d, ds ++ c ∷ [], refl)

less_of : (a b s : ℕ) → a < b → s < b → max a s < b
less_of a b s h k = grind (arith, h, k)

still_low : {bound : ℕ} (mid end next : Machine) (a : Answer) → next ≡ moved_on end a → result_of a ≡ answer.Done → end.depth < bound → mid.depth < bound → depth_of_state mid.state ≤ mid.depth → next.state ≡ mid.state
    → next.depth < bound
still_low {bound} mid end next a moves done low first held same =
    let d = done_if a done in
    let is : next ≡ moved_on end (Done d.0) = moves ∙ ap (moved_on end) d.1 in
    let state : d.0 ≡ mid.state = sym (ap (λ (x : Machine). x.state) is) ∙ same in
    subst (λ (x : Machine). x.depth < bound) (sym is)
    (subst (λ (x : State). max end.depth (depth_of_state x) < bound) (sym state) (less_of end.depth bound (depth_of_state mid.state) low (omega (arith, first, held))))

-- ---- how many waypoints are left

left_if : (w : Waypoint) (ws : List Waypoint) (b : Bool) → ((if b then ws else w ∷ ws) ≡ w ∷ ws) ⊎ (length (if b then ws else w ∷ ws) < length (w ∷ ws))
left_if w ws true = inr (omega arith)
left_if w ws false = inl refl

fewer : (may : Bool) (ws : List Waypoint) (m : State) → (due_left may ws m ≡ ws) ⊎ (length (due_left may ws m) < length ws)
fewer may [] m = inl refl
fewer may (w ∷ ws) m = left_if w ws (due_at may w m)

module _ (task : Task) (points : List Waypoint) (bound fill : ℕ) where
  abbrev pub Picks : List Waypoint → State → Choice
  Picks = pick_due (reads_masks (device_of task.flash) task.assumptions) fill

  abbrev pub Leaves : List Waypoint → State → List Waypoint
  Leaves = due_left (reads_masks (device_of task.flash) task.assumptions)

  -- choices of the trial lead from one place to another
  abbrev pub Goes : List Waypoint → Machine → List Choice → List Waypoint → Machine → Type 0
  Goes ws m cs left end = Leads Picks Leaves task bound ws m cs left end

  abbrev pub Start : Machine
  Start = starting (filled (device_of task.flash) fill)

  fewer_left : (ws : List Waypoint) (m : Machine) (cs : List Choice) (left : List Waypoint) (end : Machine) → Goes ws m cs left end → (left ≡ ws) ⊎ (length left < length ws)
  fewer_left ws m [] left end h = inl h.0
  fewer_left ws m (c ∷ cs) left end h =
      elim (fewer_left (Leaves ws m.state) (moved_on m (Done h.2)) cs left end h.4) [
        | inl same ↦ elim (fewer (reads_masks (device_of task.flash) task.assumptions) ws m.state) [ inl kept ↦ inl (same ∙ kept) | inr less ↦ inr (subst (λ (xs : List Waypoint). length xs < length ws) (sym same) less) ]
        | inr less ↦ elim (fewer (reads_masks (device_of task.flash) task.assumptions) ws m.state) [ inl kept ↦ inr (subst (λ (xs : List Waypoint). length left < length xs) kept less) | inr more ↦ inr (omega (arith, less, more)) ]
      ]

  same_left : (ws : List Waypoint) (m : Machine) (cs : List Choice) (left : List Waypoint) (end : Machine) → Goes ws m cs left end → length left ≡ length ws → left ≡ ws
  same_left ws m cs left end h many = elim (fewer_left ws m cs left end h) [ inl same ↦ same | inr less ↦ absurd (omega (arith, less, many)) ]

  -- one more choice
  pub goes_on : (ws : List Waypoint) (m : Machine) (cs : List Choice) (left : List Waypoint) (end next : Machine) (c : Choice) (after : List Waypoint) (now : List Choice) → Goes ws m cs left end → end.depth < bound
      → c ≡ Picks left end.state → after ≡ Leaves left end.state → result_of (step task.flash task.assumptions end.state c) ≡ answer.Done → next ≡ moved_on end (step task.flash task.assumptions end.state c) → now ≡ cs ++ c ∷ []
      → Goes ws m now after next
  goes_on ws m cs left end next c after now h low picks leaves done moves is =
      let d = done_if (step task.flash task.assumptions end.state (Picks left end.state)) (ap (λ (x : Choice). result_of (step task.flash task.assumptions end.state x)) (sym picks) ∙ done) in
      let one = leads_on Picks Leaves task bound ws m cs left end d.0 h low d.1 in
      let there : next ≡ moved_on end (Done d.0) = moves ∙ ap (λ (x : Choice). moved_on end (step task.flash task.assumptions end.state x)) picks ∙ ap (moved_on end) d.1 in
      subst (λ (xs : List Choice). Goes ws m xs after next) (sym (is ∙ ap (λ (x : Choice). cs ++ x ∷ []) picks))
      (subst (λ (x : Machine). Goes ws m (cs ++ Picks left end.state ∷ []) after x) (sym there)
      (subst (λ (xs : List Waypoint). Goes ws m (cs ++ Picks left end.state ∷ []) xs (moved_on end (Done d.0))) (sym leaves) one))

  -- the trial reached this machine with this many waypoints left, and continues from there
  pub record IsMarked (mid : Machine) (count : ℕ) (left : List Waypoint) (end : Machine) : Type 0 where
    pub before : List Choice
    pub between : List Choice
    pub there : List Waypoint
    pub first : Goes points Start before there mid
    pub last : Goes there mid between left end
    pub many : count ≡ length there

  pub marked_here : (cs : List Choice) (left : List Waypoint) (mid end : Machine) (count : ℕ) → Goes points Start cs left end → mid ≡ end → count ≡ length left → IsMarked mid count left end
  marked_here cs left mid end count h is many =
      record { before = cs; between = []; there = left; first = subst (λ (x : Machine). Goes points Start cs left x) (sym is) h; last = (refl, sym is); many = many }

  pub marked_on : (mid end next : Machine) (count : ℕ) (left after : List Waypoint) (c : Choice) → IsMarked mid count left end → end.depth < bound
      → c ≡ Picks left end.state → after ≡ Leaves left end.state → result_of (step task.flash task.assumptions end.state c) ≡ answer.Done → next ≡ moved_on end (step task.flash task.assumptions end.state c)
      → IsMarked mid count after next
  marked_on mid end next count left after c m low picks leaves done moves =
      record {
        before = m.before;
        between = m.between ++ c ∷ [];
        there = m.there;
        first = m.first;
        last = goes_on m.there mid m.between left end next c after (m.between ++ c ∷ []) m.last low picks leaves done moves refl;
        many = m.many;
      }

  -- ---- what is told at the end

  module _ (law : DepthIsKept) (steps : ℕ) (byte : fill < 256) where
    abbrev Trial : List Choice
    Trial = trial_by steps task points bound fill

    trial_runs : IsRun task.flash task.assumptions Trial (filled (device_of task.flash) fill)
    trial_runs = run_by Picks Leaves task bound (pick_bytes (reads_masks (device_of task.flash) task.assumptions) fill byte) (pick_legal task (reads_masks (device_of task.flash) task.assumptions) fill) steps points Start

    depth_is : (machine_after task.flash task.assumptions Trial Start).depth ≡ depth_of task.flash task.assumptions Trial (filled (device_of task.flash) fill)
    depth_is = depth_from_reset law task.flash task.assumptions fill Start Trial (machine_after task.flash task.assumptions Trial Start) (machine_after task.flash task.assumptions Trial Start).depth refl trial_runs refl refl

    -- the result by the choices and the machine after them
    told : (cs : List Choice) (end : Machine) (told : Option (List Choice)) → cs ≡ Trial → end ≡ machine_after task.flash task.assumptions cs Start
        → IfSome told (λ found. (found ≡ cs) × (end.depth ≡ bound)) → IfNone told (end.depth ≢ bound) → IsAttempted steps task points bound fill told
    told cs end None are after some none =
        λ deep. none (ap (λ (x : Machine). x.depth) after ∙ ap (λ (xs : List Choice). (machine_after task.flash task.assumptions xs Start).depth) are ∙ depth_is ∙ deep)
    told cs end (Some found) are after some none =
        let is : found ≡ Trial = some.0 ∙ are in
        let deep : depth_of task.flash task.assumptions Trial (filled (device_of task.flash) fill) ≡ bound =
        sym depth_is ∙ ap (λ (xs : List Choice). (machine_after task.flash task.assumptions xs Start).depth) (sym are) ∙ ap (λ (x : Machine). x.depth) (sym after) ∙ some.1 in
        record {
          are = is;
          run = subst (λ (xs : List Choice). IsRun task.flash task.assumptions xs (filled (device_of task.flash) fill)) (sym is) trial_runs;
          depth = ap (λ (xs : List Choice). depth_of task.flash task.assumptions xs (filled (device_of task.flash) fill)) is ∙ deep;
        }

    pub ended : (cs : List Choice) (left : List Waypoint) (end : Machine) (found : Option (List Choice)) → Goes points Start cs left end → length cs ≤ steps → (bound ≤ end.depth) ⊎ (steps - length cs ≡ 0)
        → IfSome found (λ x. (x ≡ cs) × (end.depth ≡ bound)) → IfNone found (end.depth ≢ bound) → IsAttempted steps task points bound fill found
    ended cs left end found h room over =
        let after : end ≡ machine_after task.flash task.assumptions cs Start =
        sym (after_leads Picks Leaves task bound points Start cs [] left end h) ∙ ap (λ (xs : List Choice). machine_after task.flash task.assumptions xs Start) (append-nil cs) in
        told cs end found (ends_there Picks Leaves task bound steps points Start cs left end h room over) after

    pub stopped : (cs : List Choice) (left : List Waypoint) (end next : Machine) (c : Choice) (now : List Choice) (found : Option (List Choice)) → Goes points Start cs left end → length cs < steps → end.depth < bound
        → c ≡ Picks left end.state → result_of (step task.flash task.assumptions end.state c) ≢ answer.Done → next ≡ moved_on end (step task.flash task.assumptions end.state c) → now ≡ cs ++ c ∷ []
        → IfSome found (λ x. (x ≡ now) × (next.depth ≡ bound)) → IfNone found (next.depth ≢ bound) → IsAttempted steps task points bound fill found
    stopped cs left end next c now found h room low picks ne moves is =
        let all : cs ++ Picks left end.state ∷ [] ≡ Trial =
        stops_there Picks Leaves task bound steps points Start cs left end h room low (subst (λ (x : Choice). result_of (step task.flash task.assumptions end.state x) ≢ answer.Done) picks ne) in
        let now_is : now ≡ Trial = is ∙ ap (λ (x : Choice). cs ++ x ∷ []) picks ∙ all in
        let after : next ≡ machine_after task.flash task.assumptions now Start =
        moves ∙ sym (after_leads Picks Leaves task bound points Start cs (c ∷ []) left end h) ∙ ap (λ (xs : List Choice). machine_after task.flash task.assumptions xs Start) (sym is) in
        told now next found now_is after

    -- ---- a trial that comes to the state of its mark again after one choice more

    pub repeated : (mid end next : Machine) (count : ℕ) (left after : List Waypoint) (c : Choice) → IsMarked mid count left end → end.depth < bound
        → c ≡ Picks left end.state → after ≡ Leaves left end.state → result_of (step task.flash task.assumptions end.state c) ≡ answer.Done → next ≡ moved_on end (step task.flash task.assumptions end.state c)
        → next.state ≡ mid.state → length after ≡ count → IsAttempted steps task points bound fill None
    repeated mid end next count left after c m low picks leaves done moves same many =
        let more : Goes m.there mid (m.between ++ c ∷ []) after next = goes_on m.there mid m.between left end next c after (m.between ++ c ∷ []) m.last low picks leaves done moves refl in
        let back : Goes m.there mid (m.between ++ c ∷ []) m.there next =
        subst (λ (xs : List Waypoint). Goes m.there mid (m.between ++ c ∷ []) xs next) (same_left m.there mid (m.between ++ c ∷ []) after next more (many ∙ m.many)) more in
        let cycle = cycle_of m.between c in
        let round : Goes m.there mid (cycle.0 ∷ cycle.1) m.there next = subst (λ (xs : List Choice). Goes m.there mid xs m.there next) cycle.2 back in
        let held = holds_depth Picks Leaves task bound points Start m.before m.there mid m.first (omega arith) in
        let still = still_low mid end next (step task.flash task.assumptions end.state c) moves done low round.0 held same in
        let less = never_reached Picks Leaves task bound steps points Start m.before m.there mid cycle.0 cycle.1 next m.first round still same in
        λ deep. omega (arith, less, depth_is, deep)
