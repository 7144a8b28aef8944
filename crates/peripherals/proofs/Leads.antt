-- Runs that continue step by step.
use Rattle.std.proofs.Common.{arith, suc, ◌≡◌, ◌≢◌, refl, sym, ap, subst, ◌∙◌, ℕ, ◌<◌, ◌≤◌, ◌-◌, ◌+◌, ◌++◌, length, List, [], ◌∷◌, Option, Some, None, slice_get}
use Rattle.std.proofs.lemmas.List.{append-nil, length-append}
use Rattle.basics.specs.Numbers.{less_none, less_one_more}
use Rattle.stimulus.proofs.AllLaws.{done_of}
use Rattle.stimulus.proofs.Runs.{stopped}
use Rattle.avr_model.specs.declared.choice.Choice.{Choice}
use Rattle.avr_model.specs.declared.choice.Stop.{Stop}
use Rattle.avr_model.specs.declared.choice.Stop.TheVariants as stop
use Rattle.avr_model.specs.declared.choice.StepResult.TheVariants as said
use Rattle.avr_model.specs.declared.assumption.Entry.{Entry}
use Rattle.avr_model.specs.State.{State}
use Rattle.avr_model.specs.Step.{Answer, Done, step, result_of}
use Rattle.avr_model.specs.Run.{Machine, IsRun, RunsOn, HasBytes, moved_on, states_of, states_on, stop_of, stop_on}
use Rattle.avr_model.specs.Devices.{Image}
use Rattle.stimulus.specs.Driving.{GoesOn, machine_after, stop_at}
use Rattle.witness_replay.specs.Replay.{steps_of}
use Rattle.peripherals.specs.Spelling.{Setup}
use Rattle.peripherals.specs.declared.peripherals.Source.{Source}
use Rattle.peripherals.specs.Due.{Progress, begun, next_on, passed_at}
use Rattle.peripherals.specs.Hooks.{Answering}
use Rattle.peripherals.specs.Simulating.{Setting, setting, Chooses}
use Rattle.peripherals.specs.Traces.{Leads, IsTrace}
use Rattle.peripherals.specs.Midway.{IsChosen}

-- a run has at least one state
states_some : (image : Image) (A : List Entry) (cs : List Choice) (m : State) → 1 ≤ length (states_of image A cs m)
states_some image A [] m = omega arith
states_some image A (c ∷ cs) m = omega arith

-- one more step that is done
one_step : (image : Image) (A : List Entry) (c : Choice) (cs : List Choice) (m s : State) → step image A m c ≡ Done s → steps_of image A (c ∷ cs) m ≡ suc (steps_of image A cs s)
one_step image A c cs m s is =
    let some = states_some image A cs s in
    let on : length (states_on (step image A m c) (states_of image A cs)) ≡ length (states_of image A cs s) = ap (λ (a : Answer). length (states_on a (states_of image A cs))) is in
    omega (arith, some, on)

module _ (answers : Answering) (setup : Setup) (image : Image) (A : List Entry) where
  abbrev pub Led : ℕ → Progress → Machine → List Choice → Progress → Machine → Type 0
  Led n p m cs last end = Leads (setting answers setup image A) n p m cs last end

  -- a whole run with this many steps and this stop
  pub record Whole (n : ℕ) (p : Progress) (m : Machine) (cs : List Choice) (end : Machine) (steps : ℕ) (stop : Stop) : Type 0 where
    pub chooses : Chooses (setting answers setup image A) n p m.state cs
    pub run : IsRun image A cs m.state
    pub machine : end ≡ machine_after image A cs m
    pub steps_are : steps ≡ steps_of image A cs m.state
    pub stop_is : stop ≡ stop_of image A cs m.state

  -- a prefix, and then more
  leads_joined : (n : ℕ) (p : Progress) (m : Machine) (cs more : List Choice) (mid : Progress) (at : Machine) (last : Progress) (end : Machine) → Led n p m cs mid at → Led (n - length cs) mid at more last end → Led n p m (cs ++ more) last end
  leads_joined n p m [] more mid at last end h k = subst (λ (x : Progress). Led n x m more last end) h.0 (subst (λ (x : Machine). Led n mid x more last end) h.1 (subst (λ (x : ℕ). Led x mid at more last end) (less_none n) k))
  leads_joined n p m (c ∷ cs) more mid at last end h k =
      (h.0, h.1, h.2, h.3, h.4, h.5, h.6, leads_joined (n - 1) (next_on setup p h.2) (moved_on m (Done h.5)) cs more mid at last end h.7 (subst (λ (x : ℕ). Led x mid at more last end) (less_one_more n (length cs)) k))

  -- a prefix, and then a whole run
  whole_joined : (n : ℕ) (p : Progress) (m : Machine) (cs more : List Choice) (mid : Progress) (at end : Machine) (steps : ℕ) (stop : Stop) → Led n p m cs mid at → Whole (n - length cs) mid at more end steps stop → Whole n p m (cs ++ more) end (length cs + steps) stop
  whole_joined n p m [] more mid at end steps stop h k =
      let here = subst (λ (x : Progress). Whole n x m more end steps stop) h.0 (subst (λ (x : Machine). Whole n mid x more end steps stop) h.1 (subst (λ (x : ℕ). Whole x mid at more end steps stop) (less_none n) k)) in
      let same : steps ≡ 0 + steps = omega arith in
      subst (λ (x : ℕ). Whole n p m more end x stop) same here
  whole_joined n p m (c ∷ cs) more mid at end steps stop h k =
      let rest = whole_joined (n - 1) (next_on setup p h.2) (moved_on m (Done h.5)) cs more mid at end steps stop h.7 (subst (λ (x : ℕ). Whole x mid at more end steps stop) (less_one_more n (length cs)) k) in
      let on : State → Type 0 = λ s. Chooses (setting answers setup image A) (n - 1) (next_on setup p h.2) s (cs ++ more) in
      record {
        chooses = (h.0, h.2, h.3, h.4, subst (λ (a : Answer). GoesOn a on (cs ++ more ≡ [])) (sym h.6) rest.chooses);
        run = (h.1, subst (λ (a : Answer). RunsOn a (cs ++ more) (IsRun image A (cs ++ more))) (sym h.6) rest.run);
        machine = rest.machine ∙ ap (λ (a : Answer). machine_after image A (cs ++ more) (moved_on m a)) (sym h.6);
        steps_are = let one = one_step image A c (cs ++ more) m.state h.5 h.6 in omega (arith, rest.steps_are, one);
        stop_is = rest.stop_is ∙ ap (λ (a : Answer). stop_on a (stop_of image A (cs ++ more))) (sym h.6);
      }

  -- one more done step
  pub leads_on : (n : ℕ) (p : Progress) (m : Machine) (cs : List Choice) (mid : Progress) (at : Machine) (c : Choice) (next : Progress) (end : Machine) → Led n p m cs mid at → length cs < n → HasBytes c → IsChosen (setting answers setup image A) mid at.state c next
      → result_of (step image A at.state c) ≢ said.Illegal → stop_at (result_of (step image A at.state c)) ≡ None → end ≡ moved_on at (step image A at.state c) → Led n p m (cs ++ c ∷ []) next end
  leads_on n p m cs mid at c next end h room bytes chosen legal none moved =
      let done = done_of (step image A at.state c) legal none in
      let is : end ≡ moved_on at (Done done.0) = moved ∙ ap (moved_on at) done.1 in
      let one : Led (n - length cs) mid at (c ∷ []) next end = (omega (arith, room), bytes, chosen.answer, chosen.asked, chosen.choice, done.0, done.1, (chosen.next, is)) in
      leads_joined n p m cs (c ∷ []) mid at next end h one

  plus_none : (a b : ℕ) → a ≡ b → a + 0 ≡ b
  plus_none a b e = omega (arith, e)

  -- a step that meets a stop
  pub whole_stops : (n : ℕ) (p : Progress) (m : Machine) (cs : List Choice) (mid : Progress) (at : Machine) (c : Choice) (next : Progress) (end : Machine) (steps : ℕ) (stop : Stop) → Led n p m cs mid at → length cs ≡ steps → steps < n → HasBytes c → IsChosen (setting answers setup image A) mid at.state c next
      → stop_at (result_of (step image A at.state c)) ≡ Some stop → end ≡ moved_on at (step image A at.state c) → Whole n p m (cs ++ c ∷ []) end steps stop
  whole_stops n p m cs mid at c next end steps stop h count room bytes chosen some moved =
      let st = stopped (step image A at.state c) stop some in
      let one : Whole (n - length cs) mid at (c ∷ []) end 0 stop =
      record {
        chooses = (omega (arith, room, count), chosen.answer, chosen.asked, chosen.choice, st.goes _ _ refl);
        run = (bytes, st.runs _);
        machine = moved;
        steps_are = sym (ap (λ (xs : List State). length (at.state ∷ xs) - 1) (st.states _));
        stop_is = st.stop _;
      } in
      subst (λ (k : ℕ). Whole n p m (cs ++ c ∷ []) end k stop) (plus_none (length cs) steps count) (whole_joined n p m cs (c ∷ []) mid at end 0 stop h one)

  -- the end without a stop
  pub whole_ends : (n : ℕ) (p : Progress) (m : Machine) (cs : List Choice) (mid : Progress) (at : Machine) → Led n p m cs mid at → length cs ≡ n → Whole n p m cs at n stop.End
  whole_ends n p m cs mid at h over =
      let none : n - length cs ≡ 0 = omega (arith, over) in
      let one : Whole (n - length cs) mid at [] at 0 stop.End = record { chooses = none; run = tt; machine = refl; steps_are = refl; stop_is = refl } in
      let all = whole_joined n p m cs [] mid at at 0 stop.End h one in
      subst (λ (k : ℕ). Whole n p m cs at k stop.End) (plus_none (length cs) n over) (subst (λ (xs : List Choice). Whole n p m xs at (length cs + 0) stop.End) (append-nil cs) all)

-- one more choice
pub longer : (cs : List Choice) (c : Choice) (n : ℕ) → length cs ≡ n → length (cs ++ c ∷ []) ≡ n + 1
longer cs c n e = length-append cs (c ∷ []) ∙ ap (λ (x : ℕ). x + 1) e

-- ---- the trace of a run

module _ (answers : Answering) (setup : Setup) (image : Image) (A : List Entry) (n : ℕ) (m : Machine) where
  trace_of : (cs : List Choice) (end : Machine) (steps depth : ℕ) (stop : Stop) → Whole answers setup image A n (begun setup) m cs end steps stop → depth ≡ end.depth
      → IsTrace (setting answers setup image A) n m (record { choices = cs; depth = depth; stop = stop }) end
  trace_of cs end steps depth stop h is = record { chooses = h.chooses; run = h.run; machine = h.machine; depth = is; stop = h.stop_is }

  pub trace_stops : (cs now : List Choice) (mid : Progress) (at : Machine) (c : Choice) (next : Progress) (end : Machine) (depth : ℕ) (stop : Stop)
      → Leads (setting answers setup image A) n (begun setup) m cs mid at → length cs < n → now ≡ cs ++ c ∷ []
      → HasBytes c → IsChosen (setting answers setup image A) mid at.state c next → stop_at (result_of (step image A at.state c)) ≡ Some stop → end ≡ moved_on at (step image A at.state c) → depth ≡ end.depth
      → IsTrace (setting answers setup image A) n m (record { choices = now; depth = depth; stop = stop }) end
  trace_stops cs now mid at c next end depth stop led room is bytes chosen some moved deep =
      let P : List Choice → Type 0 = λ xs. IsTrace (setting answers setup image A) n m (record { choices = xs; depth = depth; stop = stop }) end in
      subst P (sym is) (trace_of (cs ++ c ∷ []) end _ depth stop (whole_stops answers setup image A n (begun setup) m cs mid at c next end (length cs) stop led refl room bytes chosen some moved) deep)

  pub trace_ends : (cs : List Choice) (mid : Progress) (at : Machine) (depth : ℕ) → Leads (setting answers setup image A) n (begun setup) m cs mid at → length cs ≡ n → depth ≡ at.depth
      → IsTrace (setting answers setup image A) n m (record { choices = cs; depth = depth; stop = stop.End }) at
  trace_ends cs mid at depth led over deep = trace_of cs at _ depth stop.End (whole_ends answers setup image A n (begun setup) m cs mid at led over) deep

-- one step later
passed_step : (o : Option Source) (p : Progress) (n : ℕ) → (passed_at o p n).step ≡ suc p.step
passed_step None p n = omega arith
passed_step (Some s) p n = omega arith

next_step : (setup : Setup) (p : Progress) (a : Option ℕ) → (next_on setup p a).step ≡ suc p.step
next_step setup p None = omega arith
next_step setup p (Some n) = passed_step (slice_get setup.sources n) p n

pub step_next : (x : Setting) (p : Progress) (m : State) (c : Choice) (next : Progress) (k : ℕ) → IsChosen x p m c next → p.step ≡ k → next.step ≡ k + 1
step_next x p m c next k h e = let on = ap (λ (q : Progress). q.step) h.next ∙ next_step x.on.setup p h.answer in omega (arith, on, e)
