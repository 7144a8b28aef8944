-- Runs from one place to another, and runs that repeat a place. A place is a machine with the chooser's state.
use Rattle.std.proofs.Common.{arith, suc, zero, ◌≡◌, ◌≢◌, refl, sym, ap, subst, ◌∙◌, ℕ, ◌<◌, ◌≤◌, ◌-◌, max, ◌⊎◌, inl, inr, nat_le, Bool, true, false, if◌then◌else◌, List, [], ◌∷◌, ◌++◌, length}
use Rattle.std.proofs.lemmas.Bool.Decides.{nat_tests}
use Rattle.std.proofs.lemmas.List.{append-nil}
use Rattle.basics.specs.Numbers.{less_none, test_from_at_most}
use Rattle.avr_model.specs.declared.choice.Choice.{Choice}
use Rattle.avr_model.specs.declared.choice.StepResult.TheVariants as answer
use Rattle.avr_model.specs.State.{State, depth_of_state}
use Rattle.avr_model.specs.Step.{Answer, Illegal, Undefined, Overflow, Flagged, Done, step, result_of}
use Rattle.avr_model.specs.Run.{Machine, HasBytes, IsRun, RunsOn, moved_on}
use Rattle.stimulus.specs.Driving.{choices_by, choices_on, machine_after}
use Rattle.local_rules.specs.Site.{Task}

not_reached : (a b : ℕ) → b < a → nat_le a b ≡ false
not_reached a b h = grind (arith, nat_tests, h)

deeper_than : (d s : ℕ) → d ≤ max d s
deeper_than d s = grind arith

state_counts : (d s : ℕ) → s ≤ max d s
state_counts d s = grind arith

no_deeper : (d s e : ℕ) → max d s ≤ e → s ≤ e
no_deeper d s e h = grind (arith, h)

stays_deep : (d s : ℕ) → s ≤ d → max d s ≡ d
stays_deep d s h = grind (arith, h)

pub done_if : (a : Answer) → result_of a ≡ answer.Done → (s : State) × (a ≡ Done s)
done_if Illegal is = absurd cc
done_if (Undefined pc) is = absurd cc
done_if (Overflow pc) is = absurd cc
done_if (Flagged flag) is = absurd cc
done_if (Done s) is = (s, refl)

module _ {L : Type 0} (pick : L → State → Choice) (left : L → State → L) (task : Task) (target : ℕ) where
  abbrev By : ℕ → L → Machine → List Choice
  By n l m = choices_by pick left task.flash task.assumptions target n l m

  -- the choices lead from one place to another, below the target and without a stop
  abbrev pub Leads : L → Machine → List Choice → L → Machine → Type 0
  Leads l m [] k end = (k ≡ l) × (end ≡ m)
  Leads l m (c ∷ cs) k end =
      (m.depth < target) × (c ≡ pick l m.state) × (s : State) × (step task.flash task.assumptions m.state c ≡ Done s) × Leads (left l m.state) (moved_on m (Done s)) cs k end

  -- one more choice
  pub leads_on : (l : L) (m : Machine) (cs : List Choice) (k : L) (end : Machine) (s : State) → Leads l m cs k end → end.depth < target → step task.flash task.assumptions end.state (pick k end.state) ≡ Done s
      → Leads l m (cs ++ pick k end.state ∷ []) (left k end.state) (moved_on end (Done s))
  leads_on l m [] k end s h low is =
      subst (λ (x : L). Leads x m (pick k end.state ∷ []) (left k end.state) (moved_on end (Done s))) h.0
      (subst (λ (x : Machine). Leads k x (pick k end.state ∷ []) (left k end.state) (moved_on end (Done s))) h.1 (low, refl, s, is, (refl, refl)))
  leads_on l m (c ∷ cs) k end s h low is = (h.0, h.1, h.2, h.3, leads_on (left l m.state) (moved_on m (Done h.2)) cs k end s h.4 low is)

  -- the run begins with these choices
  pub by_leads : (n : ℕ) (l : L) (m : Machine) (cs : List Choice) (k : L) (end : Machine) → Leads l m cs k end → length cs ≤ n → By n l m ≡ cs ++ By (n - length cs) k end
  by_leads n l m [] k end h room =
      ap (λ (i : ℕ). By i l m) (sym (less_none n)) ∙ ap (λ (x : L). By (n - 0) x m) (sym h.0) ∙ ap (λ (x : Machine). By (n - 0) k x) (sym h.1)
  by_leads zero l m (c ∷ cs) k end h room = absurd (omega (arith, room))
  by_leads (suc n) l m (c ∷ cs) k end h room =
      let rest : By n (left l m.state) (moved_on m (Done h.2)) ≡ cs ++ By (n - length cs) k end = by_leads n (left l m.state) (moved_on m (Done h.2)) cs k end h.4 (omega (arith, room)) in
      let one : choices_on (step task.flash task.assumptions m.state (pick l m.state)) (λ s. By n (left l m.state) (moved_on m (Done s))) ≡ By n (left l m.state) (moved_on m (Done h.2)) =
      ap (λ (x : Choice). choices_on (step task.flash task.assumptions m.state x) (λ s. By n (left l m.state) (moved_on m (Done s)))) (sym h.1)
      ∙ ap (λ (a : Answer). choices_on a (λ s. By n (left l m.state) (moved_on m (Done s)))) h.3 in
      let less : n - length cs ≡ suc n - length (c ∷ cs) = omega arith in
      ap (λ (b : Bool). if b then [] else pick l m.state ∷ choices_on (step task.flash task.assumptions m.state (pick l m.state)) (λ s. By n (left l m.state) (moved_on m (Done s)))) (not_reached target m.depth h.0)
      ∙ ap (λ (x : Choice). x ∷ choices_on (step task.flash task.assumptions m.state (pick l m.state)) (λ s. By n (left l m.state) (moved_on m (Done s)))) (sym h.1)
      ∙ ap (λ (xs : List Choice). c ∷ xs) (one ∙ rest ∙ ap (λ (i : ℕ). cs ++ By i k end) less)

  -- and leaves the machine there
  pub after_leads : (l : L) (m : Machine) (cs more : List Choice) (k : L) (end : Machine) → Leads l m cs k end → machine_after task.flash task.assumptions (cs ++ more) m ≡ machine_after task.flash task.assumptions more end
  after_leads l m [] more k end h = ap (machine_after task.flash task.assumptions more) (sym h.1)
  after_leads l m (c ∷ cs) more k end h =
      ap (λ (a : Answer). machine_after task.flash task.assumptions (cs ++ more) (moved_on m a)) h.3 ∙ after_leads (left l m.state) (moved_on m (Done h.2)) cs more k end h.4

  -- ---- at the end of a run

  none_past : (n : ℕ) (k : L) (end : Machine) → (target ≤ end.depth) ⊎ (n ≡ 0) → By n k end ≡ []
  none_past zero k end over = refl
  none_past (suc n) k end (inl high) =
      ap (λ (b : Bool). if b then [] else pick k end.state ∷ choices_on (step task.flash task.assumptions end.state (pick k end.state)) (λ s. By n (left k end.state) (moved_on end (Done s)))) (test_from_at_most target end.depth high)
  none_past (suc n) k end (inr none) = absurd (omega (arith, none))

  -- the target is reached, or no choice is left
  pub ends_there : (n : ℕ) (l : L) (m : Machine) (cs : List Choice) (k : L) (end : Machine) → Leads l m cs k end → length cs ≤ n → (target ≤ end.depth) ⊎ (n - length cs ≡ 0) → cs ≡ By n l m
  ends_there n l m cs k end h room over =
      sym (by_leads n l m cs k end h room ∙ ap (λ (xs : List Choice). cs ++ xs) (none_past (n - length cs) k end over) ∙ append-nil cs)

  stop_on : (a : Answer) (on : State → List Choice) → result_of a ≢ answer.Done → choices_on a on ≡ []
  stop_on Illegal on ne = refl
  stop_on (Undefined pc) on ne = refl
  stop_on (Overflow pc) on ne = refl
  stop_on (Flagged flag) on ne = refl
  stop_on (Done s) on ne = absurd (ne refl)

  one_past : (n : ℕ) (k : L) (end : Machine) → 0 < n → end.depth < target → result_of (step task.flash task.assumptions end.state (pick k end.state)) ≢ answer.Done → By n k end ≡ pick k end.state ∷ []
  one_past zero k end room low ne = absurd (omega (arith, room))
  one_past (suc n) k end room low ne =
      ap (λ (b : Bool). if b then [] else pick k end.state ∷ choices_on (step task.flash task.assumptions end.state (pick k end.state)) (λ s. By n (left k end.state) (moved_on end (Done s)))) (not_reached target end.depth low)
      ∙ ap (λ (xs : List Choice). pick k end.state ∷ xs) (stop_on (step task.flash task.assumptions end.state (pick k end.state)) _ ne)

  -- the next choice meets a stop
  pub stops_there : (n : ℕ) (l : L) (m : Machine) (cs : List Choice) (k : L) (end : Machine) → Leads l m cs k end → length cs < n → end.depth < target
      → result_of (step task.flash task.assumptions end.state (pick k end.state)) ≢ answer.Done → cs ++ pick k end.state ∷ [] ≡ By n l m
  stops_there n l m cs k end h room low ne =
      sym (by_leads n l m cs k end h (omega (arith, room)) ∙ ap (λ (xs : List Choice). cs ++ xs) (one_past (n - length cs) k end (omega (arith, room)) low ne))

  -- the choices are a run if none that is picked is illegal
  run_answer : (n : ℕ) (l : L) (m : Machine) (a : Answer) → result_of a ≢ answer.Illegal → ((s : State) → IsRun task.flash task.assumptions (By n l (moved_on m (Done s))) s)
      → RunsOn a (choices_on a (λ s. By n l (moved_on m (Done s)))) (IsRun task.flash task.assumptions (choices_on a (λ s. By n l (moved_on m (Done s)))))
  run_answer n l m Illegal legal on = absurd (legal refl)
  run_answer n l m (Undefined pc) legal on = refl
  run_answer n l m (Overflow pc) legal on = refl
  run_answer n l m (Flagged flag) legal on = refl
  run_answer n l m (Done s) legal on = on s

  run_if : (b : Bool) (c : Choice) (cs : List Choice) (s : State) → HasBytes c → RunsOn (step task.flash task.assumptions s c) cs (IsRun task.flash task.assumptions cs) → IsRun task.flash task.assumptions (if b then [] else c ∷ cs) s
  run_if true c cs s bytes run = tt
  run_if false c cs s bytes run = (bytes, run)

  pub run_by : ((x : L) (s : State) → HasBytes (pick x s)) → ((x : L) (s : State) → result_of (step task.flash task.assumptions s (pick x s)) ≢ answer.Illegal)
      → (n : ℕ) (l : L) (m : Machine) → IsRun task.flash task.assumptions (By n l m) m.state
  run_by bytes legal zero l m = tt
  run_by bytes legal (suc n) l m =
      run_if (nat_le target m.depth) (pick l m.state) _ m.state (bytes l m.state)
      (run_answer n (left l m.state) m (step task.flash task.assumptions m.state (pick l m.state)) (legal l m.state) (λ s. run_by bytes legal n (left l m.state) (moved_on m (Done s))))

  -- ---- at a place once more

  deeper : (l : L) (m : Machine) (cs : List Choice) (k : L) (end : Machine) → Leads l m cs k end → m.depth ≤ end.depth
  deeper l m [] k end h = subst (λ (x : Machine). m.depth ≤ x.depth) (sym h.1) (omega arith)
  deeper l m (c ∷ cs) k end h =
      let more = deeper (left l m.state) (moved_on m (Done h.2)) cs k end h.4 in
      let first = deeper_than m.depth (depth_of_state h.2) in
      omega (arith, more, first)

  -- a machine's depth is at least that of its state
  pub holds_depth : (l : L) (m : Machine) (cs : List Choice) (k : L) (end : Machine) → Leads l m cs k end → depth_of_state m.state ≤ m.depth → depth_of_state end.state ≤ end.depth
  holds_depth l m [] k end h held = subst (λ (x : Machine). depth_of_state x.state ≤ x.depth) (sym h.1) held
  holds_depth l m (c ∷ cs) k end h held = holds_depth (left l m.state) (moved_on m (Done h.2)) cs k end h.4 (state_counts m.depth (depth_of_state h.2))

  -- from a machine in the first state that has been as deep as the last, the choices lead to the last as well
  again : (l : L) (m : Machine) (cs : List Choice) (k : L) (end other : Machine) → Leads l m cs k end → end.depth < target → other.state ≡ m.state → other.depth ≡ end.depth
      → Leads l other cs k end
  again l m [] k end other h low same deep = (h.0, machine_is end other (ap (λ (x : Machine). x.state) h.1 ∙ sym same) (sym deep))
    where
      machine_is : (a b : Machine) → a.state ≡ b.state → a.depth ≡ b.depth → a ≡ b
      machine_is a b s d = ap (λ (x : State). record { state = x; depth = a.depth }) s ∙ ap (λ (x : ℕ). record { state = b.state; depth = x }) d
  again l m (c ∷ cs) k end other h low same deep =
      let no_deeper_than : max m.depth (depth_of_state h.2) ≤ end.depth = deeper (left l m.state) (moved_on m (Done h.2)) cs k end h.4 in
      let at_most : depth_of_state h.2 ≤ other.depth = subst (λ (d : ℕ). depth_of_state h.2 ≤ d) (sym deep) (no_deeper m.depth (depth_of_state h.2) end.depth no_deeper_than) in
      let rest : Leads (left l m.state) (moved_on other (Done h.2)) cs k end =
      again (left l m.state) (moved_on m (Done h.2)) cs k end (moved_on other (Done h.2)) h.4 low refl (stays_deep other.depth (depth_of_state h.2) at_most ∙ deep) in (
        omega (arith, low, deep),
        h.1 ∙ ap (pick l) (sym same),
        h.2,
        ap (λ (x : State). step task.flash task.assumptions x c) same ∙ h.3,
        subst (λ (x : State). Leads (left l x) (moved_on other (Done h.2)) cs k end) (sym same) rest,
      )

  -- if choices lead from a place back to it, a run that reaches it never reaches the target
  module _ (k : L) (end : Machine) (c : Choice) (cycle : List Choice) (back : Leads k end (c ∷ cycle) k end) where
    below_next : (n : ℕ) (l : L) (m : Machine) (c : Choice) (cs : List Choice) → Leads l m (c ∷ cs) k end
        → ((x : L) (y : Machine) → Leads x y cs k end → (machine_after task.flash task.assumptions (By n x y) y).depth < target) → (machine_after task.flash task.assumptions (By (suc n) l m) m).depth < target
    below_next n l m c cs h on =
        let one : By (suc n) l m ≡ c ∷ By n (left l m.state) (moved_on m (Done h.2)) =
        ap (λ (b : Bool). if b then [] else pick l m.state ∷ choices_on (step task.flash task.assumptions m.state (pick l m.state)) (λ s. By n (left l m.state) (moved_on m (Done s)))) (not_reached target m.depth h.0)
        ∙ ap (λ (x : Choice). x ∷ choices_on (step task.flash task.assumptions m.state x) (λ s. By n (left l m.state) (moved_on m (Done s)))) (sym h.1)
        ∙ ap (λ (a : Answer). c ∷ choices_on a (λ s. By n (left l m.state) (moved_on m (Done s)))) h.3 in
        subst (λ (xs : List Choice). (machine_after task.flash task.assumptions xs m).depth < target) (sym one)
        (subst (λ (a : Answer). (machine_after task.flash task.assumptions (By n (left l m.state) (moved_on m (Done h.2))) (moved_on m a)).depth < target) (sym h.3)
        (on (left l m.state) (moved_on m (Done h.2)) h.4))

    below : (n : ℕ) (l : L) (m : Machine) (cs : List Choice) → Leads l m cs k end → (machine_after task.flash task.assumptions (By n l m) m).depth < target
    below zero l m [] h = subst (λ (x : Machine). x.depth < target) h.1 back.0
    below zero l m (c ∷ cs) h = h.0
    below (suc n) l m [] h =
        subst (λ (x : L). (machine_after task.flash task.assumptions (By (suc n) x m) m).depth < target) h.0
        (subst (λ (x : Machine). (machine_after task.flash task.assumptions (By (suc n) k x) x).depth < target) h.1 (below_next n k end c cycle back (λ x y g. below n x y cycle g)))
    below (suc n) l m (d ∷ cs) h = below_next n l m d cs h (λ x y g. below n x y cs g)

  -- a run that repeats a state, with the same state of the chooser and below the target, never reaches the target
  pub never_reached : (n : ℕ) (l : L) (m : Machine) (cs : List Choice) (k : L) (mid : Machine) (c : Choice) (cycle : List Choice) (end : Machine)
      → Leads l m cs k mid → Leads k mid (c ∷ cycle) k end → end.depth < target → end.state ≡ mid.state → (machine_after task.flash task.assumptions (By n l m) m).depth < target
  never_reached n l m cs k mid c cycle end h back low same =
      below k end c cycle (again k mid (c ∷ cycle) k end end back low same refl) n l m (cs ++ c ∷ cycle) (joined l m cs h)
    where
      joined : (l : L) (m : Machine) (cs : List Choice) → Leads l m cs k mid → Leads l m (cs ++ c ∷ cycle) k end
      joined l m [] h = subst (λ (x : L). Leads x m (c ∷ cycle) k end) h.0 (subst (λ (x : Machine). Leads k x (c ∷ cycle) k end) h.1 back)
      joined l m (d ∷ cs) h = (h.0, h.1, h.2, h.3, joined (left l m.state) (moved_on m (Done h.2)) cs h.4)
