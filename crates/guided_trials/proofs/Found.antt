-- The result of a trial, and the first success.
use Rattle.std.proofs.Common.{arith, refl, sym, ap, subst, ◌∙◌, ◌≡◌, ◌≤◌, ◌<◌, ◌+◌, ◌⊎◌, ℕ, List, length, Option, Some, IsOkAnd, inl, inr}
use Rattle.basics.specs.Numbers.{most_from_start}
use Rattle.avr_model.specs.declared.choice.Choice.{Choice}
use Rattle.avr_model.specs.declared.choice.Stop.TheVariants as stop
use Rattle.avr_model.specs.declared.assumption.Entry.{Entry}
use Rattle.avr_model.specs.Devices.{Image, device_of, ramend}
use Rattle.avr_model.specs.State.{State, IsReset, filled}
use Rattle.avr_model.specs.Run.{IsRun, Bounded, starting, depth_of, stop_of}
use Rattle.stimulus.specs.Laws.{DepthIsKept}
use Rattle.witness_replay.specs.Spelling.{Plan, IsSchedule, choices_of}
use Rattle.witness_replay.specs.Replay.{replay_from, report_unless, steps_of}
use Rattle.local_rules.specs.Site.{task_with}
use Rattle.certificate.specs.Valid.{Attains}
use Rattle.guided_trials.specs.declared.guide.Guide.{Guide}
use Rattle.guided_trials.specs.Choosing.{pick, left}
use Rattle.stimulus.specs.TrialLength.{most_trial_steps}
use Rattle.guided_trials.specs.Trials.{fill_of, initial, start_of, trial_by, trial_of, GuidedSucceeds, NoGuidedSucceeds, IsGuidedTried, IsGuidedFound}
use Rattle.stimulus.proofs.AllLaws.{few, ends_well, run_legal}

choices_are : most_trial_steps ≡ 200000
unfolding most_trial_steps
choices_are = refl

module _ (image : Image) (A : List Entry) (g : Guide) (t : ℕ) where
  abbrev reset : State
  reset = initial image g t

  -- the trial with all its choices
  pub whole : (steps : ℕ) → steps ≡ most_trial_steps → trial_by steps image A g t ≡ trial_of image A g t
  unfolding trial_of
  whole steps is = ap (λ (n : ℕ). trial_by n image A g t) is

  pub few_choices : (steps : ℕ) (cs : List Choice) → steps ≡ most_trial_steps → cs ≡ trial_by steps image A g t → length cs ≤ 16777216
  few_choices steps cs most is = omega (arith, few (pick image g t) (left image g t) image A g.bound steps (start_of g t) (starting reset), ap length is, most, choices_are)

  pub short : length (trial_of image A g t) ≤ 200000
  unfolding trial_of
  short = omega (arith, few (pick image g t) (left image g t) image A g.bound most_trial_steps (start_of g t) (starting reset), choices_are)

  -- ---- a trial that reaches the bound

  module _ (law : DepthIsKept) where
    stop_is : (steps : ℕ) (cs : List Choice) → cs ≡ trial_by steps image A g t → IsRun image A cs reset → g.bound ≤ depth_of image A cs reset → stop_of image A cs reset ≡ stop.End
    stop_is steps cs is =
        subst (λ (xs : List Choice). IsRun image A xs reset → g.bound ≤ depth_of image A xs reset → stop_of image A xs reset ≡ stop.End)
        (sym is)
        (λ run deep.
        let e = law image A (trial_by steps image A g t) (starting reset) (omega arith) run ∙ most_from_start (ramend (device_of image)) (depth_of image A (trial_by steps image A g t) reset) in
        ends_well (pick image g t) (left image g t) image A g.bound steps (start_of g t) (starting reset) (omega (arith, e, deep)))

    replays : (bound : ℕ) (cs : List Choice) (m : State) → IsRun image A cs m → depth_of image A cs m ≡ bound → stop_of image A cs m ≡ stop.End
        → IsOkAnd (replay_from image A cs m) (λ r. (r.stop ≡ stop.End) × (r.depth ≡ bound))
    replays bound cs m run deep end =
        subst
        (λ (x : Option ℕ). IsOkAnd (report_unless x (record { steps = steps_of image A cs m; depth = depth_of image A cs m; stop = stop_of image A cs m })) (λ r. (r.stop ≡ stop.End) × (r.depth ≡ bound)))
        (sym (run_legal image A cs m run)) (end, deep)

    -- if the bound bounds all runs, its depth is the bound
    exactly : (cs : List Choice) → IsReset (device_of image) reset → IsRun image A cs reset → g.bound ≤ depth_of image A cs reset → Bounded image A g.bound → depth_of image A cs reset ≡ g.bound
    exactly cs at run deep all = omega (arith, deep, all.depth reset cs at run)

    pub attains : (steps : ℕ) (cs : List Choice) (plan : Plan) → IsReset (device_of image) reset → cs ≡ trial_by steps image A g t
        → IsRun image A cs reset → g.bound ≤ depth_of image A cs reset → plan.fill ≡ fill_of g t → choices_of plan.runs ≡ cs → Bounded image A g.bound → Attains (task_with image A) g.bound plan
    attains steps cs plan at is run deep filling choices all =
        subst (λ (xs : List Choice). IsOkAnd (replay_from image A xs (filled (device_of image) plan.fill)) (λ r. (r.stop ≡ stop.End) × (r.depth ≡ g.bound))) (sym choices)
        (subst (λ (b : ℕ). IsOkAnd (replay_from image A cs (filled (device_of image) b)) (λ r. (r.stop ≡ stop.End) × (r.depth ≡ g.bound))) (sym filling)
        (replays g.bound cs reset run (exactly cs at run deep all) (stop_is steps cs is run deep)))

  pub depth_is : (steps : ℕ) (cs : List Choice) (depth : ℕ) → steps ≡ most_trial_steps → cs ≡ trial_by steps image A g t → depth ≡ depth_of image A cs reset
      → depth ≡ depth_of image A (trial_of image A g t) reset
  depth_is steps cs depth most is deep = deep ∙ ap (λ (xs : List Choice). depth_of image A xs reset) (is ∙ whole steps most)

  -- the depth found is that of the trial's choices
  pub deep : (steps : ℕ) (cs : List Choice) (depth : ℕ) → cs ≡ trial_by steps image A g t → depth ≡ depth_of image A (trial_by steps image A g t) reset
      → g.bound ≤ depth → g.bound ≤ depth_of image A cs reset
  deep steps cs depth is seen high = omega (arith, seen, high, ap (λ (xs : List Choice). depth_of image A xs reset) is)

  pub fails : (depth : ℕ) → depth ≡ depth_of image A (trial_of image A g t) reset → depth < g.bound → GuidedSucceeds image A g t → ⊥
  fails depth is low h = omega (arith, is, low, h)

  pub tried : (steps : ℕ) (cs : List Choice) (depth : ℕ) (plan : Plan) → steps ≡ most_trial_steps → cs ≡ trial_by steps image A g t → depth ≡ depth_of image A (trial_of image A g t) reset
      → g.bound ≤ depth → plan.fill ≡ fill_of g t → choices_of plan.runs ≡ cs → IsSchedule (device_of image) plan → IsGuidedTried image A g t (Some plan)
  tried steps cs depth plan most is deep high filling choices fits = (
    omega (arith, deep, high),
    record { fits = fits; fill = filling; choices = choices ∙ is ∙ whole steps most },
  )

-- ---- one trial after another

module _ (image : Image) (A : List Entry) (g : Guide) where
  pub none_yet : NoGuidedSucceeds image A g 0
  none_yet t lt = absurd (omega (arith, lt))

  last_or_before : (t n : ℕ) → t < n + 1 → (t < n) ⊎ (t ≡ n)
  last_or_before t n lt = grind (arith, lt)

  pub none_more : (n : ℕ) → NoGuidedSucceeds image A g n → (GuidedSucceeds image A g n → ⊥) → NoGuidedSucceeds image A g (n + 1)
  none_more n none failed t lt h = elim (last_or_before t n lt) [ inl old ↦ none t old h | inr new ↦ failed (subst (GuidedSucceeds image A g) new h) ]

  pub found : (n t : ℕ) (plan : Plan) → t < n → NoGuidedSucceeds image A g t → IsGuidedTried image A g t (Some plan) → IsGuidedFound image A g n (Some plan)
  found n t plan lt none h = record { trial = t; among = lt; failed = none; succeeds = h.0; schedule = h.1 }
