-- The result of a trial, and the first success.
use Rattle.std.proofs.lemmas.List.Elements.{Contains-append_cases}
use Rattle.std.proofs.lemmas.List.{take_more}
use Rattle.std.proofs.Common.{arith, add-one, suc, zero, refl, sym, ap, subst, ◌∙◌, ◌≡◌, ◌≤◌, ◌<◌, ◌+◌, ℕ, slice_index_or, List, [], ◌∷◌, ◌++◌, length, Option, Some, None, IsOkAnd, inl, inr, take, drop}
use Rattle.basics.specs.Items.{only_one_in}
use Rattle.basics.specs.Numbers.{most_from_start}
use Rattle.avr_model.specs.declared.choice.Choice.{Choice}
use Rattle.avr_model.specs.declared.choice.Stop.TheVariants as stop
use Rattle.avr_model.specs.Masks.{reads_masks}
use Rattle.avr_model.specs.Devices.{device_of, ramend}
use Rattle.avr_model.specs.State.{State, filled}
use Rattle.avr_model.specs.Run.{IsRun, starting, depth_of, stop_of}
use Rattle.stimulus.specs.Laws.{DepthIsKept}
use Rattle.witness_replay.specs.Spelling.{Plan, IsSchedule, choices_of}
use Rattle.witness_replay.specs.Replay.{replay_from, report_unless, steps_of}
use Rattle.certificate.specs.Valid.{Attains}
use Rattle.witness_search.specs.declared.waypoint.Waypoint.{Waypoint}
use Rattle.witness_search.specs.Waypoints.{pick_due, due_left}
use Rattle.stimulus.specs.TrialLength.{most_trial_steps}
use Rattle.witness_search.specs.Attempts.{IsAttempt, IsAttempted}
use Rattle.witness_search.specs.Trials.{fills, trial_by, trial_of, Succeeds, NoneSucceeds, IsTried, IsFound}
use Rattle.witness_search.specs.Laws.{TrialsAreShort}
use Rattle.stimulus.proofs.AllLaws.{few, ends_well, run_legal}
use Rattle.local_rules.specs.Site.{Task}

steps_are : most_trial_steps ≡ 200000
unfolding most_trial_steps
steps_are = refl

-- the trial with all its steps
pub whole : (steps : ℕ) (task : Task) (points : List Waypoint) (bound fill : ℕ) → steps ≡ most_trial_steps
    → trial_by steps task points bound fill ≡ trial_of task points bound fill
unfolding trial_of
whole steps task points bound fill is = ap (λ (n : ℕ). trial_by n task points bound fill) is

pub few_choices : (steps : ℕ) (task : Task) (points : List Waypoint) (bound fill : ℕ) (cs : List Choice) → steps ≡ most_trial_steps
    → cs ≡ trial_by steps task points bound fill → length cs ≤ 16777216
few_choices steps task points bound fill cs most is = omega (arith, few (pick_due (reads_masks (device_of task.flash) task.assumptions) fill) (due_left (reads_masks (device_of task.flash) task.assumptions)) task.flash task.assumptions bound steps points (starting (filled (device_of task.flash) fill)), ap length is, most, steps_are)

pub short : TrialsAreShort
unfolding trial_of
short task points bound fill = omega (arith, few (pick_due (reads_masks (device_of task.flash) task.assumptions) fill) (due_left (reads_masks (device_of task.flash) task.assumptions)) task.flash task.assumptions bound most_trial_steps points (starting (filled (device_of task.flash) fill)), steps_are)

-- ---- a trial that reaches the bound

module _ (law : DepthIsKept) (task : Task) where
  stop_is : (steps : ℕ) (points : List Waypoint) (bound fill : ℕ) (cs : List Choice) → cs ≡ trial_by steps task points bound fill → IsRun task.flash task.assumptions cs (filled (device_of task.flash) fill)
      → depth_of task.flash task.assumptions cs (filled (device_of task.flash) fill) ≡ bound → stop_of task.flash task.assumptions cs (filled (device_of task.flash) fill) ≡ stop.End
  stop_is steps points bound fill cs is =
      subst (λ (xs : List Choice). IsRun task.flash task.assumptions xs (filled (device_of task.flash) fill) → depth_of task.flash task.assumptions xs (filled (device_of task.flash) fill) ≡ bound → stop_of task.flash task.assumptions xs (filled (device_of task.flash) fill) ≡ stop.End)
      (sym is)
      (λ run deep.
      let e = law task.flash task.assumptions (trial_by steps task points bound fill) (starting (filled (device_of task.flash) fill)) (omega arith) run ∙ most_from_start (ramend (device_of task.flash)) (depth_of task.flash task.assumptions (trial_by steps task points bound fill) (filled (device_of task.flash) fill)) ∙ deep in
      ends_well (pick_due (reads_masks (device_of task.flash) task.assumptions) fill) (due_left (reads_masks (device_of task.flash) task.assumptions)) task.flash task.assumptions bound steps points (starting (filled (device_of task.flash) fill)) (omega (arith, e)))

  replays : (bound : ℕ) (cs : List Choice) (m : State) → IsRun task.flash task.assumptions cs m → depth_of task.flash task.assumptions cs m ≡ bound → stop_of task.flash task.assumptions cs m ≡ stop.End
      → IsOkAnd (replay_from task.flash task.assumptions cs m) (λ r. (r.stop ≡ stop.End) × (r.depth ≡ bound))
  replays bound cs m run deep end =
      subst
      (λ (x : Option ℕ). IsOkAnd (report_unless x (record { steps = steps_of task.flash task.assumptions cs m; depth = depth_of task.flash task.assumptions cs m; stop = stop_of task.flash task.assumptions cs m })) (λ r. (r.stop ≡ stop.End) × (r.depth ≡ bound)))
      (sym (run_legal task.flash task.assumptions cs m run)) (end, deep)

  pub attains : (steps : ℕ) (points : List Waypoint) (bound fill : ℕ) (cs : List Choice) (plan : Plan) → cs ≡ trial_by steps task points bound fill
      → IsRun task.flash task.assumptions cs (filled (device_of task.flash) fill) → depth_of task.flash task.assumptions cs (filled (device_of task.flash) fill) ≡ bound → plan.fill ≡ fill → choices_of plan.runs ≡ cs → Attains task bound plan
  attains steps points bound fill cs plan is run deep filling choices =
      subst (λ (xs : List Choice). IsOkAnd (replay_from task.flash task.assumptions xs (filled (device_of task.flash) plan.fill)) (λ r. (r.stop ≡ stop.End) × (r.depth ≡ bound))) (sym choices)
      (subst (λ (b : ℕ). IsOkAnd (replay_from task.flash task.assumptions cs (filled (device_of task.flash) b)) (λ r. (r.stop ≡ stop.End) × (r.depth ≡ bound))) (sym filling)
      (replays bound cs (filled (device_of task.flash) fill) run deep (stop_is steps points bound fill cs is run deep)))

module _ (task : Task) (points : List Waypoint) (bound : ℕ) where
  pub succeeds : (steps fill : ℕ) (cs : List Choice) → steps ≡ most_trial_steps → IsAttempt steps task points bound fill cs → Succeeds task points bound fill
  succeeds steps fill cs most a =
      ap (λ (xs : List Choice). depth_of task.flash task.assumptions xs (filled (device_of task.flash) fill)) (sym (a.are ∙ whole steps task points bound fill most)) ∙ a.depth

  pub fails : (steps fill : ℕ) → steps ≡ most_trial_steps → IsAttempted steps task points bound fill None → Succeeds task points bound fill → ⊥
  fails steps fill most short h =
      short (ap (λ (xs : List Choice). depth_of task.flash task.assumptions xs (filled (device_of task.flash) fill)) (whole steps task points bound fill most) ∙ h)

  pub tried : (steps fill : ℕ) (cs : List Choice) (plan : Plan) → steps ≡ most_trial_steps → cs ≡ trial_by steps task points bound fill → Succeeds task points bound fill
      → plan.fill ≡ fill → choices_of plan.runs ≡ cs → IsSchedule (device_of task.flash) plan → IsTried task points bound fill (Some plan)
  tried steps fill cs plan most is reached filling choices fits = (
    filling,
    reached,
    record { fits = fits; choices = choices ∙ is ∙ whole steps task points bound fill most ∙ ap (trial_of task points bound) (sym filling) },
  )

  -- ---- one trial after another

  pub none_yet : NoneSucceeds task points bound []
  none_yet fill has = absurd (omega (arith, has.1))

  pub none_more : (before : List ℕ) (fill : ℕ) → NoneSucceeds task points bound before → (Succeeds task points bound fill → ⊥)
      → NoneSucceeds task points bound (before ++ fill ∷ [])
  none_more before fill none failed t has reached =
      elim (Contains-append_cases before (fill ∷ []) t has) [ inl old ↦ none t old reached | inr new ↦ failed (subst (Succeeds task points bound) (only_one_in fill t new) reached) ]

  pub first : (before after : List ℕ) (fill : ℕ) (plan : Plan) → fills ≡ before ++ fill ∷ after → NoneSucceeds task points bound before
      → IsTried task points bound fill (Some plan) → IsFound task points bound (Some plan)
  first before after fill plan order none h =
      record {
        before = before;
        after = after;
        order = order ∙ ap (λ (b : ℕ). before ++ b ∷ after) (sym h.0);
        failed = none;
        succeeds = subst (Succeeds task points bound) (sym h.0) h.1;
        trial = h.2;
      }

-- ---- the trials' bytes by their numbers

split_at : (xs : List ℕ) (t : ℕ) → t < length xs → xs ≡ take t xs ++ slice_index_or xs t 0 ∷ drop (t + 1) xs
split_at [] t lt = absurd (omega (arith, lt))
split_at (x ∷ xs) zero lt = refl
split_at (x ∷ xs) (suc t) lt =
    let rest = rw add-one at (split_at xs t (omega (arith, lt))) in
    rw add-one (ap (λ (ys : List ℕ). x ∷ ys) rest)

pub parted : (t : ℕ) → t < 8 → fills ≡ take t fills ++ slice_index_or fills t 0 ∷ drop (t + 1) fills
parted t lt = split_at fills t lt

pub taken_more : (t : ℕ) → t < 8 → take (t + 1) fills ≡ take t fills ++ slice_index_or fills t 0 ∷ []
taken_more t lt = take_more fills t 0 lt

pub taken_all : (t : ℕ) → t ≡ 8 → take t fills ≡ fills
taken_all t e = ap (λ (n : ℕ). take n fills) e
