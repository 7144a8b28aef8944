-- The statement of an analysis that writes a certificate, and how its status says where the rounds end.
use Rattle.std.proofs.Common.{◌≡◌, ◌≢◌, ◌≤◌, inl, inr, ◌⊎◌, ℕ, true, List, length, Option, Some, None, Result, Ok, Err, IfSome, IsOkAnd, refl, sym, ap, ◌∙◌, subst, arith}
use Rattle.std.specs.Option.{is_some}
use Rattle.avr_model.specs.declared.choice.Stop.TheVariants as stop
use Rattle.avr_model.specs.Run.{Bounded}
use Rattle.avr_model.specs.declared.device.Device.{Device}
use Rattle.avr_model.specs.Devices.{device_of}
use Rattle.local_rules.specs.Machine.{AreWords}
use Rattle.witness_replay.specs.Spelling.{Plan, IsSchedule}
use Rattle.witness_replay.specs.Replay.{Report as Replayed, replay_of}
use Rattle.witness_replay.specs.Runs.{ReplaysAreRuns}
use Rattle.certificate.specs.Claims.{Claim, IsClaim, IsCertificate}
use Rattle.certificate.specs.Valid.{IsAttained, IsValid}
use Rattle.cert_words.specs.Text.{text_of}
use Rattle.cert_writing.specs.Sizes.{HasFewChoices, TextsFit}
use Rattle.cert_check.specs.Laws.{SoundCertificatesBoundEveryRun}
use Rattle.round_rules.specs.declared.refusal.Refusal.{Refusal}
use Rattle.round_rules.specs.declared.refusal.Refusal.TheVariants as refusal
use Rattle.round_rules.specs.Refusals.{Test, over, faulty, re_entry, recursion, too_deep, refusal_of, GoesBeyond}
use Rattle.round_rules.specs.Solutions.{IsAnswer, IsRefusal, AllFit, IsWhyNot}
use Rattle.round_laws.specs.Laws.{RoundsAreLeast, SolutionsAreValid}
use Rattle.round_solutions.specs.Answers.{AnswersAreOne}
use Rattle.round_solutions.proofs.AnswerLaws.{misfit_fits, never_misfit}
use Rattle.witness_search.specs.Laws.{TrialsAreShort}
use Rattle.witness_search.specs.Trials.{IsFound}
use Rattle.witness_search.specs.declared.waypoint.Waypoint.{Waypoint}
use Rattle.guided_trials.proofs.AllLaws.{claim_with, sound_with}
use Rattle.replies.specs.declared.status.Status.{Status}
use Rattle.replies.specs.declared.status.Status.TheVariants as exit
use Rattle.replies.specs.Texts.{why_not_status, why_not_text}
use Rattle.replies.specs.Reading.{certificate_cap}
use Rattle.replies.specs.Analysis.{TrialsFind, IsAnalysis}
use Rattle.replies.specs.Reply.{Refuses, AnalyseReply, WhyNotReply}
use Rattle.replies.specs.Headline.{IsDepthReached, HasValid, SaysHowRoundsEnd}
use Rattle.replies.proofs.Analysing.{no_memory}
use Rattle.local_rules.specs.Site.{Task}

pub schedule_found : (task : Task) (points : List Waypoint) (bound : ℕ) (found : Option Plan) → IsFound task points bound found → IfSome found (IsSchedule (device_of task.flash))
schedule_found task points bound None h = tt
schedule_found task points bound (Some plan) h = h.trial.fits

-- ---- what is written fits a file that is read

-- the text of an analysis' certificate is within the limit
abbrev pub AnalysesFit : Type 0
AnalysesFit = (task : Task) (steps : Option ℕ) (c : Claim) → IsAnalysis task steps c → IsCertificate c → length (text_of c) ≤ certificate_cap

few_found : TrialsAreShort → (task : Task) (points : List Waypoint) (bound : ℕ) (found : Option Plan) → IsFound task points bound found → IfSome found HasFewChoices
few_found short task points bound None h = tt
few_found short task points bound (Some plan) h = omega (arith, ap length h.trial.choices, short task points bound plan.fill)

pub analyses_fit : TextsFit → TrialsAreShort → AnalysesFit
analyses_fit fit short task steps c h is = fit c is (subst (λ (x : Claim). IfSome x.witness HasFewChoices) (sym h.is) (few_found short task h.trials.points h.least.bound h.found h.trials.first))

-- ---- a schedule that attains the bound is a run

replayed : (bound : ℕ) (x y : Result Replayed ℕ) → x ≡ y → IsOkAnd y (λ r. (r.stop ≡ stop.End) × (r.depth ≡ bound)) → (r : Replayed) × (x ≡ Ok r) × (r.stop ≡ stop.End) × (r.depth ≡ bound)
replayed bound x (Err n) e h = absurd h
replayed bound x (Ok r) e h = (r, e, h.0, h.1)

no_schedule : (w : Option Plan) → w ≡ None → is_some w ≡ true → ⊥
no_schedule None e f = let wrong = f in cc
no_schedule (Some plan) e f = let wrong = e in cc

pub reached : (runs : ReplaysAreRuns) (task : Task) (bound : ℕ) (found : Option Plan) → IfSome found (IsSchedule (device_of task.flash)) → IsAttained task bound found → is_some found ≡ true → IsDepthReached task bound
reached runs task bound None fits h e = absurd (no_schedule None refl e)
reached runs task bound (Some plan) fits h e =
    let r = replayed bound (replay_of task.flash task.assumptions plan) (replay_of task.flash task.assumptions plan) refl h in
    let run = runs (device_of task.flash) task.flash task.assumptions plan r.0 fits r.1 in
    record { state = _; reset = run.reset; choices = run.choices; run = run.run; ends = sym run.stop ∙ r.2; deep = sym run.depth ∙ r.3 }

-- ---- what is told instead of a certificate

never_spent : (t : Test) (n : ℕ) → refusal_of t ≢ refusal.Spent n
never_spent (over limit) n e = cc
never_spent (faulty x) n e = cc
never_spent (re_entry v word) n e = cc
never_spent (recursion word) n e = cc
never_spent (too_deep d) n e = cc

module _ (task : Task) (steps : Option ℕ) where
  abbrev IsSpent : Refusal → Type 0
  IsSpent r = (n : ℕ) × (r ≡ refusal.Spent n) × (steps ≡ Some n) × GoesBeyond task n

  abbrev IsCause : Refusal → Type 0
  IsCause r = IsRefusal task steps r × (why_not_status r ≡ exit.NoCertificate)

module _ (task : Task) (steps : Option ℕ) (fit : AllFit (device_of task.flash) task.assumptions) where
  why_cases : (r : Refusal) → IsWhyNot task steps r → r ≢ refusal.Memory → IsCause task steps r ⊎ IsSpent task steps r
  why_cases (refusal.Misfit at) h m = absurd (misfit_fits (device_of task.flash) task.assumptions at h fit)
  why_cases (refusal.Node x) h m = inl (h.1, refl)
  why_cases (refusal.Recursion at) h m = inl (h.1, refl)
  why_cases (refusal.ReEntry v at) h m = inl (h.1, refl)
  why_cases (refusal.TooLarge limit) h m = inl (h.1, refl)
  why_cases (refusal.Spent n) h m = inr (n, refl, h.1.0, h.1.1)
  why_cases refusal.Memory h m = absurd (m refl)

  why_of : (r : Refusal) → IsRefusal task steps r → r ≢ refusal.Memory → IsWhyNot task steps r × (why_not_status r ≡ exit.NoCertificate)
  why_of (refusal.Misfit at) h m = absurd (never_misfit at h.refused.test h.refused.is)
  why_of (refusal.Node x) h m = ((fit, h), refl)
  why_of (refusal.Recursion at) h m = ((fit, h), refl)
  why_of (refusal.ReEntry v at) h m = ((fit, h), refl)
  why_of (refusal.TooLarge limit) h m = ((fit, h), refl)
  why_of (refusal.Spent n) h m = absurd (never_spent h.refused.test n (sym h.refused.is))
  why_of refusal.Memory h m = absurd (m refl)

says_status : (n : Status) (o : Option (List ℕ)) (status : Status) (text : List ℕ) → Refuses n o status text → status ≡ n
says_status n None status text h = absurd h
says_status n (Some t) status text h = h.0

done_refused : {X : Type 0} (s : Status) → s ≡ exit.Done → s ≡ exit.NoCertificate → X
done_refused s e f = absurd (let wrong : ◌≡◌ {A = Status} exit.Done exit.NoCertificate = sym e ∙ f in cc)

done_spent : {X : Type 0} (s : Status) → s ≡ exit.Done → s ≡ exit.Spent → X
done_spent s e f = absurd (let wrong : ◌≡◌ {A = Status} exit.Done exit.Spent = sym e ∙ f in cc)

refused_spent : {X : Type 0} (s : Status) → s ≡ exit.NoCertificate → s ≡ exit.Spent → X
refused_spent s e f = absurd (let wrong : ◌≡◌ {A = Status} exit.NoCertificate exit.Spent = sym e ∙ f in cc)

none_some : {X : Type 0} (o : Option ℕ) (n : ℕ) → o ≡ None → o ≡ Some n → X
none_some o n e f = absurd (let wrong : ◌≡◌ {A = Option ℕ} None (Some n) = sym e ∙ f in cc)

-- ---- the laws

module _
    (one : AnswersAreOne)
    (rounds : RoundsAreLeast)
    (solutions : SolutionsAreValid)
    (bounds : SoundCertificatesBoundEveryRun)
    (runs : ReplaysAreRuns)
    (task : Task) (steps : Option ℕ) where
  -- the properties of an analysis' certificate
  pub record IsBest (c : Claim) : Type 0 where
    pub fits : IsCertificate c
    pub valid : IsValid task c
    pub least : (other : Claim) → IsClaim other → IsValid task other → c.bound ≤ other.bound
    pub reached : is_some c.witness ≡ true → IsDepthReached task c.bound
    pub trials : TrialsFind task c c.witness

  best_of : (h : (c : Claim) × IsAnalysis task steps c) → IsBest (record h.1.least { witness = h.1.found })
  best_of h =
      let a = h.1 in
      let sound = (solutions.valid task a.answer.number a.answer.family a.least a.claim a.answer.solved a.answer.solution).sound in
      let schedule = schedule_found task a.trials.points a.least.bound a.found a.trials.first in
      record {
        fits = record { claim = claim_with a.least a.found a.claim; schedule = subst (λ (d : Device). IfSome a.found (IsSchedule d)) (sym sound.meets.device) schedule };
        valid = record { sound = sound_with task.flash task.assumptions a.least a.found sound; attained = a.attained };
        least = λ other claim valid. solutions.least task a.answer.number a.answer.family a.least other a.answer.solved a.answer.solution (record { claim = claim; sound = valid.sound });
        reached = reached runs task a.least.bound a.found schedule a.attained;
        trials = record { points = a.trials.points; chain = record { nodes = a.trials.chain.nodes; filled = a.trials.chain.filled; interrupts = a.trials.chain.interrupts }; first = a.trials.first };
      }

  pub analysis_best : (c : Claim) → IsAnalysis task steps c → IsBest c
  analysis_best c h = subst IsBest (sym h.is) (best_of (c, h))

  -- ---- where the rounds end

  -- the rounds end at this certificate, and the status says so
  pub record IsSolvedAt (status : Status) : Type 0 where
    pub claim : Claim
    pub fits : IsClaim claim
    pub answer : IsAnswer task steps claim
    pub zero : status ≡ exit.Done

  abbrev pub Ends : Status → List ℕ → Type 0
  Ends status text = IsSolvedAt status ⊎ WhyNotReply task steps status text

  pub analyse_ends : (status : Status) (text : List ℕ) → AnalyseReply task steps status text → Ends status text
  analyse_ends status text (inl h) = inl (record { claim = h.analysis.least; fits = h.analysis.claim; answer = h.analysis.answer; zero = h.says.0 })
  analyse_ends status text (inr k) = inr k

  pub best_bounds : (c : Claim) → AreWords task.flash → IsBest c → Bounded task.flash task.assumptions c.bound
  best_bounds c has h = bounds task c has h.fits.claim h.valid.sound

  module _ (fit : AllFit (device_of task.flash) task.assumptions) (status : Status) (text : List ℕ) where
    told_status : (k : WhyNotReply task steps status text) → status ≡ why_not_status k.refusal
    told_status k = says_status (why_not_status k.refusal) (why_not_text task.flash k.refusal) status text k.says

    not_memory : (k : WhyNotReply task steps status text) → k.refusal ≢ refusal.Memory
    not_memory k = no_memory task.flash k.refusal status text k.says

    told_cases : (k : WhyNotReply task steps status text) → IsCause task steps k.refusal ⊎ IsSpent task steps k.refusal
        → ((status ≡ exit.NoCertificate) × IsRefusal task steps k.refusal) ⊎ ((status ≡ exit.Spent) × ((n : ℕ) × (steps ≡ Some n) × GoesBeyond task n))
    told_cases k (inl h) = inl (told_status k ∙ h.1, h.0)
    told_cases k (inr h) = inr (told_status k ∙ ap why_not_status h.1, (h.0, h.2, h.3))

    told_by : (k : WhyNotReply task steps status text) → ((status ≡ exit.NoCertificate) × IsRefusal task steps k.refusal) ⊎ ((status ≡ exit.Spent) × ((n : ℕ) × (steps ≡ Some n) × GoesBeyond task n))
    told_by k = told_cases k (why_cases task steps fit k.refusal k.why (not_memory k))

    -- ---- where there is a certificate

    not_told : {X Y Z : Type 0} → status ≡ exit.Done → ((status ≡ exit.NoCertificate) × Y) ⊎ ((status ≡ exit.Spent) × Z) → X
    not_told e (inl h) = done_refused status e h.0
    not_told e (inr h) = done_spent status e h.0

    solved_if : Ends status text → status ≡ exit.Done → (c : Claim) × IsClaim c × IsAnswer task steps c
    solved_if (inl h) e = (h.claim, h.fits, h.answer)
    solved_if (inr k) e = not_told e (told_by k)

    if_solved : Ends status text → ((c : Claim) × IsClaim c × IsAnswer task steps c) → status ≡ exit.Done
    if_solved (inl h) s = h.zero
    if_solved (inr k) s = absurd (not_memory k (one.either task steps s.0 k.refusal s.2 k.why))

    -- ---- where there is a cause

    cause_told : {Y : Type 0} (k : WhyNotReply task steps status text) → status ≡ exit.NoCertificate → ((status ≡ exit.NoCertificate) × IsRefusal task steps k.refusal) ⊎ ((status ≡ exit.Spent) × Y)
        → (r : Refusal) × (r ≢ refusal.Memory) × IsRefusal task steps r
    cause_told k e (inl h) = (k.refusal, not_memory k, h.1)
    cause_told k e (inr h) = refused_spent status e h.0

    refused_if : Ends status text → status ≡ exit.NoCertificate → (r : Refusal) × (r ≢ refusal.Memory) × IsRefusal task steps r
    refused_if (inl h) e = done_refused status h.zero e
    refused_if (inr k) e = cause_told k e (told_by k)

    if_why : Ends status text → (r : Refusal) → r ≢ refusal.Memory → IsWhyNot task steps r → status ≡ why_not_status r
    if_why (inl h) r m why = absurd (m (one.either task steps h.claim r h.answer why))
    if_why (inr k) r m why = told_status k ∙ ap why_not_status (one.why_not task steps k.refusal r k.why why (not_memory k) m)

    if_refused : Ends status text → ((r : Refusal) × (r ≢ refusal.Memory) × IsRefusal task steps r) → status ≡ exit.NoCertificate
    if_refused reply h = let w = why_of task steps fit h.0 h.2 h.1 in if_why reply h.0 h.1 w.0 ∙ w.1

    -- ---- where the budget is spent

    spent_told : {Y Z : Type 0} → status ≡ exit.Spent → ((status ≡ exit.NoCertificate) × Y) ⊎ ((status ≡ exit.Spent) × Z) → Z
    spent_told e (inl h) = refused_spent status h.0 e
    spent_told e (inr h) = h.1

    spent_if : Ends status text → status ≡ exit.Spent → (n : ℕ) × (steps ≡ Some n) × GoesBeyond task n
    spent_if (inl h) e = done_spent status h.zero e
    spent_if (inr k) e = spent_told e (told_by k)

    if_spent : Ends status text → ((n : ℕ) × (steps ≡ Some n) × GoesBeyond task n) → status ≡ exit.Spent
    if_spent reply h = if_why reply (refusal.Spent h.0) (λ e. let wrong = e in cc) (fit, (h.1, h.2))

    -- ---- without a budget

    valid_if : Ends status text → status ≡ exit.Done → HasValid task
    valid_if (inl h) e = (h.claim, h.fits, solutions.valid task h.answer.number h.answer.family h.claim h.fits h.answer.solved h.answer.solution)
    valid_if (inr k) e = not_told e (told_by k)

    never_told : (k : WhyNotReply task steps status text) → steps ≡ None → HasValid task
        → ((status ≡ exit.NoCertificate) × IsRefusal task steps k.refusal) ⊎ ((status ≡ exit.Spent) × ((n : ℕ) × (steps ≡ Some n) × GoesBeyond task n)) → status ≡ exit.Done
    never_told k none v (inl h) = absurd (rounds.never task h.1.number v.0 k.refusal (record { claim = v.1; sound = v.2.sound }) h.1.refused)
    never_told k none v (inr h) = none_some steps h.1.0 none h.1.1

    if_valid : Ends status text → steps ≡ None → HasValid task → status ≡ exit.Done
    if_valid (inl h) none v = h.zero
    if_valid (inr k) none v = never_told k none v (told_by k)

    pub says_ends : Ends status text → SaysHowRoundsEnd task steps status
    says_ends reply =
        record {
          solved = (solved_if reply, if_solved reply);
          refused = (refused_if reply, if_refused reply);
          spent = (spent_if reply, if_spent reply);
          valid = λ none. (valid_if reply, if_valid reply none);
        }

  -- status 0 prints no cause
  pub not_written : AllFit (device_of task.flash) task.assumptions → (text : List ℕ) → WhyNotReply task steps exit.Done text → ⊥
  not_written fit text k = not_told fit exit.Done text refl (told_by fit exit.Done text k)
