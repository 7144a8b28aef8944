-- The output of `attain`.
use Rattle.std.proofs.Common.{◌≡◌, ◌≤◌, refl, sym, ap, ◌∙◌, subst, arith, ℕ, List, length, Option, Some, None, IfSome}
use Rattle.basics.specs.Numbers.{same_if_neither}
use Rattle.avr_model.specs.declared.device.Device.{Device}
use Rattle.avr_model.specs.Devices.{device_of}
use Rattle.witness_replay.specs.Spelling.{Plan, IsSchedule, most_choices, choices_of}
use Rattle.witness_replay.specs.Runs.{ReplaysAreRuns}
use Rattle.certificate.specs.Claims.{Claim, IsCertificate}
use Rattle.certificate.specs.Valid.{IsSound, IsAttained, IsValid}
use Rattle.cert_words.specs.Text.{text_of}
use Rattle.cert_writing.specs.Sizes.{HasFewChoices, TextsFit}
use Rattle.guided_trials.specs.declared.guide.Guide.{Guide}
use Rattle.guided_trials.specs.Guides.{guide_of}
use Rattle.guided_trials.specs.Trials.{fill_of, trial_of, IsFirstGuided, IsGuidedFound}
use Rattle.guided_trials.specs.Attaining.{IsScheduled, IsCompleted}
use Rattle.guided_trials.specs.Laws.{TrialsAreLed}
use Rattle.guided_trials.proofs.AllLaws.{claim_with, sound_with, attained_where}
use Rattle.replies.specs.declared.status.Status.{Status}
use Rattle.replies.specs.declared.status.Status.TheVariants as exit
use Rattle.replies.specs.Reading.{certificate_cap}
use Rattle.replies.specs.Reply.{AttainReply}
use Rattle.replies.specs.Headline.{IsDepthReached, IsWrittenAttained}
use Rattle.replies.proofs.Trials.{same_runs, same_plan}
use Rattle.replies.proofs.Least.{reached}
use Rattle.local_rules.specs.Site.{Task}

-- ---- what trials find is one

module _ (task : Task) (g : Guide) (n : ℕ) where
  first_one : (a b : Plan) → IsFirstGuided task.flash task.assumptions g n a → IsFirstGuided task.flash task.assumptions g n b → a ≡ b
  first_one a b h k =
      let trial : h.trial ≡ k.trial = same_if_neither h.trial k.trial (λ lt. k.failed h.trial lt h.succeeds) (λ lt. h.failed k.trial lt k.succeeds) in
      let fill : a.fill ≡ b.fill = h.schedule.fill ∙ ap (fill_of g) trial ∙ sym k.schedule.fill in
      let choices : choices_of a.runs ≡ choices_of b.runs = h.schedule.choices ∙ ap (trial_of task.flash task.assumptions g) trial ∙ sym k.schedule.choices in
      same_plan a b fill (same_runs (device_of task.flash) None None most_choices most_choices a.runs b.runs h.schedule.fits.runs_fit k.schedule.fits.runs_fit choices)

  found_one : (p q : Option Plan) → IsGuidedFound task.flash task.assumptions g n p → IsGuidedFound task.flash task.assumptions g n q → p ≡ q
  found_one None None h k = refl
  found_one None (Some b) h k = absurd (h k.trial k.among k.succeeds)
  found_one (Some a) None h k = absurd (k h.trial h.among h.succeeds)
  found_one (Some a) (Some b) h k = ap Some (first_one a b h k)

module _ (task : Task) (n : ℕ) (c : Claim) where
  schedule_one : (w p q : Option Plan) → IsScheduled task.flash task.assumptions n c w p → IsScheduled task.flash task.assumptions n c w q → p ≡ q
  schedule_one None p q h k = found_one task (guide_of task.flash task.assumptions c) n p q h k
  schedule_one (Some plan) p q h k = h ∙ sym k

  completed_one : (d e : Claim) → IsCompleted task.flash task.assumptions n c d → IsCompleted task.flash task.assumptions n c e → d ≡ e
  completed_one d e h k =
      h.same ∙ ap (λ (w : Option Plan). record c { witness = w }) (schedule_one c.witness d.witness e.witness h.schedule k.schedule) ∙ sym k.same

pub attain_one : (task : Task) (n : ℕ) (c : Claim) (s t : Status) (a b : List ℕ) → AttainReply task n c s a → AttainReply task n c t b → (s ≡ t) × (a ≡ b)
attain_one task n c s t a b h k =
    (h.says.0 ∙ sym k.says.0, h.says.1 ∙ ap text_of (completed_one task n c h.claim k.claim h.completed k.completed) ∙ sym k.says.1)

-- ---- what is said of it

module _ (led : TrialsAreLed) (fit : TextsFit) (task : Task) (n : ℕ) (c : Claim) where
  schedule_fits : (w found : Option Plan) → IfSome w (IsSchedule (device_of task.flash)) → IsScheduled task.flash task.assumptions n c w found → IfSome found (IsSchedule (device_of task.flash))
  schedule_fits None None fits h = tt
  schedule_fits None (Some plan) fits h = h.schedule.fits
  schedule_fits (Some p) found fits h = subst (λ (w : Option Plan). IfSome w (IsSchedule (device_of task.flash))) (sym h) fits

  few_found : (found : Option Plan) → IsGuidedFound task.flash task.assumptions (guide_of task.flash task.assumptions c) n found → IfSome found HasFewChoices
  few_found None h = tt
  few_found (Some plan) h = omega (arith, ap length h.schedule.choices, led.short task.flash task.assumptions (guide_of task.flash task.assumptions c) h.trial)

  fits_as : (d : Claim) → IsCompleted task.flash task.assumptions n c d → IsCertificate c → IsSound task c → IsCertificate d
  fits_as d h is sound =
      let own = subst (λ (device : Device). IfSome c.witness (IsSchedule device)) sound.meets.device is.schedule in
      let found = subst (λ (device : Device). IfSome d.witness (IsSchedule device)) (sym sound.meets.device) (schedule_fits c.witness d.witness own h.schedule) in
      subst IsCertificate (sym h.same) (record { claim = claim_with c d.witness is.claim; schedule = found })

  itself : (d : Claim) (p : Plan) → c.witness ≡ Some p → d.witness ≡ Some p → d ≡ record c { witness = d.witness } → d ≡ c
  itself d p own is same = same ∙ ap (λ (w : Option Plan). record c { witness = w }) (is ∙ sym own)

  short_by : (d : Claim) (w : Option Plan) → c.witness ≡ w → IsScheduled task.flash task.assumptions n c w d.witness → d ≡ record c { witness = d.witness } → IsCertificate d
      → length (text_of c) ≤ certificate_cap → length (text_of d) ≤ certificate_cap
  short_by d None own h same is le = fit d is (few_found d.witness h)
  short_by d (Some p) own h same is le = subst (λ (x : Claim). length (text_of x) ≤ certificate_cap) (sym (itself d p own h same)) le

  valid_as : (d : Claim) → IsCompleted task.flash task.assumptions n c d → IsAttained task c.bound d.witness → IsSound task c → IsValid task d
  valid_as d h attained sound = subst (IsValid task) (sym h.same) (record { sound = sound_with task.flash task.assumptions c d.witness sound; attained = attained })

  bound_as : (d : Claim) → IsCompleted task.flash task.assumptions n c d → d.bound ≡ c.bound
  bound_as d h = ap (λ (x : Claim). x.bound) h.same

  pub written_attained : (runs : ReplaysAreRuns) (text : List ℕ) → AttainReply task n c exit.Done text → IsCertificate c → IsValid task c → IsWrittenAttained task n c text
  written_attained runs text h is valid =
      let fits = fits_as h.claim h.completed is valid.sound in
      let whole = valid_as h.claim h.completed h.attained valid.sound in
      let schedule = subst (λ (device : Device). IfSome h.claim.witness (IsSchedule device)) whole.sound.meets.device fits.schedule in
      record {
        claim = h.claim;
        fits = fits;
        told = h.says.1;
        completed = h.completed;
        attained = attained_where task.flash task.assumptions n c h.claim h.completed;
        valid = whole;
        reached = λ e. subst (IsDepthReached task) (sym (bound_as h.claim h.completed)) (reached runs task c.bound h.claim.witness schedule h.attained e);
        short = λ le. subst (λ (t : List ℕ). length t ≤ certificate_cap) (sym h.says.1) (short_by h.claim c.witness refl h.completed.schedule h.completed.same fits le);
      }
