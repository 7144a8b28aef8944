-- The answer of an analysis is unique.
use Rattle.std.proofs.Common.{◌≡◌, ◌≢◌, inl, inr, ℕ, List, Option, Some, None, refl, sym, ap, ◌∙◌, subst}
use Rattle.avr_model.specs.Devices.{Image}
use Rattle.witness_replay.specs.Spelling.{Plan}
use Rattle.certificate.specs.Claims.{Claim}
use Rattle.cert_words.specs.Text.{text_of}
use Rattle.round_rules.specs.declared.refusal.Refusal.{Refusal}
use Rattle.round_rules.specs.declared.refusal.Refusal.TheVariants.{Memory}
use Rattle.round_solutions.specs.Answers.{AnswersAreOne}
use Rattle.witness_search.specs.Laws.{WaypointsAreOne}
use Rattle.witness_search.specs.Trials.{IsFound}
use Rattle.demo_image.specs.Image.{demo_program}
use Rattle.replies.specs.declared.status.Status.{Status}
use Rattle.replies.specs.Texts.{why_not_status, why_not_text, demo_text}
use Rattle.replies.specs.Analysis.{TrialsFind, IsAnalysis}
use Rattle.replies.specs.Reply.{Refuses, WhyNotReply, AnalyseReply, MeasuredReply, DemoReply}
use Rattle.replies.proofs.Trials.{found_one}
use Rattle.local_rules.specs.Site.{Task, bare}

-- running out of memory is never printed
pub no_memory : (image : Image) (r : Refusal) (status : Status) (text : List ℕ) → Refuses (why_not_status r) (why_not_text image r) status text → r ≢ Memory
no_memory image r status text h e = subst (λ x. Refuses (why_not_status x) (why_not_text image x) status text) e h

refuses_one : (n : Status) (o : Option (List ℕ)) (s t : Status) (a b : List ℕ) → Refuses n o s a → Refuses n o t b → (s ≡ t) × (a ≡ b)
refuses_one n None s t a b h k = absurd h
refuses_one n (Some x) s t a b h k = (h.0 ∙ sym k.0, h.1 ∙ sym k.1)

witnessed : (c d : Claim) (p q : Option Plan) → c ≡ d → p ≡ q → ◌≡◌ {A = Claim} (record c { witness = p }) (record d { witness = q })
witnessed c d p q e f =
    let E : Claim → Type 0 = λ x. ◌≡◌ {A = Claim} (record c { witness = p }) (record x { witness = q }) in
    let W : Option Plan → Type 0 = λ x. ◌≡◌ {A = Claim} (record c { witness = p }) (record c { witness = x }) in
    subst E e (subst W f refl)

module _ (one : AnswersAreOne) (chains : WaypointsAreOne) where
  trials_one : (task : Task) (c d : Claim) (p q : Option Plan) → c ≡ d → TrialsFind task c p → TrialsFind task d q → p ≡ q
  trials_one task c d p q e h k =
      let there : TrialsFind task c q = subst (λ x. TrialsFind task x q) (sym e) k in
      found_one task h.points c.bound p q h.first (subst (λ x. IsFound task x c.bound q) (chains task c there.points h.points there.chain h.chain) there.first)

  pub analysis_one : (task : Task) (steps : Option ℕ) (c d : Claim) → IsAnalysis task steps c → IsAnalysis task steps d → c ≡ d
  analysis_one task steps c d h k =
      let least = one.answer task steps h.least k.least h.claim k.claim h.answer k.answer in
      h.is ∙ (witnessed h.least k.least h.found k.found least (trials_one task h.least k.least h.found k.found least h.trials k.trials) ∙ sym k.is)

  why_not_one : (task : Task) (steps : Option ℕ) (s t : Status) (a b : List ℕ) → WhyNotReply task steps s a → WhyNotReply task steps t b → (s ≡ t) × (a ≡ b)
  why_not_one task steps s t a b h k =
      let e = one.why_not task steps h.refusal k.refusal h.why k.why (no_memory task.flash h.refusal s a h.says) (no_memory task.flash k.refusal t b k.says) in
      refuses_one (why_not_status k.refusal) (why_not_text task.flash k.refusal) s t a b (subst (λ r. Refuses (why_not_status r) (why_not_text task.flash r) s a) e h.says) k.says

  never_both : {X : Type 0} (task : Task) (steps : Option ℕ) (c : Claim) (t : Status) (b : List ℕ) → IsAnalysis task steps c → WhyNotReply task steps t b → X
  never_both task steps c t b h k = absurd (no_memory task.flash k.refusal t b k.says (one.either task steps h.least k.refusal h.answer k.why))

  pub analyse_one : (task : Task) (steps : Option ℕ) (s t : Status) (a b : List ℕ) → AnalyseReply task steps s a → AnalyseReply task steps t b → (s ≡ t) × (a ≡ b)
  analyse_one task steps s t a b (inl h) (inl k) =
      (h.says.0 ∙ sym k.says.0, h.says.1 ∙ (ap text_of (analysis_one task steps h.claim k.claim h.analysis k.analysis) ∙ sym k.says.1))
  analyse_one task steps s t a b (inl h) (inr k) = never_both task steps h.claim t b h.analysis k
  analyse_one task steps s t a b (inr h) (inl k) = never_both task steps k.claim s a k.analysis h
  analyse_one task steps s t a b (inr h) (inr k) = why_not_one task steps s t a b h k

  never_measured : {X : Type 0} (size : ℕ) (s t : Status) (a b : List ℕ) → MeasuredReply size s a → WhyNotReply (bare (demo_program size)) None t b → X
  never_measured size s t a b h k = absurd (no_memory (demo_program size) k.refusal t b k.says (one.either (bare (demo_program size)) None h.claim k.refusal h.answer k.why))

  pub demo_one : (size : ℕ) (s t : Status) (a b : List ℕ) → DemoReply size s a → DemoReply size t b → (s ≡ t) × (a ≡ b)
  demo_one size s t a b (inl h) (inl k) =
      (h.says.0 ∙ sym k.says.0, h.says.1 ∙ (ap (demo_text size) (one.answer (bare (demo_program size)) None h.claim k.claim h.fits k.fits h.answer k.answer) ∙ sym k.says.1))
  demo_one size s t a b (inl h) (inr k) = never_measured size s t a b h k
  demo_one size s t a b (inr h) (inl k) = never_measured size t s b a k h
  demo_one size s t a b (inr h) (inr k) = why_not_one (bare (demo_program size)) None s t a b h k
