use Rattle.std.proofs.Common.{ℕ, Bool, List, Option, ap, sym, ◌∙◌, ◌||◌}
use Rattle.avr_model.specs.declared.assumption.Entry.{Entry}
use Rattle.avr_model.specs.Assumptions.{has_pairs}
use Rattle.certificate.specs.Versions.{says_device}
use Rattle.cert_format.specs.Reading.{entry_by}
use Rattle.cert_format.proofs.FirstEntries.{mode_stays}
use Rattle.cert_format.proofs.gathered.AssumptionsGathered.add.Goals as goal

pub returns-in-Ok-clause-same : goal.returns-in-Ok-clause-same
returns-in-Ok-clause-same c =
    let by : Bool → ℕ → List ℕ → Option Entry = λ paired at. entry_by c.args.device paired in
    ap by (ap (λ (es : List Entry). says_device c.args.device || has_pairs es) c.in-Ok.ensures.ok ∙ mode_stays (says_device c.args.device) c.args.self.now c.in-Some.entry (sym c.is_admitted.ensures ∙ c.if-not-is_admitted.false))
