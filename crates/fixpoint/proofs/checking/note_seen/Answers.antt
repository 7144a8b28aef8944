use Rattle.std.proofs.Common.{List, Contains, refl, subst}
use Rattle.round_steps.specs.declared.looking.Look.{Look}
use Rattle.round_steps.specs.Notings.{AreNoted}
use Rattle.fixpoint.proofs.checking.note_seen.Goals as goal

pub returns-in-Some-clause-fault : goal.returns-in-Some-clause-fault
returns-in-Some-clause-fault c = λ real. record { fault = c.in-Some.fault; found = c.in-Some.is; is = refl }

pub note_all-requires-clause-small : goal.note_all-requires-clause-small
note_all-requires-clause-small c = λ x i. c.requires.small x (subst (λ (l : List Look). Contains l x) c.deref.ensures.value i)

pub returns-in_ok-note_all-in-None-clause-noted : goal.returns-in_ok-note_all-in-None-clause-noted
returns-in_ok-note_all-in-None-clause-noted c = subst (λ (l : List Look). AreNoted c.args.task.now.assumptions.now c.args.notes.now l c.note_all.new.self) c.deref.ensures.value c.in_ok-note_all-in-None.ensures.noted
