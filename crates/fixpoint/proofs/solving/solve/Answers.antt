use Rattle.std.proofs.Common.{◌≢◌}
use Rattle.certificate.specs.Claims.{Claim}
use Rattle.round_rules.specs.declared.refusal.Refusal.TheVariants.{Misfit, Memory}
use Rattle.round_rules.specs.Solutions.{IsShown, IsWhyNot}
use Rattle.fixpoint.proofs.Ready.{handed_on}
use Rattle.fixpoint.proofs.Answer.{is_answer, is_valid, is_least, none_shown, told_why}
use Rattle.fixpoint.proofs.solving.solve.Goals as goal
use Rattle.family_edges.specs.Tasks.{task_of}

pub returns-in-Some-clause-none : goal.returns-in-Some-clause-none
returns-in-Some-clause-none c = λ none. none_shown (task_of c.args.task.now) c.args.steps (Misfit c.in-Some.at) c.in-Some.ensures none

pub returns-in_err-table-clause-why_not : goal.returns-in_err-table-clause-why_not
returns-in_err-table-clause-why_not c =
    handed_on c.from_residual.result c.in_err-table.field-0.0 (IsWhyNot (task_of c.args.task.now) c.args.steps) c.from_residual.ensures.1
    (told_why (task_of c.args.task.now) c.args.steps c.in_err-table.field-0.0 c.in_default.ensures c.in_err-table.ensures.why_not)

pub returns-in_err-table-clause-none : goal.returns-in_err-table-clause-none
returns-in_err-table-clause-none c = λ none.
    handed_on c.from_residual.result c.in_err-table.field-0.0 (λ r. r ≢ Memory → (other : Claim) → IsShown (task_of c.args.task.now) other → ⊥)
    c.from_residual.ensures.1
    (none_shown (task_of c.args.task.now) c.args.steps c.in_err-table.field-0.0
    (told_why (task_of c.args.task.now) c.args.steps c.in_err-table.field-0.0 c.in_default.ensures c.in_err-table.ensures.why_not) none)

pub certificate_of-requires-clause-solved : goal.certificate_of-requires-clause-solved
certificate_of-requires-clause-solved c = (c.in_ok-table.ensures.found.number, c.in_ok-table.ensures.found.solved)

pub returns : goal.returns
returns c =
    let task = task_of c.args.task.now in
    let f = c.in_ok-table.table in
    let found = c.in_ok-table.ensures.found in
    let certificate = c.in_ok-certificate.certificate in
    let solution = c.in_ok-certificate.ensures in
    record {
      answer = is_answer task c.args.steps f certificate c.in_default.ensures found solution;
      valid = is_valid task c.args.steps f certificate found c.nodes-nodes.ensures.kept solution;
      least = is_least task c.args.steps f certificate found solution;
      why_not = tt;
      none = λ e. tt;
    }
