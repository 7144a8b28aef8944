use Rattle.std.proofs.Common.{subst, length, ◌≤◌, ◌≡◌}
use Rattle.avr_model.specs.Assumptions.{has_pairs}
use Rattle.family_edges.specs.declared.worked.WorkedOut.{WorkedOut}
use Rattle.family_edges.specs.Expanding.{IsExpanded}
use Rattle.cert_check.specs.declared.verdict.Judgement.{Judgement}
use Rattle.cert_check.specs.declared.verdict.Judgement.TheVariants.{Accepted}
use Rattle.cert_check.specs.Reading.{read_seeds}
use Rattle.cert_check.specs.Verdict.{IsJudgement}
use Rattle.cert_check.proofs.One.{few_in}
use Rattle.cert_check.proofs.Verdicts.{if_ok}
use Rattle.cert_check.proofs.judging.judge_family.Goals as goal
use Rattle.family_edges.specs.Tasks.{task_of}

pub judge_nodes-requires-clause-filled : goal.judge_nodes-requires-clause-filled
judge_nodes-requires-clause-filled c =
    let task = task_of c.args.task.now in
    let own = read_seeds (has_pairs task.assumptions) c.args.certificate.now.nodes in
    subst (IsExpanded task own) c.in-Whole.is c.in_ok-at.ensures

pub returns-in-Whole-clause-few : goal.returns-in-Whole-clause-few
returns-in-Whole-clause-few c =
    let task = task_of c.args.task.now in
    let claim = c.args.certificate.now in
    if_ok (IsJudgement task claim) (λ (j : Judgement WorkedOut). (family : WorkedOut) → j ≡ Accepted family → length family.nodes ≤ 65536) c.judge_nodes.result
    (λ j h. few_in task claim j c.nodes-nodes.ensures.kept h) c.judge_nodes.ensures
