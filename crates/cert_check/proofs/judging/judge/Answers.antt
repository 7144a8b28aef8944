use Rattle.std.proofs.Common.{subst}
use Rattle.local_rules.specs.Machine.{HaveSixteenBits}
use Rattle.cert_check.proofs.One.{accepts, rejects, bounds}
use Rattle.cert_check.proofs.judging.judge.Goals as goal
use Rattle.family_edges.specs.Tasks.{task_of}

pub returns-clause-exact : goal.returns-clause-exact
returns-clause-exact c = c.verdict_of.ensures (task_of c.args.task.now) c.in_ok-judgement.ensures.exact

pub returns-clause-accepted : goal.returns-clause-accepted
returns-clause-accepted c =
    accepts (task_of c.args.task.now) c.args.certificate.now c.verdict_of.result c.nodes-nodes.ensures.kept
    (c.verdict_of.ensures (task_of c.args.task.now) c.in_ok-judgement.ensures.exact)

pub returns-clause-bounded : goal.returns-clause-bounded
returns-clause-bounded c = λ b e.
    bounds (task_of c.args.task.now) c.args.certificate.now c.verdict_of.result b (subst HaveSixteenBits c.words.ensures.value c.words_have_16_bits.ensures)
    c.nodes-nodes.ensures.kept (c.verdict_of.ensures (task_of c.args.task.now) c.in_ok-judgement.ensures.exact) (cc)

pub returns-clause-rejected : goal.returns-clause-rejected
returns-clause-rejected c =
    rejects (task_of c.args.task.now) c.args.certificate.now c.verdict_of.result c.nodes-nodes.ensures.kept
    (c.verdict_of.ensures (task_of c.args.task.now) c.in_ok-judgement.ensures.exact)
