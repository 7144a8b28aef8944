use Rattle.std.proofs.Common.{subst, sym}
use Rattle.certificate.specs.Valid.{reset_node}
use Rattle.cert_check.specs.Demands.{AreDemandsInside, IsGathering, IsWeighed, Decides}
use Rattle.cert_check.proofs.Demands.{landed_belongs, all_inside}
use Rattle.cert_check.proofs.Asking.{decided, gap_least}
use Rattle.cert_check.proofs.One.{are_instances}
use Rattle.cert_check.proofs.Verdicts.{few_nodes, shown, beside, nodes_belong}
use Rattle.cert_check.proofs.judging.settle_edges.Goals as goal
use Rattle.family_edges.specs.Tasks.{task_of}

pub gather-requires-clause-few : goal.gather-requires-clause-few
gather-requires-clause-few c = few_nodes (task_of c.args.task.now) c.args.certificate.now c.args.nodes.now c.requires.claim c.requires.filled

pub gather-requires-clause-shown : goal.gather-requires-clause-shown
gather-requires-clause-shown c = shown (task_of c.args.task.now) c.args.certificate.now c.args.nodes.now c.requires.claim c.requires.filled

pub gather-requires-clause-instances : goal.gather-requires-clause-instances
gather-requires-clause-instances c = are_instances c.args.certificate.now c.requires.claim

pub gather-requires-clause-belong : goal.gather-requires-clause-belong
gather-requires-clause-belong c = nodes_belong (task_of c.args.task.now) c.args.certificate.now c.args.nodes.now c.requires.claim c.requires.filled

pub gather-requires-clause-beside : goal.gather-requires-clause-beside
gather-requires-clause-beside c = beside (task_of c.args.task.now) c.args.certificate.now c.args.nodes.now c.requires.claim c.requires.filled

pub weigh-requires-clause-inside : goal.weigh-requires-clause-inside
weigh-requires-clause-inside c =
    let task = task_of c.args.task.now in
    let claim = c.args.certificate.now in
    let nodes = c.args.nodes.now in
    let belong = nodes_belong task claim nodes c.requires.claim c.requires.filled in
    let root = landed_belongs claim.instances nodes (reset_node task.assumptions) belong c.requires.reset.0 in
    let found = subst (IsGathering task claim.nodes claim.instances nodes) c.in-Accepted.is c.in_ok-demands.ensures in
    subst (AreDemandsInside claim.instances) (sym c.deref.ensures.value)
    (all_inside task claim.instances nodes (are_instances claim c.requires.claim) belong root (λ n e h i. (found.0 n e h i).0) c.in-Accepted.field-0.demands.items found.1)

pub gather-requires-clause-root : goal.gather-requires-clause-root
gather-requires-clause-root c =
    landed_belongs c.args.certificate.now.instances c.args.nodes.now (reset_node c.args.task.now.assumptions.now)
    (nodes_belong (task_of c.args.task.now) c.args.certificate.now c.args.nodes.now c.requires.claim c.requires.filled) c.requires.reset.0

pub weigh-requires-clause-root : goal.weigh-requires-clause-root
weigh-requires-clause-root c =
    landed_belongs c.args.certificate.now.instances c.args.nodes.now (reset_node c.args.task.now.assumptions.now)
    (nodes_belong (task_of c.args.task.now) c.args.certificate.now c.args.nodes.now c.requires.claim c.requires.filled) c.requires.reset.0

pub returns-in-Accepted-weigh : goal.returns-in-Accepted-weigh
returns-in-Accepted-weigh c =
    let task = task_of c.args.task.now in
    let claim = c.args.certificate.now in
    let nodes = c.args.nodes.now in
    let belong = nodes_belong task claim nodes c.requires.claim c.requires.filled in
    let root = landed_belongs claim.instances nodes (reset_node task.assumptions) belong c.requires.reset.0 in
    let found = subst (IsGathering task claim.nodes claim.instances nodes) c.in-Accepted.is c.in_ok-demands.ensures in
    let all = decided task claim nodes (are_instances claim c.requires.claim) belong root found.0 c.in-Accepted.field-0.demands.items found.1 c.requires.device c.requires.reset c.requires.taken.faultless
    c.weigh.result (subst (λ ds. IsWeighed task.flash claim task.assumptions ds c.weigh.result) c.deref.ensures.value c.weigh.ensures) in
    let met = subst (Decides task claim nodes) c.in-Accepted-weigh.is all in
    (met.0, found.2)

pub returns-in-Accepted : goal.returns-in-Accepted
returns-in-Accepted c =
    let task = task_of c.args.task.now in
    let claim = c.args.certificate.now in
    let nodes = c.args.nodes.now in
    let belong = nodes_belong task claim nodes c.requires.claim c.requires.filled in
    let root = landed_belongs claim.instances nodes (reset_node task.assumptions) belong c.requires.reset.0 in
    let found = subst (IsGathering task claim.nodes claim.instances nodes) c.in-Accepted.is c.in_ok-demands.ensures in
    let all = decided task claim nodes (are_instances claim c.requires.claim) belong root found.0 c.in-Accepted.field-0.demands.items found.1 c.requires.device c.requires.reset c.requires.taken.faultless
    c.weigh.result (subst (λ ds. IsWeighed task.flash claim task.assumptions ds c.weigh.result) c.deref.ensures.value c.weigh.ensures) in
    subst (Decides task claim nodes) c.in-Rejected-weigh.is all

pub returns : goal.returns
returns c =
    let task = task_of c.args.task.now in
    let claim = c.args.certificate.now in
    let nodes = c.args.nodes.now in
    gap_least task claim nodes c.in-Rejected.reason c.requires.reset c.requires.taken.faultless
    (subst (IsGathering task claim.nodes claim.instances nodes) c.in-Rejected.is c.in_ok-demands.ensures)
