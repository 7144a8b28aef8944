use Rattle.std.proofs.Common.{[], ◌∙◌, ap, length, subst, sym}
use Rattle.std.proofs.lemmas.Result.{IfOk-weaker}
use Rattle.local_rules.specs.Machine.{HaveSixteenBits}
use Rattle.clear_laws.proofs.AllLaws.{flagged_runs_end_at_sites}
use Rattle.store_clear.specs.Conditions.{AreConditionsLeft, HasConditionsLeft}
use Rattle.store_clear.proofs.Sites.{never_flagged}
use Rattle.store_clear.proofs.clearing.flagged_sites_in.Goals as goal
use Rattle.family_edges.specs.Tasks.{task_of}

pub sites_of-requires : goal.sites_of-requires
sites_of-requires c = ap length c.as_slice.ensures.value ∙ c.in_ok-conditions.ensures.count

pub returns-clause-exact : goal.returns-clause-exact
returns-clause-exact c =
    let task = task_of c.args.task.now in
    let claim = c.args.certificate.now in
    let nodes = c.args.family.now.nodes in
    let told : HasConditionsLeft task claim nodes c.as_slice.result.now =
    record { filled = c.requires.filled; told = subst (AreConditionsLeft task claim nodes) (sym c.as_slice.ensures.value) c.in_ok-conditions.ensures } in
    IfOk-weaker c.sites_of.result _ _ (λ sites so. (so task claim told).0) c.sites_of.ensures

pub returns-clause-told : goal.returns-clause-told
returns-clause-told c =
    let task = task_of c.args.task.now in
    let claim = c.args.certificate.now in
    let nodes = c.args.family.now.nodes in
    let told : HasConditionsLeft task claim nodes c.as_slice.result.now =
    record { filled = c.requires.filled; told = subst (AreConditionsLeft task claim nodes) (sym c.as_slice.ensures.value) c.in_ok-conditions.ensures } in
    IfOk-weaker c.sites_of.result _ _
    (λ sites so nevers all.
    flagged_runs_end_at_sites task claim sites nevers (subst HaveSixteenBits c.words.ensures.value c.words_have_16_bits.ensures) c.nodes-nodes.ensures.kept
    (record { nodes = nodes; expanded = c.requires.filled; meets = c.requires.meets }) (so task claim told).0 all)
    c.sites_of.ensures

pub returns-clause-clear : goal.returns-clause-clear
returns-clause-clear c =
    let task = task_of c.args.task.now in
    let claim = c.args.certificate.now in
    let nodes = c.args.family.now.nodes in
    let told : HasConditionsLeft task claim nodes c.as_slice.result.now =
    record { filled = c.requires.filled; told = subst (AreConditionsLeft task claim nodes) (sym c.as_slice.ensures.value) c.in_ok-conditions.ensures } in
    IfOk-weaker c.sites_of.result _ _ (λ sites so. (so task claim told).1) c.sites_of.ensures

pub returns-clause-never_flagged : goal.returns-clause-never_flagged
returns-clause-never_flagged c =
    let task = task_of c.args.task.now in
    let claim = c.args.certificate.now in
    let nodes = c.args.family.now.nodes in
    let told : HasConditionsLeft task claim nodes c.as_slice.result.now =
    record { filled = c.requires.filled; told = subst (AreConditionsLeft task claim nodes) (sym c.as_slice.ensures.value) c.in_ok-conditions.ensures } in
    IfOk-weaker c.sites_of.result _ _
    (λ sites so e all.
    never_flagged task sites
    (flagged_runs_end_at_sites task claim sites [] (subst HaveSixteenBits c.words.ensures.value c.words_have_16_bits.ensures) c.nodes-nodes.ensures.kept
    (record { nodes = nodes; expanded = c.requires.filled; meets = c.requires.meets }) (so task claim told).0 all)
    e)
    c.sites_of.ensures
