use Rattle.std.proofs.Common.{◌≡◌, ◌+◌, ◌++◌, ◌∙◌, None, Contains, List, ap, sym, subst, subst₂}
use Rattle.basics.specs.Lists.{get_inside}
use Rattle.avr_model.specs.Assumptions.{has_pairs}
use Rattle.edge_rules.specs.declared.edge.Edge.{Edge}
use Rattle.edge_rules.specs.Edges.{AreEdges}
use Rattle.family_edges.specs.declared.landing.Landing.{Landing}
use Rattle.family_edges.specs.Landings.{AreLandingsTo, landings_by}
use Rattle.family_edges.proofs.Landed.{landed_more}
use Rattle.node_keys.specs.Keys.{root_inst}
use Rattle.certificate.specs.Insts.{inst_keys}
use Rattle.cert_check.specs.Demands.{IsLeastOffered, LeadsToNode, GapAt, KeyBelow, demands_of, AllBelong}
use Rattle.cert_check.proofs.Passing.{key_belongs, targets, gap_first, targets_belong, goes_on}
use Rattle.cert_check.proofs.gathering.gather_node.Goals as goal
use Rattle.family_edges.specs.Tasks.{task_of}

pub landed_from-requires-clause-targets : goal.landed_from-requires-clause-targets
landed_from-requires-clause-targets c =
    let task = task_of c.args.task.now in
    let claim = c.args.site.now.certificate.now in
    let nodes = c.args.site.now.nodes.now in
    let n = get_inside nodes c.args.at c.requires.inside in
    let are : AreEdges task nodes n.0 c.as_slice.result.now = subst (AreEdges task nodes n.0) (sym c.as_slice.ensures) (c.in_ok-edges.ensures n.0 n.1) in
    targets task claim.nodes claim.instances nodes c.args.at c.args.gathered.now.demands.items c.requires.before.0 n.0 n.1 c.as_slice.result.now are c.requires.shown

pub returns-in-Some : goal.returns-in-Some
returns-in-Some c =
    let task = task_of c.args.task.now in
    let claim = c.args.site.now.certificate.now in
    let own = claim.nodes in
    let nodes = c.args.site.now.nodes.now in
    let n = get_inside nodes c.args.at c.requires.inside in
    let are : AreEdges task nodes n.0 c.as_slice.result.now = subst (AreEdges task nodes n.0) (sym c.as_slice.ensures) (c.in_ok-edges.ensures n.0 n.1) in
    gap_first task own claim.instances nodes c.args.at c.args.gathered.now.demands.items c.requires.before.0 n.0 n.1 c.as_slice.result.now are c.in-Some.to
    (subst₂ (λ b l. IsLeastOffered (LeadsToNode b own nodes) (GapAt b own nodes) KeyBelow c.as_slice.result.now l) c.requires.followed c.in-Some.is c.in_ok-gap.ensures.gap)

pub add_demands-requires-clause-own : goal.add_demands-requires-clause-own
add_demands-requires-clause-own c =
    let insts = c.instances.result.now in
    let belong = subst (λ i. AllBelong i c.args.site.now.nodes.now) (sym c.instances.ensures) c.requires.belong in
    key_belongs insts c.args.site.now.nodes.now c.args.at c.key-key.result.now belong c.key-key.ensures

pub add_demands-requires-clause-root : goal.add_demands-requires-clause-root
add_demands-requires-clause-root c = subst (λ i. Contains (inst_keys i) root_inst) (sym c.instances.ensures) c.requires.root

pub add_demands-requires-clause-there : goal.add_demands-requires-clause-there
add_demands-requires-clause-there c =
    let task = task_of c.args.task.now in
    let claim = c.args.site.now.certificate.now in
    let own = claim.nodes in
    let nodes = c.args.site.now.nodes.now in
    let n = get_inside nodes c.args.at c.requires.inside in
    let edges = c.in_ok-edges.edges in
    let are : AreEdges task nodes n.0 edges = c.in_ok-edges.ensures n.0 n.1 in
    let least : IsLeastOffered (LeadsToNode (has_pairs task.assumptions) own nodes) (GapAt (has_pairs task.assumptions) own nodes) KeyBelow c.as_slice.result.now None =
    subst₂ (λ b l. IsLeastOffered (LeadsToNode b own nodes) (GapAt b own nodes) KeyBelow c.as_slice.result.now l) c.requires.followed c.in_default.is c.in_ok-gap.ensures.gap in
    let clear = subst (λ l. IsLeastOffered (LeadsToNode (has_pairs task.assumptions) own nodes) (GapAt (has_pairs task.assumptions) own nodes) KeyBelow l None) c.as_slice.ensures least in
    let all = targets_belong task own claim.instances nodes c.args.at c.args.gathered.now.demands.items c.requires.before.0 n.0 n.1 edges are c.requires.belong clear in
    subst₂ (λ l i. (e : Edge) → Contains l e → Contains (inst_keys i) e.to.inst) (sym c.as_slice-2.ensures) (sym c.instances.ensures) all

pub returns : goal.returns
returns c =
    let task = task_of c.args.task.now in
    let claim = c.args.site.now.certificate.now in
    let own = claim.nodes in
    let nodes = c.args.site.now.nodes.now in
    let n = get_inside nodes c.args.at c.requires.inside in
    let edges = c.in_ok-edges.edges in
    let are : AreEdges task nodes n.0 edges = c.in_ok-edges.ensures n.0 n.1 in
    let least : IsLeastOffered (LeadsToNode (has_pairs task.assumptions) own nodes) (GapAt (has_pairs task.assumptions) own nodes) KeyBelow c.as_slice.result.now None =
    subst₂ (λ b l. IsLeastOffered (LeadsToNode b own nodes) (GapAt b own nodes) KeyBelow c.as_slice.result.now l) c.requires.followed c.in_default.is c.in_ok-gap.ensures.gap in
    let clear = subst (λ l. IsLeastOffered (LeadsToNode (has_pairs task.assumptions) own nodes) (GapAt (has_pairs task.assumptions) own nodes) KeyBelow l None) c.as_slice.ensures least in
    let more : c.add_demands.new.demands.items ≡ c.args.gathered.now.demands.items ++ demands_of task claim.instances c.key-key.result.now edges =
    subst₂ (λ i l. c.add_demands.new.demands.items ≡ c.args.gathered.now.demands.items ++ demands_of task i c.key-key.result.now l) c.instances.ensures c.as_slice-2.ensures
    c.in_ok-add_demands.ensures in (
      goes_on task own claim.instances nodes c.args.at c.args.gathered.now.demands.items c.requires.before.0 n.0 n.1 edges are
          c.key-key.result.now c.add_demands.new.demands.items c.key-key.ensures clear more,
      subst (λ (xs : List (List Landing)). AreLandingsTo task nodes (c.args.at + 1) xs) (sym c.in_ok-push.ensures.ok)
          (landed_more task nodes c.args.at c.args.gathered.now.landings n.0 edges c.in_ok-gap.field-0.landings c.requires.before.1 n.1 are
          (c.in_ok-gap.ensures.landings ∙ ap (landings_by nodes) c.as_slice.ensures)),
    )
