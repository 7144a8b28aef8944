use Rattle.std.proofs.Common.{sym, subst, Bool}
use Rattle.abs_state.specs.PairBytes.{left_in}
use Rattle.local_rules.specs.Local.{storing}
use Rattle.abs_step.specs.Adding.{plain, AreNodesAdded}
use Rattle.abs_step.proofs.Added.{none_added}
use Rattle.abs_step.specs.Sites.{task_of, site_of}
use Rattle.abs_step.proofs.pairs.stored.Goals as goal

pub returns-then-not-left : goal.returns-then-not-left
returns-then-not-left c =
    let site = c.args.site.now in
    let nodes = plain c.args.nodes.now in
    subst
    (λ (b : Bool). AreNodesAdded nodes nodes (storing (task_of site) (site_of site) c.args.store.now.pointer c.args.store.now.r (left_in b c.args.moved.now)))
    (sym c.if-not-left.true) (none_added nodes)
