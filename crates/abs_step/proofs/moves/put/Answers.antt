use Rattle.std.proofs.Common.{sym, subst, Bool}
use Rattle.abs_state.specs.PairBytes.{left_in}
use Rattle.local_rules.specs.Raw.{moves_to}
use Rattle.local_rules.specs.Settling.{node_where}
use Rattle.abs_step.specs.Adding.{plain, AreNodesAdded}
use Rattle.abs_step.proofs.Added.{none_added}
use Rattle.abs_step.proofs.moves.put.Goals as goal

pub returns-then-not-left : goal.returns-then-not-left
returns-then-not-left c =
    let old = plain c.args.nodes.now in
    subst (λ (b : Bool). AreNodesAdded old old (moves_to (node_where c.args.key (left_in b c.args.state)))) (sym c.if-not-left.true) (none_added old)
