use Rattle.abs_step.proofs.Added.{two_add}
use Rattle.abs_step.proofs.successors.add_two.Goals as goal

pub returns : goal.returns
returns c =
    two_add c.add_copy-2.result c.args.nodes.now c.add_copy.new.nodes c.add_copy-2.new.nodes c.args.first c.args.second c.args.state.now c.args.state.now
    c.in_ok-add_copy.ensures c.add_copy-2.ensures
