use Rattle.std.proofs.Common.{subst}
use Rattle.round_table.specs.Shared.{AreCounted}
use Rattle.round_table.proofs.Shared.{one_taken, first_used}
use Rattle.round_table.proofs.table.add_nodes.Goals as goal

pub taken-requires : goal.taken-requires
taken-requires c =
    first_used c.loop-key.pool (c.in-Some.key, c.in-Some.number) c.next.new.self (subst (AreCounted c.loop-key.pool) c.in-Some.ensures.steps c.loop-key.invariant.0)

pub loop-key-preserved : goal.loop-key-preserved
loop-key-preserved c =
    one_taken c.loop-key.pool c.taken.new.pool c.loop-key.key-iterator c.next.new.self (c.in-Some.key, c.in-Some.number) c.in_ok-state.state c.loop-key.all.items c.push.new.self.items _
    c.in-Some.ensures.steps c.loop-key.invariant.0 c.in_ok-state.ensures.less c.in_ok-state.ensures.state c.loop-key.invariant.1 c.in_ok-push.ensures.items
