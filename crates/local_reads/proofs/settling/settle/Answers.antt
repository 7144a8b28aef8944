use Rattle.std.proofs.Common.{sym}
use Rattle.local_reads.proofs.Settled.{high_stays, low_settles}
use Rattle.local_reads.proofs.settling.settle.Goals as goal

pub returns-then-view-clause-left : goal.returns-then-view-clause-left
returns-then-view-clause-left c = sym (high_stays c.args.view c.args.state.now c.if-view.true)

pub returns-clause-left : goal.returns-clause-left
returns-clause-left c =
    low_settles c.args.view c.args.state.now c.settle_registers.result c.settle_registers.new.registers c.if-view.false c.settle_registers.ensures
