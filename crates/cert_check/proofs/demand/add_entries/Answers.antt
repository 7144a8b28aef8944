use Rattle.cert_check.specs.Demands.{entry_demand}
use Rattle.cert_check.proofs.Gathered.{gathered_more}
use Rattle.cert_check.proofs.Lists.{read_in}
use Rattle.cert_check.proofs.demand.add_entries.Goals as goal

pub add_entry-requires-clause-there : goal.add_entry-requires-clause-there
add_entry-requires-clause-there c =
    c.requires.there c.index-edges-at.result (read_in c.args.edges.now c.loop-at.at c.index-edges-at.result c.index-edges-at.result c.loop-at-test.true c.index-edges-at.is)

pub loop-at-preserved : goal.loop-at-preserved
loop-at-preserved c =
    gathered_more (entry_demand c.args.assumptions.now c.args.instances.now c.args.outer.inst c.args.outer.fall) c.args.edges.now c.loop-at.at c.index-edges-at.result c.args.demands.now.items
    c.loop-at.demands.items c.add_entry.new.demands.items c.loop-at-test.true c.index-edges-at.is c.loop-at.invariant c.in_ok-add_entry.ensures
