use Rattle.std.proofs.Common.{arith}
use Rattle.cert_format.proofs.Items.{item_more, item_longer, item_fault, items_end}
use Rattle.cert_format.proofs.gathered.read_each.Goals as goal

pub returns-in-Err : goal.returns-in-Err
returns-in-Err g c = λ other. item_fault (g.G.Gathered.by c.args.device c.loop.list) g.G.Gathered.refused (g.G.Gathered.items c.loop.list) c.args.count c.loop.counter c.loop.reader c.in-Err.fault _ c.loop-test.true (c.in-Err.ensures.exact other) c.loop.invariant.same

pub loop-preserved : goal.loop-preserved
loop-preserved g c = record {
  same = rw c.in_default.ensures.same (item_more (g.G.Gathered.by c.args.device c.loop.list) g.G.Gathered.refused (g.G.Gathered.items c.loop.list) (g.G.Gathered.items c.read_next.new.list) c.args.count c.loop.counter c.loop.reader c.read_next.new.reader _ c.loop-test.true c.in_default.ensures.exact c.loop.invariant.same);
  number = omega (arith, item_longer (g.G.Gathered.by c.args.device c.loop.list) g.G.Gathered.refused (g.G.Gathered.items c.loop.list) (g.G.Gathered.items c.read_next.new.list) c.loop.reader c.read_next.new.reader c.in_default.ensures.exact, c.loop.invariant.number);
}

pub returns : goal.returns
returns g c = items_end (g.G.Gathered.by c.args.device c.loop.list) g.G.Gathered.refused (g.G.Gathered.items c.loop.list) c.args.count c.loop.counter c.loop.reader _ (omega arith) c.loop.invariant.same
