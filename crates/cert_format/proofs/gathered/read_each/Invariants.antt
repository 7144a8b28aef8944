use Rattle.std.proofs.Common.{◌≡◌, ◌-◌, ◌+◌, length}
use Rattle.cert_format.specs.Reading.{items_from}
use Rattle.cert_format.proofs.gathered.read_each.Given as goal

abbrev pub invariant-loop : goal.invariant-loop
invariant-loop g l = record {
  same : items_from (g.G.Gathered.by l.fn.device l.list) g.G.Gathered.refused (g.G.Gathered.items l.list) (l.count - l.counter) l.reader ≡ items_from (g.G.Gathered.by l.fn.device l.initial.list) g.G.Gathered.refused (g.G.Gathered.items l.initial.list) l.count l.initial.reader;
  number : length (g.G.Gathered.items l.list) ≡ length (g.G.Gathered.items l.initial.list) + l.counter;
}
