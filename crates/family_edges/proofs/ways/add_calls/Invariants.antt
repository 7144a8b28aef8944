use Rattle.std.proofs.Common.{◌≡◌, ◌++◌, map, take}
use Rattle.family_edges.specs.Ways.{call_way}
use Rattle.family_edges.proofs.ways.add_calls.Given as goal

abbrev pub invariant-loop-site : goal.invariant-loop-site
invariant-loop-site l = l.ways.items ≡ l.fn.ways.items ++ map (call_way l.key) (take l.site-index l.calls)
