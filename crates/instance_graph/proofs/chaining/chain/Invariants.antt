use Rattle.std.proofs.Common.{slice_index}
use Rattle.instance_graph.specs.Turn.{IsOnWay}
use Rattle.instance_graph.proofs.chaining.chain.Given as goal

abbrev pub invariant-links : goal.invariant-links
invariant-links l = IsOnWay l.back l.graph.instances l.composed.needs l.inst l.above l.links.items

abbrev pub decreases-links : goal.decreases-links
decreases-links l = slice_index l.composed.ranks l.inst
