use Rattle.std.proofs.Common.{◌≡◌, take}
use Rattle.witness_search.specs.Chains.{interrupts_of}
use Rattle.witness_search.proofs.chain.interrupts.Given as goal

abbrev pub invariant-loop-link : goal.invariant-loop-link
invariant-loop-link l = l.points.items ≡ interrupts_of l.task.flash.now l.nodes (take l.link-index l.links)
