use Rattle.std.proofs.Common.{◌≡◌, ◌+◌, map, take}
use Rattle.chain_explain.specs.Walks.{pc_at}
use Rattle.chain_explain.proofs.way.words.Given as goal

abbrev pub invariant-loop-number : goal.invariant-loop-number
invariant-loop-number l = l.words ≡ map (λ i. pc_at l.nodes (l.low + i)) (take l.number-index l.numbers)
