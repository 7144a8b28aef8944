use Rattle.std.proofs.Common.{◌≡◌, take}
use Rattle.chain_explain.specs.Moves.{leads_by}
use Rattle.chain_explain.proofs.steps.leads.Given as goal

abbrev pub invariant-loop-listed : goal.invariant-loop-listed
invariant-loop-listed l = l.graph.items ≡ leads_by (take l.listed-index l.landings)
