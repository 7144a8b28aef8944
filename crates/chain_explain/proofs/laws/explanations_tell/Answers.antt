use Rattle.chain_explain.proofs.One.{explanations_are_one}
use Rattle.chain_explain.proofs.Explained.{tells}
use Rattle.chain_explain.proofs.laws.explanations_tell.Goals as goal

pub returns : goal.returns
returns c = record {
  one = explanations_are_one c.filled_or_missing.ensures c.deepest_chains_are_one.ensures;
  tells = tells c.filled_or_missing.ensures c.rounds_are_reached.ensures c.deepest_chains_are_bounded.ensures;
}
