use Rattle.edge_laws.proofs.ExpansionLaws as all
use Rattle.edge_laws.proofs.expansions.expansions_are_one.Goals as goal

pub returns : goal.returns
returns c =
    record {
      one = all.expansions_are_one;
      nodes = all.expansions_are_nodes;
      follow = all.expansions_follow;
      successors = all.successors_are_one;
      shown = all.filled_lists_are_shown;
    }
