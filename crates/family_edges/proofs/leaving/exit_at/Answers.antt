use Rattle.family_edges.proofs.Shown.{node_there}
use Rattle.family_edges.proofs.leaving.exit_at.Goals as goal

pub local-requires : goal.local-requires
local-requires c =
    record {
      sized = (node_there c.args.nodes.now c.args.at c.key-key.result.now c.state-state.result.now c.requires.shown c.key-key.ensures c.state-state.ensures).formed.count_slots;
    }
