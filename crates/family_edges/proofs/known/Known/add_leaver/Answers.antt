use Rattle.family_edges.proofs.Shown.{state_there}
use Rattle.family_edges.proofs.known.Known.add_leaver.Goals as goal

pub add_return-requires : goal.add_return-requires
add_return-requires c =
    (state_there c.args.self.now.nodes.now c.args.at c.state-state.result.now c.requires.shown c.state-state.ensures).1.formed.registers
