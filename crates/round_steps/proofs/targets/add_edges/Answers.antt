use Rattle.std.proofs.Common.{sym}
use Rattle.round_steps.proofs.targets.add_edges.Goals as goal

pub add_all_interprocedural-requires-clause-named : goal.add_all_interprocedural-requires-clause-named
add_all_interprocedural-requires-clause-named c = (c.requires (record { key = c.args.x.key; state = c.in-Some.state.now }) (sym c.in-Some.ensures)).1.formed.registers
