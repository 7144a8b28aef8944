use Rattle.std.proofs.Common.{sym}
use Rattle.round_steps.proofs.targets.add_leaver.Goals as goal

pub add_return-requires : goal.add_return-requires
add_return-requires c = (c.requires (record { key = c.args.leaver.now.node; state = c.in-Some.state.now }) (sym c.in-Some.ensures)).1.formed.registers
