use Rattle.std.proofs.Common.{length}
use Rattle.commands.proofs.syntax.+with_args.Given as goal

abbrev pub decreases-with_args : goal.decreases-with_args
decreases-with_args l = length l.args.now
