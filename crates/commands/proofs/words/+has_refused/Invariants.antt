use Rattle.std.proofs.Common.{length}
use Rattle.commands.proofs.words.+has_refused.Given as goal

abbrev pub decreases-has_refused : goal.decreases-has_refused
decreases-has_refused l = length l.words.now
