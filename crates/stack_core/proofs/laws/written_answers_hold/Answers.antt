use Rattle.stack_core.proofs.Held.{written_hold}
use Rattle.stack_core.proofs.laws.written_answers_hold.Goals as goal

pub returns : goal.returns
returns c = written_hold
