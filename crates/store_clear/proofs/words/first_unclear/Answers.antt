use Rattle.std.proofs.Common.{sym}
use Rattle.store_clear.proofs.Sites.{passing_more, passing_all}
use Rattle.store_clear.proofs.words.first_unclear.Goals as goal

pub loop-at-preserved : goal.loop-at-preserved
loop-at-preserved c = passing_more c.args.conditions.now c.loop-at.at c.loop-at.invariant (sym c.if-not-is_discharged.ensures)

pub returns : goal.returns
returns c = passing_all c.args.conditions.now c.loop-at.at c.loop-at.invariant c.loop-at-test.false
