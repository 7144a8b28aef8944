use Rattle.std.proofs.Common.{arith, ◌<◌, ◌∙◌}
use Rattle.text_base.proofs.Growth.{grown_more}
use Rattle.text_base.proofs.outside.put_all.Goals as goal

pub loop-done-preserved : goal.loop-done-preserved
loop-done-preserved g c =
    let some : 0 < c.in-Ok.count = omega arith in
    (omega (arith, c.in-Ok.ensures.count), grown_more _ _ _ _ c.loop-done.done c.in-Ok.count c.loop-done.invariant.1 c.in-Ok.ensures.taken, c.in-Ok.ensures.taking some ∙ c.loop-done.invariant.2)
