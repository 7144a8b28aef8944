use Rattle.std.proofs.Common.{sym, ◌∙◌, arith}
use Rattle.replies.proofs.Sites.{up_none, up_some}
use Rattle.replies.proofs.places.reach.Goals as goal

pub returns-in-Some-clause-named : goal.returns-in-Some-clause-named
returns-in-Some-clause-named c = sym (up_some c.args.names.now c.loop-at.at c.in-Some._name.now c.in-Some.ensures.value) ∙ c.loop-at.invariant.1

pub loop-at-preserved : goal.loop-at-preserved
loop-at-preserved c =
    let back = sym (up_none c.args.names.now c.loop-at.at (omega (arith, c.loop-at-test.true)) c.in_default.ensures.value) ∙ c.loop-at.invariant.1 in
    (omega (arith, c.loop-at-test.true), back)
