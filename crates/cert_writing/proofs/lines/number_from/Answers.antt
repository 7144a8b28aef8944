use Rattle.std.proofs.Common.{sym, ◌∙◌}
use Rattle.std.proofs.lemmas.Bool.{false≢true}
use Rattle.cert_writing.proofs.Found.{none_more, nowhere}
use Rattle.cert_writing.proofs.lines.number_from.Goals as goal

pub loop-j-preserved : goal.loop-j-preserved
loop-j-preserved c =
    none_more c.args.insts.now c.args.key.now c.args.from c.loop-j.j c.index-insts-j.result c.loop-j.invariant c.loop-j-test.true c.index-insts-j.is
    (λ same. false≢true (sym c.if-eq.false ∙ c.eq.ensures.same.1 same))

pub returns-clause-none : goal.returns-clause-none
returns-clause-none c = nowhere c.args.insts.now c.args.key.now c.args.from c.loop-j.j c.loop-j.invariant c.loop-j-test.false
