use Rattle.std.proofs.Common.{ap, ◌∙◌}
use Rattle.std.proofs.lemmas.List.{take_all}
use Rattle.cert_check.specs.Reading.{read_seeds}
use Rattle.cert_check.proofs.ReadAs.{read_more}
use Rattle.cert_check.proofs.reading.read.Goals as goal

pub loop-at-preserved : goal.loop-at-preserved
loop-at-preserved c =
    read_more c.args.followed c.nodes-own.result.now c.loop-at.at c.index-own-at.result c.index-own-at-in-loop-at.result c.in_ok-form.form c.loop-at.nodes.items
    c.push.new.self.items c.loop-at-test.true c.in_ok-form.ensures c.loop-at.invariant c.in_ok-push.ensures.items

pub returns : goal.returns
returns c = c.loop-at.invariant ∙ ap (read_seeds c.args.followed) (take_all c.loop-at.at c.nodes-own.result.now c.loop-at-test.false ∙ c.nodes-own.ensures.value)
