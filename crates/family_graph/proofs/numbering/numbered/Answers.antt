use Rattle.family_graph.proofs.Insts.{numbered_none, numbered_step}
use Rattle.family_graph.proofs.numbering.numbered.Goals as goal

pub loop-at-init : goal.loop-at-init
loop-at-init c = numbered_none c.args.nodes.now c.new-insts.result.items c.new-numbers.result.items c.new-insts.ensures.items c.new-numbers.ensures.items

pub loop-at-preserved : goal.loop-at-preserved
loop-at-preserved c =
    numbered_step c.args.nodes.now c.loop-at.at c.key.result.now c.key.ensures c.count-at-end.ensures.shown c.loop-at.insts.items c.loop-at.numbers.items
    c.put.new.insts.items c.in_ok-number.number c.push.new.self.items c.loop-at.invariant c.in_ok-number.ensures.grows c.in_ok-number.ensures.number c.in_ok-push.ensures.items
