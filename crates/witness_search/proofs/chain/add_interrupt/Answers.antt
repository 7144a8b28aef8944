use Rattle.witness_search.proofs.Answered.{none_added}
use Rattle.witness_search.proofs.chain.add_interrupt.Goals as goal

pub returns-in_default-get : goal.returns-in_default-get
returns-in_default-get c =
    none_added c.args.flash.now c.args.nodes.now c.as_slice.result.now c.args.link.now c.args.points.now.items c.get.result c.get.ensures.lookup c.in_default-get.is c.as_slice.ensures
