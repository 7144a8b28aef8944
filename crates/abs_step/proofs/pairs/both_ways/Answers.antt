use Rattle.std.proofs.Common.{not}
use Rattle.local_rules.specs.Flow.{going_where}
use Rattle.abs_step.specs.Adding.{plain}
use Rattle.abs_step.specs.Conditions.{cut_by}
use Rattle.abs_step.proofs.Cutting.{both_add}
use Rattle.abs_step.proofs.pairs.both_ways.Goals as goal

pub returns : goal.returns
returns c =
    let k = c.args.site.now.key.now in
    let s = c.args.site.now.state.now in
    both_add c.going_where-2.result (plain c.args.nodes.now) (plain c.going_where.new.nodes) (plain c.going_where-2.new.nodes)
    (going_where k (cut_by c.args.test c.args.on s) c.args.ways.pc) (going_where k (cut_by c.args.test (not c.args.on) s) c.args.ways.other)
    c.in_ok-going_where.ensures c.going_where-2.ensures
