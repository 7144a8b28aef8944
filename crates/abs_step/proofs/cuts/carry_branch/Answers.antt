use Rattle.std.proofs.Common.{sym, subst, true, false}
use Rattle.bit_domain.specs.declared.bits.Tri.{Tri}
use Rattle.local_rules.specs.Flow as flow
use Rattle.abs_step.specs.Adding.{Adds}
use Rattle.abs_step.proofs.Cutting.{both_add}
use Rattle.abs_step.proofs.cuts.carry_branch.Goals as goal

pub returns-in_ok-going_where-in-Any : goal.returns-in_ok-going_where-in-Any
returns-in_ok-going_where-in-Any c =
    let k = c.args.site.now.key.now in
    let s = c.args.site.now.state.now in
    let old = c.args.nodes.now in
    let mid = c.going_where-in-Any.new.nodes in
    let told = c.going_where-in-Any-2.result in
    let new = c.going_where-in-Any-2.new.nodes in
    subst (λ (t : Tri). Adds old new told (flow.carry_branch t k s c.args.set c.args.clear)) (sym c.in-Any.is)
    (both_add told old mid new (flow.going_where k (flow.where_carry s.flags.carry s false) c.args.clear) (flow.going_where k (flow.where_carry s.flags.carry s true) c.args.set)
    c.in_ok-going_where-in-Any.ensures.added c.going_where-in-Any-2.ensures.added)
