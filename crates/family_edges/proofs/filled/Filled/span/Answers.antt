use Rattle.std.proofs.Common.{◌∙◌, sym, subst, List, rules}
use Rattle.std.proofs.lemmas.List.Sorted.{IsPartitionPoint-from_clause}
use Rattle.local_rules.specs.declared.local.Node.{Node}
use Rattle.edge_rules.specs.Views.{IsSpan}
use Rattle.family_edges.specs.Shown.{AreOfSomeDevice}
use Rattle.family_edges.proofs.Places.{is_below_inst, is_through_inst, parted_below, parted_through, span_there}
use Rattle.family_edges.proofs.filled.Filled.span.Goals as goal

pub returns : goal.returns
returns c =
    let nodes = c.as_slice-nodes.result.now in
    let inst = c.args.inst.now in
    let low = c.partition_point-low in
    let high = c.partition_point-high in
    let shown : AreOfSomeDevice nodes = subst AreOfSomeDevice (sym c.as_slice-nodes.ensures.value) c.self.invariant in
    let first = IsPartitionPoint-from_clause (is_below_inst inst) nodes low.result low.ensures.partitioned (parted_below nodes inst shown) (λ a r q h. search rules) in
    let last = IsPartitionPoint-from_clause (is_through_inst inst) nodes high.result high.ensures.partitioned (parted_through nodes inst shown) (λ a r q h. search rules) in
    subst (λ (xs : List Node). IsSpan xs inst low.result high.result) (c.as_slice-nodes.ensures.value ∙ c.self.view_is)
    (span_there nodes inst low.result high.result low.ensures.bound high.ensures.bound first last)
