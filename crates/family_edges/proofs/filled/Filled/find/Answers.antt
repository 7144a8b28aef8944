use Rattle.std.proofs.Common.{length, refl, sym, ap, ◌∙◌, subst, rules}
use Rattle.std.proofs.lemmas.Option.{slice_get_read}
use Rattle.std.proofs.lemmas.List.Sorted.{IsPartitionPoint-from_clause}
use Rattle.basics.specs.Booleans.{never_both}
use Rattle.local_rules.specs.declared.local.Node.{Node}
use Rattle.edge_rules.specs.Views.{index_of}
use Rattle.family_edges.specs.Shown.{AreOfSomeDevice}
use Rattle.family_edges.proofs.Places.{is_below_key, parted_by_key, place_there, place_none, place_past}
use Rattle.family_edges.proofs.filled.Filled.find.Goals.{else-at-nodes-via-then-at-nodes+else-eq, else-at-nodes-via-else-at-nodes}
use Rattle.family_edges.proofs.filled.Filled.find.Goals as goal

pub returns-then-eq : goal.returns-then-eq
returns-then-eq c =
    let nodes = c.as_slice-nodes.result.now in
    let k = c.args.key.now in
    let at = c.partition_point-at.result in
    let shown : AreOfSomeDevice nodes = subst AreOfSomeDevice (sym c.as_slice-nodes.ensures.value) c.self.invariant in
    let point = IsPartitionPoint-from_clause (is_below_key k) nodes at c.partition_point-at.ensures.partitioned (parted_by_key nodes k shown) (λ a r q h. search rules) in
    let there = slice_get_read nodes (length nodes) at c.index-nodes-at.result refl c.if-at-nodes.true c.index-nodes-at.is in
    place_there nodes k at shown point c.index-nodes-at.result there (ap (λ (n : Node). n.key) c.index-nodes-at.is ∙ c.eq.ensures.same.0 c.if-eq.true)
    ∙ ap (index_of k) (c.as_slice-nodes.ensures.value ∙ c.self.view_is)

pub returns : goal.returns
returns c =
    let nodes = c.as_slice-nodes.result.now in
    let k = c.args.key.now in
    let at = c.partition_point-at.result in
    let shown : AreOfSomeDevice nodes = subst AreOfSomeDevice (sym c.as_slice-nodes.ensures.value) c.self.invariant in
    let point = IsPartitionPoint-from_clause (is_below_key k) nodes at c.partition_point-at.ensures.partitioned (parted_by_key nodes k shown) (λ a r q h. search rules) in
    elim c.else-at-nodes.branch [
      | else-at-nodes-via-then-at-nodes+else-eq w ↦
          (let there = slice_get_read nodes (length nodes) at w.index-nodes-at.result refl w.if-at-nodes.true w.index-nodes-at.is in
          place_none nodes k at shown point w.index-nodes-at.result there (λ same. never_both w.eq.result (w.eq.ensures.same.1 (ap (λ (n : Node). n.key) (sym w.index-nodes-at.is) ∙ same)) w.if-eq.false)
          ∙ ap (index_of k) (c.as_slice-nodes.ensures.value ∙ c.self.view_is))
      | else-at-nodes-via-else-at-nodes w ↦ place_past nodes k at shown point w.if-at-nodes.false ∙ ap (index_of k) (c.as_slice-nodes.ensures.value ∙ c.self.view_is)
    ]
