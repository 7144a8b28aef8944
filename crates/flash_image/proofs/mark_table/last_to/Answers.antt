use Rattle.std.proofs.Common.{refl, leb, arith, rules}
use Rattle.std.proofs.lemmas.List.Sorted.{IsPartitionPoint-from_clause, IsPartitionedBy-leb}
use Rattle.flash_image.proofs.Listed.{below_listed}
use Rattle.flash_image.proofs.mark_table.last_to.Goals as goal

pub returns-then-count-eq0 : goal.returns-then-count-eq0
returns-then-count-eq0 c = λ ms of.
    let marks = c.args.marks.now in
    let k = c.partition_point-count.result in
    let point = IsPartitionPoint-from_clause (λ y. leb y c.args.x) marks k c.partition_point-count.ensures.partitioned (IsPartitionedBy-leb (λ y. y) marks c.args.x of.listed.ascending) (λ a r q h. search rules) in
    below_listed ms marks of c.args.x k (omega arith) c.partition_point-count.ensures.bound point 0 (λ e. refl) (λ some. absurd (omega (arith, some, c.if-count-eq0.true)))

pub returns-else-count-eq0 : goal.returns-else-count-eq0
returns-else-count-eq0 c = λ ms of.
    let marks = c.args.marks.now in
    let k = c.partition_point-count.result in
    let point = IsPartitionPoint-from_clause (λ y. leb y c.args.x) marks k c.partition_point-count.ensures.partitioned (IsPartitionedBy-leb (λ y. y) marks c.args.x of.listed.ascending) (λ a r q h. search rules) in
    below_listed ms marks of c.args.x k (omega arith) c.partition_point-count.ensures.bound point _ (λ e. absurd (omega (arith, e, c.if-count-eq0.false))) (λ some. refl)
