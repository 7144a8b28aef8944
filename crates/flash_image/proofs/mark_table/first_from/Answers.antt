use Rattle.std.proofs.Common.{refl, ltb, arith, rules}
use Rattle.std.proofs.lemmas.List.Sorted.{IsPartitionPoint-from_clause, IsPartitionedBy-ltb}
use Rattle.flash_image.proofs.Listed.{above_listed}
use Rattle.flash_image.proofs.mark_table.first_from.Goals as goal

pub returns-then-at-marks : goal.returns-then-at-marks
returns-then-at-marks c = λ ms of.
    let marks = c.args.marks.now in
    let k = c.partition_point-at.result in
    let point = IsPartitionPoint-from_clause (λ y. ltb y c.args.x) marks k c.partition_point-at.ensures.partitioned (IsPartitionedBy-ltb (λ y. y) marks c.args.x of.listed.ascending) (λ a r q h. search rules) in
    above_listed ms marks of c.args.x k c.partition_point-at.ensures.bound point _ (λ e. absurd (omega (arith, e, c.if-at-marks.true))) (λ some. refl) (omega arith)

pub returns-else-at-marks : goal.returns-else-at-marks
returns-else-at-marks c = λ ms of.
    let marks = c.args.marks.now in
    let k = c.partition_point-at.result in
    let point = IsPartitionPoint-from_clause (λ y. ltb y c.args.x) marks k c.partition_point-at.ensures.partitioned (IsPartitionedBy-ltb (λ y. y) marks c.args.x of.listed.ascending) (λ a r q h. search rules) in
    above_listed ms marks of c.args.x k c.partition_point-at.ensures.bound point 65535 (λ e. refl) (λ some. absurd (omega (arith, some, c.if-at-marks.false))) (omega arith)
