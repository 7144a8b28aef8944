use Rattle.std.proofs.Common.{rules}
use Rattle.std.proofs.lemmas.List.Sorted.{IsPartitionPoint-from_clause}
use Rattle.cert_check.proofs.Insts.{is_below_key, parted, found}
use Rattle.cert_check.proofs.demand.number_of.Goals as goal

pub returns-clause-value : goal.returns-clause-value
returns-clause-value c =
    let xs = c.args.instances.now in
    let k = c.args.key.now in
    let at = c.partition_point.result in
    let point = IsPartitionPoint-from_clause (is_below_key k) xs at c.partition_point.ensures.partitioned (parted xs k c.requires.instances) (λ a r q h. search rules) in
    (found xs k at c.requires.instances point c.requires.there).0

pub returns-clause-inside : goal.returns-clause-inside
returns-clause-inside c =
    let xs = c.args.instances.now in
    let k = c.args.key.now in
    let at = c.partition_point.result in
    let point = IsPartitionPoint-from_clause (is_below_key k) xs at c.partition_point.ensures.partitioned (parted xs k c.requires.instances) (λ a r q h. search rules) in
    (found xs k at c.requires.instances point c.requires.there).1
