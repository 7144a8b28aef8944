use Rattle.std.proofs.Common.{[], ◌∷◌, arith}
use Rattle.value_tables.proofs.Pooled.{starts_below, starts_empty, first_used, last_used, three_interned, one_released}
use Rattle.value_tables.proofs.tests.pools.is_kept_once.Goals as goal

pub interned-requires-clause-few : goal.interned-requires-clause-few
interned-requires-clause-few c = let none = starts_empty c.args.pool.now c.requires in omega (arith, none)

pub interned-requires-clause-counts : goal.interned-requires-clause-counts
interned-requires-clause-counts c = starts_below c.args.pool.now 4294967295 c.requires

pub interned-requires-2-clause-few : goal.interned-requires-2-clause-few
interned-requires-2-clause-few c =
    let none = starts_empty c.args.pool.now c.requires in
    let one = c.uses_are_counted.ensures.undone.many c.args.pool.now c.interned.new.pool c.args.state.now c.in_ok-one.one c.in_ok-one.ensures in
    omega (arith, none, one)

pub interned-requires-2-clause-counts : goal.interned-requires-2-clause-counts
interned-requires-2-clause-counts c =
    c.uses_are_counted.ensures.undone.below c.args.pool.now c.interned.new.pool c.args.state.now c.in_ok-one.one 4294967294 (omega arith)
    (starts_below c.args.pool.now 4294967294 c.requires) c.in_ok-one.ensures

pub interned-requires-3-clause-few : goal.interned-requires-3-clause-few
interned-requires-3-clause-few c =
    let none = starts_empty c.args.pool.now c.requires in
    let one = c.uses_are_counted.ensures.undone.many c.args.pool.now c.interned.new.pool c.args.state.now c.in_ok-one.one c.in_ok-one.ensures in
    let two = c.uses_are_counted.ensures.undone.many c.interned.new.pool c.interned-2.new.pool c.args.state.now c.in_ok-same.same c.in_ok-same.ensures in
    omega (arith, none, one, two)

pub interned-requires-3-clause-counts : goal.interned-requires-3-clause-counts
interned-requires-3-clause-counts c =
    c.uses_are_counted.ensures.undone.below c.interned.new.pool c.interned-2.new.pool c.args.state.now c.in_ok-same.same 4294967294 (omega arith)
    (c.uses_are_counted.ensures.undone.below c.args.pool.now c.interned.new.pool c.args.state.now c.in_ok-one.one 4294967293 (omega arith)
    (starts_below c.args.pool.now 4294967293 c.requires) c.in_ok-one.ensures)
    c.in_ok-same.ensures

pub get-requires : goal.get-requires
get-requires c =
    let law = c.uses_are_counted.ensures.counts in
    let all = three_interned law c.args.pool.now c.interned.new.pool c.interned-2.new.pool c.interned-3.new.pool c.args.state.now c.args.other.now c.in_ok-one.one c.in_ok-same.same
    c.in_ok-next.next c.requires c.in_ok-one.ensures c.in_ok-same.ensures c.in_ok-next.ensures in
    law.there c.interned-3.new.pool c.in_ok-one.one (last_used c.interned-3.new.pool c.in_ok-one.one (c.in_ok-next.next ∷ c.in_ok-same.same ∷ []) all)

pub get-requires-2 : goal.get-requires-2
get-requires-2 c =
    let law = c.uses_are_counted.ensures.counts in
    let all = three_interned law c.args.pool.now c.interned.new.pool c.interned-2.new.pool c.interned-3.new.pool c.args.state.now c.args.other.now c.in_ok-one.one c.in_ok-same.same
    c.in_ok-next.next c.requires c.in_ok-one.ensures c.in_ok-same.ensures c.in_ok-next.ensures in
    law.there c.interned-3.new.pool c.in_ok-next.next (first_used c.interned-3.new.pool c.in_ok-next.next (c.in_ok-same.same ∷ c.in_ok-one.one ∷ []) all)

pub get-requires-3 : goal.get-requires-3
get-requires-3 c =
    let law = c.uses_are_counted.ensures.counts in
    let all = three_interned law c.args.pool.now c.interned.new.pool c.interned-2.new.pool c.interned-3.new.pool c.args.state.now c.args.other.now c.in_ok-one.one c.in_ok-same.same
    c.in_ok-next.next c.requires c.in_ok-one.ensures c.in_ok-same.ensures c.in_ok-next.ensures in
    let two = one_released law c.interned-3.new.pool c.release.new.self c.in_ok-one.one (c.in_ok-next.next ∷ c.in_ok-same.same ∷ []) all c.release.ensures.pool in
    law.there c.release.new.self c.in_ok-same.same (last_used c.release.new.self c.in_ok-same.same (c.in_ok-next.next ∷ []) two)

pub get-requires-4 : goal.get-requires-4
get-requires-4 c =
    let law = c.uses_are_counted.ensures.counts in
    let all = three_interned law c.args.pool.now c.interned.new.pool c.interned-2.new.pool c.interned-3.new.pool c.args.state.now c.args.other.now c.in_ok-one.one c.in_ok-same.same
    c.in_ok-next.next c.requires c.in_ok-one.ensures c.in_ok-same.ensures c.in_ok-next.ensures in
    let two = one_released law c.interned-3.new.pool c.release.new.self c.in_ok-one.one (c.in_ok-next.next ∷ c.in_ok-same.same ∷ []) all c.release.ensures.pool in
    let left = one_released law c.release.new.self c.release-2.new.self c.in_ok-same.same (c.in_ok-next.next ∷ []) two c.release-2.ensures.pool in
    law.there c.release-2.new.self c.in_ok-next.next (first_used c.release-2.new.self c.in_ok-next.next [] left)
