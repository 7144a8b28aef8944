use Rattle.std.proofs.Common.{length}
use Rattle.store_clear.proofs.Spans.{all_never}
use Rattle.store_clear.proofs.causes.places_at.Goals as goal

pub places_with-list-requires-clause-never : goal.places_with-list-requires-clause-never
places_with-list-requires-clause-never c =
    all_never c.args.told.now.nodes.now (length c.args.told.now.conditions.now) c.as_slice.result.now c.in_ok-conditions.conditions.items c.requires.told.told.count
    (c.in_ok-conditions.ensures.items_if_clones_equal (λ y e. e)) c.as_slice.ensures.value
