use Rattle.std.proofs.Common.{length}
use Rattle.avr_model.specs.Image.{WORDS}
use Rattle.store_clear.proofs.Linked.{each_alone}
use Rattle.store_clear.proofs.by_word.by_word.Goals as goal

pub link_all-requires-clause-none : goal.link_all-requires-clause-none
link_all-requires-clause-none c =
    each_alone WORDS (length c.args.told.now.conditions.now) c.in_ok-first.first.items c.as_mut_slice.result.now (c.in_ok-first.ensures.items_if_clones_equal (λ y e. e)) c.as_mut_slice.ensures.value
