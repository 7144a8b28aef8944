use Rattle.std.proofs.Common.{refl}
use Rattle.store_clear.proofs.causes.places_with.Goals as goal

pub by_word-requires : goal.by_word-requires
by_word-requires c = c.requires.never.count

pub places_among-list-requires-clause-every : goal.places_among-list-requires-clause-every
places_among-list-requires-clause-every c = record { are = refl; never = c.requires.never; linked = c.in_ok-links.ensures }
