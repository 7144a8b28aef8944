use Rattle.std.proofs.Common.{◌≡◌, map, take}
use Rattle.text_base.specs.Writing.{with_words}
use Rattle.replies.specs.Places.{address_text}
use Rattle.replies.proofs.places.write_addresses.Given as goal

abbrev pub invariant-loop-address : goal.invariant-loop-address
invariant-loop-address l = l.out ≡ with_words l.initial.out (map address_text (take l.address-index l.addresses))
