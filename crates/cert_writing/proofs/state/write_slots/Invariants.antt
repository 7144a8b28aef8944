use Rattle.std.proofs.Common.{◌≡◌, map, take}
use Rattle.text_base.specs.Writing.{with_words}
use Rattle.cert_words.specs.Spelling.{slot_word}
use Rattle.cert_writing.proofs.state.write_slots.Given as goal

abbrev pub invariant-loop-slot : goal.invariant-loop-slot
invariant-loop-slot l = l.out ≡ with_words l.initial.out (map (slot_word l.fn.version) (take l.slot-index l.slots))
