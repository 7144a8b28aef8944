use Rattle.cert_words.specs.Spelling.{slot_word}
use Rattle.cert_writing.proofs.Written.{words_next}
use Rattle.cert_writing.proofs.state.write_slots.Goals as goal

pub loop-slot-preserved : goal.loop-slot-preserved
loop-slot-preserved c =
    words_next (slot_word c.args.version) c.args.out.now c.loop-slot.out c.write_slot.new.out c.args.slots.now c.loop-slot.slot-index c.slot-item.result c.loop-slot-test.true c.slot-item.is c.loop-slot.invariant c.in_ok-write_slot.ensures
