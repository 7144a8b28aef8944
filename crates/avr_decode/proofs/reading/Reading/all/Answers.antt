use Rattle.std.proofs.Common.{ap, length, arith}
use Rattle.avr_model.proofs.AllLaws.{most_words}
use Rattle.avr_decode.proofs.Readings.{none_read, one_more_read}
use Rattle.avr_decode.proofs.reading.Reading.all.Goals as goal

pub loop-a-init : goal.loop-a-init
loop-a-init c = record { count = ap length c.in_ok-readings.ensures.items; read = none_read _ _ c.in_ok-readings.ensures.items }

pub loop-a-preserved : goal.loop-a-preserved
loop-a-preserved c = record {
  count = omega (arith, c.in_ok-push.ensures.len, c.loop-a.invariant.count);
  read = one_more_read _ c.loop-a.readings.items _ c.loop-a.a _ _ _ c.loop-a.invariant.read c.loop-a.invariant.count c.in_ok-push.ensures.items c.instruction.ensures c.is_fixed.ensures c.is_scratch.ensures;
}

pub instruction-requires-clause-room : goal.instruction-requires-clause-room
instruction-requires-clause-room c = omega (arith, c.loop-a-test.true, c.written-count.ensures.within, c.requires, most_words c.args.device)

pub overflow_cast-a : goal.overflow_cast-a
overflow_cast-a c = omega (arith, c.loop-a-test.true, c.written-count.ensures.within, c.requires, most_words c.args.device)

pub overflow_cast-a-in-loop-a : goal.overflow_cast-a-in-loop-a
overflow_cast-a-in-loop-a c = omega (arith, c.loop-a-test.true, c.written-count.ensures.within, c.requires, most_words c.args.device)
