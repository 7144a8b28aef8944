use Rattle.std.proofs.Common.{arith}
use Rattle.avr_model.specs.Devices.{width}
use Rattle.local_reads.proofs.Permitted.{open_none, open_more, open_all}
use Rattle.local_reads.proofs.flow.opened.Goals as goal

pub loop-bit-init : goal.loop-bit-init
loop-bit-init c = record {
  least = omega arith;
  so_far = open_none c.args.byte c.args.below (width c.args.device) _ (omega arith);
}

pub loop-bit-preserved : goal.loop-bit-preserved
loop-bit-preserved c = record {
  least = omega arith;
  so_far = open_more c.args.byte c.loop-bit.opened _ c.args.below (width c.args.device) c.loop-bit.bit c.loop-bit.invariant.least (omega arith) c.with-opened.ensures c.loop-bit.invariant.so_far;
}

pub returns : goal.returns
returns c = open_all c.args.byte c.loop-bit.opened c.args.below (width c.args.device) c.loop-bit.bit (omega arith) c.loop-bit.invariant.so_far
