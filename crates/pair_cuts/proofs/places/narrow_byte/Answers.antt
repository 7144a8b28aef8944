use Rattle.std.proofs.Common.{sym, ap, arith}
use Rattle.abs_state.specs.PairBytes.{sets, left_by}
use Rattle.pair_cuts.proofs.Capped.{far_byte}
use Rattle.pair_cuts.proofs.places.narrow_byte.Goals as goal

pub returns-then-interval-gt255 : goal.returns-then-interval-gt255
returns-then-interval-gt255 c =
    sym (ap (left_by c.args.pair) (far_byte (sets c.args.pair) c.args.interval.low c.args.interval.high (omega arith) (omega arith) c.args.r (omega arith)))
