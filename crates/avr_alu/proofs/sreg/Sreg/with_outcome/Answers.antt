use Rattle.std.proofs.Common.{arith, ◌<◌}
use Rattle.avr_alu.proofs.Flagging.{put_all-with_flags}
use Rattle.avr_alu.proofs.sreg.Sreg.with_outcome.Goals as goal

pub returns : goal.returns
returns c =
    let small : c.args.self.0 < 256 = omega arith in
    let e1 = c.set.ensures tt in
    let e2 = c.set-2.ensures tt in
    let e3 = c.set-3.ensures tt in
    let e4 = c.set-4.ensures tt in
    let e5 = c.set-5.ensures tt in
    let e6 = c.set-6.ensures tt in
    let done = put_all-with_flags c.args.outcome.carry c.args.outcome.zero c.args.outcome.negative c.args.outcome.overflow c.args.outcome.half_carry c.args.self.0 small in
    cc
