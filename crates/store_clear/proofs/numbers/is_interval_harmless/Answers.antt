use Rattle.std.proofs.Common.{sym, ◌∙◌, arith}
use Rattle.store_clear.proofs.Harmless.{all_in_range, all_scanned, one_fails, scanned_more}
use Rattle.store_clear.proofs.numbers.is_interval_harmless.Goals as goal
use Rattle.store_clear.specs.Stores.{task_in}

pub returns-then-is_range_harmless : goal.returns-then-is_range_harmless
returns-then-is_range_harmless c =
    sym (all_in_range (task_in c.args.store.now) c.args.bound c.args.store.now.pc c.args.store.now.instr.now c.args.store.now.state.now c.args.interval.low c.args.interval.high c.args.r c.args.up c.requires.follows (omega arith) (omega (arith, c.ranges.up.fits))
    (sym c.is_range_harmless.ensures ∙ c.if-is_range_harmless.true))

pub returns-then-not-is_number_harmless : goal.returns-then-not-is_number_harmless
returns-then-not-is_number_harmless c =
    sym (one_fails (task_in c.args.store.now) c.args.bound c.args.store.now.pc c.args.store.now.instr.now c.args.store.now.state.now c.args.interval.low c.args.interval.high c.args.r c.args.up c.requires.follows c.loop-number.number
    (omega (arith, c.loop-number.auto.number, c.from-number.ensures)) (omega (arith, c.loop-number-test.true, c.from-number-end.ensures))
    (omega (arith, c.loop-number-test.true, c.from-number-end.ensures))
    (sym c.is_number_harmless.ensures ∙ c.if-not-is_number_harmless.true))

pub loop-number-preserved : goal.loop-number-preserved
loop-number-preserved c follows =
    scanned_more (task_in c.args.store.now) c.args.bound c.args.store.now.pc c.args.store.now.instr.now c.args.store.now.state.now c.args.interval.low c.args.interval.high c.args.r c.args.up follows c.loop-number.number
    (c.loop-number.invariant follows) (sym c.is_number_harmless.ensures ∙ c.if-not-is_number_harmless.false)

pub returns : goal.returns
returns c =
    sym (all_scanned (task_in c.args.store.now) c.args.bound c.args.store.now.pc c.args.store.now.instr.now c.args.store.now.state.now c.args.interval.low c.args.interval.high c.args.r c.args.up c.requires.follows c.loop-number.number
    (omega (arith, c.loop-number-test.false, c.from-number-end.ensures)) (c.loop-number.invariant c.requires.follows))
