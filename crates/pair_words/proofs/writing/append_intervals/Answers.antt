use Rattle.std.proofs.Common.{arith, refl}
use Rattle.pair_words.proofs.Loops.{text_more, text_end}
use Rattle.pair_words.proofs.writing.append_intervals.Goals as goal

pub loop-n-preserved : goal.loop-n-preserved
loop-n-preserved c =
    text_more c.loop-n.text.items c.append_interval.new.text.items _ c.args.hulls.now c.args.intervals.now c.loop-n.n _ _ _ _ _ (omega arith) (omega arith) refl refl refl c.in_ok-append_interval.ensures c.loop-n.invariant

pub returns : goal.returns
returns c = text_end c.loop-n.text.items _ c.args.hulls.now c.args.intervals.now c.loop-n.n (omega arith) c.loop-n.invariant
