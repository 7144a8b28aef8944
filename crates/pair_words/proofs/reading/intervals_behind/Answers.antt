use Rattle.std.proofs.Common.{arith, refl, take, ◌∙◌}
use Rattle.std.proofs.lemmas.List.{take_more_set, length-set}
use Rattle.pair_words.proofs.Loops.{interval_more, no_interval, intervals_end}
use Rattle.pair_words.proofs.reading.intervals_behind.Goals as goal

pub returns-in_default : goal.returns-in_default
returns-in_default c =
    no_interval (take c.loop-n.n c.loop-n.intervals) c.args.hulls.now c.loop-n.n _ _ _ c.loop-n.letters _ (omega arith) refl refl c.in_default.ensures c.loop-n.invariant.same

pub loop-n-preserved : goal.loop-n-preserved
loop-n-preserved c = record {
  same = interval_more (take c.loop-n.n c.loop-n.intervals) _ c.args.hulls.now c.loop-n.n _ _ c.in-Some.interval _ c.loop-n.letters c.interval_of.new.letters _ (omega arith) refl refl c.in-Some.ensures
      (take_more_set c.loop-n.intervals c.loop-n.n c.in-Some.interval (omega arith)) c.loop-n.invariant.same;
  count = length-set c.loop-n.intervals c.loop-n.n c.in-Some.interval ∙ c.loop-n.invariant.count;
}

pub returns : goal.returns
returns c = intervals_end c.loop-n.intervals c.args.hulls.now c.loop-n.n c.loop-n.letters _ (omega arith) (omega arith) c.loop-n.invariant.same
