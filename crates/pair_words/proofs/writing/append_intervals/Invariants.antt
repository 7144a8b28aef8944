use Rattle.std.proofs.Common.{◌≡◌, ◌*◌, ◌++◌, drop}
use Rattle.pair_words.specs.Spelling.{intervals_text}
use Rattle.pair_words.proofs.writing.append_intervals.Given as goal

abbrev pub invariant-loop-n : goal.invariant-loop-n
invariant-loop-n l =
    l.text.items ++ intervals_text (2 * l.n) (drop l.n l.fn.hulls) (drop l.n l.fn.intervals) ≡ l.initial.text.items ++ intervals_text 0 l.fn.hulls l.fn.intervals
