use Rattle.std.proofs.Common.{map, take}
use Rattle.local_rules.specs.Raw.{all_of}
use Rattle.abs_step.specs.Adding.{plain, AreMovesGathered}
use Rattle.abs_step.specs.Sites.{picked}
use Rattle.abs_step.proofs.splitting.all_picked.Given as goal

abbrev pub invariant-loop-at : goal.invariant-loop-at
invariant-loop-at l =
    AreMovesGathered (plain l.fn.nodes) (plain l.nodes) l.fault
    (all_of (map (λ byte. picked l.site byte) (take l.at l.picks)))
