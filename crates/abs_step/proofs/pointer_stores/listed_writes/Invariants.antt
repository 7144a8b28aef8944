use Rattle.std.proofs.Common.{◌∷◌, map, filter, take, false}
use Rattle.local_rules.specs.Raw.{one, all_of}
use Rattle.local_rules.specs.Writes.{reaches, written_at}
use Rattle.abs_step.specs.Adding.{AreMovesGathered}
use Rattle.abs_step.specs.Sites.{write_of}
use Rattle.abs_step.proofs.pointer_stores.listed_writes.Given as goal

abbrev pub invariant-loop-at : goal.invariant-loop-at
invariant-loop-at l =
    AreMovesGathered l.fn.nodes l.nodes l.fault
    (all_of (one l.write.key l.write.state.now ∷ map (λ a. written_at (write_of l.write) false a) (filter (λ a. reaches l.site.state.now l.to.r l.to.up a) (take l.at l.all))))
