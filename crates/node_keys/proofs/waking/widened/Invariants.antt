use Rattle.std.proofs.Common.{◌≤◌, ◌<◌, ◌^◌}
use Rattle.avr_model.specs.Vectors.{enable_count}
use Rattle.node_keys.proofs.Woken.{AreWide}
use Rattle.node_keys.proofs.waking.widened.Given as goal

-- the vectors below v are widened, and no others were added
abbrev pub invariant-loop-v : goal.invariant-loop-v
invariant-loop-v l =
    record {
      least : 2 ≤ l.v;
      small : l.wide < 2 ^ enable_count l.device;
      bits : AreWide l.device l.assumptions l.masks l.v l.wide;
    }
