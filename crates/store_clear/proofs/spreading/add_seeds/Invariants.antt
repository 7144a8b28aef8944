use Rattle.std.proofs.Common.{◌≡◌, ◌++◌, take}
use Rattle.store_clear.specs.Conditions.{seeds_by}
use Rattle.store_clear.proofs.spreading.add_seeds.Given as goal

abbrev pub invariant-loop-landing : goal.invariant-loop-landing
invariant-loop-landing l = l.seeds ≡ l.fn.seeds ++ seeds_by l.slot (take l.landing-index l.landings)
