use Rattle.std.proofs.Common.{◌≡◌, take}
use Rattle.store_clear.specs.Conditions.{links_by}
use Rattle.store_clear.proofs.spreading.links_of.Given as goal

abbrev pub invariant-loop-landing : goal.invariant-loop-landing
invariant-loop-landing l = l.to ≡ links_by (take l.landing-index l.landings)
