-- The needs of suspended frames bound the base of the frame above them.
use Rattle.std.proofs.Common.{◌+◌, ◌≤◌, List, [], ◌∷◌, ap, arith}
use Rattle.avr_model.specs.Devices.{ramend, device_of}
use Rattle.avr_model.specs.State.{Memory}
use Rattle.sp_domain.specs.Tags.{Origin}
use Rattle.node_keys.specs.declared.keys.InstKey.{InstKey}
use Rattle.edge_rules.specs.Families.{RankedFamily, IsSoundFamily}
use Rattle.edge_rules.specs.Frames.{Frame, AreLeft}
use Rattle.local_rules.specs.Site.{Task}

module _ (task : Task) (f : RankedFamily) (memory : Memory) where
  -- the frames above a base, and the need of its instance, are within the bound
  pub within : IsSoundFamily task f → (gs : List Frame) (inst : InstKey) (o : Origin) → AreLeft task f memory gs inst o
      → ramend (device_of task.flash) + f.need_of inst ≤ o.base + f.bound
  within sound [] inst o l = omega (arith, ap f.need_of l.0, l.1, sound.bounded)
  within sound (g ∷ gs) inst o l = omega (arith, l.0.need)

  pub base_inside : (gs : List Frame) (inst : InstKey) (o : Origin) → AreLeft task f memory gs inst o → o.base ≤ ramend (device_of task.flash)
  base_inside [] inst o l = omega (arith, l.1)
  base_inside (g ∷ gs) inst o l = omega (arith, base_inside gs g.node.key.inst g.origin l.1, l.0.place)
