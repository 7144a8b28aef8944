-- The nodes of a family, as they are kept.
use Rattle.std.specs.Prelude.{List}
use Rattle.avr_model.specs.declared.device.Device.{Device}
use Rattle.local_rules.specs.declared.local.Node.{Node}
use Rattle.edge_rules.specs.Views.{AreShown}

-- nodes of the analysis of some device, strictly ascending by key: all follow pairs, or none does
abbrev pub AreOfSomeDevice : List Node → Type 0
AreOfSomeDevice nodes = (device : Device) × AreShown device nodes
