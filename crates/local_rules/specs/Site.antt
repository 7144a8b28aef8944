-- What is analysed, and where an instruction executes. Source: own.
use Rattle.std.specs.Prelude.{Bool, List, []}
use Rattle.avr_model.specs.declared.device.Device.{Device}
use Rattle.avr_model.specs.declared.assumption.Entry.{Entry}
use Rattle.avr_model.specs.Devices.{Image, device_of}
use Rattle.avr_model.specs.Masks.{reads_masks}
use Rattle.abs_state.specs.declared.state.AbsState.{AbsState}
use Rattle.node_keys.specs.declared.keys.NodeKey.{NodeKey}

-- a firmware and its assumptions
pub record Task : Type 0 where
  pub flash : Image
  pub assumptions : List Entry

-- the node at which an instruction executes, on this device
pub record Site : Type 0 where
  pub device : Device
  pub key : NodeKey
  pub state : AbsState

abbrev pub site_at : Device → NodeKey → AbsState → Site
site_at device k s = record { device = device; key = k; state = s }

abbrev pub task_with : Image → List Entry → Task
task_with image A = record { flash = image; assumptions = A }

-- the list is read as if it had the line `masks`
abbrev pub masks_by : Task → Bool
masks_by task = reads_masks (device_of task.flash) task.assumptions

-- a firmware without assumptions
abbrev pub bare : Image → Task
bare image = task_with image []
