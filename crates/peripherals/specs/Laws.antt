-- Runs that peripherals choose are runs of the machine from reset, so a bound of all runs bounds them.
use Rattle.std.specs.Prelude.{ℕ, ◌≤◌, List}
use Rattle.avr_model.specs.declared.device.Device.{Device}
use Rattle.avr_model.specs.declared.assumption.Entry.{Entry}
use Rattle.avr_model.specs.Devices.{Image, device_of}
use Rattle.avr_model.specs.State.{IsReset}
use Rattle.avr_model.specs.Run.{IsRun, Bounded}
use Rattle.peripherals.specs.Spelling.{Setup, IsSetup}
use Rattle.peripherals.specs.Simulating.{initial, simulated, simulation_of}

pub record IsRunFromReset (image : Image) (A : List Entry) (setup : Setup) (n : ℕ) : Type 0 where
  pub reset : IsReset (device_of image) (initial image setup)
  pub run : IsRun image A (simulated image A setup n) (initial image setup)

-- The setup may be for any device.
abbrev pub SimulationsAreRuns : Type 0
SimulationsAreRuns = (device : Device) (image : Image) (A : List Entry) (setup : Setup) (n : ℕ) → IsSetup device setup → IsRunFromReset image A setup n

abbrev pub SimulationsAreBounded : Type 0
SimulationsAreBounded =
    (device : Device) (image : Image) (A : List Entry) (setup : Setup) (n bound : ℕ) → IsSetup device setup → Bounded image A bound → (simulation_of image A setup n).depth ≤ bound
