-- The names of devices. Source: those that the compiler takes.
use Rattle.std.specs.Prelude.{ℕ, ◌==◌, List, Option, Some, None, slice_index_or, find, take}
use Rattle.std.specs.List.{position_from}
use Rattle.std.specs.Option.{option_map}
use Rattle.std.specs.Str.{bytes_eq}
use Rattle.avr_model.specs.declared.device.Device.{Device}
use Rattle.avr_model.specs.declared.names.Name.{Name}
use Rattle.avr_model.specs.declared.device_table.TheConstants.{CLASSES, NAMES, LAST_CLASS}

-- a name of the table, without the zeros behind it
abbrev pub up_to : Option ℕ → List ℕ → List ℕ
up_to None text = text
up_to (Some end) text = take end text

unfoldable pub trimmed : List ℕ → List ℕ
trimmed text = up_to (position_from (λ byte. byte == 0) 0 text) text

-- the device's name in texts; devices with equal rows have one
unfoldable pub class_of : Device → List ℕ
class_of device = trimmed (slice_index_or CLASSES device.index LAST_CLASS)

-- the device with this name in texts
unfoldable pub device_of_class : List ℕ → Option Device
device_of_class name = option_map (λ index. record { index = index }) (position_from (λ class. bytes_eq (trimmed class) name) 0 CLASSES)

-- the device that a name means
unfoldable pub device_named : List ℕ → Option Device
device_named name = option_map (λ (n : Name). record { index = n.index }) (find (λ (n : Name). bytes_eq (trimmed n.text) name) NAMES)
