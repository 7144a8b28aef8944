use Rattle.std.proofs.Common.{◌≡◌, length}
use Rattle.avr_model.specs.Devices.{image_of}
use Rattle.avr_decode.specs.Reading.{AreReadings}
use Rattle.avr_decode.proofs.reading.Reading.all.Given as goal

-- the words so far are read
abbrev pub invariant-loop-a : goal.invariant-loop-a
invariant-loop-a l = record {
  count : length l.readings.items ≡ l.a;
  read : AreReadings (image_of l.device l.words) l.readings.items;
}
