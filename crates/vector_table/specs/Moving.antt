-- The addresses of bits that move vectors. Source: own.
use Rattle.std.specs.Prelude.{ℕ, ◌==◌, Bool, false, Option, Some, None}
use Rattle.std.specs.List.{list_any}
use Rattle.avr_model.specs.declared.device.Device.{Device}
use Rattle.avr_model.specs.declared.rows.MovingPlace.{MovingPlace}
use Rattle.avr_model.specs.Vectors.{moving_of}

abbrev pub is_at : Option MovingPlace → ℕ → Bool
is_at None a = false
is_at (Some s) a = s.address == a

-- a bit of this address moves vectors
unfoldable pub has_moving : Device → ℕ → Bool
has_moving device a = list_any (λ (s : Option MovingPlace). is_at s a) (moving_of device)
