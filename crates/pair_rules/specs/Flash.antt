-- Bytes of flash at the possible numbers of a register pair. Source: own.
use Rattle.std.specs.Prelude.{ℕ, zero, suc, ◌+◌, ◌*◌, ◌/◌, ◌%◌, ◌&&◌, ◌||◌, Bool, not, nat_lt, nat_le, if◌then◌else◌, Option, Some, None}
use Rattle.avr_model.specs.Bits.{all_below}
use Rattle.avr_model.specs.Devices.{Image, words_of, device_of}
use Rattle.avr_model.specs.Image.{byte_at}
use Rattle.bit_domain.specs.Ranges.{ByteSet}
use Rattle.bit_domain.specs.TriByte.{has}
use Rattle.pair_domain.specs.PairSets.{PairSet}
use Rattle.abs_state.specs.declared.values.AbsByte.{AbsByte}
use Rattle.abs_state.specs.Values.{known}
use Rattle.abs_state.specs.Order.{value_join}

-- ---- the numbers that a pair may hold

-- the bits permit the byte, and it lies in the range
abbrev pub set_permits : ByteSet → ℕ → Bool
set_permits s x = nat_le s.low x && nat_le x s.high && has s.bits x

-- the number lies in the interval, and both bytes permit it
abbrev pub pair_permits : PairSet → ℕ → Bool
pair_permits p x = nat_le p.interval.low x && nat_le x p.interval.high && set_permits p.low (x % 256) && set_permits p.high (x / 256)

-- ---- joins over the numbers below a bound

-- the number of permitted numbers
unfoldable pub count_below : (ℕ → Bool) → ℕ → ℕ
count_below permits zero = 0
count_below permits (suc n) = if permits n then suc (count_below permits n) else count_below permits n

abbrev pub joined_with : Option AbsByte → AbsByte → AbsByte
joined_with None v = v
joined_with (Some w) v = value_join w v

-- the join of the values of the permitted numbers; none if no number is permitted
unfoldable pub joined_below : (ℕ → Bool) → (ℕ → AbsByte) → ℕ → Option AbsByte
joined_below permits value zero = None
joined_below permits value (suc n) = if permits n then Some (joined_with (joined_below permits value n) (value n)) else joined_below permits value n

-- ---- flash: a pair's numbers are byte addresses behind the address `from`, a multiple of 65,536

abbrev pub flash_known : Image → ℕ → AbsByte
flash_known image z = known (byte_at image.words z)

abbrev pub is_flash : Image → ℕ → Bool
is_flash image z = nat_lt z (2 * words_of (device_of image))

-- at most 64 numbers are permitted, and all are byte addresses in the device's flash
abbrev pub few_in_flash : Image → ℕ → (ℕ → Bool) → Bool
few_in_flash image from permits = nat_le (count_below permits 65536) 64 && all_below 65536 (λ z. not (permits z) || is_flash image (from + z))

-- the join of the bytes at the permitted numbers; none if no number is permitted
abbrev pub flash_joined : Image → ℕ → (ℕ → Bool) → Option AbsByte
flash_joined image from permits = joined_below permits (λ z. flash_known image (from + z)) 65536
