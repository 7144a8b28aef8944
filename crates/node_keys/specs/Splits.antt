-- The enable bits that writing a partly known byte may leave.
use Rattle.std.specs.Prelude.{ℕ, ◌+◌, ◌<◌, ◌≡◌, ◌==◌, ◌&&◌, if◌then◌else◌, Bool, true, false, List, Option, Some, None}
use Rattle.std.specs.Int.{bit_at}
use Rattle.avr_model.specs.declared.device.Device.{Device}
use Rattle.avr_model.specs.declared.rows.EnablePlace.{EnablePlace}
use Rattle.avr_model.specs.Bits.{any_below}
use Rattle.avr_model.specs.Vectors.{enable_count, enable_place_at, is_sticky, written_enables}
use Rattle.bit_domain.specs.declared.bits.Tri.{Tri}
use Rattle.bit_domain.specs.declared.bits.Tri.TheVariants.{Zero, One, Any}
use Rattle.bit_domain.specs.declared.bytes.TriByte.{TriByte}
use Rattle.bit_domain.specs.Tri.{tri_bit}
use Rattle.bit_domain.specs.TriByte.{tri_at, Has}
use Rattle.bit_domain.specs.Numbers.{numbers_of}

abbrev pub is_one : Tri → Bool
is_one Zero = false
is_one One = true
is_one Any = false

-- whether the bit is unknown
abbrev pub is_any : Tri → Bool
is_any Zero = false
is_any One = false
is_any Any = true

-- whether the byte and the mask have 1 at one bit: if a known bit is 1, they have; if no bit may be 1, they haven't
unfoldable pub common_tri : TriByte → ℕ → Tri
common_tri value mask =
    if any_below 8 (λ j. is_one (tri_at value j) && (bit_at mask j == 1)) then One
    else if any_below 8 (λ j. is_any (tri_at value j) && (bit_at mask j == 1)) then Any else Zero

-- a vector's enable bit after the write: as the byte says if its place is at this address, else as before
abbrev pub enable_in : Option EnablePlace → TriByte → ℕ → Tri
enable_in None value old = tri_bit old
enable_in (Some p) value old = if is_sticky p.enable && (old == 1) then One else common_tri value p.mask

unfoldable pub enable_tri : Device → ℕ → ℕ → TriByte → ℕ → Tri
enable_tri device m address value k = enable_in (enable_place_at device (k + 2) address) value (bit_at m k)

-- the enable bits that writing a member of the byte to this address may leave of m, ascending
abbrev pub splits : Device → ℕ → ℕ → TriByte → List ℕ
splits device m address value = numbers_of (enable_tri device m address value) (enable_count device)

-- writing some member of the byte leaves n
pub record IsWritten (device : Device) (m address : ℕ) (value : TriByte) (n : ℕ) : Type 0 where
  pub byte : ℕ
  pub small : byte < 256
  pub member : Has value byte
  pub left : n ≡ written_enables device m address byte
