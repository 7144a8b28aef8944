-- Bytes cut to a range: bits that the range determines become known, and its ends move to bytes that the bits permit. Source: own.
use Rattle.std.specs.Prelude.{ℕ, zero, suc, ◌+◌, ◌-◌, ◌/◌, ◌^◌, ◌==◌, max, min, if◌then◌else◌, Option, Some, None}
use Rattle.std.specs.Int.{bit_at}
use Rattle.bit_domain.specs.declared.bits.Tri.{Tri}
use Rattle.bit_domain.specs.declared.bits.Tri.TheVariants.{Any}
use Rattle.bit_domain.specs.declared.bytes.TriByte.{TriByte}
use Rattle.bit_domain.specs.Tri.{tri_bit}
use Rattle.bit_domain.specs.TriByte.{has, byte_of}
use Rattle.bit_domain.specs.Lattice.{byte_meet}
use Rattle.bit_domain.specs.Ranges.{ByteSet}

-- bit i of the numbers from low to high, if they all agree from bit i on: if i is above the highest bit in which low and high differ
abbrev pub shared_bit : ℕ → ℕ → ℕ → Tri
shared_bit low high i = if low / 2 ^ i == high / 2 ^ i then tri_bit (bit_at low i) else Any

abbrev pub shared_bits : ℕ → ℕ → TriByte
shared_bits low high = byte_of (shared_bit low high)

-- the least of the n numbers from x on that the bits permit
unfoldable pub least_from : TriByte → ℕ → ℕ → Option ℕ
least_from bits x zero = None
least_from bits x (suc n) = if has bits x then Some x else least_from bits (suc x) n

-- the greatest of the n numbers from x on that the bits permit
unfoldable pub greatest_from : TriByte → ℕ → ℕ → Option ℕ
greatest_from bits x zero = None
greatest_from bits x (suc n) = if has bits (x + n) then Some (x + n) else greatest_from bits x n

abbrev pub least_member : TriByte → ℕ → ℕ → Option ℕ
least_member bits low high = least_from bits low (high + 1 - low)

abbrev pub greatest_member : TriByte → ℕ → ℕ → Option ℕ
greatest_member bits low high = greatest_from bits low (high + 1 - low)

-- the bits with a range, if both ends exist
abbrev pub ends_with : TriByte → Option ℕ → Option ℕ → Option ByteSet
ends_with bits None high = None
ends_with bits (Some low) None = None
ends_with bits (Some low) (Some high) = Some (record { bits = bits; low = low; high = high })

abbrev pub sought : Option TriByte → ℕ → ℕ → Option ByteSet
sought None low high = None
sought (Some bits) low high = ends_with bits (least_member bits low high) (greatest_member bits low high)

abbrev pub narrowed : ByteSet → ℕ → ℕ → Option ByteSet
narrowed s low high = sought (byte_meet s.bits (shared_bits low high)) low high

-- s cut to the numbers from low to high; none if no member is left
abbrev pub narrow : ByteSet → ℕ → ℕ → Option ByteSet
narrow s low high = narrowed s (max s.low low) (min s.high high)
