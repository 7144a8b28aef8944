-- RAMPZ and EIND, the registers 32 and 33: what they hold of a byte, and RAMPZ behind `elpm`. Source: the data sheets; the tags: own.
use Rattle.std.specs.Prelude.{ℕ, ◌+◌, ◌*◌, ◌==◌, nat_lt, if◌then◌else◌, Option, Some, None}
use Rattle.std.specs.Int.{bit_at}
use Rattle.avr_model.specs.declared.device.Device.{Device}
use Rattle.avr_model.specs.State.{RAMPZ, bank_most, kept_of}
use Rattle.bit_domain.specs.declared.bits.Tri.TheVariants.{Zero}
use Rattle.bit_domain.specs.declared.bytes.TriByte.{TriByte}
use Rattle.bit_domain.specs.TriByte.{tri_at, byte_of, byte_any, byte_known, byte_constant}
use Rattle.bit_domain.specs.Lattice.{byte_join}
use Rattle.sp_domain.specs.declared.tags.Tag.{Tag}
use Rattle.sp_domain.specs.declared.tags.Tag.TheVariants as tag
use Rattle.sp_domain.specs.Tags.{is_same_tag}
use Rattle.abs_state.specs.declared.values.AbsByte.{AbsByte}
use Rattle.abs_state.specs.declared.state.AbsState.{AbsState}
use Rattle.abs_state.specs.Values.{untagged}
use Rattle.local_rules.specs.Registers.{value, bits, with_bits}
use Rattle.local_rules.specs.Reads.{pair_constant}
use Rattle.local_rules.specs.Permitted.{permits_bytes}

-- ---- writes

-- these bits, with those that the register lacks known 0
abbrev pub bank_bits : Device → ℕ → TriByte → TriByte
bank_bits device r b = byte_of (λ i. if bit_at (bank_most device r) i == 1 then tri_at b i else Zero)

-- The tag, where it is that of the register's own entry. Another one need not hold, since bits are cut.
abbrev pub own_tag : ℕ → Tag → Tag
own_tag r t = if is_same_tag t (tag.Entry r) then t else tag.None

abbrev pub bank_value : Device → ℕ → AbsByte → AbsByte
bank_value device r v = with_bits (own_tag r v.tag) (bank_bits device r v.bits)

-- what a register holds of a byte that is written by its address: bits and tag; RAMPZ and EIND have fewer bits
abbrev pub stored_value : Device → ℕ → AbsByte → AbsByte
stored_value device r v = if nat_lt r 32 then with_bits v.tag v.bits else bank_value device r v

-- ---- `elpm`

-- the byte address in RAMPZ and Z, if both are known
abbrev pub extended_of : Option ℕ → Option ℕ → Option ℕ
extended_of None z = None
extended_of (Some bank) None = None
extended_of (Some bank) (Some z) = Some (65536 * bank + z)

abbrev pub extended_constant : AbsState → Option ℕ
extended_constant s = extended_of (byte_constant (bits s RAMPZ)) (pair_constant s 30)

-- RAMPZ plus 1: any number that it can hold, if it isn't known
abbrev pub next_bank : Device → Option ℕ → TriByte
next_bank device None = bank_bits device RAMPZ byte_any
next_bank device (Some bank) = byte_known (kept_of device RAMPZ (bank + 1))

-- what it may be behind Z+, where Z is 65,535, or may be
abbrev pub joined_bank : Option ℕ → TriByte → TriByte → TriByte
joined_bank None was next = byte_join was next
joined_bank (Some z) was next = if z == 65535 then next else byte_join was next

-- RAMPZ behind Z+
abbrev pub stepped_bank : Device → AbsState → AbsByte
stepped_bank device s =
    if permits_bytes s 30 65535
    then untagged (joined_bank (pair_constant s 30) (bits s RAMPZ) (next_bank device (byte_constant (bits s RAMPZ))))
    else value s RAMPZ
