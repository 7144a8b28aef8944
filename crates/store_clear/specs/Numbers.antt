-- The addresses by the numbers of a store's pointer. Definitions for the contracts of internal functions.
use Rattle.std.specs.Prelude.{ℕ, ◌+◌, ◌&&◌, ◌||◌, Bool, not, nat_lt, nat_le}
use Rattle.avr_model.specs.declared.device.Device.{Device}
use Rattle.avr_model.specs.Bits.{all_below}
use Rattle.avr_model.specs.Devices.{io_end, ramend}
use Rattle.avr_model.specs.State.{plus16, minus16}
use Rattle.clear_laws.specs.Aims.{permits_bytes, permits_number}
use Rattle.clear_laws.specs.Clear.{Store, is_address_harmless}
use Rattle.local_rules.specs.Site.{Task}
use Rattle.abs_state.specs.declared.state.AbsState.{AbsState}

-- all addresses from the first to the last are in SRAM below the stack's reach, or above SRAM
abbrev pub is_range_harmless : Device → ℕ → ℕ → ℕ → Bool
is_range_harmless device bound first last =
    nat_le first last && ((nat_lt (io_end device) first && nat_le (last + bound) (ramend device)) || nat_lt (ramend device) first)

-- the bytes of registers r and r + 1 exclude the number, or the address `up` further, modulo 65,536, is harmless
abbrev pub is_number_harmless : (ℕ → Bool) → AbsState → ℕ → ℕ → ℕ → Bool
is_number_harmless harmless s r up p = not (permits_bytes s r p) || harmless (plus16 p up)

-- for each permitted number of registers r and r + 1 the address `up` further, modulo 65,536, is harmless
abbrev pub are_numbers_harmless : Task → ℕ → Store → ℕ → ℕ → Bool
are_numbers_harmless task bound store r up =
    all_below 65536 (λ a. not (permits_number store.state r (minus16 a up)) || is_address_harmless task bound store a)
