-- Addresses at which no vector is enabled.
use Rattle.std.proofs.Common.{◌≡◌, ◌∙◌, sym, ap, subst, refl, ℕ, ◌+◌, ◌<◌, ◌≤◌, ◌^◌, ◌==◌, ◌||◌, nat_lt, ◌&&◌, Bool, true, false, List, [], ◌∷◌, arith}
use Rattle.std.proofs.lemmas.Bool.{ne_eqb, or_parts}
use Rattle.std.proofs.lemmas.List.Elements.{All-head, All-tail}
use Rattle.std.proofs.lemmas.Bool.Decides.{nat_tests}
use Rattle.std.specs.Int.{bit_at}
use Rattle.std.specs.List.{All, list_any}
use Rattle.vector_table.specs.Moving.{has_moving}
use Rattle.vector_table.proofs.AllLaws.{numbers_are_their_bits, enables_are_vectors}
use Rattle.vector_table.proofs.AllLaws as tables
use Rattle.avr_model.specs.declared.device.Device.{Device}
use Rattle.avr_model.specs.declared.rows.EnablePlace.{EnablePlace}
use Rattle.avr_model.specs.Bits.{number_of}
use Rattle.avr_model.specs.Devices.{guarded_end}
use Rattle.avr_model.specs.Vectors.{enable_places, enable_count, has_enables, enable_place_at, written_enable, written_enables, with_enable, io_bit, io_byte, kept_byte, is_vector, is_core, is_protected}
use Rattle.avr_model.proofs.AllLaws.{nothing_is_behind}

abbrev pub IsSound : Device → EnablePlace → Type 0
IsSound device p = (is_vector device p.vector ≡ true) × ((is_core device p.address ≡ false) × ((p.address ≤ guarded_end device) × (p.mask < 256)))

-- every bit of the byte there is the input's
pub free_byte : (device : Device) (still : Bool) (enables address input : ℕ) → input < 256 → (has_enables device address || has_moving device address) ≡ false
    → input ≡ io_byte device still enables address input
free_byte device still enables address input small none =
    let parts = or_parts (has_enables device address) (has_moving device address) none in
    tables.free_byte device still enables address input small parts.0 parts.1

-- all bits of the byte there are 0
pub no_byte : (device : Device) (enables address : ℕ) → (has_enables device address || has_moving device address) ≡ false → 0 ≡ kept_byte device enables address
unfolding kept_byte number_of
no_byte device enables address none =
    let here = (or_parts (has_enables device address) (has_moving device address) none).0 in
    λ i. number_of 8 (λ b. io_bit (sym (enables_are_vectors.no_enable device address b here) i) enables 0)

-- a byte stored there keeps the enable bits
pub enables_stay : (device : Device) (enables address byte : ℕ) → enables < 2 ^ enable_count device → (has_enables device address || has_moving device address) ≡ false → enables ≡ written_enables device enables address byte
unfolding written_enables
enables_stay device enables address byte small none =
    let here = (or_parts (has_enables device address) (has_moving device address) none).0 in
    let f : ℕ → ℕ = λ k. written_enable (enable_place_at device (k + 2) address) byte (bit_at enables k) in
    let same : (k : ℕ) → bit_at enables k ≡ f k = λ k i. written_enable (sym (enables_are_vectors.none device (k + 2) address here) i) byte (bit_at enables k) in
    numbers_are_their_bits.same (enable_count device) enables f small (λ k lt. same k)

pub none_protected : (device : Device) (a : ℕ) → guarded_end device < a → is_protected device a ≡ false
none_protected device a behind = ap (λ (b : Bool). b || has_enables device a) (nothing_is_behind.core device a behind) ∙ nothing_is_behind.enables device a behind

-- enable bits stay few
pub written_small : (device : Device) (x enables address byte : ℕ) → x ≡ written_enables device enables address byte → x < 2 ^ enable_count device
written_small device x enables address byte is = subst (λ (n : ℕ). n < 2 ^ enable_count device) (sym is) (enables_are_vectors.written device enables address byte)

pub turned_small : (device : Device) (x enables v : ℕ) (on : Bool) → x ≡ with_enable device enables v on → x < 2 ^ enable_count device
turned_small device x enables v on is = subst (λ (n : ℕ). n < 2 ^ enable_count device) (sym is) (enables_are_vectors.turned device enables v on)
