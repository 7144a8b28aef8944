-- Numbers that a device's texts admit, and the digits for them.
use Rattle.std.proofs.Common.{ℕ, zero, suc, ◌*◌, ◌^◌, ◌<◌, ◌≤◌, ◌≡◌, refl, subst, arith}
use Rattle.std.proofs.Math.Nat.{pow-le-pow_right, pow-suc}
use Rattle.avr_model.specs.declared.device.Device.{Device}
use Rattle.avr_model.specs.Devices.{limit_of, word_digits, depth_of}
use Rattle.avr_model.specs.Vectors.{last_vector, enable_count}
use Rattle.avr_model.proofs.AllLaws.{devices_are_alike}
use Rattle.cert_words.specs.KeySpelling.{masks_digits}

pub depth_room : (device : Device) → depth_of device < 2 ^ 64
depth_room device = omega (arith, devices_are_alike.most_depth device)

pub vector_room : (device : Device) → last_vector device < 2 ^ 64
vector_room device = omega (arith, devices_are_alike.most_vectors device)

-- the digits of a word address are enough for it
pub word_fits : (device : Device) (a : ℕ) → a < limit_of device → a < 16 ^ word_digits device
word_fits device a h = omega (arith, h, devices_are_alike.in_digits device)

hex_power : (d : ℕ) → 2 ^ (4 * d) ≡ 16 ^ d
hex_power zero = refl
hex_power (suc d) =
    let more : 4 * suc d ≡ suc (suc (suc (suc (4 * d)))) = omega arith in
    rw (more, pow-suc) (omega (arith, hex_power d))

-- the digits of enable bits are enough for them
pub masks_fit : (device : Device) (m : ℕ) → m < 2 ^ enable_count device → m < 16 ^ masks_digits device
masks_fit device m h =
    let wide : 2 ^ enable_count device ≤ 2 ^ (4 * masks_digits device) = pow-le-pow_right {n = 2} (omega arith) (omega arith) in
    subst (λ (n : ℕ). m < n) (hex_power (masks_digits device)) (omega (arith, h, wide))
