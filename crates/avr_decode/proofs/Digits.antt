-- The digits of a word address in texts.
use Rattle.std.proofs.Common.{◌≡◌, ℕ, ◌%◌, ◌/◌, ◌^◌, ◌<◌, ◌≤◌, arith, subst, sym, ◌∙◌}
use Rattle.std.proofs.Math.Nat.{mod-lt}
use Rattle.avr_model.specs.declared.device.Device.{Device}
use Rattle.avr_model.specs.Devices.{limit_of, word_digits}
use Rattle.avr_model.proofs.AllLaws.{devices_are_alike}

some_limit : (d : Device) → 0 < limit_of d
some_limit d = omega arith

below_limit : (d : Device) (a l : ℕ) → l ≡ limit_of d → a % l < limit_of d
below_limit d a l is = subst (λ (n : ℕ). a % n < limit_of d) (sym is) (mod-lt a (some_limit d))

-- with four digits, an address has 16 bits
pub four : (d : Device) (a l n : ℕ) → l ≡ limit_of d → n ≡ word_digits d → n ≡ 4 → a % l < 65536
four d a l n is digits few =
    let most : limit_of d ≤ 16 ^ 4 = subst (λ (k : ℕ). limit_of d ≤ 16 ^ k) (sym digits ∙ few) (devices_are_alike.in_digits d) in
    let below = below_limit d a l is in omega arith

-- the digit before these four
pub five : (d : Device) (a l : ℕ) → l ≡ limit_of d → a % l / 65536 < 16
five d a l is = let most = devices_are_alike.most_limit d in let below = below_limit d a l is in omega arith
