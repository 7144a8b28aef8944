-- Bytes at addresses without places.
use Rattle.std.proofs.Common.{◌≡◌, ◌∙◌, refl, sym, ap, ap₂, ℕ, ◌<◌, ◌==◌, ◌&&◌, ◌||◌, Bool, true, false, List, [], ◌∷◌, if◌then◌else◌, Option, Some, None}
use Rattle.std.specs.Int.{bit_at}
use Rattle.std.specs.List.{list_any}
use Rattle.std.proofs.lemmas.Bool.{or_parts}
use Rattle.avr_model.specs.declared.device.Device.{Device}
use Rattle.avr_model.specs.declared.rows.MovingPlace.{MovingPlace}
use Rattle.avr_model.specs.Vectors.{has_enables, held_of, is_bit_of, is_moving, io_bit, io_byte, moving_of}
use Rattle.vector_table.specs.Moving.{is_at, has_moving}
use Rattle.vector_table.proofs.Numbers.{by_bits}
use Rattle.vector_table.proofs.Places.{no_held}

none_at : (o : Option MovingPlace) (a b : ℕ) → is_at o a ≡ false → is_bit_of o a b ≡ false
none_at None a b h = refl
none_at (Some s) a b h = λ i. h i && (bit_at s.mask b == 1)

none_of : (os : List (Option MovingPlace)) (a b : ℕ) → list_any (λ (s : Option MovingPlace). is_at s a) os ≡ false → list_any (λ (s : Option MovingPlace). is_bit_of s a b) os ≡ false
none_of [] a b h = refl
none_of (o ∷ os) a b h =
    let parts = or_parts (is_at o a) (list_any (λ (s : Option MovingPlace). is_at s a) os) h in
    ap₂ (λ (x y : Bool). x || y) (none_at o a b parts.0) (none_of os a b parts.1)

pub not_moving : (d : Device) (a b : ℕ) → has_moving d a ≡ false → is_moving d a b ≡ false
unfolding has_moving is_moving
not_moving d a b h = none_of (moving_of d) a b h

given : (still is : Bool) (free : ℕ) → is ≡ false → free ≡ (if still && is then 0 else free)
given true is free h = sym (ap (λ (b : Bool). if b then 0 else free) h)
given false is free h = refl

pub free_byte : (d : Device) (still : Bool) (m address input : ℕ) → input < 256 → has_enables d address ≡ false → has_moving d address ≡ false
    → input ≡ io_byte d still m address input
unfolding io_byte
free_byte d still m address input small none fixed =
    by_bits 8 input (λ b. io_bit (held_of d address b) m (if still && is_moving d address b then 0 else bit_at input b)) small
    (λ b lt. given still (is_moving d address b) (bit_at input b) (not_moving d address b fixed)
    ∙ ap (λ (o : Option ℕ). io_bit o m (if still && is_moving d address b then 0 else bit_at input b)) (sym (no_held d address b none)))
