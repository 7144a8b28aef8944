-- Writes that set a moving bit.
use Rattle.std.proofs.Common.{◌≡◌, refl, sym, ap, ◌∙◌, ℕ, ◌+◌, ◌≤◌, ◌==◌, Bool, true, false, ◌&&◌, ◌||◌, List, [], ◌∷◌, Option, Some, None, eqb-true, arith}
use Rattle.std.specs.List.{list_any}
use Rattle.std.proofs.lemmas.Bool.{and_parts, and_from}
use Rattle.avr_model.proofs.AllLaws.{devices_are_alike, moving_is_apart}
use Rattle.avr_model.specs.declared.device.Device.{Device}
use Rattle.avr_model.specs.declared.rows.MovingPlace.{MovingPlace}
use Rattle.avr_model.specs.declared.effect.Write.{Write}
use Rattle.avr_model.specs.Devices.{io_base, guarded_end}
use Rattle.avr_model.specs.Vectors.{has_common, sets_bit_of, sets_moving, moving_of}
use Rattle.avr_model.specs.Effects.{set}
use Rattle.avr_model.specs.Step.{moves_vectors}
use Rattle.bit_domain.specs.declared.bytes.TriByte.{TriByte}
use Rattle.bit_domain.specs.TriByte.{Has}
use Rattle.node_keys.specs.Wakes.{may_have}
use Rattle.node_keys.proofs.AllLaws.{may_have_member}
use Rattle.clear_laws.specs.Clear.{may_set}

pub set_is_reached : (device : Device) (a byte : ℕ) → sets_moving device a byte ≡ true → (io_base device + 0x20 ≤ a) × (a ≤ guarded_end device)
set_is_reached device a byte h = let t = moving_is_apart.set device a byte h in moving_is_apart.reach device a t.0 t.1.0

-- ---- the test for instructions

set_there : (reaches : ℕ → Bool) (value : TriByte) (a byte : ℕ) (o : Option MovingPlace) → reaches a ≡ true → Has value byte → sets_bit_of o a byte ≡ true → may_set reaches value o ≡ true
set_there reaches value a byte None reached has sets = absurd (cc)
set_there reaches value a byte (Some s) reached has sets =
    let parts = and_parts (s.address == a) (has_common byte s.mask) sets in
    and_from (reaches s.address) (may_have value s.mask) (ap reaches (eqb-true s.address a parts.0) ∙ reached) (may_have_member value s.mask byte has parts.1)

set_in : (reaches : ℕ → Bool) (value : TriByte) (a byte : ℕ) (os : List (Option MovingPlace)) → reaches a ≡ true → Has value byte
    → list_any (λ (s : Option MovingPlace). sets_bit_of s a byte) os ≡ true → list_any (may_set reaches value) os ≡ true
set_in reaches value a byte [] reached has sets = absurd (cc)
set_in reaches value a byte (o ∷ os) reached has sets = either (sets_bit_of o a byte) _ _ _ sets (set_there reaches value a byte o reached has) (set_in reaches value a byte os reached has)
  where
    either : (p ps q qs : Bool) → (p || ps) ≡ true → (p ≡ true → q ≡ true) → (ps ≡ true → qs ≡ true) → (q || qs) ≡ true
    either true ps q qs h one more = ap (λ (b : Bool). b || qs) (one refl)
    either false ps true qs h one more = refl
    either false ps false qs h one more = more h

-- a write of one of these bytes to one of these addresses
pub may_set_there : (device : Device) (reaches : ℕ → Bool) (value : TriByte) (a byte : ℕ) → sets_moving device a byte ≡ true → reaches a ≡ true → Has value byte
    → list_any (may_set reaches value) (moving_of device) ≡ true
unfolding sets_moving
may_set_there device reaches value a byte sets reached has = set_in reaches value a byte (moving_of device) reached has sets

-- ---- lists of writes

pub none_moves : (device : Device) (still : Bool) (ws : List Write) → ws ≡ [] → moves_vectors device still ws ≡ true → ⊥
unfolding moves_vectors
none_moves device still ws none h = by still (sym (ap (moves_vectors device still) none) ∙ h)
  where
    by : (b : Bool) → (b && false) ≡ true → ⊥
    by true e = cc
    by false e = cc

pub one_moves : (device : Device) (still : Bool) (ws : List Write) (a byte : ℕ) → ws ≡ set a byte → moves_vectors device still ws ≡ true
    → (still ≡ true) × (sets_moving device a byte ≡ true)
unfolding moves_vectors
one_moves device still ws a byte is h =
    let parts = and_parts still (sets_moving device a byte || false) (sym (ap (moves_vectors device still) is) ∙ h) in
    (parts.0, by (sets_moving device a byte) parts.1)
  where
    by : (b : Bool) → (b || false) ≡ true → b ≡ true
    by true e = refl
    by false e = e
