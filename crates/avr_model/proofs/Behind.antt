-- Nothing is guarded behind the last guarded address.
use Rattle.std.proofs.Common.{◌≡◌, refl, ℕ, zero, suc, ◌+◌, ◌<◌, ◌≤◌, ◌==◌, ◌&&◌, ◌||◌, not, nat_le, nat_lt, Bool, true, false, List, [], ◌∷◌, arith}
use Rattle.std.specs.List.{list_all, list_any}
use Rattle.std.proofs.lemmas.Bool.{and_parts}
use Rattle.std.proofs.lemmas.Bool.Decides.{nat_tests}
use Rattle.basics.specs.Numbers.{at_most_from_test}
use Rattle.avr_model.specs.declared.device.Device.{Device}
use Rattle.avr_model.specs.declared.rows.EnablePlace.{EnablePlace}
use Rattle.avr_model.specs.Devices.{device_row, io_base, guarded_end, has_sph, has_elpm, has_eijmp}
use Rattle.avr_model.specs.Vectors.{is_core, enable_places, has_enables, is_moving}
use Rattle.avr_model.specs.Laws.{NothingIsBehind}
use Rattle.avr_model.proofs.Facts.{passes, least_guarded}
use Rattle.avr_model.proofs.Apart.{in_device}
use Rattle.avr_model.proofs.MovingPlaces.{apart}

no_core : (base a : ℕ) (sph elpm eijmp : Bool) → base + 0x3F < a
    → (nat_lt a base || ((a == base + 0x3D) || ((a == base + 0x3F) || ((sph && (a == base + 0x3E)) || ((elpm && (a == base + 0x3B)) || (eijmp && (a == base + 0x3C))))))) ≡ false
no_core base a sph elpm eijmp lt = grind (arith, nat_tests)

core : (d : Device) (a : ℕ) → guarded_end d < a → is_core d a ≡ false
core d a lt = no_core (io_base d) a (has_sph d) (has_elpm d) (has_eijmp d) (let le = least_guarded d in omega arith)

-- none of these places is at an address behind all of them
none_at : (last end a : ℕ) (core : ℕ → Bool) (ps : List EnablePlace) → end < a
    → list_all (λ (p : EnablePlace). nat_le p.vector last && (nat_le p.address end && not (core p.address))) ps ≡ true → list_any (λ (p : EnablePlace). p.address == a) ps ≡ false
none_at last end a core [] lt all = refl
none_at last end a core (p ∷ ps) lt all =
    let both = and_parts (nat_le p.vector last && (nat_le p.address end && not (core p.address))) _ all in
    let one = and_parts (nat_le p.vector last) (nat_le p.address end && not (core p.address)) both.0 in
    let two = and_parts (nat_le p.address end) (not (core p.address)) one.1 in
    let le : p.address ≤ end = at_most_from_test p.address end two.0 in
    let rest = none_at last end a core ps lt both.1 in
    either (p.address == a) _ (differ p.address a (omega arith)) rest
  where
    differ : (x y : ℕ) → x < y → (x == y) ≡ false
    differ x y lt = grind (arith, nat_tests)

    either : (b c : Bool) → b ≡ false → c ≡ false → (b || c) ≡ false
    either true c h g = absurd (cc)
    either false c h g = g

enables : (d : Device) (a : ℕ) → guarded_end d < a → has_enables d a ≡ false
unfolding has_enables enable_places
enables d a lt = none_at (device_row d).last (guarded_end d) a (is_core d) (enable_places d) lt (passes d 10)

moving : (d : Device) (a b : ℕ) → guarded_end d < a → is_moving d a b ≡ false
moving d a b lt = by (is_moving d a b) refl
  where
    by : (t : Bool) → is_moving d a b ≡ t → t ≡ false
    by true is = let le = at_most_from_test a (guarded_end d) (apart d a b is).most in absurd (omega arith)
    by false is = refl

pub nothing_is_behind : NothingIsBehind
nothing_is_behind = record { core = core; enables = enables; moving = moving }
