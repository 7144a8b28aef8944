-- Pointer stores that aren't flagged.
use Rattle.std.proofs.Common.{◌≡◌, sym, refl, ℕ, Bool, true, false, ◌==◌, ◌&&◌, ◌||◌, not, if◌then◌else◌, List, [], ◌∷◌, Option, Some, None, arith}
use Rattle.std.specs.List.{list_any}
use Rattle.std.proofs.lemmas.Bool.{or_parts}
use Rattle.avr_model.specs.declared.device.Device.{Device}
use Rattle.avr_model.specs.declared.rows.EnablePlace.{EnablePlace}
use Rattle.avr_model.specs.declared.assumption.Entry.{Entry}
use Rattle.avr_model.specs.declared.effect.Write.{Write}
use Rattle.avr_model.specs.Assumptions.{store_line, lists, is_fixed_site}
use Rattle.avr_model.specs.Devices.{Image, device_of}
use Rattle.avr_model.specs.Masks.{is_barred, enables_barred, admits_enables, is_flagged_write}
use Rattle.avr_model.specs.Vectors.{enable_places, has_common, is_core, has_enables, is_protected}
use Rattle.avr_machine.specs.Quiet.{protected_at}

neither : (a b c d : Bool) → a ≡ false → d ≡ false → ((a && b && c) || d) ≡ false
neither a b c d h g = grind arith

none_there : (rs : List EnablePlace) (device : Device) (A : List Entry) (a byte : ℕ) → list_any (λ r. r.address == a) rs ≡ false
    → list_any (λ r. (r.address == a) && has_common byte r.mask && is_barred device A r.vector) rs ≡ false
none_there [] device A a byte h = refl
none_there (r ∷ rs) device A a byte h =
    let parts = or_parts (r.address == a) (list_any (λ r. r.address == a) rs) h in
    neither (r.address == a) (has_common byte r.mask) (is_barred device A r.vector) _ parts.0 (none_there rs device A a byte parts.1)

none_barred : (device : Device) (A : List Entry) (a byte : ℕ) → has_enables device a ≡ false → enables_barred device A a byte ≡ false
unfolding has_enables enables_barred
none_barred device A a byte h = none_there (enable_places device) device A a byte h

by_both : (admits core other protected listed : Bool) → core ≡ false → other ≡ false → protected ≡ false
    → (if admits then core || other else protected && not listed) ≡ false
by_both admits core other protected listed h g k = grind arith

unprotected : (device : Device) (A : List Entry) (site a byte : ℕ) → is_protected device a ≡ false → is_flagged_write device A site a byte ≡ false
unprotected device A site a byte h =
    let parts = or_parts (is_core device a) (has_enables device a) h in
    by_both (admits_enables device A site) (is_core device a) (enables_barred device A a byte) (is_protected device a) (lists (store_line A site) a) parts.0
    (none_barred device A a byte parts.1) h

none_of : (fixed flagged : Bool) (a : ℕ) → flagged ≡ false → None ≡ (if not fixed then if flagged then Some a else None else None)
none_of true flagged a h = refl
none_of false flagged a h = λ i. if sym h i then Some a else None

none_fixed : (fixed : Bool) (some : Option ℕ) → fixed ≡ true → None ≡ (if not fixed then some else None)
none_fixed fixed some h = λ i. if not (sym h i) then some else None

pub fixed_site : (image : Image) (A : List Entry) (site : ℕ) (w : Write) → is_fixed_site image A site ≡ true → None ≡ protected_at image A site w
fixed_site image A site w h = none_fixed (is_fixed_site image A site) _ h

pub not_flagged : (image : Image) (A : List Entry) (site : ℕ) (w : Write) → is_flagged_write (device_of image) A site w.address w.byte ≡ false
    → None ≡ protected_at image A site w
not_flagged image A site w h = none_of (is_fixed_site image A site) (is_flagged_write (device_of image) A site w.address w.byte) w.address h

pub not_protected : (image : Image) (A : List Entry) (site : ℕ) (w : Write) → is_protected (device_of image) w.address ≡ false → None ≡ protected_at image A site w
not_protected image A site w h = not_flagged image A site w (unprotected (device_of image) A site w.address w.byte h)
