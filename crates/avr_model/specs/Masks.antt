-- The line `masks`: stores through pointers that may write enable bits. Source: own.
use Rattle.std.specs.Prelude.{ℕ, ◌==◌, ◌&&◌, ◌||◌, not, Bool, true, false, List, [], ◌∷◌, if◌then◌else◌}
use Rattle.std.specs.List.{list_any}
use Rattle.avr_model.specs.declared.device.Device.{Device}
use Rattle.avr_model.specs.declared.assumption.Entry.{Entry}
use Rattle.avr_model.specs.Assumptions.{has_masks, store_line, is_never, lists}
use Rattle.avr_model.specs.declared.rows.EnablePlace.{EnablePlace}
use Rattle.avr_model.specs.Devices.{device_row}
use Rattle.avr_model.specs.Vectors.{enable_places, has_common, vector_word, is_core, is_protected}

-- The list has the line `masks`, or is read on this device as if it had it.
unfoldable pub reads_masks : Device → List Entry → Bool
reads_masks device A = (device_row device).reads_masks || has_masks A

-- the vector's word has a `never` line
abbrev pub is_barred : Device → List Entry → ℕ → Bool
is_barred device A v = is_never A (vector_word device v)

-- The byte has 1 at a bit of this address that enables a barred vector.
unfoldable pub enables_barred : Device → List Entry → ℕ → ℕ → Bool
enables_barred device A a byte = list_any (λ (p : EnablePlace). (p.address == a) && has_common byte p.mask && is_barred device A p.vector) (enable_places device)

-- no address is listed: the site has no `store` line, since one lists at least one address
abbrev pub is_unlisted_site : List ℕ → Bool
is_unlisted_site [] = true
is_unlisted_site (a ∷ addresses) = false

-- The line `masks` permits that a store at this unfixed site writes enable bits: the site has no `store` line.
unfoldable pub admits_enables : Device → List Entry → ℕ → Bool
admits_enables device A site = reads_masks device A && is_unlisted_site (store_line A site)

-- Writing this byte to this address at this unfixed site is flagged: the address is protected, and no `store` line of the site lists it.
-- If the line `masks` admits the site, only registers, the stack pointer and the status register are protected, and enable bits by which
-- a barred vector is enabled.
abbrev pub is_flagged_write : Device → List Entry → ℕ → ℕ → ℕ → Bool
is_flagged_write device A site a byte =
    if admits_enables device A site
    then is_core device a || enables_barred device A a byte
    else is_protected device a && not (lists (store_line A site) a)
