-- Worked rows of stores under the line `masks`, on the ATmega328P: the enable bits of INT0 and INT1 are at address 0x3D, and INT0 is
-- entered at word 2.
use Rattle.std.specs.Prelude.{◌≡◌, refl, true, false, List, [], ◌∷◌}
use Rattle.avr_model.specs.Devices.{M328, device_row}
use Rattle.avr_model.specs.declared.assumption.Entry.{Entry}
use Rattle.avr_model.specs.declared.assumption.Entry.TheVariants.{Masks, Store, Never}
use Rattle.avr_model.specs.Assumptions.{has_masks, store_line, is_never}
use Rattle.avr_model.specs.Masks.{reads_masks, admits_enables, enables_barred, is_flagged_write}
use Rattle.avr_model.specs.Vectors.{enable_places, has_common, has_enables}
use Rattle.avr_model.specs.Bits.{any_below}

abbrev lines : List Entry
lines = Masks ∷ Never 2 ∷ Store 6 (0 ∷ []) ∷ []

-- into r0, and to SREG
into_a_register : is_flagged_write M328 lines 1 0 0xFF ≡ true
unfolding device_row admits_enables reads_masks has_masks store_line
into_a_register = refl

to_the_status_register : is_flagged_write M328 lines 1 0x5F 0 ≡ true
unfolding device_row admits_enables reads_masks has_masks store_line
to_the_status_register = refl

-- 2 enables INT1, and 3 also INT0, which is never taken
enables_another : is_flagged_write M328 lines 1 0x3D 2 ≡ false
unfolding device_row admits_enables reads_masks has_masks store_line enables_barred is_never enable_places has_common any_below
enables_another = refl

enables_what_is_barred : is_flagged_write M328 lines 1 0x3D 3 ≡ true
unfolding device_row admits_enables reads_masks has_masks store_line enables_barred is_never enable_places has_common any_below
enables_what_is_barred = refl

-- a site with a `store` line, which lists r0 alone
listed_register : is_flagged_write M328 lines 6 0 0xFF ≡ false
unfolding device_row admits_enables reads_masks has_masks store_line has_enables enable_places
listed_register = refl

unlisted_enable_bits : is_flagged_write M328 lines 6 0x3D 2 ≡ true
unfolding device_row admits_enables reads_masks has_masks store_line has_enables enable_places
unlisted_enable_bits = refl

-- without the line
without_the_line : is_flagged_write M328 (Never 2 ∷ []) 1 0x3D 2 ≡ true
unfolding device_row admits_enables reads_masks has_masks store_line has_enables enable_places
without_the_line = refl
