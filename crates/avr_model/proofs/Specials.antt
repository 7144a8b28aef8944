-- The addresses of the stack pointer and of the status register are core, and no register's.
use Rattle.std.proofs.Common.{◌≡◌, refl, ℕ, ◌+◌, ◌<◌, ◌≤◌, ◌==◌, ◌&&◌, ◌||◌, nat_lt, Bool, true, false, Option, Some, None, arith}
use Rattle.std.specs.Prelude.{if◌then◌else◌}
use Rattle.std.proofs.lemmas.Bool.Decides.{nat_tests}
use Rattle.avr_model.specs.declared.device.Device.{Device}
use Rattle.avr_model.specs.Devices.{io_base, spl_address, sph_address, sreg_address, rampz_address, eind_address, has_sph, has_elpm, has_eijmp}
use Rattle.avr_model.specs.State.{register_at, RAMPZ, EIND}
use Rattle.avr_model.specs.Vectors.{is_core}
use Rattle.avr_model.specs.Laws.{SpecialsAreApart}

-- the register at a data address, with the base and the groups of the device
abbrev at_base : ℕ → Bool → Bool → ℕ → Option ℕ
at_base base elpm eijmp a =
    if nat_lt a base then Some a
    else (if (a == base + 0x3B) && elpm then Some RAMPZ
    else (if (a == base + 0x3C) && eijmp then Some EIND else None))

abbrev core_at_base : ℕ → Bool → Bool → Bool → ℕ → Bool
core_at_base base sph elpm eijmp a =
    nat_lt a base || ((a == base + 0x3D) || ((a == base + 0x3F) || ((sph && (a == base + 0x3E)) || ((elpm && (a == base + 0x3B)) || (eijmp && (a == base + 0x3C))))))

no_register : (base k : ℕ) (elpm eijmp : Bool) → 0x3D ≤ k → at_base base elpm eijmp (base + k) ≡ None
no_register base k elpm eijmp le = grind (arith, nat_tests)

low_core : (base : ℕ) (sph elpm eijmp : Bool) → core_at_base base sph elpm eijmp (base + 0x3D) ≡ true
low_core base sph elpm eijmp = grind (arith, nat_tests)

high_core : (base : ℕ) (sph elpm eijmp : Bool) → sph ≡ true → core_at_base base sph elpm eijmp (base + 0x3E) ≡ true
high_core base sph elpm eijmp is = grind (arith, nat_tests)

flags_core : (base : ℕ) (sph elpm eijmp : Bool) → core_at_base base sph elpm eijmp (base + 0x3F) ≡ true
flags_core base sph elpm eijmp = grind (arith, nat_tests)

apart : (base k : ℕ) (elpm eijmp : Bool) (a r : ℕ) → 0x3D ≤ k → at_base base elpm eijmp a ≡ Some r → (a == base + k) ≡ false
apart base k elpm eijmp a r le is = grind (arith, nat_tests)

pub specials_are_apart : SpecialsAreApart
specials_are_apart =
    record {
      low = λ d. (no_register (io_base d) 0x3D (has_elpm d) (has_eijmp d) (omega arith), low_core (io_base d) (has_sph d) (has_elpm d) (has_eijmp d));
      high = λ d. (no_register (io_base d) 0x3E (has_elpm d) (has_eijmp d) (omega arith), high_core (io_base d) (has_sph d) (has_elpm d) (has_eijmp d));
      flags = λ d. (no_register (io_base d) 0x3F (has_elpm d) (has_eijmp d) (omega arith), flags_core (io_base d) (has_sph d) (has_elpm d) (has_eijmp d));
      registers = λ d a r is. (
        apart (io_base d) 0x3D (has_elpm d) (has_eijmp d) a r (omega arith) is,
        (
          apart (io_base d) 0x3E (has_elpm d) (has_eijmp d) a r (omega arith) is,
          apart (io_base d) 0x3F (has_elpm d) (has_eijmp d) a r (omega arith) is,
        ),
      );
    }
