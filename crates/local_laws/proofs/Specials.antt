-- Addresses of the stack pointer and of the status register: they are in the core, as those of registers are, and what is read and written there.
use Rattle.std.proofs.Common.{◌≡◌, ◌≢◌, sym, ap, refl, ◌∙◌, eqb-true, ℕ, ◌+◌, ◌*◌, ◌<◌, Bool, true, false, ◌&&◌, ◌||◌, nat_lt, nat_le, if◌then◌else◌, ◌==◌, Option, Some, None, arith}
use Rattle.std.proofs.lemmas.Bool.{or_parts}
use Rattle.std.proofs.lemmas.Bool.Decides.{nat_tests}
use Rattle.avr_model.proofs.AllLaws.{devices_are_alike, specials_are_apart}
use Rattle.avr_model.specs.declared.device.Device.{Device}
use Rattle.avr_model.specs.declared.device.Special.{Special}
use Rattle.avr_model.specs.declared.device.Special.TheVariants.{Spl, Sph, Sreg}
use Rattle.avr_model.specs.Devices.{io_base, io_end, spl_address, sph_address, sreg_address, rampz_address, eind_address, has_sph, has_elpm, has_eijmp}
use Rattle.avr_model.specs.Effects.{set}
use Rattle.avr_model.specs.State.{State, RAMPZ, EIND, register_at, is_sph, special, read_behind, is_sram, sram_at, low, high}
use Rattle.avr_model.specs.Step.{sreg_after, sp_after, open_after}
use Rattle.avr_model.specs.Vectors.{is_core, io_byte}

swapped_and : (a b : Bool) → (a && b) ≡ false → (b && a) ≡ false
swapped_and true b h = ap (λ x. x && true) h
swapped_and false true h = refl
swapped_and false false h = refl

third_none : {A : Type 0} (p q r : Bool) (x y z : A) → p ≡ false → q ≡ false → r ≡ false → (if p then Some x else (if q then Some y else (if r then Some z else None))) ≡ None
third_none false false false x y z a b c = refl
third_none true q r x y z a b c = absurd (cc)
third_none false true r x y z a b c = absurd (cc)
third_none false false true x y z a b c = absurd (cc)

-- a number at another address
apart : (a n : ℕ) (has : Bool) → a ≢ n → ((a == n) && has) ≡ false
apart a n has other = let e : (a == n) ≡ false = grind (arith, nat_tests) in ap (λ b. b && has) e

-- three tests, as `special` makes them
abbrev tested : Bool → Bool → Bool → Option Special
tested l h s = if l then Some Spl else (if h then Some Sph else (if s then Some Sreg else None))

-- neither the stack pointer nor the status register is at a register's address
pub none_special : (device : Device) (a r : ℕ) → register_at device a ≡ Some r → special device a ≡ None
none_special device a r e =
    let not = specials_are_apart.registers device a r e in
    third_none (a == spl_address device) (is_sph device a) (a == sreg_address device) Spl Sph Sreg not.0 (ap (λ b. b && has_sph device) not.1.0) not.1.1

-- ---- the core

-- the same of a device whose I/O begins here, with these registers
register_in : (base a r : ℕ) (sph elpm eijmp : Bool)
    → (if nat_lt a base then Some a else (if (a == base + 0x3B) && elpm then Some RAMPZ else (if (a == base + 0x3C) && eijmp then Some EIND else None))) ≡ Some r
    → (nat_lt a base || ((a == base + 0x3D) || ((a == base + 0x3F) || ((sph && (a == base + 0x3E)) || ((elpm && (a == base + 0x3B)) || (eijmp && (a == base + 0x3C))))))) ≡ true
register_in base a r sph elpm eijmp e = grind (arith, nat_tests)

-- a register is in the core
pub register_core : (device : Device) (a r : ℕ) → register_at device a ≡ Some r → is_core device a ≡ true
register_core device a r = register_in (io_base device) a r (has_sph device) (has_elpm device) (has_eijmp device)

special_in : (p l s h sph rest : Bool) (x : Special) → tested l (h && sph) s ≡ Some x → (p || (l || (s || ((sph && h) || rest)))) ≡ true
special_in p l s h sph rest x e = grind (arith, nat_tests)

-- so are the stack pointer and the status register
pub special_core : (device : Device) (a : ℕ) (x : Special) → special device a ≡ Some x → is_core device a ≡ true
special_core device a x =
    special_in (nat_lt a (io_base device)) (a == spl_address device) (a == sreg_address device) (a == sph_address device) (has_sph device) _ x

-- nothing else is
pub outside_core : (device : Device) (a : ℕ) → is_core device a ≡ false → (register_at device a ≡ None) × (special device a ≡ None)
outside_core device a h =
    let one = or_parts (nat_lt a (io_base device)) _ h in
    let two = or_parts (a == spl_address device) _ one.1 in
    let three = or_parts (a == sreg_address device) _ two.1 in
    let four = or_parts (has_sph device && (a == sph_address device)) _ three.1 in
    let five = or_parts (has_elpm device && (a == rampz_address device)) (has_eijmp device && (a == eind_address device)) four.1 in (
      third_none (nat_lt a (io_base device)) ((a == rampz_address device) && has_elpm device) ((a == eind_address device) && has_eijmp device) a RAMPZ EIND one.0
          (swapped_and (has_elpm device) (a == rampz_address device) five.0) (swapped_and (has_eijmp device) (a == eind_address device) five.1),
      third_none (a == spl_address device) ((a == sph_address device) && has_sph device) (a == sreg_address device) Spl Sph Sreg two.0
          (swapped_and (has_sph device) (a == sph_address device) four.0) three.0,
    )

-- only a device whose stack pointer has a high byte has the address of one
pub has_high : (device : Device) (a : ℕ) → special device a ≡ Some Sph → has_sph device ≡ true
has_high device a e = by (a == spl_address device) (a == sph_address device) (has_sph device) (a == sreg_address device) e
  where
    by : (l h sph s : Bool) → tested l (h && sph) s ≡ Some Sph → sph ≡ true
    by true h sph s found = absurd (cc)
    by false true true s found = refl
    by false true false true found = absurd (cc)
    by false true false false found = absurd (cc)
    by false false sph true found = absurd (cc)
    by false false sph false found = absurd (cc)

-- ---- what is read and written there

-- one of four answers, by what an address is
abbrev pub chosen_by : {A : Type 0} → Option Special → A → A → A → A → A
chosen_by (Some Spl) p q r t = p
chosen_by (Some Sph) p q r t = q
chosen_by (Some Sreg) p q r t = r
chosen_by None p q r t = t

three_tests : {A : Type 0} (l h s : Bool) (p q r t : A) → (if l then p else (if h then q else (if s then r else t))) ≡ chosen_by (tested l h s) p q r t
three_tests true h s p q r t = refl
three_tests false true s p q r t = refl
three_tests false false true p q r t = refl
three_tests false false false p q r t = refl

two_tests : {A : Type 0} (l h s : Bool) (p q t : A) → (if l then p else (if h then q else t)) ≡ chosen_by (tested l h s) p q t t
two_tests true h s p q t = refl
two_tests false true s p q t = refl
two_tests false false true p q t = refl
two_tests false false false p q t = refl

-- the byte of the machine at an address that is no register's
abbrev pub special_byte : Bool → State → ℕ → ℕ → Option Special → ℕ
special_byte still m a input x =
    chosen_by x (low m.sp) (high m.sp) m.sreg (if nat_le a (io_end m.device) then io_byte m.device still m.enables a input else (if is_sram m.device a then sram_at m a else input))

pub byte_is : (still : Bool) (m : State) (a input : ℕ) (x : Option Special) → special m.device a ≡ x → read_behind still m a input None ≡ special_byte still m a input x
byte_is still m a input x here = three_tests (a == spl_address m.device) (is_sph m.device a) (a == sreg_address m.device) _ _ _ _ ∙ ap (special_byte still m a input) here

-- the status register, and not a byte of the stack pointer
abbrev pub is_sreg : Option Special → Bool
is_sreg x = chosen_by x false false true false

pub flags_is : (device : Device) (a : ℕ) (x : Option Special) → special device a ≡ x → (a == sreg_address device) ≡ is_sreg x
flags_is device a x here = by (a == spl_address device) (a == sph_address device) (has_sph device) (a == sreg_address device) refl refl refl ∙ ap is_sreg here
  where
    other : (n : ℕ) → (a == n) ≡ true → n ≢ sreg_address device → (a == sreg_address device) ≡ false
    other n is ne = let same : a ≡ n = eqb-true a n is in grind (arith, nat_tests)

    by : (l h sph s : Bool) → (a == spl_address device) ≡ l → (a == sph_address device) ≡ h → (a == sreg_address device) ≡ s → s ≡ is_sreg (tested l (h && sph) s)
    by true h sph s is is' is'' = sym is'' ∙ other (spl_address device) is (omega arith)
    by false true true s is is' is'' = sym is'' ∙ other (sph_address device) is' (omega arith)
    by false true false true is is' is'' = refl
    by false true false false is is' is'' = refl
    by false false sph true is is' is'' = refl
    by false false sph false is is' is'' = refl

pub sreg_written_is : (device : Device) (a byte sreg : ℕ) (x : Option Special) → special device a ≡ x → sreg_after device sreg (set a byte) ≡ (if is_sreg x then byte else sreg)
sreg_written_is device a byte sreg x here = ap (λ b. if b then byte else sreg) (flags_is device a x here)

-- the stack pointer after a byte is written, and whether it is half written then
abbrev pub sp_with : Option Special → ℕ → ℕ → ℕ
sp_with x byte sp = chosen_by x (256 * high sp + byte) (256 * byte + low sp) sp sp

pub sp_written_is : (device : Device) (a byte sp : ℕ) (x : Option Special) → special device a ≡ x → sp_after device sp (set a byte) ≡ sp_with x byte sp
sp_written_is device a byte sp x here = two_tests (a == spl_address device) (is_sph device a) (a == sreg_address device) _ _ _ ∙ ap (λ y. sp_with y byte sp) here

abbrev pub open_with : Option Special → Bool → Bool
open_with x is_open = chosen_by x false true is_open is_open

pub open_written_is : (device : Device) (a byte : ℕ) (is_open : Bool) (x : Option Special) → special device a ≡ x → open_after device is_open (set a byte) ≡ open_with x is_open
open_written_is device a byte is_open x here = two_tests (a == spl_address device) (is_sph device a) (a == sreg_address device) _ _ _ ∙ ap (λ y. open_with y is_open) here

-- ---- behind I/O

-- behind I/O there is no register
pub none_behind : (device : Device) (a : ℕ) → io_end device < a → register_at device a ≡ None
none_behind device a lt =
    let least = devices_are_alike.least_io device in
    let not_low : nat_lt a (io_base device) ≡ false = grind (arith, nat_tests) in
    third_none (nat_lt a (io_base device)) ((a == rampz_address device) && has_elpm device) ((a == eind_address device) && has_eijmp device) a RAMPZ EIND not_low
    (apart a (rampz_address device) (has_elpm device) (omega (arith, least, lt))) (apart a (eind_address device) (has_eijmp device) (omega (arith, least, lt)))
