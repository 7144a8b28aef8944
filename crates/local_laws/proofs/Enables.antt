-- Enable bits by keys that have what is enabled, and by keys that have what may be.
use Rattle.std.proofs.Common.{◌≡◌, refl, sym, ◌∙◌, ap, subst, ℕ, zero, suc, ◌-◌, ◌^◌, ◌<◌, ◌≤◌, Bool, true, false, ◌&&◌, ◌||◌, nat_le, if◌then◌else◌, ◌==◌, List, [], ◌∷◌, Option, Some, None, arith, eqb-true, find, ⊎_elim}
use Rattle.std.proofs.lemmas.Bool.{and_parts, cases_lt}
use Rattle.std.proofs.lemmas.Bool.Decides.{nat_tests}
use Rattle.std.proofs.lemmas.List.Elements.{All-head, All-tail}
use Rattle.std.proofs.lemmas.Nat.Bits.{bit_at-lt}
use Rattle.std.specs.Int.{bit_at}
use Rattle.std.specs.List.{All, list_any}
use Rattle.std.specs.Option.{option_map}
use Rattle.basics.specs.Numbers.{at_most_from_test}
use Rattle.avr_model.proofs.AllLaws.{devices_are_alike, nothing_is_behind, places_are_apart}
use Rattle.avr_model.specs.declared.device.Device.{Device}
use Rattle.avr_model.specs.declared.rows.EnablePlace.{EnablePlace}
use Rattle.avr_model.specs.Bits.{with_bit}
use Rattle.avr_model.specs.Devices.{guarded_end, io_end}
use Rattle.avr_model.specs.Sreg.{flag}
use Rattle.avr_model.specs.State.{State, register_at, special, read_behind, read}
use Rattle.avr_model.specs.Step.{enables_taken}
use Rattle.avr_model.specs.Vectors.{last_vector, enable_count, enable_places, covers, is_bit, is_vector, is_core, is_enabled, held_of, has_enables, written_enables, io_bit, io_byte, kept_byte}
use Rattle.vector_table.proofs.AllLaws.{enables_are_vectors, numbers_are_their_bits}
use Rattle.bit_domain.specs.Tri.{Permits, tri_bit}
use Rattle.bit_domain.proofs.AllLaws.{permits-tri_bit}
use Rattle.abs_state.specs.declared.values.AbsByte.{AbsByte}
use Rattle.abs_state.specs.declared.state.AbsState.{AbsState}
use Rattle.node_keys.specs.declared.keys.NodeKey.{NodeKey}
use Rattle.node_keys.specs.Place.{EnablesAre}
use Rattle.node_keys.specs.Wakes.{without}
use Rattle.node_keys.proofs.AllLaws.{enables_stay_among}
use Rattle.local_rules.specs.Reads.{loosened, enable_read}
use Rattle.local_rules.specs.Writes.{masks_written, special_written, written_behind, written_at}
use Rattle.local_laws.proofs.Specials.{outside_core, byte_is}
use Rattle.local_laws.proofs.Machine.{io_value, free_bit, free_small}
use Rattle.local_rules.specs.Writes.{write_at}

-- ---- what a key says

pub same_enables : (may : Bool) (new old masks : ℕ) → new ≡ old → EnablesAre may old masks → EnablesAre may new masks
same_enables may new old masks e h = subst (λ x. EnablesAre may x masks) (sym e) h

-- equal enable bits are among each other
pub same_among : (may : Bool) (enables masks : ℕ) → enables ≡ masks → EnablesAre may enables masks
same_among false enables masks e = e
same_among true enables masks e = λ k lt. omega (arith, ap (λ x. bit_at x k) e)

pub enabled_too : (may : Bool) (device : Device) (enables masks v : ℕ) → EnablesAre may enables masks → is_enabled device enables v ≡ true → is_enabled device masks v ≡ true
enabled_too false device enables masks v h on = ap (λ x. is_enabled device x v) (sym h) ∙ on
enabled_too true device enables masks v h on = enables_stay_among.enabled device enables masks v h on

-- an interrupt is taken with both enable bits
pub taken_both : (may : Bool) (device : Device) (enables masks : ℕ) (clears : Bool) → EnablesAre may enables masks
    → EnablesAre may (enables_taken device enables clears) (enables_taken device masks clears)
taken_both false device enables masks clears h = ap (λ x. enables_taken device x clears) h
taken_both true device enables masks clears h = enables_stay_among.taken device enables masks clears h

-- one byte is written to both
pub written_both : (may : Bool) (device : Device) (enables masks a byte : ℕ) → EnablesAre may enables masks
    → EnablesAre may (written_enables device enables a byte) (written_enables device masks a byte)
written_both false device enables masks a byte h = ap (λ x. written_enables device x a byte) h
written_both true device enables masks a byte h = enables_stay_among.written device enables masks a byte h

-- one bit is written to a byte of the machine, and to the byte of the key's set
pub bit_both : (may : Bool) (device : Device) (enables masks a b : ℕ) (on : Bool) → EnablesAre may enables masks
    → EnablesAre may (written_enables device enables a (with_bit (kept_byte device enables a) b on)) (written_enables device masks a (with_bit (kept_byte device masks a) b on))
bit_both false device enables masks a b on h = ap (λ x. written_enables device x a (with_bit (kept_byte device x a) b on)) h
bit_both true device enables masks a b on h = enables_stay_among.bit_changed device enables masks a b on h

-- ---- a bit that is read

loosened_permits : (known bit : ℕ) → known < 2 → bit ≤ known → Permits (loosened (tri_bit known)) bit
loosened_permits zero bit small le = omega (arith, le)
loosened_permits (suc zero) bit small le = tt
loosened_permits (suc (suc n)) bit small le = absurd (omega (arith, small))

pub bit_permits : (may : Bool) (enables masks k : ℕ) → k < 128 → EnablesAre may enables masks → Permits (enable_read may (bit_at masks k)) (bit_at enables k)
bit_permits false enables masks k lt h = subst (λ x. Permits (tri_bit (bit_at x k)) (bit_at enables k)) h (permits-tri_bit (bit_at enables k) (bit_at-lt enables k))
bit_permits true enables masks k lt h = loosened_permits (bit_at masks k) (bit_at enables k) (bit_at-lt masks k) (h k lt)

-- a vector's enable bit is one of 128
pub vector_small : (device : Device) (v : ℕ) → is_vector device v ≡ true → v - 2 < 128
vector_small device v h =
    let le : v ≤ last_vector device = at_most_from_test v (last_vector device) (and_parts (nat_le 2 v) (nat_le v (last_vector device)) h).1 in
    omega (arith, le, devices_are_alike.most_vectors device)

-- ---- the addresses of enable bits

-- the address is no register, not the stack pointer, not the status register, and not in SRAM
abbrev pub IsIo : Device → ℕ → Type 0
IsIo device a = (register_at device a ≡ None) × ((special device a ≡ None) × (nat_le a (io_end device) ≡ true))

-- a place is guarded, at no core address, and its mask is a byte
abbrev IsInIo : Device → EnablePlace → Type 0
IsInIo device p = (is_vector device p.vector ≡ true) × ((is_core device p.address ≡ false) × ((p.address ≤ guarded_end device) × (p.mask < 256)))

-- no place of the list is at a core address, or behind the guarded ones
places_in : (device : Device) (ps : List EnablePlace) (a : ℕ) → All (IsInIo device) ps → list_any (λ (p : EnablePlace). p.address == a) ps ≡ true → (is_core device a ≡ false) × (a ≤ guarded_end device)
places_in device [] a all h = absurd (cc)
places_in device (p ∷ ps) a all h = by (p.address == a) refl (places_in device ps a (All-tail (IsInIo device) p ps all)) h
  where
    by : (b : Bool) → (p.address == a) ≡ b → (list_any (λ (q : EnablePlace). q.address == a) ps ≡ true → (is_core device a ≡ false) × (a ≤ guarded_end device))
        → (b || list_any (λ (q : EnablePlace). q.address == a) ps) ≡ true → (is_core device a ≡ false) × (a ≤ guarded_end device)
    by true e rest found =
        let is : p.address ≡ a = eqb-true p.address a e in
        let here = All-head (IsInIo device) p ps all in
        subst (λ (x : ℕ). (is_core device x ≡ false) × (x ≤ guarded_end device)) is (here.1.0, here.1.1.0)
    by false e rest found = rest found

pub held_in_io : (device : Device) (a : ℕ) → has_enables device a ≡ true → IsIo device a
unfolding has_enables
held_in_io device a h =
    let here = places_in device (enable_places device) a (places_are_apart.each device) h in
    let outside = outside_core device a here.0 in
    let inside : nat_le a (io_end device) ≡ true = grind (arith, nat_tests, here.1, devices_are_alike.guarded_in device) in
    (outside.0, (outside.1, inside))

pub none_above : (device : Device) (a : ℕ) → io_end device < a → has_enables device a ≡ false
none_above device a lt = nothing_is_behind.enables device a (omega (arith, lt, devices_are_alike.guarded_in device))

first_by : {A : Type 0} (b : Bool) (x y : A) → b ≡ true → (if b then x else y) ≡ x
first_by true x y e = refl
first_by false x y e = absurd (cc)

-- a read of such an address gives the byte of I/O
pub io_read : (still : Bool) (m : State) (a input : ℕ) → IsIo m.device a → read still m a input ≡ io_byte m.device still m.enables a input
unfolding read
io_read still m a input h =
    ap (read_behind still m a input) h.0 ∙ byte_is still m a input None h.1.0 ∙ first_by (nat_le a (io_end m.device)) _ _ h.1.1

-- a write of such an address goes to the enable bits
pub io_written : (device : Device) (pc : ℕ) (k : NodeKey) (s : AbsState) (is_out : Bool) (a : ℕ) (v : AbsByte) → IsIo device a
    → written_at (write_at device pc k s v) is_out a ≡ masks_written device k s a v
unfolding written_at
io_written device pc k s is_out a v h =
    ap (written_behind (write_at device pc k s v) is_out a) h.0 ∙ ap (special_written (write_at device pc k s v) is_out a) h.1.0

held_bit : (device : Device) (still : Bool) (enables a b v input : ℕ) → b < 8 → held_of device a b ≡ Some v → bit_at (io_byte device still enables a input) b ≡ bit_at enables (v - 2)
unfolding io_byte
held_bit device still enables a b v input lt e =
    numbers_are_their_bits.bits 8 (λ j. io_bit (held_of device a j) enables (free_bit device still a input j))
    (λ j h. io_value (held_of device a j) enables (free_bit device still a input j) (free_small device still a input j)) b lt
    ∙ ap (λ x. io_bit x enables (free_bit device still a input b)) e

no_one : (bit : ℕ) → bit < 2 → (bit == 1) ≡ false → bit ≡ 0
no_one bit small e = grind (arith, nat_tests)

-- an address with a held bit has enable bits
some_held : (device : Device) (a b v : ℕ) → held_of device a b ≡ Some v → has_enables device a ≡ true
some_held device a b v e = by (has_enables device a) refl
  where
    by : (x : Bool) → has_enables device a ≡ x → x ≡ true
    by true is = refl
    by false is = absurd (let none = sym (enables_are_vectors.no_held device a b is) ∙ e in cc)

-- a held bit is one of eight
held_small : (device : Device) (ps : List EnablePlace) (a b v : ℕ) → All (IsInIo device) ps
    → option_map (λ (p : EnablePlace). p.vector) (find (λ (p : EnablePlace). covers a b p && is_bit p.enable) ps) ≡ Some v → b < 8
held_small device [] a b v all e = absurd (cc)
held_small device (p ∷ ps) a b v all e = by (covers a b p && is_bit p.enable) refl (held_small device ps a b v (All-tail (IsInIo device) p ps all)) e
  where
    by : (c : Bool) → (covers a b p && is_bit p.enable) ≡ c
        → (option_map (λ (q : EnablePlace). q.vector) (find (λ (q : EnablePlace). covers a b q && is_bit q.enable) ps) ≡ Some v → b < 8)
        → option_map (λ (q : EnablePlace). q.vector) (if c then Some p else find (λ (q : EnablePlace). covers a b q && is_bit q.enable) ps) ≡ Some v → b < 8
    by true is rest found =
        let bit = (and_parts (p.address == a) (bit_at p.mask b == 1) (and_parts (covers a b p) (is_bit p.enable) is).0).1 in
        ⊎_elim (λ lt. lt)
        (λ over. absurd (let none = numbers_are_their_bits.above 8 p.mask b (All-head (IsInIo device) p ps all).1.1.1 over in omega (arith, eqb-true (bit_at p.mask b) 1 bit, none)))
        (cases_lt b 8)
    by false is rest found = rest found

held_at : (device : Device) (a b v : ℕ) → held_of device a b ≡ Some v → b < 8
unfolding held_of
held_at device a b v e = held_small device (enable_places device) a b v (places_are_apart.each device) e

-- an enable bit that reads 0 is clear
zero_held : (still : Bool) (m : State) (a b v input : ℕ) → held_of m.device a b ≡ Some v → flag (read still m a input) b ≡ false → bit_at m.enables (v - 2) ≡ 0
zero_held still m a b v input e off =
    no_one (bit_at m.enables (v - 2)) (bit_at-lt m.enables (v - 2))
    (ap (λ x. x == 1) (sym (ap (λ x. bit_at x b) (io_read still m a input (held_in_io m.device a (some_held m.device a b v e))) ∙ held_bit m.device still m.enables a b v input (held_at m.device a b v e) e)) ∙ off)

-- so the key may drop it
pub zero_read : (may : Bool) (m : State) (masks a b input : ℕ) → masks < 2 ^ enable_count m.device → EnablesAre may m.enables masks → flag (read may m a input) b ≡ false
    → EnablesAre may m.enables (without m.device may (held_of m.device a b) masks)
zero_read false m masks a b input small h off = h
zero_read true m masks a b input small h off = by (held_of m.device a b) refl
  where
    by : (v : Option ℕ) → held_of m.device a b ≡ v → EnablesAre true m.enables (without m.device true v masks)
    by None e = h
    by (Some v) e = enables_stay_among.reads_zero m.device m.enables masks a b v small h e (zero_held true m a b v input e off)
