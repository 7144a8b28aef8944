-- What is enabled stays among what may be enabled.
use Rattle.std.proofs.Common.{◌≡◌, ◌∙◌, sym, ap, refl, inl, inr, ℕ, ◌+◌, ◌-◌, ◌^◌, ◌<◌, ◌≤◌, ◌==◌, arith, Bool, true, false, cond, eqb, eq-eqb, ne_eqb, eqb-true, not, ◌&&◌, ◌||◌, List, [], ◌∷◌, Option, Some, None}
use Rattle.std.specs.Int.{bit_at, from_bool}
use Rattle.std.specs.List.{list_any}
use Rattle.std.proofs.lemmas.Bool.{cases_Bool, cases_eq, cases_lt, and_parts, and_from}
use Rattle.std.proofs.lemmas.Nat.Bits.{bit_at-lt}
use Rattle.avr_model.specs.declared.device.Device.{Device}
use Rattle.avr_model.specs.declared.rows.EnablePlace.{EnablePlace}
use Rattle.avr_model.specs.declared.assumption.Entry.{Entry}
use Rattle.avr_model.specs.Bits.{with_bit}
use Rattle.avr_model.specs.Masks.{is_barred, enables_barred}
use Rattle.avr_model.specs.Step.{enables_taken}
use Rattle.avr_model.specs.Vectors.{enable_count, watchdog, is_vector, is_open_vector, is_sticky, has_common, has_enable_place, enable_places, enable_place_at, enable_of, held_of, is_enabled, with_enable, written_enable, written_enables, io_bit, kept_byte}
use Rattle.bit_domain.specs.declared.bytes.TriByte.{TriByte}
use Rattle.bit_domain.specs.TriByte.{Has, IsWithin}
use Rattle.vector_table.proofs.AllLaws.{numbers_are_their_bits, enables_are_vectors, among_from, among_at, none_there, vector_room, count_small}
use Rattle.node_keys.specs.Laws.{EnablesStayAmong}
use Rattle.node_keys.specs.Place.{AreAmong}
use Rattle.node_keys.specs.Wakes.{may_have, may_enable, may_enable_barred, may_enable_other, may_wake, widened}
use Rattle.node_keys.proofs.Commons.{more_common, may_have_member, may_have_more}
use Rattle.node_keys.proofs.Woken.{turned_bit, widened_bit, widened_small}

-- ---- bits

-- bits from the device's count on are 0
within_count : (d : Device) (x y : ℕ) → x < 2 ^ enable_count d → ((k : ℕ) → k < enable_count d → bit_at x k ≤ bit_at y k) → AreAmong x y
within_count d x y small each k lt = elim (cases_lt k (enable_count d)) [
  | inl below ↦ each k below
  | inr above ↦ let none = numbers_are_their_bits.above (enable_count d) x k small above in omega arith
]

counted : (d : Device) (k : ℕ) → k < enable_count d → k < 128
counted d k lt = let few = count_small d in omega arith

more_enabled : (a b c x y : Bool) → (x ≡ true → y ≡ true) → (a && (b || (c && x))) ≡ true → (a && (b || (c && y))) ≡ true
more_enabled true true c x y more e = refl
more_enabled true false true x y more e = more e
more_enabled true false false x y more e = absurd (cc)
more_enabled false b c x y more e = absurd (cc)

enabled : (d : Device) (enables masks v : ℕ) → AreAmong enables masks → is_enabled d enables v ≡ true → is_enabled d masks v ≡ true
unfolding is_enabled
enabled d enables masks v among e =
    let inside = and_parts (is_vector d v) (is_open_vector d v || (has_enable_place d v && (bit_at enables (v - 2) == 1))) e in
    let le = among (v - 2) (vector_room d v inside.0).1.1.1 in
    let small = bit_at-lt masks (v - 2) in
    more_enabled (is_vector d v) (is_open_vector d v) (has_enable_place d v) (bit_at enables (v - 2) == 1) (bit_at masks (v - 2) == 1)
    (λ one. let on = eqb-true (bit_at enables (v - 2)) 1 one in eq-eqb (bit_at masks (v - 2)) 1 (omega arith)) e

both_chosen : (c : Bool) (x y z : ℕ) → y ≤ z → cond c x y ≤ cond c x z
both_chosen true x y z le = omega arith
both_chosen false x y z le = le

turned : (d : Device) (enables masks v : ℕ) (on : Bool) → AreAmong enables masks → AreAmong (with_enable d enables v on) (with_enable d masks v on)
turned d enables masks v on among =
    within_count d (with_enable d enables v on) (with_enable d masks v on) (enables_are_vectors.turned d enables v on)
    (λ k lt.
    let left = turned_bit d enables v on k lt in
    let right = turned_bit d masks v on k lt in
    let le = both_chosen (eqb (k + 2) v) (from_bool on) (bit_at enables k) (bit_at masks k) (among k (counted d k lt)) in
    omega arith)

taken : (d : Device) (enables masks : ℕ) (clears : Bool) → AreAmong enables masks → AreAmong (enables_taken d enables clears) (enables_taken d masks clears)
taken d enables masks true among = turned d enables masks (watchdog d) false among
taken d enables masks false among = among

-- ---- written bits

less_one : (b : Bool) (x : ℕ) → (b ≡ true → x ≡ 1) → from_bool b ≤ x
less_one true x h = let one = h refl in omega arith
less_one false x h = omega arith

bool_le : (a b : Bool) → (a ≡ true → b ≡ true) → from_bool a ≤ from_bool b
bool_le a b h = less_one a (from_bool b) (λ e. ap from_bool (h e))

or_more : (a b c d : Bool) → (a ≡ true → b ≡ true) → (c ≡ true → d ≡ true) → (a || c) ≡ true → (b || d) ≡ true
or_more true b c d f g e = (λ i. f refl i || d)
or_more false true c d f g e = refl
or_more false false c d f g e = g e

both_written : (o : Option EnablePlace) (a b old other : ℕ) → ((j : ℕ) → j < 8 → bit_at a j ≤ bit_at b j) → old ≤ other → other < 2
    → written_enable o a old ≤ written_enable o b other
both_written None a b old other bits le small = le
both_written (Some p) a b old other bits le small =
    bool_le (has_common a p.mask || (is_sticky p.enable && (old == 1))) (has_common b p.mask || (is_sticky p.enable && (other == 1)))
    (or_more (has_common a p.mask) (has_common b p.mask) (is_sticky p.enable && (old == 1)) (is_sticky p.enable && (other == 1)) (more_common a b p.mask bits)
    (λ e.
    let parts = and_parts (is_sticky p.enable) (old == 1) e in
    let one = eqb-true old 1 parts.1 in
    and_from (is_sticky p.enable) (other == 1) parts.0 (eq-eqb other 1 (omega arith))))

written_among : (d : Device) (enables masks address a b : ℕ) → ((j : ℕ) → j < 8 → bit_at a j ≤ bit_at b j) → AreAmong enables masks
    → AreAmong (written_enables d enables address a) (written_enables d masks address b)
written_among d enables masks address a b bits among =
    within_count d (written_enables d enables address a) (written_enables d masks address b) (enables_are_vectors.written d enables address a)
    (λ k lt.
    let left = enables_are_vectors.bit_written d enables address a k lt in
    let right = enables_are_vectors.bit_written d masks address b k lt in
    let le = both_written (enable_place_at d (k + 2) address) a b (bit_at enables k) (bit_at masks k) bits (among k (counted d k lt)) (bit_at-lt masks k) in
    omega arith)

written : (d : Device) (enables masks address byte : ℕ) → AreAmong enables masks → AreAmong (written_enables d enables address byte) (written_enables d masks address byte)
written d enables masks address byte among = written_among d enables masks address byte byte (λ j lt. omega arith) among

-- one bit of an I/O address is changed
io_small : (o : Option ℕ) (enables : ℕ) → io_bit o enables 0 < 2
io_small None enables = omega arith
io_small (Some v) enables = bit_at-lt enables (v - 2)

kept_bit : (d : Device) (enables address j : ℕ) → j < 8 → bit_at (kept_byte d enables address) j ≡ io_bit (enable_of d address j) enables 0
unfolding kept_byte
kept_bit d enables address j lt = numbers_are_their_bits.bits 8 (λ b. io_bit (enable_of d address b) enables 0) (λ b below. io_small (enable_of d address b) enables) j lt

bool_small : (b : Bool) → from_bool b < 2
bool_small true = omega arith
bool_small false = omega arith

chosen_small : (c : Bool) (x y : ℕ) → x < 2 → y < 2 → cond c x y < 2
chosen_small true x y h g = h
chosen_small false x y h g = g

changed_bit : (byte bit : ℕ) (on : Bool) (j : ℕ) → j < 8 → bit_at (with_bit byte bit on) j ≡ cond (eqb j bit) (from_bool on) (bit_at byte j)
changed_bit byte bit on j lt =
    numbers_are_their_bits.bits 8 (λ k. cond (eqb k bit) (from_bool on) (bit_at byte k))
    (λ k below. chosen_small (eqb k bit) (from_bool on) (bit_at byte k) (bool_small on) (bit_at-lt byte k)) j lt

io_among : (d : Device) (enables masks address j : ℕ) → AreAmong enables masks → (o : Option ℕ) → enable_of d address j ≡ o → io_bit o enables 0 ≤ io_bit o masks 0
io_among d enables masks address j among None e = omega arith
io_among d enables masks address j among (Some v) e = among (v - 2) (vector_room d v (enables_are_vectors.vector d address j v e)).1.1.1

bit_changed : (d : Device) (enables masks address bit : ℕ) (on : Bool) → AreAmong enables masks
    → AreAmong (written_enables d enables address (with_bit (kept_byte d enables address) bit on)) (written_enables d masks address (with_bit (kept_byte d masks address) bit on))
bit_changed d enables masks address bit on among =
    written_among d enables masks address (with_bit (kept_byte d enables address) bit on) (with_bit (kept_byte d masks address) bit on)
    (λ j lt.
    let left = changed_bit (kept_byte d enables address) bit on j lt in
    let right = changed_bit (kept_byte d masks address) bit on j lt in
    let one = kept_bit d enables address j lt in
    let two = kept_bit d masks address j lt in
    let io = io_among d enables masks address j among (enable_of d address j) refl in
    let le = both_chosen (eqb j bit) (from_bool on) (bit_at (kept_byte d enables address) j) (bit_at (kept_byte d masks address) j) (omega arith) in
    omega arith)
    among

-- ---- a bit reads 0

reads_zero : (d : Device) (enables masks address bit v : ℕ) → masks < 2 ^ enable_count d → AreAmong enables masks → held_of d address bit ≡ Some v → bit_at enables (v - 2) ≡ 0
    → AreAmong enables (with_enable d masks v false)
reads_zero d enables masks address bit v small among is none k lt = elim (cases_lt k (enable_count d)) [
  | inl below ↦
      let right = turned_bit d masks v false k below in
      elim (cases_eq (k + 2) v) [
        | inl same ↦
            let place : k ≡ v - 2 = omega arith in
            let off : bit_at enables k ≡ 0 = ap (bit_at enables) place ∙ none in
            omega arith
        | inr other ↦
            let kept : cond (eqb (k + 2) v) 0 (bit_at masks k) ≡ bit_at masks k = (λ i. cond (ne_eqb (k + 2) v other i) 0 (bit_at masks k)) in
            let le = among k lt in
            omega arith
      ]
  | inr above ↦
      let le = among k lt in
      let off = numbers_are_their_bits.above (enable_count d) masks k small above in
      omega arith
]

-- ---- bits that are widened

wide_most : (c : Bool) (x : ℕ) → x < 2 → x ≤ cond c 1 x
wide_most true x lt = omega arith
wide_most false x lt = omega arith

wider_bit : (d : Device) (A : List Entry) (masks k : ℕ) → k < enable_count d → bit_at masks k ≤ bit_at (widened d A masks) k
wider_bit d A masks k lt =
    let is = widened_bit d A masks k lt in
    let le = wide_most (may_wake d A (k + 2)) (bit_at masks k) (bit_at-lt masks k) in
    omega arith

wider : (d : Device) (A : List Entry) (masks : ℕ) → masks < 2 ^ enable_count d → AreAmong masks (widened d A masks)
wider d A masks small = within_count d masks (widened d A masks) small (wider_bit d A masks)

-- ---- a byte through a pointer

any_more : {X : Type 0} (p q : X → Bool) (xs : List X) → ((x : X) → p x ≡ true → q x ≡ true) → list_any p xs ≡ true → list_any q xs ≡ true
any_more p q [] more e = e
any_more p q (x ∷ xs) more e = or_more (p x) (q x) (list_any p xs) (list_any q xs) (more x) (any_more p q xs more) e

three_fail : (a b c : Bool) → (a && b && c) ≡ false → a ≡ true → c ≡ true → b ≡ false
three_fail a b c none h g = grind arith

zero_if_barred : (d : Device) (A : List Entry) (address byte v : ℕ) (p : EnablePlace) → enables_barred d A address byte ≡ false → enable_place_at d v address ≡ Some p
    → is_barred d A v ≡ true → has_common byte p.mask ≡ false
unfolding enables_barred
zero_if_barred d A address byte v p none is barred =
    let f = enables_are_vectors.found d v address p is in
    let test = none_there (λ (p : EnablePlace). (p.address == address) && has_common byte p.mask && is_barred d A p.vector) (enable_places d) p none f.0 in
    three_fail (p.address == address) (has_common byte p.mask) (is_barred d A p.vector) test (eq-eqb p.address address f.1.1) (ap (is_barred d A) f.1.0 ∙ barred)

off_if : (a b : Bool) → (a ≡ true → b ≡ true) → b ≡ false → a ≡ false
off_if true b h e = sym (h refl) ∙ e
off_if false b h e = refl

zero_if_other : (d : Device) (A : List Entry) (reaches : ℕ → Bool) (value : TriByte) (address byte v : ℕ) (p : EnablePlace)
    → may_enable_other d A reaches value ≡ false → reaches address ≡ true → Has value byte → enable_place_at d v address ≡ Some p
    → is_barred d A v ≡ false → has_common byte p.mask ≡ false
unfolding may_enable_other
zero_if_other d A reaches value address byte v p none reached has is free =
    let f = enables_are_vectors.found d v address p is in
    let test = none_there (λ (p : EnablePlace). reaches p.address && may_enable value p && not (is_barred d A p.vector)) (enable_places d) p none f.0 in
    off_if (has_common byte p.mask) (may_have value p.mask) (may_have_member value p.mask byte has)
    (three_fail (reaches p.address) (may_enable value p) (not (is_barred d A p.vector)) test (ap reaches f.1.1 ∙ reached) (ap not (ap (is_barred d A) f.1.0 ∙ free)))

-- an enable bit after the write, by its value if the byte enables it
write_below : (o : Option EnablePlace) (byte old most : ℕ) → old ≤ most → ((p : EnablePlace) → o ≡ Some p → has_common byte p.mask ≡ true → most ≡ 1) → most < 2
    → written_enable o byte old ≤ most
write_below None byte old most le here small = le
write_below (Some p) byte old most le here small =
    less_one (has_common byte p.mask || (is_sticky p.enable && (old == 1))) most
    (by (has_common byte p.mask) refl)
  where
    by : (b : Bool) → has_common byte p.mask ≡ b → (has_common byte p.mask || (is_sticky p.enable && (old == 1))) ≡ true → most ≡ 1
    by true is e = here p refl is
    by false is e =
        let rest : (is_sticky p.enable && (old == 1)) ≡ true = (λ i. sym is i || (is_sticky p.enable && (old == 1))) ∙ e in
        let one = eqb-true old 1 (and_parts (is_sticky p.enable) (old == 1) rest).1 in
        omega arith

never_both : (b : Bool) → b ≡ true → b ≡ false → ⊥
never_both true h e = absurd (cc)
never_both false h e = absurd (cc)

woken : (d : Device) (A : List Entry) (enables masks address byte : ℕ) → AreAmong enables masks → enables_barred d A address byte ≡ false
    → AreAmong (written_enables d enables address byte) (widened d A masks)
woken d A enables masks address byte among none =
    within_count d (written_enables d enables address byte) (widened d A masks) (enables_are_vectors.written d enables address byte)
    (λ k lt.
    let left = enables_are_vectors.bit_written d enables address byte k lt in
    let most = widened_bit d A masks k lt in
    let old = among k (counted d k lt) in
    let more = wider_bit d A masks k lt in
    let le = write_below (enable_place_at d (k + 2) address) byte (bit_at enables k) (bit_at (widened d A masks) k) (omega arith)
    (λ p is on.
    elim (cases_Bool (is_barred d A (k + 2))) [
      | inl barred ↦ absurd (never_both (has_common byte p.mask) on (zero_if_barred d A address byte (k + 2) p none is barred))
      | inr free ↦ most ∙ (λ i. cond (and_from (has_enable_place d (k + 2)) (not (is_barred d A (k + 2))) (enables_are_vectors.placed d (k + 2) address p is) (ap not free) i) 1 (bit_at masks k))
    ])
    (bit_at-lt (widened d A masks) k) in
    omega arith)

asleep : (d : Device) (A : List Entry) (reaches : ℕ → Bool) (value : TriByte) (enables masks address byte : ℕ) → AreAmong enables masks
    → enables_barred d A address byte ≡ false → may_enable_other d A reaches value ≡ false → reaches address ≡ true → Has value byte
    → AreAmong (written_enables d enables address byte) masks
asleep d A reaches value enables masks address byte among none others reached has =
    within_count d (written_enables d enables address byte) masks (enables_are_vectors.written d enables address byte)
    (λ k lt.
    let left = enables_are_vectors.bit_written d enables address byte k lt in
    let le = write_below (enable_place_at d (k + 2) address) byte (bit_at enables k) (bit_at masks k) (among k (counted d k lt))
    (λ p is on.
    elim (cases_Bool (is_barred d A (k + 2))) [
      | inl barred ↦ absurd (never_both (has_common byte p.mask) on (zero_if_barred d A address byte (k + 2) p none is barred))
      | inr free ↦ absurd (never_both (has_common byte p.mask) on (zero_if_other d A reaches value address byte (k + 2) p others reached has is free))
    ])
    (bit_at-lt masks k) in
    omega arith)

three_more : (a b b' c : Bool) → (b ≡ true → b' ≡ true) → (a && b && c) ≡ true → (a && b' && c) ≡ true
three_more a b b' c more e =
    let outer = and_parts (a && b) c e in
    let inner = and_parts a b outer.0 in
    and_from (a && b') c (and_from a b' inner.0 (more inner.1)) outer.1

barred : (d : Device) (A : List Entry) (value : TriByte) (address byte : ℕ) → Has value byte → enables_barred d A address byte ≡ true
    → may_enable_barred d A address value ≡ true
unfolding enables_barred may_enable_barred
barred d A value address byte has =
    any_more (λ (p : EnablePlace). (p.address == address) && has_common byte p.mask && is_barred d A p.vector)
    (λ (p : EnablePlace). (p.address == address) && may_enable value p && is_barred d A p.vector) (enable_places d)
    (λ p. three_more (p.address == address) (has_common byte p.mask) (may_enable value p) (is_barred d A p.vector) (may_have_member value p.mask byte has))

other : (d : Device) (A : List Entry) (p q : ℕ → Bool) (t u : TriByte) → ((a : ℕ) → p a ≡ true → q a ≡ true) → IsWithin t u
    → may_enable_other d A p t ≡ true → may_enable_other d A q u ≡ true
unfolding may_enable_other
other d A p q t u more within =
    any_more (λ (r : EnablePlace). p r.address && may_enable t r && not (is_barred d A r.vector)) (λ (r : EnablePlace). q r.address && may_enable u r && not (is_barred d A r.vector)) (enable_places d)
    (λ r e.
    let outer = and_parts (p r.address && may_enable t r) (not (is_barred d A r.vector)) e in
    let inner = and_parts (p r.address) (may_enable t r) outer.0 in
    and_from (q r.address && may_enable u r) (not (is_barred d A r.vector))
    (and_from (q r.address) (may_enable u r) (more r.address inner.0) (may_have_more t u r.mask within inner.1)) outer.1)

-- ---- the laws

pub enables_stay_among : EnablesStayAmong
enables_stay_among = record {
  tested = λ enables masks. (λ each k lt. among_at enables masks k each lt, among_from enables masks);
  enabled = enabled;
  taken = taken;
  written = written;
  bit_changed = bit_changed;
  reads_zero = reads_zero;
  wider = wider;
  wide = widened_small;
  woken = woken;
  asleep = asleep;
  barred = barred;
  other = other;
}
