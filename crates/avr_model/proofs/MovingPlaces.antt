-- Bits that move vectors are apart from the core, from what `sbi` and `cbi` reach, and from all enable bits.
use Rattle.std.proofs.Common.{◌≡◌, ◌∙◌, ◌+◌, ◌/◌, ◌%◌, ◌^◌, ◌<◌, ◌≤◌, refl, subst, ap, ap₂, ℕ, zero, suc, Bool, true, false, ◌==◌, ◌&&◌, ◌||◌, not, nat_le, nat_lt, List, [], ◌∷◌, Option, Some, None, inl, inr, arith}
use Rattle.std.specs.Prelude.{slice_index_or}
use Rattle.std.specs.Int.{bit_at}
use Rattle.std.specs.List.{list_all, list_any, find}
use Rattle.std.specs.Option.{option_map}
use Rattle.std.proofs.lemmas.Bool.{and_parts, or_parts, cases_lt}
use Rattle.std.proofs.lemmas.Bool.Decides.{nat_tests}
use Rattle.std.proofs.Math.Nat.{pow-le-pow_right, div-eq_of_lt}
use Rattle.basics.specs.Numbers.{less_from_test, at_most_from_test}
use Rattle.avr_model.specs.declared.device.Device.{Device}
use Rattle.avr_model.specs.declared.rows.MovingPlace.{MovingPlace}
use Rattle.avr_model.specs.declared.rows.EnablePlace.{EnablePlace}
use Rattle.avr_model.specs.Bits.{any_below}
use Rattle.avr_model.specs.Families.{family_of}
use Rattle.avr_model.specs.Devices.{device_row, io_base, guarded_end}
use Rattle.avr_model.specs.Vectors.{enable_places, covers, has_common, is_core, is_bit_of, is_moving, sets_bit_of, sets_moving, enable_of, moving_of}
use Rattle.avr_model.specs.Laws.{MovingIsApart}
use Rattle.avr_model.proofs.Below.{some_below, any_found}
use Rattle.avr_model.proofs.Facts.{is_apart, passes}

none_found : {X : Type 0} (p : X → Bool) (xs : List X) → list_any p xs ≡ false → find p xs ≡ None
none_found p [] h = refl
none_found p (x ∷ xs) h = by (p x) refl (none_found p xs)
  where
    by : (b : Bool) → p x ≡ b → (list_any p xs ≡ false → find p xs ≡ None) → find p (x ∷ xs) ≡ None
    by true is rest = absurd (cc)
    by false is rest = let none : list_any p xs ≡ false = cc in let found = rest none in cc

-- what is tested of a row, of a bit of a place that moves vectors
pub record Apart (d : Device) (a b : ℕ) : Type 0 where
  pub least : nat_le (io_base d + 0x20) a ≡ true
  pub most : nat_le a (guarded_end d) ≡ true
  pub core : is_core d a ≡ false
  pub bit : b < 8
  pub enable : list_any (covers a b) (enable_places d) ≡ false

not_true : (t : Bool) → not t ≡ true → t ≡ false
not_true true e = absurd (cc)
not_true false e = refl

same : (x y : ℕ) → (x == y) ≡ true → x ≡ y
same x y e = grind (arith, nat_tests)

-- a byte has no bits from 8 on
below_8 : (n b : ℕ) → n < 256 → (bit_at n b == 1) ≡ true → b < 8
below_8 n b small is = elim (cases_lt b 8) [
  | inl lt ↦ lt
  | inr far ↦
      let large : 2 ^ 8 ≤ 2 ^ b = pow-le-pow_right (omega arith) far in
      let none : n / 2 ^ b ≡ 0 = div-eq_of_lt (omega arith) in
      let zero : bit_at n b ≡ 0 = ap (λ (q : ℕ). q % 2) none in
      absurd (let one = same (bit_at n b) 1 is in omega arith)
]

both : (x y : Bool) → x ≡ true → y ≡ true → (x && y) ≡ true
both x y h g = grind arith

-- the bit is in no place that has none of the mask's bits
not_covered : (a b mask : ℕ) → b < 8 → (bit_at mask b == 1) ≡ true → (p : EnablePlace) → ((p.address == a) && has_common p.mask mask) ≡ false → covers a b p ≡ false
unfolding has_common
not_covered a b mask lt is p none = by (covers a b p) refl
  where
    by : (t : Bool) → covers a b p ≡ t → t ≡ false
    by false e = refl
    by true e =
        let parts = and_parts (p.address == a) (bit_at p.mask b == 1) e in
        let common : has_common p.mask mask ≡ true = some_below 8 (λ k. (bit_at p.mask k == 1) && (bit_at mask k == 1)) b lt (both _ _ parts.1 is) in
        let there = both (p.address == a) (has_common p.mask mask) parts.0 common in
        absurd (cc)

none_cover : (a b mask : ℕ) → b < 8 → (bit_at mask b == 1) ≡ true → (ps : List EnablePlace) → list_any (λ (p : EnablePlace). (p.address == a) && has_common p.mask mask) ps ≡ false
    → list_any (covers a b) ps ≡ false
none_cover a b mask lt is [] none = refl
none_cover a b mask lt is (p ∷ ps) none =
    let parts = or_parts ((p.address == a) && has_common p.mask mask) (list_any (λ (p : EnablePlace). (p.address == a) && has_common p.mask mask) ps) none in
    ap₂ (λ (x y : Bool). x || y) (not_covered a b mask lt is p parts.0) (none_cover a b mask lt is ps parts.1)

apart_at : (d : Device) (s : MovingPlace) (b : ℕ) → is_apart (device_row d) (Some s) ≡ true → (bit_at s.mask b == 1) ≡ true → Apart d s.address b
unfolding enable_places
apart_at d s b h is =
    let enables = not (list_any (λ (p : EnablePlace). (p.address == s.address) && has_common p.mask s.mask) (family_of (device_row d).family)) in
    let one = and_parts (nat_le (io_base d + 0x20) s.address) _ h in
    let two = and_parts (nat_le s.address (guarded_end d)) _ one.1 in
    let three = and_parts (not (is_core d s.address)) (nat_lt s.mask 256 && enables) two.1 in
    let four = and_parts (nat_lt s.mask 256) enables three.1 in
    let bit = below_8 s.mask b (less_from_test s.mask 256 four.0) is in
    record {
      least = one.0;
      most = two.0;
      core = not_true _ three.0;
      bit = bit;
      enable = none_cover s.address b s.mask bit is (family_of (device_row d).family) (not_true _ four.1);
    }

by_place : (d : Device) (o : Option MovingPlace) (a b : ℕ) → is_apart (device_row d) o ≡ true → is_bit_of o a b ≡ true → Apart d a b
by_place d None a b h is = absurd (cc)
by_place d (Some s) a b h is =
    let parts = and_parts (s.address == a) (bit_at s.mask b == 1) is in
    subst (λ (x : ℕ). Apart d x b) (same s.address a parts.0) (apart_at d s b h parts.1)

by_places : (d : Device) (os : List (Option MovingPlace)) (a b : ℕ) → list_all (is_apart (device_row d)) os ≡ true → list_any (λ (s : Option MovingPlace). is_bit_of s a b) os ≡ true → Apart d a b
by_places d [] a b all is = absurd (cc)
by_places d (o ∷ os) a b all is =
    let each = and_parts (is_apart (device_row d) o) (list_all (is_apart (device_row d)) os) all in
    one_of (is_bit_of o a b) (list_any (λ (s : Option MovingPlace). is_bit_of s a b) os) refl is (by_place d o a b each.0) (by_places d os a b each.1)
  where
    one_of : (t rest : Bool) → is_bit_of o a b ≡ t → (t || rest) ≡ true → (is_bit_of o a b ≡ true → Apart d a b) → (rest ≡ true → Apart d a b) → Apart d a b
    one_of true rest e h here there = here e
    one_of false rest e h here there = there h

pub apart : (d : Device) (a b : ℕ) → is_moving d a b ≡ true → Apart d a b
unfolding is_moving
apart d a b is = by_places d (moving_of d) a b (passes d 12) is

-- ---- a write that sets one

set_at : (o : Option MovingPlace) (a byte : ℕ) → sets_bit_of o a byte ≡ true → (b : ℕ) × ((is_bit_of o a b ≡ true) × (bit_at byte b ≡ 1))
unfolding has_common
set_at None a byte is = absurd (cc)
set_at (Some s) a byte is =
    let parts = and_parts (s.address == a) (has_common byte s.mask) is in
    let found = any_found 8 (λ k. (bit_at byte k == 1) && (bit_at s.mask k == 1)) parts.1 in
    let bits = and_parts (bit_at byte found.0 == 1) (bit_at s.mask found.0 == 1) found.2 in
    (found.0, (both (s.address == a) (bit_at s.mask found.0 == 1) parts.0 bits.1, same (bit_at byte found.0) 1 bits.0))

either_true : (x y : Bool) → x ≡ true → (x || y) ≡ true
either_true x y h = grind arith

or_true : (x y : Bool) → y ≡ true → (x || y) ≡ true
or_true x y h = grind arith

set_in : (os : List (Option MovingPlace)) (a byte : ℕ) → list_any (λ (s : Option MovingPlace). sets_bit_of s a byte) os ≡ true
    → (b : ℕ) × ((list_any (λ (s : Option MovingPlace). is_bit_of s a b) os ≡ true) × (bit_at byte b ≡ 1))
set_in [] a byte is = absurd (cc)
set_in (o ∷ os) a byte is = by (sets_bit_of o a byte) refl is (set_in os a byte)
  where
    by : (t : Bool) → sets_bit_of o a byte ≡ t → (t || list_any (λ (s : Option MovingPlace). sets_bit_of s a byte) os) ≡ true
        → (list_any (λ (s : Option MovingPlace). sets_bit_of s a byte) os ≡ true → (b : ℕ) × ((list_any (λ (s : Option MovingPlace). is_bit_of s a b) os ≡ true) × (bit_at byte b ≡ 1)))
        → (b : ℕ) × ((list_any (λ (s : Option MovingPlace). is_bit_of s a b) (o ∷ os) ≡ true) × (bit_at byte b ≡ 1))
    by true here h rest = let s = set_at o a byte here in (s.0, (either_true (is_bit_of o a s.0) _ s.1.0, s.1.1))
    by false other h rest = let s = rest h in (s.0, (or_true (is_bit_of o a s.0) _ s.1.0, s.1.1))

set : (d : Device) (a byte : ℕ) → sets_moving d a byte ≡ true → (b : ℕ) × ((is_moving d a b ≡ true) × (bit_at byte b ≡ 1))
unfolding is_moving sets_moving
set d a byte is = set_in (moving_of d) a byte is

in_guarded : (d : Device) (os : List (Option MovingPlace)) (k : ℕ) (p : MovingPlace) → list_all (is_apart (device_row d)) os ≡ true → slice_index_or os k None ≡ Some p → p.address ≤ guarded_end d
in_guarded d [] k p all is = absurd (cc)
in_guarded d (o ∷ os) zero p all is =
    let here : is_apart (device_row d) (Some p) ≡ true = subst (λ (x : Option MovingPlace). is_apart (device_row d) x ≡ true) is (and_parts (is_apart (device_row d) o) (list_all (is_apart (device_row d)) os) all).0 in
    let rest = and_parts (nat_le (io_base d + 0x20) p.address) _ here in
    at_most_from_test p.address (guarded_end d) (and_parts (nat_le p.address (guarded_end d)) _ rest.1).0
in_guarded d (o ∷ os) (suc k) p all is = in_guarded d os k p (and_parts (is_apart (device_row d) o) (list_all (is_apart (device_row d)) os) all).1 is

pub moving_is_apart : MovingIsApart
unfolding enable_of
moving_is_apart =
    record {
      reach = λ d a b is. (at_most_from_test (io_base d + 0x20) a (apart d a b is).least, at_most_from_test a (guarded_end d) (apart d a b is).most);
      core = λ d a b is. (apart d a b is).core;
      bit = λ d a b is. (apart d a b is).bit;
      enable = λ d a b is. ap (option_map (λ (p : EnablePlace). p.vector)) (none_found (covers a b) (enable_places d) (apart d a b is).enable);
      set = set;
      place = λ d k p is. in_guarded d (moving_of d) k p (passes d 12) is;
    }
