-- Writes that set a moving bit.
use Rattle.std.proofs.Common.{◌≡◌, ◌∙◌, sym, ap, refl, inl, inr, ℕ, ◌+◌, ◌<◌, ◌≤◌, ◌==◌, ◌&&◌, ◌||◌, Bool, true, false, List, [], ◌∷◌, length, Option, Some, None, arith}
use Rattle.std.specs.Prelude.{slice_index_or, slice_set, IfSome}
use Rattle.std.proofs.lemmas.Bool.{cases_Bool, cases_eq, and_parts, and_from, eq-eqb, ne_eqb}
use Rattle.std.proofs.lemmas.List.{get_or-set_same, get_or-set_other}
use Rattle.std.specs.List.{list_any}
use Rattle.avr_model.specs.declared.device.Device.{Device}
use Rattle.avr_model.specs.declared.rows.MovingPlace.{MovingPlace}
use Rattle.avr_model.specs.declared.assumption.Entry.{Entry}
use Rattle.avr_model.specs.declared.effect.Write.{Write}
use Rattle.avr_model.specs.Devices.{Image, device_of, io_base, guarded_end}
use Rattle.avr_model.specs.Vectors.{is_core, is_moving, sets_moving, moving_of}
use Rattle.avr_model.specs.Step.{moves_vectors}
use Rattle.avr_model.proofs.AllLaws.{devices_are_alike, moving_is_apart}
use Rattle.vector_table.specs.Moving.{is_at, has_moving}
use Rattle.avr_machine.specs.Quiet.{is_still, moves_at}

or_true : (b : Bool) → true ≡ (b || true)
or_true true = refl
or_true false = refl

or_false : (b : Bool) → b ≡ (b || false)
or_false true = refl
or_false false = refl

-- the address of the place is marked, and no other
pub marked_there : (s : MovingPlace) (marks : List Bool) → s.address < 4101 → length marks ≡ 4101 → (a : ℕ)
    → slice_index_or (slice_set marks s.address true) a false ≡ (slice_index_or marks a false || is_at (Some s) a)
marked_there s marks small count a =
    elim (cases_eq a s.address) [
      | inl same ↦
          ap (λ (n : ℕ). slice_index_or (slice_set marks s.address true) n false) same
          ∙ get_or-set_same marks s.address true false (omega (arith, count, small))
          ∙ or_true (slice_index_or marks a false)
          ∙ (λ i. slice_index_or marks a false || sym (eq-eqb s.address a (sym same)) i)
      | inr other ↦
          get_or-set_other marks s.address a true false other
          ∙ or_false (slice_index_or marks a false)
          ∙ (λ i. slice_index_or marks a false || sym (ne_eqb s.address a (λ here. other (sym here))) i)
    ]

-- a place has room in the table of marks
pub place_small : (d : Device) (k : ℕ) (places : List (Option MovingPlace)) → places ≡ moving_of d → IfSome (slice_index_or places k None) (λ p. p.address < 4101)
place_small d k places is = by (slice_index_or places k None) (ap (λ (xs : List (Option MovingPlace)). slice_index_or xs k None) (sym is))
  where
    by : (o : Option MovingPlace) → slice_index_or (moving_of d) k None ≡ o → IfSome o (λ p. p.address < 4101)
    by None e = tt
    by (Some p) e = let le = moving_is_apart.place d k p e in let most = devices_are_alike.most_guarded d in omega (arith, le, most)

-- two places
pub two_places : (d : Device) (places : List (Option MovingPlace)) (a : ℕ) → places ≡ moving_of d → length places ≡ 2
    → (b : Bool) → ((b || is_at (slice_index_or places 0 None) a) || is_at (slice_index_or places 1 None) a) ≡ (b || has_moving d a)
unfolding has_moving
two_places d places a is count b = by places count b ∙ ap (λ (xs : List (Option MovingPlace)). b || list_any (λ (s : Option MovingPlace). is_at s a) xs) is
  where
    alone : (x y z : Bool) → ((x || y) || z) ≡ (x || (y || (z || false)))
    alone x y z = grind arith

    by : (xs : List (Option MovingPlace)) → length xs ≡ 2 → (b : Bool) → ((b || is_at (slice_index_or xs 0 None) a) || is_at (slice_index_or xs 1 None) a) ≡ (b || list_any (λ (s : Option MovingPlace). is_at s a) xs)
    by [] e b = absurd (omega arith)
    by (x ∷ []) e b = absurd (omega arith)
    by (x ∷ y ∷ []) e b = alone b (is_at x a) (is_at y a)
    by (x ∷ y ∷ z ∷ xs) e b = absurd (omega arith)

-- ---- one write

set_or_not : (still sets : Bool) → sets ≡ false → false ≡ (still && (sets || false))
set_or_not true sets h = λ i. sym h i || false
set_or_not false sets h = refl

pub none_moves : (image : Image) (A : List Entry) (w : Write) → sets_moving (device_of image) w.address w.byte ≡ false → false ≡ moves_at image A w
unfolding moves_vectors
none_moves image A w h = set_or_not (is_still image A) (sets_moving (device_of image) w.address w.byte) h

set_and : (still sets : Bool) → sets ≡ true → still ≡ (still && (sets || false))
set_and true sets h = λ i. sym h i || false
set_and false sets h = refl

pub moves : (image : Image) (A : List Entry) (w : Write) → sets_moving (device_of image) w.address w.byte ≡ true → is_still image A ≡ moves_at image A w
unfolding moves_vectors
moves image A w h = set_and (is_still image A) (sets_moving (device_of image) w.address w.byte) h

outside : (d : Device) (a byte : ℕ) → (io_base d + 0x20 ≤ a → a ≤ guarded_end d → ⊥) → false ≡ sets_moving d a byte
outside d a byte out = elim (cases_Bool (sets_moving d a byte)) [
  | inl set ↦
      let b = moving_is_apart.set d a byte set in
      let reach = moving_is_apart.reach d a b.0 b.1.0 in
      absurd (out reach.0 reach.1)
  | inr none ↦ sym none
]

pub none_below : (d : Device) (a byte : ℕ) → a < io_base d + 0x20 → false ≡ sets_moving d a byte
none_below d a byte lt = outside d a byte (λ least most. omega (arith, lt, least))

pub none_behind : (d : Device) (a byte : ℕ) → guarded_end d < a → false ≡ sets_moving d a byte
none_behind d a byte lt = outside d a byte (λ least most. omega (arith, lt, most))

pub none_core : (d : Device) (a byte : ℕ) → is_core d a ≡ true → false ≡ sets_moving d a byte
none_core d a byte core = elim (cases_Bool (sets_moving d a byte)) [
  | inl set ↦
      let b = moving_is_apart.set d a byte set in
      let other = moving_is_apart.core d a b.0 b.1.0 in
      absurd (let both = sym core ∙ other in cc)
  | inr none ↦ sym none
]
