-- Marks of the addresses at which vectors are enabled.
use Rattle.std.proofs.Common.{◌≡◌, ◌∙◌, sym, ap, subst, refl, ℕ, ◌+◌, ◌<◌, ◌≤◌, ◌==◌, ◌||◌, Bool, true, false, List, length, take, replicate, get_or, inl, inr, arith}
use Rattle.std.specs.Prelude.{slice_index_or, slice_set}
use Rattle.std.specs.List.{All, list_any}
use Rattle.std.proofs.lemmas.Bool.{cases_eq, cases_lt, eq-eqb, ne_eqb}
use Rattle.std.proofs.lemmas.List.{take_all, length-set, length-replicate, get_or-replicate, get_or_past, get_or-set_same, get_or-set_other}
use Rattle.std.proofs.lemmas.List.Elements.{All-get_or}
use Rattle.std.proofs.lemmas.List.Folds.{list_any_more}
use Rattle.avr_model.specs.declared.device.Device.{Device}
use Rattle.avr_model.specs.declared.rows.EnablePlace.{EnablePlace}
use Rattle.avr_model.specs.Vectors.{enable_places, has_enables}
use Rattle.avr_model.proofs.AllLaws.{devices_are_alike, places_are_apart}
use Rattle.avr_machine.proofs.Unheld.{IsSound}

-- the addresses of the first k places are marked
pub record AreMarked (ps : List EnablePlace) (k : ℕ) (marks : List Bool) : Type 0 where
  pub count : length marks ≡ 4101
  pub each : (a : ℕ) → slice_index_or marks a false ≡ list_any (λ (p : EnablePlace). p.address == a) (take k ps)

none_marked : (n a : ℕ) → slice_index_or (replicate n false) a false ≡ false
none_marked n a = elim (cases_lt a n) [
  | inl lt ↦ get_or-replicate n a false false lt
  | inr le ↦ get_or_past (replicate n false) a false (let e = length-replicate {A = Bool} n false in omega (arith, e, le))
]

pub unmarked : (ps : List EnablePlace) (marks : List Bool) → marks ≡ replicate 4101 false → AreMarked ps 0 marks
unmarked ps marks is =
    record {
      count = ap length is ∙ length-replicate 4101 false;
      each = λ a. ap (λ (t : List Bool). slice_index_or t a false) is ∙ none_marked 4101 a;
    }

or_true : (b : Bool) → true ≡ (b || true)
or_true true = refl
or_true false = refl

or_false : (b : Bool) → b ≡ (b || false)
or_false true = refl
or_false false = refl

-- the address of a place has room in the table
pub address_small : (d : Device) (ps : List EnablePlace) (k address : ℕ) (e : EnablePlace) → ps ≡ enable_places d → k < length ps → address ≡ (get_or ps k e).address → address < 4101
address_small d ps k address e is lt from =
    let sound : IsSound d (get_or ps k e) = All-get_or (IsSound d) ps k e lt (subst (All (IsSound d)) (sym is) (places_are_apart.each d)) in
    let most = devices_are_alike.most_guarded d in
    let le = sound.1.1.0 in
    omega (arith, most, le, from)

pub marked_too : (ps : List EnablePlace) (k address : ℕ) (marks : List Bool) (e : EnablePlace) → k < length ps → address ≡ (get_or ps k e).address → address < 4101
    → AreMarked ps k marks → AreMarked ps (k + 1) (slice_set marks address true)
marked_too ps k address marks e lt is small so_far =
    record {
      count = length-set marks address true ∙ so_far.count;
      each = λ a.
          let more = list_any_more (λ (p : EnablePlace). p.address == a) ps k e lt in
          elim (cases_eq a address) [
            | inl same ↦
                ap (λ (n : ℕ). slice_index_or (slice_set marks address true) n false) same
                ∙ get_or-set_same marks address true false (let c = so_far.count in omega (arith, c, small))
                ∙ or_true (list_any (λ (p : EnablePlace). p.address == a) (take k ps))
                ∙ ap (λ (b : Bool). list_any (λ (p : EnablePlace). p.address == a) (take k ps) || b) (sym (eq-eqb (get_or ps k e).address a (sym is ∙ sym same)))
                ∙ sym more
            | inr other ↦
                get_or-set_other marks address a true false other
                ∙ so_far.each a
                ∙ or_false (list_any (λ (p : EnablePlace). p.address == a) (take k ps))
                ∙ ap (λ (b : Bool). list_any (λ (p : EnablePlace). p.address == a) (take k ps) || b) (sym (ne_eqb (get_or ps k e).address a (λ here. other (sym here ∙ sym is))))
                ∙ sym more
          ];
    }

pub all_marked : (d : Device) (ps : List EnablePlace) (k : ℕ) (marks : List Bool) → ps ≡ enable_places d → length ps ≤ k → AreMarked ps k marks → (a : ℕ) → slice_index_or marks a false ≡ has_enables d a
unfolding has_enables
all_marked d ps k marks is le so_far a =
    so_far.each a
    ∙ ap (list_any (λ (p : EnablePlace). p.address == a)) (take_all k ps le ∙ is)
