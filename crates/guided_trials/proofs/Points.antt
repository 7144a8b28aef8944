-- The choice by a menu is that by the state.
use Rattle.std.proofs.Common.{zero, suc, ◌≡◌, refl, ap, ◌∙◌, ℕ, ◌%◌, ◌/◌, ◌==◌, ◌&&◌, ◌||◌, not, Bool, true, false, if◌then◌else◌, IsTrue, List, [], ◌∷◌, length, Option, Some, None, slice_get}
use Rattle.std.specs.List.{find, filter}
use Rattle.avr_model.specs.declared.choice.Choice.TheVariants.{Go}
use Rattle.avr_model.specs.declared.device.Device.{Device}
use Rattle.avr_model.specs.Vectors.{is_enabled, watchdog}
use Rattle.avr_model.specs.Step.{may_take}
use Rattle.avr_model.specs.State.{State, i_flag}
use Rattle.avr_model.specs.Devices.{Image}
use Rattle.avr_machine.specs.declared.menu.Menu.{Menu}
use Rattle.avr_machine.specs.Menu.{has_choice}
use Rattle.stimulus.specs.Driving.{IsMenuOf}
use Rattle.guided_trials.specs.declared.guide.Candidate.{Candidate}
use Rattle.guided_trials.specs.declared.guide.Guide.{Guide}
use Rattle.guided_trials.specs.declared.guide.TrialMoment.{TrialMoment}
use Rattle.guided_trials.specs.Numbers.{next, high, middle}
use Rattle.guided_trials.specs.Choosing.{is_there, is_wanted, fallen, taken, taken_or, by_chance, rate, wanted_at, taken_at, choice_by, may_be, stands, after, left, left_by, pick, picked}

-- ---- tests that agree pick the same

module _ {X : Type 0} (p q : X → Bool) (same : (x : X) → p x ≡ q x) where
  pub filter_as : (xs : List X) → filter p xs ≡ filter q xs
  filter_as [] = refl
  filter_as (x ∷ xs) = ap (λ (b : Bool). if b then x ∷ filter p xs else filter p xs) (same x) ∙ ap (λ (ys : List X). if q x then x ∷ ys else ys) (filter_as xs)

  pub find_as : (xs : List X) → find p xs ≡ find q xs
  find_as [] = refl
  find_as (x ∷ xs) = ap (λ (b : Bool). if b then Some x else find p xs) (same x) ∙ ap (λ (o : Option X). if q x then Some x else o) (find_as xs)

-- ---- what is found passes

abbrev pub PassesIfAny : {X : Type 0} → (X → Bool) → Option X → Type 0
PassesIfAny p None = Unit {0}
PassesIfAny p (Some x) = p x ≡ true

module _ {X : Type 0} (p : X → Bool) where
  found_if : (x : X) (rest : Option X) (b : Bool) → p x ≡ b → PassesIfAny p rest → PassesIfAny p (if b then Some x else rest)
  found_if x rest true is h = is
  found_if x rest false is h = h

  pub find_passes : (xs : List X) → PassesIfAny p (find p xs)
  find_passes [] = tt
  find_passes (x ∷ xs) = found_if x (find p xs) (p x) refl (find_passes xs)

  got_if : (x : X) (rest : List X) (b : Bool) → p x ≡ b → ((n : ℕ) → PassesIfAny p (slice_get rest n)) → (n : ℕ) → PassesIfAny p (slice_get (if b then x ∷ rest else rest) n)
  got_if x rest true is h zero = is
  got_if x rest true is h (suc n) = h n
  got_if x rest false is h n = h n

  pub get_passes : (xs : List X) (n : ℕ) → PassesIfAny p (slice_get (filter p xs) n)
  get_passes [] n = tt
  get_passes (x ∷ xs) n = got_if x (filter p xs) (p x) refl (get_passes xs) n

first_holds : (a b : Bool) → (a && b) ≡ true → a ≡ true
first_holds true b h = refl
first_holds false b h = cc

weaker : {X : Type 0} (p q : X → Bool) (o : Option X) → PassesIfAny (λ x. p x && q x) o → PassesIfAny p o
weaker p q None h = tt
weaker p q (Some x) h = first_holds (p x) (q x) h

pub passes_if : {X : Type 0} (p : X → Bool) (a b : Option X) (c : Bool) → PassesIfAny p a → PassesIfAny p b → PassesIfAny p (if c then a else b)
passes_if p a b true h k = h
passes_if p a b false h k = k

-- ---- a choice stands in its menu

module _ (menu : Menu) (image : Image) (g : Guide) (t x : ℕ) where
  taken_passes : (depth : ℕ) → PassesIfAny (stands menu) (taken_at g t x depth (stands menu))
  taken_passes depth =
      passes_if (stands menu) (wanted_at g depth (stands menu)) (by_chance t x (filter (stands menu) g.takes))
      (is_there (wanted_at g depth (stands menu)) && not (high x % 4 == 0))
      (weaker (stands menu) (is_wanted g depth) (wanted_at g depth (stands menu)) (find_passes (λ k. stands menu k && is_wanted g depth k) g.takes))
      (passes_if (stands menu) (slice_get (filter (stands menu) g.takes) (middle x % length (filter (stands menu) g.takes))) None (high x / 4 % rate t == 0)
      (get_passes (stands menu) g.takes (middle x % length (filter (stands menu) g.takes))) tt)

  choice_stands : (byte : ℕ) (o : Option Candidate) → PassesIfAny (stands menu) o → IsTrue (has_choice menu (taken_or (Go byte byte) o))
  choice_stands byte None h = refl
  choice_stands byte (Some k) h = h

pub picked_stands : (image : Image) (g : Guide) (t : ℕ) (l : TrialMoment) (menu : Menu) → IsTrue (has_choice menu (picked image g t l menu))
picked_stands image g t l menu =
    choice_stands menu image g t (next l.number) (left_by image g t l menu).byte _ (taken_passes menu image g t (next l.number) (fallen image menu.sp))

-- ---- by the menu as by the state

regrouped : (enabled i delay clears watchdog : Bool) → ((enabled && i && not delay && (not false || watchdog)) && (not clears || watchdog)) ≡ (enabled && i && not delay && (not clears || watchdog))
regrouped true true true clears watchdog = refl
regrouped true true false clears watchdog = refl
regrouped true false delay clears watchdog = refl
regrouped false i delay clears watchdog = refl

legal_as : (menu : Menu) (m : State) → IsMenuOf menu m → (k : Candidate) → stands menu k ≡ may_be m k
legal_as menu m is k =
    ap (λ (b : Bool). b && (not k.clears || (k.vector == watchdog menu.device))) (is.takes k.vector)
    ∙ ap (λ (d : Device). may_take m k.vector false && (not k.clears || (k.vector == watchdog d))) is.device
    ∙ regrouped (is_enabled m.device m.enables k.vector) (i_flag m) m.delay k.clears (k.vector == watchdog m.device)

pub left_is : (image : Image) (g : Guide) (t : ℕ) (l : TrialMoment) (menu : Menu) (m : State) → IsMenuOf menu m → left_by image g t l menu ≡ left image g t l m
left_is image g t l menu m is = ap (after image g t l) is.pc

module _ (g : Guide) (t : ℕ) (now : TrialMoment) (depth : ℕ) where
  choice_as : (p q : Candidate → Bool) → ((k : Candidate) → p k ≡ q k) → choice_by g t now depth p ≡ choice_by g t now depth q
  choice_as p q same =
      ap (λ (ks : List Candidate). taken_or (Go now.byte now.byte) (taken t now.number ks (wanted_at g depth p))) (filter_as p q same g.takes)
      ∙ ap (λ (o : Option Candidate). taken_or (Go now.byte now.byte) (taken t now.number (filter q g.takes) o))
      (find_as (λ k. p k && is_wanted g depth k) (λ k. q k && is_wanted g depth k) (λ k. ap (λ (b : Bool). b && is_wanted g depth k) (same k)) g.takes)

pub picked_is : (image : Image) (g : Guide) (t : ℕ) (l : TrialMoment) (menu : Menu) (m : State) → IsMenuOf menu m → picked image g t l menu ≡ pick image g t l m
picked_is image g t l menu m is =
    choice_as g t (left_by image g t l menu) (fallen image menu.sp) (stands menu) (may_be m) (legal_as menu m is)
    ∙ ap (λ (now : TrialMoment). choice_by g t now (fallen image menu.sp) (may_be m)) (left_is image g t l menu m is)
    ∙ ap (λ (sp : ℕ). choice_by g t (left image g t l m) (fallen image sp) (may_be m)) is.sp
