-- Vectors that may come, one by one.
use Rattle.std.proofs.Common.{◌≡◌, sym, ℕ, ◌+◌, ◌<◌, ◌≤◌, Bool, true, false, not, ◌&&◌, ◌⊎◌, ⊎_elim, List, arith}
use Rattle.std.proofs.lemmas.Bool.Decides.{nat_tests}
use Rattle.avr_model.proofs.AllLaws.{none_below, some_below}
use Rattle.avr_model.specs.declared.device.Device.{Device}
use Rattle.avr_model.specs.declared.assumption.Entry.{Entry}
use Rattle.avr_model.specs.Assumptions.{is_never}
use Rattle.avr_model.specs.Vectors.{last_vector, is_enabled, vector_word}
use Rattle.local_rules.specs.Local.{may_come}

abbrev pub comes : Device → List Entry → ℕ → ℕ → Bool
comes device A masks v = is_enabled device masks v && not (is_never A (vector_word device v))

-- no vector has a number below 2
low_apart : (device : Device) (b : Bool) (masks v : ℕ) → v < 2 → (is_enabled device masks v && b) ≡ false
unfolding is_enabled
low_apart device b masks v lt = grind (arith, nat_tests)

pub one_comes : (device : Device) (A : List Entry) (masks v : ℕ) → v < last_vector device + 1 → comes device A masks v ≡ true → true ≡ may_come device A masks
unfolding may_come
one_comes device A masks v lt h = sym (some_below (last_vector device + 1) (comes device A masks) v lt h)

pub none_comes : (device : Device) (A : List Entry) (masks : ℕ) → ((v : ℕ) → 2 ≤ v → v < last_vector device + 1 → comes device A masks v ≡ false) → false ≡ may_come device A masks
unfolding may_come
none_comes device A masks h =
    sym (none_below (last_vector device + 1) (comes device A masks) (λ v lt. ⊎_elim (λ (few : v < 2). low_apart device (not (is_never A (vector_word device v))) masks v few) (λ (le : 2 ≤ v). h v le lt) (two_or_more v)))
  where
    two_or_more : (v : ℕ) → (v < 2) ⊎ (2 ≤ v)
    two_or_more v = grind arith
