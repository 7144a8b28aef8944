-- Live bytes after an effect: the old ones and those that it pushes, above the stack pointer.
use Rattle.std.proofs.Common.{◌≡◌, ℕ, zero, suc, ◌+◌, ◌-◌, ◌<◌, ◌&&◌, Bool, true, false, if◌then◌else◌, List, [], ◌∷◌, length, nat_lt, slice_set, slice_index_or, ◌⊎◌, inl, inr, ⊎_elim, refl, ap, arith}
use Rattle.std.proofs.lemmas.Bool.{and_parts, cases_lt}
use Rattle.std.proofs.lemmas.Bool.Decides.{nat_tests}
use Rattle.std.proofs.lemmas.Grind.{common_steps}
use Rattle.std.proofs.lemmas.List.{get_or_past}
use Rattle.avr_model.specs.declared.effect.Write.{Write}
use Rattle.avr_model.specs.State.{Memory, live_in, is_live, set_at}
use Rattle.avr_model.specs.Step.{with_live, pruned, memory_after}

-- a pushed byte has this address
abbrev pub IsPushedAt : List Write → ℕ → Type 0
IsPushedAt [] a = ⊥
IsPushedAt (w ∷ ws) a = (a ≡ w.address) ⊎ IsPushedAt ws a

pub inside_if_live : (below : ℕ) (live : List Bool) (a : ℕ) → live_in below live a ≡ true → a < below + 1 + length live
unfolding live_in
inside_if_live below live a h =
    let parts = and_parts (nat_lt below a) (slice_index_or live (a - (below + 1)) false) h in
    ⊎_elim (λ lt. omega (arith, lt)) (λ past. absurd (let none = get_or_past live (a - (below + 1)) false past in cc)) (cases_lt (a - (below + 1)) (length live))

set_elsewhere : (live : List Bool) (i j : ℕ) → slice_index_or (slice_set live i true) j false ≡ true → (j ≡ i) ⊎ (slice_index_or live j false ≡ true)
set_elsewhere [] i j h = inr h
set_elsewhere (x ∷ live) zero zero h = inl refl
set_elsewhere (x ∷ live) zero (suc j) h = inr h
set_elsewhere (x ∷ live) (suc i) zero h = inr h
set_elsewhere (x ∷ live) (suc i) (suc j) h = ⊎_elim (λ e. inl (ap suc e)) (λ l. inr l) (set_elsewhere live i j h)

was_live : (below : ℕ) (live : List Bool) (b a : ℕ) → live_in below (set_at below live b true) a ≡ true → (a ≡ b) ⊎ (live_in below live a ≡ true)
unfolding live_in set_at
was_live below live b a h = by (nat_lt below b) refl h
  where
    by : (t : Bool) → nat_lt below b ≡ t → (nat_lt below a && slice_index_or (if t then slice_set live (b - (below + 1)) true else live) (a - (below + 1)) false) ≡ true
        → (a ≡ b) ⊎ ((nat_lt below a && slice_index_or live (a - (below + 1)) false) ≡ true)
    by false is h = inr h
    by true is h = ⊎_elim (λ e. inl (grind (arith, nat_tests))) (λ l. inr (grind arith)) (set_elsewhere live (b - (below + 1)) (a - (below + 1)) (grind arith))

pushed_or_live : (below : ℕ) (live : List Bool) (ws : List Write) (a : ℕ) → live_in below (with_live below live ws) a ≡ true → IsPushedAt ws a ⊎ (live_in below live a ≡ true)
pushed_or_live below live [] a h = inr h
pushed_or_live below live (w ∷ ws) a h =
    ⊎_elim (λ p. inl (inr p)) (λ l. ⊎_elim (λ e. inl (inl e)) (λ was. inr was) (was_live below live w.address a l)) (pushed_or_live below (set_at below live w.address true) ws a h)

above_pruned : (below : ℕ) (live : List Bool) (sp a : ℕ) → live_in below (pruned below sp live) a ≡ true → (sp < a) × (live_in below live a ≡ true)
unfolding live_in
above_pruned below live sp a h = (grind (arith, nat_tests, common_steps), grind (arith, nat_tests, common_steps))

module _ (memory : Memory) (sp : ℕ) (stores pushes : List Write) (a : ℕ) where
  from_guarded : (guarded : Bool) → live_in memory.below (if guarded then with_live memory.below memory.live pushes else memory.live) a ≡ true
      → (is_live memory a ≡ true) ⊎ ((guarded ≡ true) × IsPushedAt pushes a)
  from_guarded true h = ⊎_elim (λ p. inr (refl, p)) (λ l. inl l) (pushed_or_live memory.below memory.live pushes a h)
  from_guarded false h = inl h

  -- a live byte was live, or a guarded push made it so
  pub live_comes : (guarded is_open : Bool) → is_live (memory_after memory guarded is_open sp stores pushes) a ≡ true
      → (is_live memory a ≡ true) ⊎ ((guarded ≡ true) × IsPushedAt pushes a)
  unfolding memory_after
  live_comes guarded true h = from_guarded guarded h
  live_comes guarded false h = from_guarded guarded (above_pruned memory.below (if guarded then with_live memory.below memory.live pushes else memory.live) sp a h).1

  -- and it lies above a whole stack pointer
  pub live_above : (guarded : Bool) → is_live (memory_after memory guarded false sp stores pushes) a ≡ true → sp < a
  unfolding memory_after
  live_above guarded h = (above_pruned memory.below (if guarded then with_live memory.below memory.live pushes else memory.live) sp a h).0
