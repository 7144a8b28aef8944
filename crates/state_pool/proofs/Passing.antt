-- Digests of slots, one by one and several at once.
use Rattle.std.proofs.Common.{◌≡◌, refl, sym, ap, ◌∙◌, ℕ, zero, suc, ◌+◌, ◌<◌, ◌≤◌, List, [], ◌∷◌, length, drop, arith}
use Rattle.sp_domain.specs.Slots.{slot_at}
use Rattle.sp_domain.specs.declared.slots.Slot.{Slot}
use Rattle.sp_domain.specs.declared.slots.Slot.TheVariants.{Free}
use Rattle.abs_state.specs.declared.values.AbsByte.{AbsByte}
use Rattle.state_pool.specs.Digest.{mix_slot, mix_slots, AreFree}

-- the digest after the slots from a place on
abbrev rest : ℕ → List (Slot AbsByte) → ℕ → ℕ
rest digest slots at = mix_slots digest at (drop at slots)

one : (digest k : ℕ) (slots : List (Slot AbsByte)) (at : ℕ) → at < length slots
    → mix_slots digest k (drop at slots) ≡ mix_slots (mix_slot digest k (slot_at slots at)) (suc k) (drop (suc at) slots)
one digest k [] at l = absurd (omega (arith, l))
one digest k (s ∷ ss) zero l = refl
one digest k (s ∷ ss) (suc at) l = one digest k ss at (omega (arith, l))

free : (digest k : ℕ) (slots : List (Slot AbsByte)) (at : ℕ) → slot_at slots at ≡ Free → mix_slots digest k (drop at slots) ≡ mix_slots digest (suc k) (drop (suc at) slots)
free digest k [] zero e = refl
free digest k [] (suc at) e = refl
free digest k (s ∷ ss) zero e = ap (λ (t : Slot AbsByte). mix_slots (mix_slot digest k t) (suc k) ss) e
free digest k (s ∷ ss) (suc at) e = free digest k ss at e

many : (digest : ℕ) (slots : List (Slot AbsByte)) (at n : ℕ) → AreFree slots at n → rest digest slots at ≡ rest digest slots (at + n)
many digest slots at zero h = let same : at ≡ at + 0 = omega arith in ap (rest digest slots) same
many digest slots at (suc n) h =
    let same : suc (at + n) ≡ at + suc n = omega arith in
    many digest slots at n (λ e l. h e (omega (arith, l))) ∙ free digest (at + n) slots (at + n) (h n (omega arith)) ∙ ap (rest digest slots) same

pub step_on : (start digest : ℕ) (slots : List (Slot AbsByte)) (at : ℕ) → at < length slots → mix_slots digest at (drop at slots) ≡ mix_slots start 0 slots
    → mix_slots (mix_slot digest at (slot_at slots at)) (at + 1) (drop (at + 1) slots) ≡ mix_slots start 0 slots
step_on start digest slots at l e =
    let next : suc at ≡ at + 1 = omega arith in
    sym (one digest at slots at l ∙ ap (rest (mix_slot digest at (slot_at slots at)) slots) next) ∙ e

pub pass_on : (start digest : ℕ) (slots : List (Slot AbsByte)) (at : ℕ) → AreFree slots at 8 → mix_slots digest at (drop at slots) ≡ mix_slots start 0 slots
    → mix_slots digest (at + 8) (drop (at + 8) slots) ≡ mix_slots start 0 slots
pass_on start digest slots at h e = sym (many digest slots at 8 h) ∙ e

none_left : (digest k : ℕ) (slots : List (Slot AbsByte)) (at : ℕ) → length slots ≤ at → mix_slots digest k (drop at slots) ≡ digest
none_left digest k [] zero l = refl
none_left digest k [] (suc at) l = refl
none_left digest k (s ∷ ss) zero l = absurd (omega (arith, l))
none_left digest k (s ∷ ss) (suc at) l = none_left digest k ss at (omega (arith, l))

pub all_done : (start digest : ℕ) (slots : List (Slot AbsByte)) (at : ℕ) → length slots ≤ at → mix_slots digest at (drop at slots) ≡ mix_slots start 0 slots → digest ≡ mix_slots start 0 slots
all_done start digest slots at l e = sym (none_left digest at slots at l) ∙ e
