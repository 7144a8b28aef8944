-- Releasing undoes interning.
use Rattle.std.proofs.Common.{◌≡◌, sym, ap, ◌∙◌, subst, ⊎_elim, ℕ, ◌+◌, ◌-◌, ◌<◌, ◌≤◌, Bool, true, false, cond, Some, arith}
use Rattle.std.specs.FinMap.{get, insert, len, len-insert}
use Rattle.std.specs.Cmp.{nat_cmp_total}
use Rattle.std.proofs.lemmas.Option.{same_Some}
use Rattle.abs_state.specs.declared.state.AbsState.{AbsState}
use Rattle.state_pool.specs.Uses.{Uses, IsStateHeld, AreDistinct, AreUsed, AreBelow, IsInterned, lowered, released}
use Rattle.state_pool.specs.Laws.{ReleasesUndo}
use Rattle.state_pool.proofs.Cases.{cases_eq}
use Rattle.state_pool.proofs.Held.{get_here, get_there, inserted, removed}
use Rattle.state_pool.proofs.Kept.{lowered_more, lowered_last}

held : (old new : Uses) (s : AbsState) (n : ℕ) → IsInterned old s n new → (count : ℕ) × IsStateHeld new n s count
held old new s n =
    ⊎_elim (λ h. (h.0 + 1, ap (λ (m : Uses). get m n) h.2 ∙ get_here old n (s, h.0 + 1)))
    (λ h. (1, ap (λ (m : Uses). get m n) h.2 ∙ get_here old n (s, 1)))

same : (old new newer : Uses) (s : AbsState) (n k : ℕ) → AreDistinct new → IsInterned old s n new → IsInterned new s k newer → k ≡ n
same old new newer s n k distinct first =
    let there = held old new s n first in
    ⊎_elim (λ h. distinct k n s h.0 there.0 h.1 there.1) (λ h. absurd (h.0 n there.0 there.1))

back : (old new : Uses) (s : AbsState) (n : ℕ) → AreUsed old → IsInterned old s n new → released new n ≡ old
back old new s n used =
    ⊎_elim
    (λ h.
    let lt : 0 < h.0 = used n s h.0 h.1 in
    ap (lowered new n) (ap (λ (m : Uses). get m n) h.2 ∙ get_here old n (s, h.0 + 1)) ∙ lowered_more new n s (h.0 + 1) (omega (arith, lt))
    ∙ sym (inserted new old n (s, h.0 + 1 - 1) (let less : h.0 ≡ h.0 + 1 - 1 = omega arith in h.1 ∙ ap (λ c. Some (s, c)) less)
    (λ q ne. sym (ap (λ (m : Uses). get m q) h.2 ∙ get_there old n (s, h.0 + 1) q ne))))
    (λ h.
    ap (lowered new n) (ap (λ (m : Uses). get m n) h.2 ∙ get_here old n (s, 1)) ∙ lowered_last new n s 1 (omega arith)
    ∙ sym (removed new old n h.1 (λ q ne. sym (ap (λ (m : Uses). get m q) h.2 ∙ get_there old n (s, 1) q ne))))

one_more : (b : Bool) (m : ℕ) → cond b m (m + 1) ≤ m + 1
one_more true m = omega arith
one_more false m = omega arith

longer : (old new : Uses) (n : ℕ) (e : AbsState × ℕ) → new ≡ insert old n e → len new ≤ len old + 1
longer old new n e is = subst (λ l. l ≤ len old + 1) (sym (ap len is ∙ len-insert nat_cmp_total old n e)) (one_more _ (len old))

many : (old new : Uses) (s : AbsState) (n : ℕ) → IsInterned old s n new → len new ≤ len old + 1
many old new s n = ⊎_elim (λ h. longer old new n (s, h.0 + 1) h.2) (λ h. longer old new n (s, 1) h.2)

low_counts : (old new : Uses) (n c most : ℕ) (s : AbsState) → AreBelow most old → c < most + 1 → new ≡ insert old n (s, c) → AreBelow (most + 1) new
low_counts old new n c most s below lt is q t d e =
    cases_eq q n (d < most + 1)
    (λ here.
    let entry : (s, c) ≡ (t, d) = same_Some (s, c) (t, d) (sym (ap (get new) here ∙ ap (λ (m : Uses). get m n) is ∙ get_here old n (s, c)) ∙ e) in
    subst (λ (x : ℕ). x < most + 1) (ap (λ (p : AbsState × ℕ). p.1) entry) lt)
    (λ ne.
    let low = below q t d (sym (ap (λ (m : Uses). get m q) is ∙ get_there old n (s, c) q ne) ∙ e) in omega (arith, low))

below : (old new : Uses) (s : AbsState) (n most : ℕ) → 0 < most → AreBelow most old → IsInterned old s n new → AreBelow (most + 1) new
below old new s n most lt low =
    ⊎_elim (λ h. low_counts old new n (h.0 + 1) most s low (let under = low n s h.0 h.1 in omega (arith, under)) h.2)
    (λ h. low_counts old new n 1 most s low (omega (arith, lt)) h.2)

pub releases_undo : ReleasesUndo
releases_undo = record { held = held; same = same; back = back; many = many; below = below }
