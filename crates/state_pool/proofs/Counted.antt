-- Counts and states after interning and releasing.
use Rattle.std.proofs.Common.{◌≡◌, ◌≢◌, refl, sym, ap, ◌∙◌, subst, ⊎_elim, ℕ, ◌+◌, ◌-◌, ◌<◌, nat_lt, Bool, true, false, cond, Option, Some, None, arith}
use Rattle.std.specs.Prelude.{◌==◌, IsSome}
use Rattle.std.specs.FinMap.{get, insert, remove, get-remove}
use Rattle.std.specs.Cmp.{nat_cmp_total}
use Rattle.std.specs.Ordering.{nat_cmp, eq_by_cmp}
use Rattle.std.proofs.lemmas.Bool.Decides.{Decides-eqb, nat_tests}
use Rattle.abs_state.specs.declared.state.AbsState.{AbsState}
use Rattle.state_pool.specs.Uses.{Uses, IsInterned, lowered}
use Rattle.state_pool.specs.Counts.{held_state, held_count, state_at, count_at, one_if, share, IsUsedMore, IsUsedLess, CountsFollow}
use Rattle.state_pool.proofs.Cases.{cases_eq}
use Rattle.state_pool.proofs.Held.{same_number, other_number, get_here, get_there}

pub share_own : (n : ℕ) → share n n ≡ 1
share_own n = ap one_if ((Decides-eqb n n).1 refl)

share_other : (n m : ℕ) → n ≢ m → share n m ≡ 0
share_other n m ne = by (n == m) refl
  where
    by : (b : Bool) → (n == m) ≡ b → one_if b ≡ 0
    by true e = absurd (ne ((Decides-eqb n m).0 e))
    by false e = refl

there : (o : Option (AbsState × ℕ)) → 0 < held_count o → IsSome o
there None lt = absurd (omega (arith, lt))
there (Some e) lt = refl

-- ---- one use more

-- an entry with the state and one more use
more : (old new : Uses) (s : AbsState) (n c : ℕ) → count_at old n ≡ c → (0 < count_at old n → state_at old n ≡ s) → new ≡ insert old n (s, c + 1) → IsUsedMore old s n new
more old new s n c count known is =
    let here : get new n ≡ Some (s, c + 1) = ap (λ (m : Uses). get m n) is ∙ get_here old n (s, c + 1) in
    let others : (m : ℕ) → m ≢ n → get new m ≡ get old m = λ m ne. ap (λ (p : Uses). get p m) is ∙ get_there old n (s, c + 1) m ne in
    record {
      own = ap held_state here;
      counts = λ m.
          cases_eq m n (count_at new m ≡ count_at old m + share m n)
          (λ e.
          let one = share_own n in
          subst (λ (q : ℕ). count_at new q ≡ count_at old q + share q n) (sym e) (let l = ap held_count here in omega (arith, l, count, one)))
          (λ ne. let none = share_other m n ne in let l = ap held_count (others m ne) in omega (arith, l, none));
      kept = λ m lt.
          cases_eq m n (state_at new m ≡ state_at old m)
          (λ e. subst (λ (q : ℕ). 0 < count_at old q → state_at new q ≡ state_at old q) (sym e) (λ l. ap held_state here ∙ sym (known l)) lt)
          (λ ne. ap held_state (others m ne));
    }

interned : (old new : Uses) (s : AbsState) (n : ℕ) → IsInterned old s n new → IsUsedMore old s n new
interned old new s n =
    ⊎_elim
    (λ h. more old new s n h.0 (ap held_count h.1) (λ l. ap held_state h.1) h.2)
    (λ h.
    more old new s n 0 (ap held_count h.1)
    (λ l. absurd (let none = ap held_count h.1 in omega (arith, l, none)))
    h.2)

-- ---- one use less

-- an entry with one use less
less : (old new : Uses) (s : AbsState) (n c : ℕ) → get old n ≡ Some (s, c) → 1 < c → new ≡ insert old n (s, c - 1) → IsUsedLess old n new
less old new s n c held lt is =
    let here : get new n ≡ Some (s, c - 1) = ap (λ (m : Uses). get m n) is ∙ get_here old n (s, c - 1) in
    let others : (m : ℕ) → m ≢ n → get new m ≡ get old m = λ m ne. ap (λ (p : Uses). get p m) is ∙ get_there old n (s, c - 1) m ne in
    record {
      counts = λ m.
          cases_eq m n (count_at new m + share m n ≡ count_at old m)
          (λ e.
          let one = share_own n in
          subst (λ (q : ℕ). count_at new q + share q n ≡ count_at old q) (sym e)
          (let l = ap held_count here in let o = ap held_count held in omega (arith, l, o, one, lt)))
          (λ ne. let none = share_other m n ne in let l = ap held_count (others m ne) in omega (arith, l, none));
      kept = λ m low.
          cases_eq m n (state_at new m ≡ state_at old m)
          (λ e. subst (λ (q : ℕ). state_at new q ≡ state_at old q) (sym e) (ap held_state here ∙ sym (ap held_state held)))
          (λ ne. ap held_state (others m ne));
    }

-- no entry in the place of one that had its last use
gone : (old new : Uses) (s : AbsState) (n c : ℕ) → get old n ≡ Some (s, c) → c ≡ 1 → new ≡ remove old n → IsUsedLess old n new
gone old new s n c held once is =
    let removed : (m : ℕ) → get new m ≡ cond (eq_by_cmp nat_cmp m n) None (get old m) = λ m. ap (λ (p : Uses). get p m) is ∙ get-remove nat_cmp_total old n m in
    let here : get new n ≡ None = removed n ∙ ap (λ b. cond b None (get old n)) (same_number n) in
    let others : (m : ℕ) → m ≢ n → get new m ≡ get old m = λ m ne. removed m ∙ ap (λ b. cond b None (get old m)) (other_number m n ne) in
    record {
      counts = λ m.
          cases_eq m n (count_at new m + share m n ≡ count_at old m)
          (λ e.
          let one = share_own n in
          subst (λ (q : ℕ). count_at new q + share q n ≡ count_at old q) (sym e)
          (let l = ap held_count here in let o = ap held_count held in omega (arith, l, o, one, once)))
          (λ ne. let none = share_other m n ne in let l = ap held_count (others m ne) in omega (arith, l, none));
      kept = λ m low.
          cases_eq m n (state_at new m ≡ state_at old m)
          (λ e. absurd (let l = ap held_count here in let z = subst (λ (q : ℕ). 0 < count_at new q) e low in omega (arith, l, z)))
          (λ ne. ap held_state (others m ne));
    }

released_is : (old : Uses) (n : ℕ) (o : Option (AbsState × ℕ)) → get old n ≡ o → 0 < held_count o → IsUsedLess old n (lowered old n o)
released_is old n None e lt = absurd (omega (arith, lt))
released_is old n (Some (s, c)) e lt = by (nat_lt 1 c) refl
  where
    by : (b : Bool) → nat_lt 1 c ≡ b → IsUsedLess old n (cond b (insert old n (s, c - 1)) (remove old n))
    by true t = less old (insert old n (s, c - 1)) s n c e (grind (arith, nat_tests)) refl
    by false t = gone old (remove old n) s n c e (grind (arith, nat_tests)) refl

pub counts_follow : CountsFollow
counts_follow = record {
  there = λ pool n. there (get pool n);
  interned = interned;
  released = λ old n. released_is old n (get old n) refl;
}
