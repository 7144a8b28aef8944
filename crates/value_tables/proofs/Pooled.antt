-- Uses of a pool's numbers while states are interned and released.
use Rattle.std.proofs.Common.{◌≡◌, refl, sym, ap, subst, ℕ, ◌+◌, ◌<◌, List, [], ◌∷◌, ◌++◌, arith}
use Rattle.std.specs.FinMap.{empty, get-empty, len, len-empty}
use Rattle.std.specs.Ordering.{nat_cmp}
use Rattle.std.proofs.lemmas.Bool.Decides.{Decides-eqb}
use Rattle.abs_state.specs.declared.state.AbsState.{AbsState}
use Rattle.state_pool.specs.Uses.{Uses, AreBelow, IsInterned, released}
use Rattle.state_pool.specs.Counts.{held_count, count_at, share, one_if, IsUsedMore, IsUsedLess, CountsFollow}

abbrev nothing : Uses
nothing = empty

-- there is no count
pub starts_below : (pool : Uses) (most : ℕ) → pool ≡ empty → AreBelow most pool
starts_below pool most is = subst (λ (p : Uses). AreBelow most p) (sym is) below
  where
    below : AreBelow most nothing
    below n s count held = let none = get-empty {X = AbsState × ℕ} nat_cmp n in absurd (cc)

pub starts_empty : (pool : Uses) → pool ≡ empty → len pool ≡ 0
starts_empty pool is = subst (λ (p : Uses). len p ≡ 0) (sym is) (len-empty nat_cmp (AbsState × ℕ))

-- the number of occurrences in a list
abbrev pub times : ℕ → List ℕ → ℕ
times m [] = 0
times m (n ∷ ns) = share m n + times m ns

-- each number has as many uses as the list has of it
abbrev pub HasUses : Uses → List ℕ → Type 0
HasUses pool ns = (m : ℕ) → count_at pool m ≡ times m ns

share_own : (n : ℕ) → share n n ≡ 1
share_own n = ap one_if ((Decides-eqb n n).1 refl)

times_last : (m n : ℕ) (ns : List ℕ) → times m (ns ++ n ∷ []) ≡ times m ns + share m n
times_last m n [] = omega arith
times_last m n (k ∷ ns) = let rest = times_last m n ns in omega (arith, rest)

no_uses : (pool : Uses) → pool ≡ empty → HasUses pool []
no_uses pool is = subst (λ (p : Uses). HasUses p []) (sym is) (λ m. ap held_count (get-empty {X = AbsState × ℕ} nat_cmp m))

-- an interned number comes first
one_more : (old new : Uses) (s : AbsState) (n : ℕ) (ns : List ℕ) → HasUses old ns → IsUsedMore old s n new → HasUses new (n ∷ ns)
one_more old new s n ns has more m = let a = has m in let b = more.counts m in omega (arith, a, b)

-- the last number is released
one_less : (old new : Uses) (n : ℕ) (ns : List ℕ) → HasUses old (ns ++ n ∷ []) → IsUsedLess old n new → HasUses new ns
one_less old new n ns has less m =
    let a = has m in
    let b = less.counts m in
    let c = times_last m n ns in
    omega (arith, a, b, c)

pub first_used : (pool : Uses) (n : ℕ) (ns : List ℕ) → HasUses pool (n ∷ ns) → 0 < count_at pool n
first_used pool n ns has = let a = has n in let one = share_own n in omega (arith, a, one)

pub last_used : (pool : Uses) (n : ℕ) (ns : List ℕ) → HasUses pool (ns ++ n ∷ []) → 0 < count_at pool n
last_used pool n ns has =
    let a = has n in
    let one = share_own n in
    let c = times_last n n ns in
    omega (arith, a, one, c)

-- two equal states and another, in an empty pool
pub three_interned : (law : CountsFollow) (start first second third : Uses) (s t : AbsState) (n m k : ℕ) → start ≡ empty → IsInterned start s n first → IsInterned first s m second
    → IsInterned second t k third → HasUses third (k ∷ m ∷ n ∷ [])
three_interned law start first second third s t n m k is one same next =
    let ones = one_more start first s n [] (no_uses start is) (law.interned start first s n one) in
    let both = one_more first second s m (n ∷ []) ones (law.interned first second s m same) in
    one_more second third t k (m ∷ n ∷ []) both (law.interned second third t k next)

pub one_released : (law : CountsFollow) (old new : Uses) (n : ℕ) (ns : List ℕ) → HasUses old (ns ++ n ∷ []) → new ≡ released old n → HasUses new ns
one_released law old new n ns has is =
    one_less old new n ns has (subst (λ (p : Uses). IsUsedLess old n p) (sym is) (law.released old n (last_used old n ns has)))
