-- States shared by nodes, and the effect of giving one node another number.
use Rattle.std.proofs.Common.{◌≡◌, ◌≢◌, refl, sym, ap, ◌∙◌, subst, ℕ, suc, ◌+◌, ◌<◌, ◌≤◌, Bool, true, false, cond, Option, Some, None, List, [], ◌∷◌, ◌++◌, map, length, append_assoc, arith}
use Rattle.std.specs.Prelude.{◌==◌}
use Rattle.std.specs.List.{IsDistinct, sum_by}
use Rattle.std.specs.List.Sorted.{IsPermutation}
use Rattle.std.specs.Map.{lookup, keys_of, set_value}
use Rattle.std.specs.Option.{option_map}
use Rattle.std.specs.FinMap.{get, from_entries, entries}
use Rattle.std.specs.List.Sorted.{IsSorted}
use Rattle.std.proofs.lemmas.Option.{same_Some}
use Rattle.std.proofs.lemmas.Bool.Decides.{Decides-eqb}
use Rattle.std.proofs.lemmas.List.Sums.{sum_by-cons}
use Rattle.std.proofs.lemmas.List.Sorted.{sum_by-IsPermutation}
use Rattle.indexmap.specs.IndexMap.{insert_entry}
use Rattle.abs_state.specs.declared.state.AbsState.{AbsState}
use Rattle.local_rules.specs.declared.local.Node.{Node}
use Rattle.node_keys.specs.declared.keys.NodeKey.{NodeKey}
use Rattle.node_keys.specs.Order.{node_cmp, same_node}
use Rattle.state_pool.specs.Uses.{Uses, AreBelow}
use Rattle.state_pool.specs.Counts.{held_count, state_at, count_at, share, one_if, IsUsedMore, IsUsedLess}
use Rattle.state_pool.specs.SameState.{same_state}
use Rattle.state_pool.specs.Equal.{same_state_decides}
use Rattle.state_pool.proofs.AllLaws.{share_own}
use Rattle.round_table.specs.Families.{Family, node_of}
use Rattle.round_table.specs.Shared.{with_state, stated, times, AreCounted, IsMoved}
use Rattle.round_table.proofs.Entries.{table_get, table_same, sorted_entries}

abbrev Numbered : Type 0
Numbered = List (NodeKey × ℕ)

-- ---- keys and their states

pub keys_stated : (pool : Uses) (es : Numbered) → keys_of (stated pool es) ≡ keys_of es
keys_stated pool [] = refl
keys_stated pool (e ∷ es) = ap (λ (ks : List NodeKey). e.0 ∷ ks) (keys_stated pool es)

pub lookup_stated : (pool : Uses) (es : Numbered) (q : NodeKey) → lookup (same_node q) (stated pool es) ≡ option_map (state_at pool) (lookup (same_node q) es)
lookup_stated pool [] q = refl
lookup_stated pool (e ∷ es) q = by (same_node q e.0) (lookup_stated pool es q)
  where
    by : (b : Bool) → lookup (same_node q) (stated pool es) ≡ option_map (state_at pool) (lookup (same_node q) es)
        → cond b (Some (state_at pool e.1)) (lookup (same_node q) (stated pool es)) ≡ option_map (state_at pool) (cond b (Some e.1) (lookup (same_node q) es))
    by true rest = refl
    by false rest = rest

pub get_stated : (pool : Uses) (es : Numbered) (f : Family) (q : NodeKey) → from_entries {R = node_cmp} (stated pool es) ≡ f
    → get f q ≡ option_map (state_at pool) (lookup (same_node q) es)
get_stated pool es f q is = sym (ap (λ (g : Family). get g q) is) ∙ table_get (stated pool es) q ∙ lookup_stated pool es q

-- the list of states has the same length
pub long_stated : (pool : Uses) (es : Numbered) → length (stated pool es) ≡ length es
long_stated pool [] = refl
long_stated pool (e ∷ es) = ap suc (long_stated pool es)

-- ---- how often a number is there

pub times_found : (k : NodeKey) (es : Numbered) (n : ℕ) → lookup (same_node k) es ≡ Some n → 0 < times n es
times_found k [] n is = absurd (cc)
times_found k (e ∷ es) n is = by (same_node k e.0) is (times_found k es n)
  where
    by : (b : Bool) → cond b (Some e.1) (lookup (same_node k) es) ≡ Some n → (lookup (same_node k) es ≡ Some n → 0 < times n es) → 0 < share n e.1 + times n es
    by true t rest =
        let same : e.1 ≡ n = same_Some e.1 n t in
        let one : share n e.1 ≡ 1 = subst (λ (m : ℕ). share m e.1 ≡ 1) same (share_own e.1) in
        omega (arith, one)
    by false t rest = let lt = rest t in omega (arith, lt)

at_most_one : (b : Bool) → one_if b ≤ 1
at_most_one true = omega arith
at_most_one false = omega arith

pub times_few : (n : ℕ) (es : Numbered) → times n es ≤ length es
times_few n [] = omega arith
times_few n (e ∷ es) = let one = at_most_one (n == e.1) in let rest = times_few n es in omega (arith, one, rest)

-- another number in the place of the key's old one
pub times_there : (k : NodeKey) (n m x : ℕ) (es : Numbered) → lookup (same_node k) es ≡ Some n → times x (set_value (same_node k) es m) + share x n ≡ times x es + share x m
times_there k n m x [] is = absurd (cc)
times_there k n m x (e ∷ es) is = by (same_node k e.0) is (times_there k n m x es)
  where
    by : (b : Bool) → cond b (Some e.1) (lookup (same_node k) es) ≡ Some n
        → (lookup (same_node k) es ≡ Some n → times x (set_value (same_node k) es m) + share x n ≡ times x es + share x m)
        → times x (cond b ((e.0, m) ∷ es) (e ∷ set_value (same_node k) es m)) + share x n ≡ share x e.1 + times x es + share x m
    by true t rest = let same : share x e.1 ≡ share x n = ap (share x) (same_Some e.1 n t) in omega (arith, same)
    by false t rest = let more = rest t in omega (arith, more)

-- one more number after the others
pub times_new : (k : NodeKey) (m x : ℕ) (es : Numbered) → lookup (same_node k) es ≡ None → times x (insert_entry same_node es k m) ≡ times x es + share x m
times_new k m x [] is = omega arith
times_new k m x (e ∷ es) is = by (same_node k e.0) is (times_new k m x es)
  where
    by : (b : Bool) → cond b (Some e.1) (lookup (same_node k) es) ≡ None → (lookup (same_node k) es ≡ None → times x (insert_entry same_node es k m) ≡ times x es + share x m)
        → times x (cond b ((e.0, m) ∷ es) (e ∷ insert_entry same_node es k m)) ≡ share x e.1 + times x es + share x m
    by true t rest = absurd (cc)
    by false t rest = let more = rest t in omega (arith, more)

times_sum : (x : ℕ) (es : Numbered) → times x es ≡ sum_by (λ (e : NodeKey × ℕ). share x e.1) es
times_sum x [] = refl
times_sum x (e ∷ es) = ap (λ (n : ℕ). share x e.1 + n) (times_sum x es) ∙ sym (sum_by-cons (λ (e : NodeKey × ℕ). share x e.1) e es)

-- their order does not matter
pub times_reordered : (pool : Uses) (es new : Numbered) → IsPermutation es new → AreCounted pool es → AreCounted pool new
times_reordered pool es new p counted x =
    counted x ∙ times_sum x es ∙ sym (sum_by-IsPermutation (λ (e : NodeKey × ℕ). share x e.1) es new p) ∙ sym (times_sum x new)

-- no count exceeds the number of nodes
pub counts_below : (pool : Uses) (es : Numbered) (most : ℕ) → AreCounted pool es → length es < most → AreBelow most pool
counts_below pool es most counted lt n s count held =
    let is : count_at pool n ≡ count = ap held_count held in
    let few = times_few n es in
    let all = counted n in
    omega (arith, is, few, all, lt)

-- ---- a node that gets another number

-- each used number keeps its state
abbrev pub AreStatesKept : Uses → Uses → Type 0
AreStatesKept old new = (x : ℕ) → 0 < count_at old x → 0 < count_at new x → state_at new x ≡ state_at old x

pub up_stated : (old new : Uses) (es new_es : Numbered) (k : NodeKey) (m : ℕ) (s : AbsState) → state_at new m ≡ s → AreStatesKept old new → AreCounted old es → AreCounted new new_es
    → ((q : NodeKey) → lookup (same_node q) new_es ≡ cond (same_node k q) (Some m) (lookup (same_node q) es))
    → (q : NodeKey) → lookup (same_node q) (stated new new_es) ≡ cond (same_node k q) (Some s) (lookup (same_node q) (stated old es))
up_stated old new es new_es k m s own kept before after up q =
    lookup_stated new new_es q ∙ by (same_node k q) (up q) ∙ ap (cond (same_node k q) (Some s)) (sym (lookup_stated old es q))
  where
    same : (o : Option ℕ) → lookup (same_node q) es ≡ o → lookup (same_node q) new_es ≡ o → option_map (state_at new) o ≡ option_map (state_at old) o
    same None a b = refl
    same (Some x) a b =
        let there = times_found q es x a in
        let still = times_found q new_es x b in
        ap Some (kept x (subst (λ (n : ℕ). 0 < n) (sym (before x)) there) (subst (λ (n : ℕ). 0 < n) (sym (after x)) still))

    by : (b : Bool) → lookup (same_node q) new_es ≡ cond b (Some m) (lookup (same_node q) es)
        → option_map (state_at new) (lookup (same_node q) new_es) ≡ cond b (Some s) (option_map (state_at old) (lookup (same_node q) es))
    by true is = ap (option_map (state_at new)) is ∙ ap Some own
    by false is = ap (option_map (state_at new)) is ∙ same (lookup (same_node q) es) refl is

-- a use that moves to another number
pub counts_there : (old new : Uses) (es : Numbered) (k : NodeKey) (n m : ℕ) (s : AbsState) → IsMoved old n s m new → AreCounted old es → lookup (same_node k) es ≡ Some n
    → AreCounted new (set_value (same_node k) es m)
counts_there old new es k n m s moved counted is x =
    let a = moved.counts x in
    let b = counted x in
    let c = times_there k n m x es is in
    omega (arith, a, b, c)

-- one more use
pub counts_new : (old new : Uses) (es : Numbered) (k : NodeKey) (m : ℕ) (s : AbsState) → IsUsedMore old s m new → AreCounted old es → lookup (same_node k) es ≡ None
    → AreCounted new (insert_entry same_node es k m)
counts_new old new es k m s more counted is x =
    let a = more.counts x in
    let b = counted x in
    let c = times_new k m x es is in
    omega (arith, a, b, c)

-- ---- the pool where a state is joined into that of a number

pub stays_or_not : (s t : AbsState) → ((s ≢ t) → ⊥) → s ≡ t
stays_or_not s t not = by (same_state s t) refl
  where
    by : (b : Bool) → same_state s t ≡ b → s ≡ t
    by true e = (same_state_decides s t).0 e
    by false e = absurd (not (λ same. let t = (same_state_decides s t).1 same in cc))

pub not_moved : (pool : Uses) (n : ℕ) (s : AbsState) → state_at pool n ≡ s → IsMoved pool n s n pool
not_moved pool n s is = record { own = is; counts = λ x. refl; kept = λ x a b. refl }

pub still_used : (old mid : Uses) (n m : ℕ) (s : AbsState) → 0 < count_at old n → IsUsedMore old s m mid → 0 < count_at mid n
still_used old mid n m s there more = let a = more.counts n in omega (arith, a, there)

-- interned, and released under the other number
pub moved : (old mid new : Uses) (n m : ℕ) (s : AbsState) → 0 < count_at old n → IsUsedMore old s m mid → IsUsedLess mid n new → IsMoved old n s m new
moved old mid new n m s there more less = record {
  own = less.kept m (let a = less.counts m in let b = more.counts m in let c = share_own m in share_less m n (count_at old m) (count_at new m)
      (subst (λ (c : ℕ). count_at new m + share m n ≡ count_at old m + c) c (a ∙ b)) (λ e. subst (λ (x : ℕ). 0 < count_at old x) (sym e) there))
      ∙ more.own;
  counts = λ x. let a = less.counts x in let b = more.counts x in a ∙ b;
  kept = λ x a b. less.kept x b ∙ more.kept x a;
}
  where
    share_less : (m n a b : ℕ) → b + share m n ≡ a + 1 → (m ≡ n → 0 < a) → 0 < b
    share_less m n a b is lt = by (m == n) refl is
      where
        by : (t : Bool) → (m == n) ≡ t → b + one_if t ≡ a + 1 → 0 < b
        by true e is = let l = lt ((Decides-eqb m n).0 e) in omega (arith, l, is)
        by false e is = omega (arith, is)

-- ---- the nodes in their order

pub stated_same : (old new : Uses) (es : Numbered) → ((x : ℕ) → 0 < times x es → state_at new x ≡ state_at old x) → stated new es ≡ stated old es
stated_same old new [] kept = refl
stated_same old new (e ∷ es) kept =
    let one = share_own e.1 in
    let here : state_at new e.1 ≡ state_at old e.1 = kept e.1 (omega (arith, one)) in
    ap (λ (s : AbsState). (e.0, s) ∷ stated new es) here
    ∙ ap (λ (l : List (NodeKey × AbsState)). (e.0, state_at old e.1) ∷ l) (stated_same old new es (λ x lt. kept x (omega (arith, lt))))

-- the remaining nodes and the pool after the first node is taken out
pub less_counted : (old new : Uses) (e : NodeKey × ℕ) (es : Numbered) → AreCounted old (e ∷ es) → IsUsedLess old e.1 new → AreCounted new es
less_counted old new e es counted less x = let a = counted x in let b = less.counts x in omega (arith, a, b)

pub less_stated : (old new : Uses) (e : NodeKey × ℕ) (es : Numbered) → AreCounted old (e ∷ es) → IsUsedLess old e.1 new → stated new es ≡ stated old es
less_stated old new e es counted less =
    stated_same old new es (λ x lt. less.kept x (let a = less_counted old new e es counted less x in subst (λ (n : ℕ). 0 < n) (sym a) lt))

pub first_used : (pool : Uses) (e : NodeKey × ℕ) (es : Numbered) → AreCounted pool (e ∷ es) → 0 < count_at pool e.1
first_used pool e es counted = let a = counted e.1 in let one = share_own e.1 in omega (arith, a, one)

-- the first remaining node moves to those that are done
pub one_taken : (pool new : Uses) (left rest : Numbered) (e : NodeKey × ℕ) (s : AbsState) (before after all : List Node) → left ≡ e ∷ rest → AreCounted pool left → IsUsedLess pool e.1 new
    → s ≡ state_at pool e.1 → before ++ map node_of (stated pool left) ≡ all → after ≡ before ++ node_of (e.0, s) ∷ []
    → AreCounted new rest × (after ++ map node_of (stated new rest) ≡ all)
one_taken pool new left rest e s before after all is counted less state sum more =
    let counts : AreCounted pool (e ∷ rest) = subst (AreCounted pool) is counted in (
      less_counted pool new e rest counts less,
      ap (λ (l : List Node). l ++ map node_of (stated new rest)) more
          ∙ append_assoc before (node_of (e.0, s) ∷ []) (map node_of (stated new rest))
          ∙ ap (λ (x : AbsState). before ++ node_of (e.0, x) ∷ map node_of (stated new rest)) state
          ∙ ap (λ (l : List (NodeKey × AbsState)). before ++ node_of (with_state pool e) ∷ map node_of l) (less_stated pool new e rest counts less)
          ∙ ap (λ (l : Numbered). before ++ map node_of (stated pool l)) (sym is)
          ∙ sum,
    )

-- sorted by key they are the family's nodes
pub sorted_stated : (pool : Uses) (es new : Numbered) (f : Family) → from_entries {R = node_cmp} (stated pool es) ≡ f → ((q : NodeKey) → lookup (same_node q) new ≡ lookup (same_node q) es)
    → IsSorted node_cmp (keys_of new) → IsDistinct same_node (keys_of new) → stated pool new ≡ entries f
sorted_stated pool es new f is same sorted distinct =
    sorted_entries (stated pool new) f
    (table_same (stated pool es) (stated pool new) (λ q. lookup_stated pool new q ∙ ap (option_map (state_at pool)) (same q) ∙ sym (lookup_stated pool es q)) ∙ is)
    (subst (IsSorted node_cmp) (sym (keys_stated pool new)) sorted) (subst (IsDistinct same_node) (sym (keys_stated pool new)) distinct)
