-- States by place, read as a map from their numbers.
use Rattle.std.proofs.Common.{◌≡◌, ◌≢◌, refl, sym, ap, ◌∙◌, subst, ℕ, zero, suc, ◌+◌, ◌<◌, ◌≤◌, true, false, cond, Some, None, List, [], ◌∷◌, length, slice_get, arith}
use Rattle.std.specs.declared.cmp.Ordering.{Ordering}
use Rattle.std.specs.declared.cmp.Ordering.TheVariants.{Less, Equal, Greater}
use Rattle.std.specs.Ordering.{nat_cmp, is_eq, eq_by_cmp}
use Rattle.std.specs.Cmp.{nat_cmp_total, eq_by_cmp_equiv}
use Rattle.std.specs.FinMap.{get, insert, remove, len, from_entries, same_map, nat_cmp-IsAntisymmetric, get-insert, get-remove, get-from_entries, len-insert, len-empty}
use Rattle.std.specs.FinMap.Entries.{find}
use Rattle.std.specs.Option.{is_some}
use Rattle.std.proofs.lemmas.Option.{none-some}
use Rattle.abs_state.specs.declared.state.AbsState.{AbsState}
use Rattle.state_pool.specs.Uses.{Uses}
use Rattle.state_pool.specs.Numbers.{number_at}
use Rattle.state_pool.specs.Places.{numbered}
use Rattle.state_pool.proofs.Cases.{cases_eq, none_of}

pub same_number : (n : ℕ) → eq_by_cmp nat_cmp n n ≡ true
same_number n = (eq_by_cmp_equiv nat_cmp_total).refl n

pub other_number : (q n : ℕ) → q ≢ n → eq_by_cmp nat_cmp q n ≡ false
other_number q n ne = by (nat_cmp q n) refl
  where
    by : (r : Ordering) → nat_cmp q n ≡ r → eq_by_cmp nat_cmp q n ≡ false
    by Less e = ap is_eq e
    by Equal e = absurd (ne (nat_cmp-IsAntisymmetric q n e))
    by Greater e = ap is_eq e

-- ---- maps that differ at one number

pub get_here : (m : Uses) (k : ℕ) (v : AbsState × ℕ) → get (insert m k v) k ≡ Some v
get_here m k v = get-insert nat_cmp_total m k v k ∙ ap (λ b. cond b (Some v) (get m k)) (same_number k)

pub get_there : (m : Uses) (k : ℕ) (v : AbsState × ℕ) (q : ℕ) → q ≢ k → get (insert m k v) q ≡ get m q
get_there m k v q ne = get-insert nat_cmp_total m k v q ∙ ap (λ b. cond b (Some v) (get m q)) (other_number q k ne)

pub inserted : (m new : Uses) (k : ℕ) (v : AbsState × ℕ) → get new k ≡ Some v → ((q : ℕ) → q ≢ k → get new q ≡ get m q) → new ≡ insert m k v
inserted m new k v at others =
    same_map nat_cmp_total nat_cmp-IsAntisymmetric new (insert m k v)
    (λ q. cases_eq q k (get new q ≡ get (insert m k v) q)
    (λ e. ap (get new) e ∙ at ∙ sym (ap (get (insert m k v)) e ∙ get_here m k v))
    (λ ne. others q ne ∙ sym (get_there m k v q ne)))

pub removed : (m new : Uses) (k : ℕ) → get new k ≡ None → ((q : ℕ) → q ≢ k → get new q ≡ get m q) → new ≡ remove m k
removed m new k at others =
    same_map nat_cmp_total nat_cmp-IsAntisymmetric new (remove m k)
    (λ q. cases_eq q k (get new q ≡ get (remove m k) q)
    (λ e. ap (get new) e ∙ at ∙ sym (ap (get (remove m k)) e ∙ get-remove nat_cmp_total m k k ∙ ap (λ b. cond b None (get m k)) (same_number k)))
    (λ ne. others q ne ∙ sym (get-remove nat_cmp_total m k q ∙ ap (λ b. cond b None (get m q)) (other_number q k ne))))

-- ---- places

-- the first places have different numbers
abbrev pub HaveOwnNumbers : List ℕ → ℕ → Type 0
HaveOwnNumbers ns count = (i j : ℕ) → i < count → j < count → number_at ns i ≡ number_at ns j → i ≡ j

-- the number's place has this entry
pub record IsEntryAt (ns : List ℕ) (es : List (AbsState × ℕ)) (q : ℕ) (e : AbsState × ℕ) : Type 0 where
  pub place : ℕ
  pub low : place < length es
  pub number : number_at ns place ≡ q
  pub entry : slice_get es place ≡ Some e

abbrev pub uses_of : List ℕ → List (AbsState × ℕ) → Uses
uses_of ns es = from_entries {R = nat_cmp} (numbered ns es)

found : (ns : List ℕ) (es : List (AbsState × ℕ)) (i : ℕ) (e : AbsState × ℕ) → length es ≤ length ns → HaveOwnNumbers ns (length es) → i < length es → slice_get es i ≡ Some e
    → find nat_cmp (number_at ns i) (numbered ns es) ≡ Some e
found [] [] i e le apart lt is = absurd (omega arith)
found [] (f ∷ es) i e le apart lt is = absurd (omega arith)
found (n ∷ ns) [] i e le apart lt is = absurd (omega arith)
found (n ∷ ns) (f ∷ es) zero e le apart lt is = ap (λ b. cond b (Some f) (find nat_cmp n (numbered ns es))) (same_number n) ∙ is
found (n ∷ ns) (f ∷ es) (suc i) e le apart lt is =
    let ne : number_at ns i ≢ n = λ s. let never = apart (suc i) 0 lt (omega arith) s in absurd (omega (arith, never)) in
    ap (λ b. cond b (Some f) (find nat_cmp (number_at ns i) (numbered ns es))) (other_number (number_at ns i) n ne)
    ∙ found ns es i e (omega (arith, le))
    (λ j k lj lk s. let same = apart (suc j) (suc k) (omega (arith, lj)) (omega (arith, lk)) s in omega (arith, same)) (omega (arith, lt)) is

entry_place : (ns : List ℕ) (es : List (AbsState × ℕ)) (q : ℕ) (e : AbsState × ℕ) → find nat_cmp q (numbered ns es) ≡ Some e → IsEntryAt ns es q e
entry_place [] es q e is = absurd (none-some e is)
entry_place (n ∷ ns) [] q e is = absurd (none-some e is)
entry_place (n ∷ ns) (f ∷ es) q e is =
    cases_eq q n (IsEntryAt (n ∷ ns) (f ∷ es) q e)
    (λ s. record {
      place = 0;
      low = omega arith;
      number = sym s;
      entry = sym (ap (λ b. cond b (Some f) (find nat_cmp q (numbered ns es))) (subst (λ m. eq_by_cmp nat_cmp q m ≡ true) s (same_number q))) ∙ is;
    })
    (λ ne.
    let rest = entry_place ns es q e (sym (ap (λ b. cond b (Some f) (find nat_cmp q (numbered ns es))) (other_number q n ne)) ∙ is) in
    record { place = suc rest.place; low = let l = rest.low in omega (arith, l); number = rest.number; entry = rest.entry })

pub get_at : (ns : List ℕ) (es : List (AbsState × ℕ)) (q : ℕ) (e : AbsState × ℕ) → length es ≤ length ns → HaveOwnNumbers ns (length es) → IsEntryAt ns es q e
    → get (uses_of ns es) q ≡ Some e
get_at ns es q e le apart at =
    get-from_entries nat_cmp_total (numbered ns es) q
    ∙ subst (λ n. find nat_cmp n (numbered ns es) ≡ Some e) at.number (found ns es at.place e le apart at.low at.entry)

pub at_get : (ns : List ℕ) (es : List (AbsState × ℕ)) (q : ℕ) (e : AbsState × ℕ) → get (uses_of ns es) q ≡ Some e → IsEntryAt ns es q e
at_get ns es q e is = entry_place ns es q e (sym (get-from_entries nat_cmp_total (numbered ns es) q) ∙ is)

-- ---- how many

new_one : (ns : List ℕ) (es : List (AbsState × ℕ)) (n : ℕ) → ((i : ℕ) → i < length es → number_at ns i ≢ n) → is_some (get (uses_of ns es) n) ≡ false
new_one ns es n other =
    ap is_some (none_of (get (uses_of ns es) n) (λ e is. let at = at_get ns es n e is in other at.place at.low at.number))

pub many : (ns : List ℕ) (es : List (AbsState × ℕ)) → length es ≤ length ns → HaveOwnNumbers ns (length es) → len (uses_of ns es) ≡ length es
many [] [] le apart = len-empty nat_cmp (AbsState × ℕ)
many [] (e ∷ es) le apart = absurd (omega arith)
many (n ∷ ns) [] le apart = len-empty nat_cmp (AbsState × ℕ)
many (n ∷ ns) (e ∷ es) le apart =
    let rest = many ns es (omega (arith, le)) (λ j k lj lk s. let same = apart (suc j) (suc k) (omega (arith, lj)) (omega (arith, lk)) s in omega (arith, same)) in
    let fresh = new_one ns es n (λ i l s. let same = apart (suc i) 0 (omega (arith, l)) (omega arith) s in absurd (omega (arith, same))) in
    len-insert nat_cmp_total (uses_of ns es) n e ∙ ap (λ b. cond b (len (uses_of ns es)) (len (uses_of ns es) + 1)) fresh ∙ omega (arith, rest)
