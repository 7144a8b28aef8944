-- The lists of a pool, and how calls change them.
use Rattle.std.proofs.Common.{◌≡◌, ◌≢◌, refl, sym, ap, ◌∙◌, subst, ℕ, zero, suc, ◌+◌, ◌-◌, ◌<◌, ◌≤◌, nat_lt, Bool, true, false, not, cond, Option, Some, None, List, [], ◌∷◌, ◌++◌, length, slice_get, take, slice_set, slice_index_or, length-append, arith}
use Rattle.std.specs.List.{swap, swap_remove, IsDistinct, AllByRecursion, position_or_len}
use Rattle.std.specs.Prelude.{IsSome}
use Rattle.std.specs.Map.{lookup, keys_of}
use Rattle.std.specs.Ordering.{nat_cmp}
use Rattle.std.specs.FinMap.{get, insert, remove, len, from_entries}
use Rattle.std.proofs.lemmas.Bool.Decides.{nat_tests}
use Rattle.std.proofs.lemmas.Option.{none-some, same_Some, slice_get_within, slice_get-get_or}
use Rattle.std.proofs.lemmas.List.Edits.{swapped_from_swap, length-swap}
use Rattle.indexmap.specs.Layout.{set_value_at}
use Rattle.abs_state.specs.declared.state.AbsState.{AbsState}
use Rattle.state_pool.specs.SameState.{same_state}
use Rattle.state_pool.specs.Equal.{same_state_decides}
use Rattle.std.proofs.Common.{inl, inr, Result, Ok, Err}
use Rattle.std.specs.Prelude.{if◌then◌else◌, OnOk, is_err, is_some, IfSome}
use Rattle.indexmap.specs.IndexMap.{insert_entry}
use Rattle.state_pool.specs.Uses.{Uses, AreDistinct, AreUsed, IsAbsent, IsInterned, lowered, released, last_state}
use Rattle.state_pool.specs.Numbers.{number_at, AreNumbers, IsPlaceReached}
use Rattle.state_pool.specs.Places.{numbered, ArePlacesKept}
use Rattle.state_pool.proofs.Cases.{cases_eq, same_option, none_of}
use Rattle.state_pool.proofs.Held.{HaveOwnNumbers, IsEntryAt, uses_of, inserted, removed, get_at, at_get, many}

abbrev Entries : Type 0
Entries = List (AbsState × ℕ)

pub apart : (ns : List ℕ) (es : Entries) → ArePlacesKept ns es → HaveOwnNumbers ns (length es)
apart ns es k i j li lj same = k.numbers.once i j (omega (arith, li, k.within)) (omega (arith, lj, k.within)) same

pub kept_many : (ns : List ℕ) (es : Entries) (m : Uses) → ArePlacesKept ns es → uses_of ns es ≡ m → len m ≡ length es
kept_many ns es m k is = ap len (sym is) ∙ many ns es k.within (apart ns es k)

-- ---- the place of a number that is there

-- the entry at the number's place
pub record IsEntryPlace (es : Entries) (m : Uses) (n p : ℕ) : Type 0 where
  pub low : p < length es
  pub held : AbsState × ℕ
  pub entry : slice_get es p ≡ Some held
  pub there : get m n ≡ Some held

number_at_place : (ns : List ℕ) (es : Entries) (m : Uses) (n : ℕ) → uses_of ns es ≡ m → IsSome (get m n)
    → (e : AbsState × ℕ) × IsEntryAt ns es n e × (get m n ≡ Some e)
number_at_place ns es m n is some = by (get m n) refl some
  where
    by : (o : Option (AbsState × ℕ)) → get m n ≡ o → IsSome o → (e : AbsState × ℕ) × IsEntryAt ns es n e × (get m n ≡ Some e)
    by None e h = absurd (cc)
    by (Some x) e h = (x, at_get ns es n x (ap (λ f. get f n) is ∙ e), e)

pub number_low : (ns : List ℕ) (es : Entries) (m : Uses) (n : ℕ) → ArePlacesKept ns es → uses_of ns es ≡ m → IsSome (get m n) → n < length ns
number_low ns es m n k is some =
    let at = number_at_place ns es m n is some in
    subst (λ q. q < length ns) at.1.number (k.numbers.low at.1.place (omega (arith, at.1.low, k.within)))

pub at_place : (ns : List ℕ) (es : Entries) (m : Uses) (n p : ℕ) → ArePlacesKept ns es → uses_of ns es ≡ m → IsSome (get m n) → p < length ns → number_at ns p ≡ n
    → IsEntryPlace es m n p
at_place ns es m n p k is some lp number =
    let at = number_at_place ns es m n is some in
    let same : at.1.place ≡ p = k.numbers.once at.1.place p (omega (arith, at.1.low, k.within)) lp (at.1.number ∙ sym number) in
    record {
      low = subst (λ q. q < length es) same at.1.low;
      held = at.0;
      entry = subst (λ q. slice_get es q ≡ Some at.0) same at.1.entry;
      there = at.2;
    }

-- ---- equal states have one place

never_again : (x : AbsState) (es : Entries) (j : ℕ) (s : AbsState) (d : ℕ) → AllByRecursion (λ y. same_state x y ≡ false) (keys_of es) → slice_get es j ≡ Some (s, d) → x ≢ s
never_again x [] j s d h e same = none-some (s, d) e
never_again x (f ∷ es) zero s d h e same =
    let t = (same_state_decides x f.0).1 (same ∙ sym (ap (λ (p : AbsState × ℕ). p.0) (same_Some f (s, d) e))) in let g = h.0 in absurd (cc)
never_again x (f ∷ es) (suc j) s d h e same = never_again x es j s d h.1 e same

one_place : (es : Entries) → IsDistinct same_state (keys_of es) → (i j : ℕ) (s : AbsState) (c d : ℕ) → slice_get es i ≡ Some (s, c) → slice_get es j ≡ Some (s, d) → i ≡ j
unfolding IsDistinct
one_place [] distinct i j s c d e f = absurd (none-some (s, c) e)
one_place (x ∷ es) distinct zero zero s c d e f = refl
one_place (x ∷ es) distinct zero (suc j) s c d e f = absurd (never_again x.0 es j s d distinct.0 f (ap (λ (p : AbsState × ℕ). p.0) (same_Some x (s, c) e)))
one_place (x ∷ es) distinct (suc i) zero s c d e f = absurd (never_again x.0 es i s c distinct.0 e (ap (λ (p : AbsState × ℕ). p.0) (same_Some x (s, d) f)))
one_place (x ∷ es) distinct (suc i) (suc j) s c d e f = ap suc (one_place es distinct.1 i j s c d e f)

pub distinct_uses : (ns : List ℕ) (es : Entries) (m : Uses) → ArePlacesKept ns es → uses_of ns es ≡ m → AreDistinct m
distinct_uses ns es m k is n q s c d e f =
    let a = at_get ns es n (s, c) (ap (λ g. get g n) is ∙ e) in
    let b = at_get ns es q (s, d) (ap (λ g. get g q) is ∙ f) in
    sym a.number ∙ ap (number_at ns) (one_place es k.distinct a.place b.place s c d a.entry b.entry) ∙ b.number

pub used_uses : (ns : List ℕ) (es : Entries) (m : Uses) → ArePlacesKept ns es → uses_of ns es ≡ m → AreUsed m
used_uses ns es m k is n s c e = let at = at_get ns es n (s, c) (ap (λ g. get g n) is ∙ e) in k.used at.place (s, c) at.entry

-- ---- a state that is put in

-- a present entry keeps its place, with the new count
put_there : (x : AbsState) (es : Entries) (c d n : ℕ) → lookup (same_state x) es ≡ Some c
    → (slice_get es (position_or_len (same_state x) (keys_of es)) ≡ Some (x, c))
    × (set_value_at (insert_entry same_state es x d) (position_or_len (same_state x) (keys_of es)) n ≡ set_value_at es (position_or_len (same_state x) (keys_of es)) n)
put_there x [] c d n is = absurd (none-some c is)
put_there x (f ∷ es) c d n is = by (same_state x f.0) refl is (put_there x es c d n)
  where
    by : (b : Bool) → same_state x f.0 ≡ b → cond b (Some f.1) (lookup (same_state x) es) ≡ Some c
        → (lookup (same_state x) es ≡ Some c
        → (slice_get es (position_or_len (same_state x) (keys_of es)) ≡ Some (x, c))
        × (set_value_at (insert_entry same_state es x d) (position_or_len (same_state x) (keys_of es)) n ≡ set_value_at es (position_or_len (same_state x) (keys_of es)) n))
        → (slice_get (f ∷ es) (cond (not b) (1 + position_or_len (same_state x) (keys_of es)) 0) ≡ Some (x, c))
        × (set_value_at (cond b ((f.0, d) ∷ es) (f ∷ insert_entry same_state es x d)) (cond (not b) (1 + position_or_len (same_state x) (keys_of es)) 0) n
        ≡ set_value_at (f ∷ es) (cond (not b) (1 + position_or_len (same_state x) (keys_of es)) 0) n)
    by true t is rest =
        let key : f.0 ≡ x = sym ((same_state_decides x f.0).0 t) in
        (ap (λ (y : AbsState). Some (y, f.1)) key ∙ ap (λ (m : ℕ). Some (x, m)) (same_Some f.1 c is), refl)
    by false t is rest =
        let one : suc (position_or_len (same_state x) (keys_of es)) ≡ 1 + position_or_len (same_state x) (keys_of es) = omega arith in
        let h = rest is in (
          subst (λ (i : ℕ). slice_get (f ∷ es) i ≡ Some (x, c)) one h.0,
          subst (λ (i : ℕ). set_value_at (f ∷ insert_entry same_state es x d) i n ≡ set_value_at (f ∷ es) i n) one (ap (λ (l : Entries). f ∷ l) h.1),
        )

pub place_there : (es : Entries) (x : AbsState) (p c : ℕ) → p ≡ position_or_len (same_state x) (keys_of es) → Some c ≡ lookup (same_state x) es → slice_get es p ≡ Some (x, c)
place_there es x p c place known = ap (slice_get es) place ∙ (put_there x es c 0 0 (sym known)).0

pub set_there : (es mid new : Entries) (x : AbsState) (p c d n : ℕ) → p ≡ position_or_len (same_state x) (keys_of es) → Some c ≡ lookup (same_state x) es
    → mid ≡ insert_entry same_state es x d → new ≡ set_value_at mid p n → new ≡ set_value_at es p n
set_there es mid new x p c d n place known put set =
    set ∙ ap (λ (l : Entries). set_value_at l p n) put ∙ ap (λ (i : ℕ). set_value_at (insert_entry same_state es x d) i n) place ∙ (put_there x es c d n (sym known)).1
    ∙ ap (λ (i : ℕ). set_value_at es i n) (sym place)

-- a new entry comes last
record ComesLast (es : Entries) (x : AbsState) (d : ℕ) : Type 0 where
  away : (j c : ℕ) → slice_get es j ≢ Some (x, c)
  put : insert_entry same_state es x d ≡ es ++ (x, d) ∷ []
  place : position_or_len (same_state x) (keys_of es) ≡ length es

put_last : (x : AbsState) (es : Entries) (d : ℕ) → lookup (same_state x) es ≡ None → ComesLast es x d
put_last x [] d is = record { away = λ j c e. none-some (x, c) e; put = refl; place = refl }
put_last x (f ∷ es) d is = by (same_state x f.0) refl is (put_last x es d)
  where
    away_by : same_state x f.0 ≡ false → ComesLast es x d → (j c : ℕ) → slice_get (f ∷ es) j ≢ Some (x, c)
    away_by t rest zero c e = let s = (same_state_decides x f.0).1 (sym (ap (λ (p : AbsState × ℕ). p.0) (same_Some f (x, c) e))) in absurd (cc)
    away_by t rest (suc j) c e = rest.away j c e

    by : (b : Bool) → same_state x f.0 ≡ b → cond b (Some f.1) (lookup (same_state x) es) ≡ None → (lookup (same_state x) es ≡ None → ComesLast es x d) → ComesLast (f ∷ es) x d
    by true t is rest = absurd (none-some f.1 (sym is))
    by false t is rest =
        let h = rest is in
        record {
          away = away_by t h;
          put = ap (λ (b : Bool). cond b ((f.0, d) ∷ es) (f ∷ insert_entry same_state es x d)) t ∙ ap (λ (l : Entries). f ∷ l) h.put;
          place = ap (λ (b : Bool). cond (not b) (1 + position_or_len (same_state x) (keys_of es)) 0) t ∙ (let e = h.place in omega (arith, e));
        }

pub absent : (ns : List ℕ) (es : Entries) (m : Uses) (x : AbsState) → uses_of ns es ≡ m → None ≡ lookup (same_state x) es → IsAbsent m x
absent ns es m x is none n count e =
    let at = at_get ns es n (x, count) (ap (λ (f : Uses). get f n) is ∙ e) in (put_last x es 0 (sym none)).away at.place count at.entry

pub place_last : (es : Entries) (x : AbsState) (p : ℕ) → p ≡ position_or_len (same_state x) (keys_of es) → None ≡ lookup (same_state x) es → p ≡ length es
place_last es x p place none = place ∙ (put_last x es 0 (sym none)).place

pub inserted_last : (es new : Entries) (x : AbsState) (d : ℕ) → None ≡ lookup (same_state x) es → new ≡ insert_entry same_state es x d → new ≡ es ++ (x, d) ∷ []
inserted_last es new x d none put = put ∙ (put_last x es d (sym none)).put

-- ---- another count

set_here : (es : Entries) (i : ℕ) (s : AbsState) (c d : ℕ) → slice_get es i ≡ Some (s, c) → slice_get (set_value_at es i d) i ≡ Some (s, d)
set_here [] i s c d e = absurd (none-some (s, c) e)
set_here (f ∷ es) zero s c d e = ap (λ (p : AbsState × ℕ). Some (p.0, d)) (same_Some f (s, c) e)
set_here (f ∷ es) (suc i) s c d e = set_here es i s c d e

set_other : (es : Entries) (i j d : ℕ) → j ≢ i → slice_get (set_value_at es i d) j ≡ slice_get es j
set_other [] i j d ne = refl
set_other (f ∷ es) zero zero d ne = absurd (ne refl)
set_other (f ∷ es) zero (suc j) d ne = refl
set_other (f ∷ es) (suc i) zero d ne = refl
set_other (f ∷ es) (suc i) (suc j) d ne = set_other es i j d (λ e. ne (ap suc e))

set_keys : (es : Entries) (i d : ℕ) → keys_of (set_value_at es i d) ≡ keys_of es
set_keys [] i d = refl
set_keys (f ∷ es) zero d = refl
set_keys (f ∷ es) (suc i) d = ap (λ (ks : List AbsState). f.0 ∷ ks) (set_keys es i d)

set_long : (es : Entries) (i d : ℕ) → length (set_value_at es i d) ≡ length es
set_long [] i d = refl
set_long (f ∷ es) zero d = refl
set_long (f ∷ es) (suc i) d = ap suc (set_long es i d)

set_counts : (es : Entries) (i d j : ℕ) (e : AbsState × ℕ) → ((k : ℕ) (x : AbsState × ℕ) → slice_get es k ≡ Some x → 0 < x.1) → 0 < d
    → slice_get (set_value_at es i d) j ≡ Some e → 0 < e.1
set_counts [] i d j e h lt is = absurd (none-some e is)
set_counts (f ∷ es) zero d zero e h lt is = subst (λ (n : ℕ). 0 < n) (ap (λ (p : AbsState × ℕ). p.1) (same_Some (f.0, d) e is)) lt
set_counts (f ∷ es) zero d (suc j) e h lt is = h (suc j) e is
set_counts (f ∷ es) (suc i) d zero e h lt is = h 0 e is
set_counts (f ∷ es) (suc i) d (suc j) e h lt is = set_counts es i d j e (λ k. h (suc k)) lt is

pub kept_set : (ns : List ℕ) (es new : Entries) (i d : ℕ) → ArePlacesKept ns es → 0 < d → new ≡ set_value_at es i d → ArePlacesKept ns new
kept_set ns es new i d k lt is =
    subst (ArePlacesKept ns) (sym is) (
    record {
      numbers = k.numbers;
      within = subst (λ n. n ≤ length ns) (sym (set_long es i d)) k.within;
      distinct = subst (IsDistinct same_state) (sym (set_keys es i d)) k.distinct;
      used = λ j e. set_counts es i d j e k.used lt;
    }
    )

pub uses_set : (ns : List ℕ) (es new : Entries) (i : ℕ) (s : AbsState) (c d : ℕ) → ArePlacesKept ns es → 0 < d → new ≡ set_value_at es i d → slice_get es i ≡ Some (s, c)
    → uses_of ns new ≡ insert (uses_of ns es) (number_at ns i) (s, d)
uses_set ns es new i s c d k lt is e =
    let k' = kept_set ns es new i d k lt is in
    let li = slice_get_within es i (s, c) e in
    let long : length new ≡ length es = ap length is ∙ set_long es i d in
    inserted (uses_of ns es) (uses_of ns new) (number_at ns i) (s, d)
    (get_at ns new (number_at ns i) (s, d) k'.within (apart ns new k')
    (record { place = i; low = omega (arith, li, long); number = refl; entry = ap (λ (l : Entries). slice_get l i) is ∙ set_here es i s c d e }))
    (λ q ne.
    same_option (get (uses_of ns new) q) (get (uses_of ns es) q)
    (λ x g.
    let at = at_get ns new q x g in
    let other : at.place ≢ i = λ same. ne (sym at.number ∙ ap (number_at ns) same) in
    get_at ns es q x k.within (apart ns es k)
    (record {
      place = at.place;
      low = (let l = at.low in omega (arith, l, long));
      number = at.number;
      entry = sym (ap (λ (l : Entries). slice_get l at.place) is ∙ set_other es i at.place d other) ∙ at.entry;
    }))
    (λ x g.
    let at = at_get ns es q x g in
    let other : at.place ≢ i = λ same. ne (sym at.number ∙ ap (number_at ns) same) in
    get_at ns new q x k'.within (apart ns new k')
    (record {
      place = at.place;
      low = (let l = at.low in omega (arith, l, long));
      number = at.number;
      entry = ap (λ (l : Entries). slice_get l at.place) is ∙ set_other es i at.place d other ∙ at.entry;
    })))

-- ---- one state more

reached_long : (ns new : List ℕ) (n : ℕ) → IsPlaceReached ns n new → n ≤ length ns → n < length new
reached_long ns new n r le =
    cases_eq (length ns) n (n < length new)
    (λ e. let long : length new ≡ length ns + 1 = ap length (r.1 e) ∙ length-append ns (n ∷ []) in omega (arith, long, e))
    (λ ne. let lt : n < length ns = grind (arith, ne, le) in subst (λ (ms : List ℕ). n < length ms) (sym (r.0 lt)) lt)

pub kept_reached : (ns ms : List ℕ) (es : Entries) → ArePlacesKept ns es → IsPlaceReached ns (length es) ms → AreNumbers ms → ArePlacesKept ms es
kept_reached ns ms es k r numbers =
    record { numbers = numbers; within = let room = reached_long ns ms (length es) r k.within in omega (arith, room); distinct = k.distinct; used = k.used }

numbered_more : (ns : List ℕ) (n : ℕ) (es : Entries) → length es ≤ length ns → numbered (ns ++ n ∷ []) es ≡ numbered ns es
numbered_more [] n [] le = refl
numbered_more [] n (e ∷ es) le = absurd (omega (arith, le))
numbered_more (m ∷ ns) n [] le = refl
numbered_more (m ∷ ns) n (e ∷ es) le = ap (λ (l : List (ℕ × (AbsState × ℕ))). (m, e) ∷ l) (numbered_more ns n es (omega (arith, le)))

reached_uses : (ns new : List ℕ) (es : Entries) → IsPlaceReached ns (length es) new → length es ≤ length ns → uses_of new es ≡ uses_of ns es
reached_uses ns new es r le =
    cases_eq (length ns) (length es) (uses_of new es ≡ uses_of ns es)
    (λ e. ap (λ (ms : List ℕ). uses_of ms es) (r.1 e) ∙ ap (λ (l : List (ℕ × (AbsState × ℕ))). from_entries {R = nat_cmp} l) (numbered_more ns (length es) es le))
    (λ ne. ap (λ (ms : List ℕ). uses_of ms es) (r.0 (grind (arith, ne, le))))

push_here : (es : Entries) (e : AbsState × ℕ) → slice_get (es ++ e ∷ []) (length es) ≡ Some e
push_here [] e = refl
push_here (f ∷ es) e = push_here es e

push_other : (es : Entries) (e : AbsState × ℕ) (j : ℕ) → j < length es → slice_get (es ++ e ∷ []) j ≡ slice_get es j
push_other [] e j lt = absurd (omega (arith, lt))
push_other (f ∷ es) e zero lt = refl
push_other (f ∷ es) e (suc j) lt = push_other es e j (omega (arith, lt))

push_counts : (es : Entries) (e : AbsState × ℕ) (j : ℕ) (x : AbsState × ℕ) → ((k : ℕ) (y : AbsState × ℕ) → slice_get es k ≡ Some y → 0 < y.1) → 0 < e.1
    → slice_get (es ++ e ∷ []) j ≡ Some x → 0 < x.1
push_counts [] e zero x h lt is = subst (λ (n : ℕ). 0 < n) (ap (λ (p : AbsState × ℕ). p.1) (same_Some e x is)) lt
push_counts [] e (suc j) x h lt is = absurd (none-some x is)
push_counts (f ∷ es) e zero x h lt is = h 0 x is
push_counts (f ∷ es) e (suc j) x h lt is = push_counts es e j x (λ k. h (suc k)) lt is

pub kept_push : (ns ms : List ℕ) (es new : Entries) (e : AbsState × ℕ) → ArePlacesKept ns es → 0 < e.1 → IsPlaceReached ns (length es) ms → AreNumbers ms → new ≡ es ++ e ∷ []
    → IsDistinct same_state (keys_of new) → ArePlacesKept ms new
kept_push ns ms es new e k lt r numbers is distinct =
    let long : length new ≡ length es + 1 = ap length is ∙ length-append es (e ∷ []) in
    let room = reached_long ns ms (length es) r k.within in
    record {
      numbers = numbers;
      within = omega (arith, long, room);
      distinct = distinct;
      used = λ j x g. push_counts es e j x k.used lt (sym (ap (λ (l : Entries). slice_get l j) is) ∙ g);
    }

-- the new state has an unused number
pub record IsNumberPushed (m new : Uses) (n : ℕ) (e : AbsState × ℕ) : Type 0 where
  pub fresh : get m n ≡ None
  pub more : new ≡ insert m n e

pub uses_push : (ns ms : List ℕ) (es new : Entries) (e : AbsState × ℕ) → ArePlacesKept ns es → 0 < e.1 → IsPlaceReached ns (length es) ms → AreNumbers ms → new ≡ es ++ e ∷ []
    → IsDistinct same_state (keys_of new) → IsNumberPushed (uses_of ns es) (uses_of ms new) (number_at ms (length es)) e
uses_push ns ms es new e k lt r numbers is distinct =
    let k' = kept_push ns ms es new e k lt r numbers is distinct in
    let long : length new ≡ length es + 1 = ap length is ∙ length-append es (e ∷ []) in
    let n = number_at ms (length es) in
    let old : uses_of ms es ≡ uses_of ns es = reached_uses ns ms es r k.within in
    let le : length es ≤ length ms = (let w = k'.within in omega (arith, long, w)) in
    let less : HaveOwnNumbers ms (length es) = λ i j li lj same. apart ms new k' i j (omega (arith, li, long)) (omega (arith, lj, long)) same in
    record {
      fresh = ap (λ (m : Uses). get m n) (sym old)
          ∙ none_of (get (uses_of ms es) n)
          (λ x g. let at = at_get ms es n x g in
          let same = apart ms new k' at.place (length es) (let l = at.low in omega (arith, l, long)) (omega (arith, long)) at.number in let l = at.low in omega (arith, l, same));
      more = subst (λ (m : Uses). uses_of ms new ≡ insert m n e) old
          (inserted (uses_of ms es) (uses_of ms new) n e
          (get_at ms new n e k'.within (apart ms new k')
          (record { place = length es; low = omega (arith, long); number = refl; entry = ap (λ (l : Entries). slice_get l (length es)) is ∙ push_here es e }))
          (λ q ne.
          same_option (get (uses_of ms new) q) (get (uses_of ms es) q)
          (λ x g.
          let at = at_get ms new q x g in
          let other : at.place ≢ length es = λ same. ne (sym at.number ∙ ap (number_at ms) same) in
          let lt : at.place < length es = (let l = at.low in grind (arith, l, long, other)) in
          get_at ms es q x le less
          (record { place = at.place; low = lt; number = at.number; entry = sym (ap (λ (l : Entries). slice_get l at.place) is ∙ push_other es e at.place lt) ∙ at.entry }))
          (λ x g.
          let at = at_get ms es q x g in
          get_at ms new q x k'.within (apart ms new k')
          (record {
            place = at.place;
            low = (let l = at.low in omega (arith, l, long));
            number = at.number;
            entry = ap (λ (l : Entries). slice_get l at.place) is ∙ push_other es e at.place at.low ∙ at.entry;
          }))));
    }

-- ---- one state less

take_get : (es : Entries) (n j : ℕ) → j < n → slice_get (take n es) j ≡ slice_get es j
take_get es zero j lt = absurd (omega (arith, lt))
take_get [] (suc n) j lt = refl
take_get (e ∷ es) (suc n) zero lt = refl
take_get (e ∷ es) (suc n) (suc j) lt = take_get es n j (omega (arith, lt))

put_here : (es : Entries) (i : ℕ) (e : AbsState × ℕ) → i < length es → slice_get (slice_set es i e) i ≡ Some e
put_here [] i e lt = absurd (omega (arith, lt))
put_here (f ∷ es) zero e lt = refl
put_here (f ∷ es) (suc i) e lt = put_here es i e (omega (arith, lt))

put_other : (es : Entries) (i j : ℕ) (e : AbsState × ℕ) → j ≢ i → slice_get (slice_set es i e) j ≡ slice_get es j
put_other [] i j e ne = refl
put_other (f ∷ es) zero zero e ne = absurd (ne refl)
put_other (f ∷ es) zero (suc j) e ne = refl
put_other (f ∷ es) (suc i) zero e ne = refl
put_other (f ∷ es) (suc i) (suc j) e ne = put_other es i j e (λ s. ne (ap suc s))

-- the last entry moves to the place, and the others stay
record IsLastMoved (es new : Entries) (p : ℕ) : Type 0 where
  here : p < length new → slice_get new p ≡ slice_get es (length new)
  others : (j : ℕ) → j < length new → j ≢ p → slice_get new j ≡ slice_get es j

moved : (es new : Entries) (p : ℕ) (e : AbsState × ℕ) → p < length es → new ≡ swap_remove es p e → length new + 1 ≡ length es → IsLastMoved es new p
moved es new p e lp is long =
    let last : length es - 1 ≡ length new = omega (arith, long) in
    let end = slice_index_or es (length es - 1) e in
    record {
      here = λ lt. ap (λ (l : Entries). slice_get l p) is ∙ take_get (slice_set es p end) (length es - 1) p (omega (arith, lt, last)) ∙ put_here es p end lp
          ∙ sym (slice_get-get_or es (length es - 1) e (omega (arith, long))) ∙ ap (slice_get es) last;
      others = λ j lt ne. ap (λ (l : Entries). slice_get l j) is ∙ take_get (slice_set es p end) (length es - 1) j (omega (arith, lt, last)) ∙ put_other es p j end ne;
    }

pub kept_less : (ns ms : List ℕ) (es new : Entries) (p : ℕ) (e : AbsState × ℕ) → ArePlacesKept ns es → p < length es → ms ≡ swap ns p (length new) → new ≡ swap_remove es p e → length new + 1 ≡ length es → AreNumbers ms
    → IsDistinct same_state (keys_of new) → ArePlacesKept ms new
kept_less ns ms es new p e k lp is entries long numbers distinct =
    let same : length ms ≡ length ns = ap length is ∙ length-swap ns p (length new) in
    let w = k.within in
    let m = moved es new p e lp entries long in
    record {
      numbers = numbers;
      within = omega (arith, same, long, w);
      distinct = distinct;
      used = λ j x g.
          let low = slice_get_within new j x g in
          cases_eq j p (0 < x.1)
          (λ here. k.used (length new) x (sym (m.here (subst (λ (q : ℕ). q < length new) here low)) ∙ ap (slice_get new) (sym here) ∙ g))
          (λ ne. k.used j x (sym (m.others j low ne) ∙ g));
    }

pub uses_less : (ns ms : List ℕ) (es new : Entries) (p : ℕ) (e : AbsState × ℕ) → ArePlacesKept ns es → p < length es → ms ≡ swap ns p (length new) → new ≡ swap_remove es p e
    → length new + 1 ≡ length es → AreNumbers ms → IsDistinct same_state (keys_of new) → uses_of ms new ≡ remove (uses_of ns es) (number_at ns p)
uses_less ns ms es new p e k lp is entries long numbers distinct =
    let k' = kept_less ns ms es new p e k lp is entries long numbers distinct in
    let l = length new in
    let w = k.within in
    let lpn : p < length ns = omega (arith, lp, w) in
    let lln : l < length ns = omega (arith, long, w) in
    let lle : l < length es = omega (arith, long) in
    let s = swapped_from_swap ns ms p l 0 lpn lln is in
    let m = moved es new p e lp entries long in
    removed (uses_of ns es) (uses_of ms new) (number_at ns p)
    (none_of (get (uses_of ms new) (number_at ns p))
    (λ x g.
    let at = at_get ms new (number_at ns p) x g in
    let low : at.place < l = at.low in
    cases_eq at.place p ⊥
    (λ here.
    let same = apart ns es k l p lle lp (sym s.0 ∙ ap (number_at ms) (sym here) ∙ at.number) in absurd (omega (arith, low, here, same)))
    (λ ne.
    let end : at.place ≢ l = λ same. absurd (omega (arith, low, same)) in
    ne (apart ns es k at.place p (omega (arith, low, long)) lp (sym (s.2 at.place ne end) ∙ at.number)))))
    (λ q ne.
    same_option (get (uses_of ms new) q) (get (uses_of ns es) q)
    (λ x g.
    let at = at_get ms new q x g in
    let low : at.place < l = at.low in
    cases_eq at.place p (get (uses_of ns es) q ≡ Some x)
    (λ here.
    get_at ns es q x w (apart ns es k)
    (record {
      place = l;
      low = lle;
      number = sym s.0 ∙ ap (number_at ms) (sym here) ∙ at.number;
      entry = sym (m.here (omega (arith, low, here))) ∙ ap (slice_get new) (sym here) ∙ at.entry;
    }))
    (λ other.
    let end : at.place ≢ l = λ same. absurd (omega (arith, low, same)) in
    get_at ns es q x w (apart ns es k)
    (record { place = at.place; low = omega (arith, low, long); number = sym (s.2 at.place other end) ∙ at.number; entry = sym (m.others at.place low other) ∙ at.entry })))
    (λ x g.
    let at = at_get ns es q x g in
    let low : at.place < length es = at.low in
    let other : at.place ≢ p = λ same. ne (sym at.number ∙ ap (number_at ns) same) in
    cases_eq at.place l (get (uses_of ms new) q ≡ Some x)
    (λ end.
    let here : p < l = grind (arith, lp, long, other, end) in
    get_at ms new q x k'.within (apart ms new k')
    (record { place = p; low = here; number = s.0 ∙ ap (number_at ns) (sym end) ∙ at.number; entry = m.here here ∙ ap (slice_get es) (sym end) ∙ at.entry }))
    (λ not_end.
    let lt : at.place < l = grind (arith, low, long, not_end) in
    get_at ms new q x k'.within (apart ms new k')
    (record { place = at.place; low = lt; number = s.2 at.place other not_end ∙ at.number; entry = m.others at.place lt other ∙ at.entry }))))

-- ---- what the calls answer

pub held_at : (ns : List ℕ) (es : Entries) (m : Uses) (i : ℕ) (e : AbsState × ℕ) → ArePlacesKept ns es → uses_of ns es ≡ m → slice_get es i ≡ Some e → get m (number_at ns i) ≡ Some e
held_at ns es m i e k is entry =
    ap (λ (f : Uses). get f (number_at ns i)) (sym is)
    ∙ get_at ns es (number_at ns i) e k.within (apart ns es k) (record { place = i; low = slice_get_within es i e entry; number = refl; entry = entry })

pub interned_again : (ns : List ℕ) (es new : Entries) (m : Uses) (n i : ℕ) (s : AbsState) (c : ℕ) → ArePlacesKept ns es → uses_of ns es ≡ m → n ≡ number_at ns i
    → slice_get es i ≡ Some (s, c) → new ≡ set_value_at es i (c + 1) → IsInterned m s n (uses_of ns new)
interned_again ns es new m n i s c k is number entry set =
    inl (
      c,
      ap (get m) number ∙ held_at ns es m i (s, c) k is entry,
      uses_set ns es new i s c (c + 1) k (omega arith) set entry ∙ ap (λ (f : Uses). insert f (number_at ns i) (s, c + 1)) is ∙ ap (λ q. insert m q (s, c + 1)) (sym number),
    )

pub interned_new : (ns ms : List ℕ) (es new : Entries) (m : Uses) (n : ℕ) (s : AbsState) → ArePlacesKept ns es → uses_of ns es ≡ m → IsPlaceReached ns (length es) ms → AreNumbers ms
    → new ≡ es ++ (s, 1) ∷ [] → IsDistinct same_state (keys_of new) → n ≡ number_at ms (length es) → IsAbsent m s → IsInterned m s n (uses_of ms new)
interned_new ns ms es new m n s k is r numbers entries distinct number away =
    let pushed = uses_push ns ms es new (s, 1) k (omega arith) r numbers entries distinct in
    inr (
      away,
      ap (λ (f : Uses). get f n) (sym is) ∙ ap (get (uses_of ns es)) number ∙ pushed.fresh,
      pushed.more ∙ ap (λ (f : Uses). insert f (number_at ms (length es)) (s, 1)) is ∙ ap (λ q. insert m q (s, 1)) (sym number),
    )

-- if memory runs out nothing changes
pub kept_uses : (ns ms : List ℕ) (es new : Entries) (m : Uses) → ArePlacesKept ns es → uses_of ns es ≡ m → IsPlaceReached ns (length es) ms → new ≡ es → uses_of ms new ≡ m
kept_uses ns ms es new m k is r same = ap (uses_of ms) same ∙ reached_uses ns ms es r k.within ∙ is

test : (c : ℕ) (b : Bool) → nat_lt 1 c ≡ b → (A : Type 0) (x y z : A) → (b ≡ true → x ≡ z) → (b ≡ false → y ≡ z) → (if nat_lt 1 c then x else y) ≡ z
test c true e A x y z f g = ap (λ b. if b then x else y) e ∙ f refl
test c false e A x y z f g = ap (λ b. if b then x else y) e ∙ g refl

pub lowered_more : (m : Uses) (n : ℕ) (s : AbsState) (c : ℕ) → 1 < c → lowered m n (Some (s, c)) ≡ insert m n (s, c - 1)
lowered_more m n s c lt =
    test c (nat_lt 1 c) refl Uses (insert m n (s, c - 1)) (remove m n) (insert m n (s, c - 1)) (λ t. refl) (λ t. absurd (grind (arith, nat_tests, t, lt)))

pub lowered_last : (m : Uses) (n : ℕ) (s : AbsState) (c : ℕ) → c ≤ 1 → lowered m n (Some (s, c)) ≡ remove m n
lowered_last m n s c le =
    test c (nat_lt 1 c) refl Uses (insert m n (s, c - 1)) (remove m n) (remove m n) (λ t. absurd (grind (arith, nat_tests, t, le))) (λ t. refl)

pub released_less : (ns : List ℕ) (es new : Entries) (m : Uses) (n p : ℕ) (x : AbsState) (c : ℕ) → ArePlacesKept ns es → uses_of ns es ≡ m → number_at ns p ≡ n
    → slice_get es p ≡ Some (x, c) → 1 < c → new ≡ set_value_at es p (c - 1) → uses_of ns new ≡ released m n
released_less ns es new m n p x c k is number entry lt set =
    let there : get m n ≡ Some (x, c) = sym (ap (get m) number) ∙ held_at ns es m p (x, c) k is entry in
    uses_set ns es new p x c (c - 1) k (omega (arith, lt)) set entry ∙ ap (λ (f : Uses). insert f (number_at ns p) (x, c - 1)) is ∙ ap (λ q. insert m q (x, c - 1)) number
    ∙ sym (ap (lowered m n) there ∙ lowered_more m n x c lt)

pub released_last : (ns ms : List ℕ) (es new : Entries) (m : Uses) (n p : ℕ) (x : AbsState) (c : ℕ) (e : AbsState × ℕ) → ArePlacesKept ns es → uses_of ns es ≡ m → number_at ns p ≡ n
    → slice_get es p ≡ Some (x, c) → c ≤ 1 → ms ≡ swap ns p (length new) → new ≡ swap_remove es p e → length new + 1 ≡ length es → AreNumbers ms
    → IsDistinct same_state (keys_of new) → uses_of ms new ≡ released m n
released_last ns ms es new m n p x c e k is number entry le swapped entries long numbers distinct =
    let there : get m n ≡ Some (x, c) = sym (ap (get m) number) ∙ held_at ns es m p (x, c) k is entry in
    uses_less ns ms es new p e k (slice_get_within es p (x, c) entry) swapped entries long numbers distinct
    ∙ ap (λ (f : Uses). remove f (number_at ns p)) is ∙ ap (remove m) number
    ∙ sym (ap (lowered m n) there ∙ lowered_last m n x c le)

given_none : (m : Uses) (n : ℕ) (s : AbsState) (c : ℕ) → get m n ≡ Some (s, c) → 1 < c → last_state (get m n) ≡ None
given_none m n s c there lt = ap last_state there ∙ test c (nat_lt 1 c) refl (Option AbsState) None (Some s) None (λ t. refl) (λ t. absurd (grind (arith, nat_tests, t, lt)))

given_last : (m : Uses) (n : ℕ) (s : AbsState) (c : ℕ) → get m n ≡ Some (s, c) → c ≤ 1 → last_state (get m n) ≡ Some s
given_last m n s c there le = ap last_state there ∙ test c (nat_lt 1 c) refl (Option AbsState) None (Some s) (Some s) (λ t. absurd (grind (arith, nat_tests, t, le))) (λ t. refl)

-- the result of a release, by the entry at the number's place
pub not_given : (ns : List ℕ) (es : Entries) (m : Uses) (n p : ℕ) (x : AbsState) (c : ℕ) → ArePlacesKept ns es → uses_of ns es ≡ m → number_at ns p ≡ n → slice_get es p ≡ Some (x, c) → 1 < c
    → None ≡ last_state (get m n)
not_given ns es m n p x c k is number entry lt = sym (given_none m n x c (sym (ap (get m) number) ∙ held_at ns es m p (x, c) k is entry) lt)

pub given_there : (ns : List ℕ) (es : Entries) (m : Uses) (n p : ℕ) (x s : AbsState) (c d : ℕ) → ArePlacesKept ns es → uses_of ns es ≡ m → number_at ns p ≡ n → slice_get es p ≡ Some (x, c) → c ≤ 1
    → Some (s, d) ≡ slice_get es p → Some s ≡ last_state (get m n)
given_there ns es m n p x s c d k is number entry le taken =
    ap Some (ap (λ (e : AbsState × ℕ). e.0) (same_Some (s, d) (x, c) (taken ∙ entry)))
    ∙ sym (given_last m n x c (sym (ap (get m) number) ∙ held_at ns es m p (x, c) k is entry) le)

-- a call without an error kept its promise
on_ok : {V E : Type 0} (r : Result V E) (P : Type 0) → OnOk r P → is_err r ≡ false → P
on_ok (Ok v) P h e = h
on_ok (Err x) P h e = absurd (cc)

pub reached_by : {V E : Type 0} (r : Result V E) (ns ms : List ℕ) (n m : ℕ) → OnOk r (IsPlaceReached ns n ms) → is_err r ≡ false → n ≡ m → IsPlaceReached ns m ms
reached_by r ns ms n m ok e same = subst (λ (i : ℕ). IsPlaceReached ns i ms) same (on_ok r (IsPlaceReached ns n ms) ok e)

-- ---- an entry that was taken out

pub taken_long : (es new : Entries) (p : ℕ) (e : AbsState × ℕ) (r : Option (AbsState × ℕ)) → r ≡ slice_get es p → slice_get es p ≡ Some e
    → length new + (if is_some r then 1 else 0) ≡ length es → length new + 1 ≡ length es
taken_long es new p e r is entry long = ap (λ (o : Option (AbsState × ℕ)). length new + (if is_some o then 1 else 0)) (sym (is ∙ entry)) ∙ long

pub taken : (es new : Entries) (p : ℕ) (e : AbsState × ℕ) (r : Option (AbsState × ℕ)) → r ≡ slice_get es p → slice_get es p ≡ Some e
    → IfSome r (λ x. new ≡ swap_remove es p x) → new ≡ swap_remove es p e
taken es new p e r is entry entries = subst (λ (o : Option (AbsState × ℕ)). IfSome o (λ x. new ≡ swap_remove es p x)) (is ∙ entry) entries
