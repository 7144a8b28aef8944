-- The table with one more instance.
use Rattle.std.proofs.Common.{◌≡◌, ◌≢◌, ℕ, zero, suc, ◌+◌, ◌*◌, ◌<◌, ◌≤◌, true, false, Option, Some, None, List, [], ◌∷◌, length, get_or, set, take, max, replicate, slice_get, refl, sym, ap, ◌∙◌, subst, arith, ◌⊎◌, ⊎_elim, get_or-set_other, get_or-set_same}
use Rattle.std.specs.List.{Contains}
use Rattle.std.specs.Option.{is_some}
use Rattle.std.proofs.lemmas.Bool.{cases_eq}
use Rattle.std.proofs.lemmas.List.{take_more, length-set, length-replicate}
use Rattle.std.proofs.lemmas.Option.{none-some}
use Rattle.std.proofs.lemmas.List.Sums.{sum_by-set, sum_by-cons}
use Rattle.std.proofs.lemmas.List.Elements.{Contains-push_cases, Contains-push, Contains-append_left}
use Rattle.basics.specs.Items.{none_within}
use Rattle.instance_graph.specs.declared.graph.GraphInst.{GraphInst}
use Rattle.instance_graph.specs.declared.graph.ClosedNode.{ClosedNode}
use Rattle.instance_graph.specs.declared.graph.Entered.{Entered}
use Rattle.node_keys.specs.declared.keys.EdgeKind.TheVariants.{Local}
use Rattle.instance_graph.specs.declared.graph.GraphWay.TheVariants.{Enters}
use Rattle.instance_graph.specs.declared.found.Found.{Found}
use Rattle.instance_graph.specs.Graph.{EntersAlong, HasClosedNode, IsGraph}
use Rattle.instance_graph.specs.Table.{at, IsOver, raised, one_if_found, one_if_missing, count_found, count_missing, IsSmall, IsSettled, IsSoundTable, IsInstStuck, IsVisit}

-- stand-ins for a missing item
abbrev pub no_entry : Entered
no_entry = record { node = 0; offset = 0; way = Enters Local; into = 0 }

abbrev pub no_node : ClosedNode
no_node = record { node = 0; offset = 0 }

pub more_within : {X : Type 0} (xs : List X) (i : ℕ) (d k : X) → i < length xs → Contains (take (i + 1) xs) k → Contains (take i xs) k ⊎ (get_or xs i d ≡ k)
more_within xs i d k lt h = Contains-push_cases (take i xs) (get_or xs i d) k (subst (λ ys. Contains ys k) (take_more xs i d lt) h)

pub same_found : (x y : Found) (o : Option Found) → o ≡ Some x → o ≡ Some y → x ≡ y
same_found x y o e e' = cc

-- ---- above what an instance enters
pub over_none : (back : ℕ) (offsets : List ClosedNode) (table : List (Option Found)) (g : ℕ) → ((p : ClosedNode) → Contains offsets p → p.offset ≤ g) → ((m : ℕ) → ((p : ClosedNode) → Contains offsets p → p.offset ≤ m) → g ≤ m) → IsOver back [] offsets table (record { rank = 0; need = g })
over_none back offsets table g above least =
    record {
      entered = λ e h. absurd (none_within h);
      above = above;
      rank_least = λ m h. omega arith;
      need_least = λ m h h'. least m h;
    }

within_first : {X : Type 0} (xs : List X) (i : ℕ) (d k : X) → i < length xs → Contains (take i xs) k → Contains (take (i + 1) xs) k
within_first xs i d k lt h = subst (λ ys. Contains ys k) (sym (take_more xs i d lt)) (Contains-append_left (take i xs) (get_or xs i d ∷ []) k h)

within_last : {X : Type 0} (xs : List X) (i : ℕ) (d : X) → i < length xs → Contains (take (i + 1) xs) (get_or xs i d)
within_last xs i d lt = subst (λ ys. Contains ys (get_or xs i d)) (sym (take_more xs i d lt)) (Contains-push (take i xs) (get_or xs i d))

pub greatest_more : (xs : List ClosedNode) (i : ℕ) (d : ClosedNode) (most most' : ℕ) → i < length xs → most' ≡ max most (get_or xs i d).offset → ((p : ClosedNode) → Contains (take i xs) p → p.offset ≤ most) → ((m : ℕ) → ((p : ClosedNode) → Contains (take i xs) p → p.offset ≤ m) → most ≤ m) → record { above : (p : ClosedNode) → Contains (take (i + 1) xs) p → p.offset ≤ most'; least : (m : ℕ) → ((p : ClosedNode) → Contains (take (i + 1) xs) p → p.offset ≤ m) → most' ≤ m }
greatest_more xs i d most most' lt e above least =
    record {
      above = λ p h. ⊎_elim (λ h. omega (arith, above p h)) (λ is. omega (arith, ap (λ q. q.offset) is)) (more_within xs i d p lt h);
      least = λ m all. let old = least m (λ p h. all p (within_first xs i d p lt h)) in let new = all (get_or xs i d) (within_last xs i d lt) in omega arith;
    }

pub over_more : (back : ℕ) (es : List Entered) (offsets : List ClosedNode) (table : List (Option Found)) (i : ℕ) (d : Entered) (f x f' : Found) → i < length es → at table (get_or es i d).into ≡ Some x → f' ≡ raised back f (get_or es i d) x → IsOver back (take i es) offsets table f → IsOver back (take (i + 1) es) offsets table f'
over_more back es offsets table i d f x f' lt is e over =
    let last = get_or es i d in
    let er : f'.rank ≡ max f.rank (x.rank + 1) = ap (λ y. y.rank) e in
    let en : f'.need ≡ max f.need (last.offset + back + x.need) = ap (λ y. y.need) e in
    record {
      entered = λ e' h. ⊎_elim
          (λ h. let p = over.entered e' h in (p.0, p.1, omega (arith, p.2, er), omega (arith, p.3, en)))
          (λ same. (x, subst (λ y. at table y.into ≡ Some x) same is, omega (arith, er), subst (λ y. y.offset + back + x.need ≤ f'.need) same (omega (arith, en))))
          (more_within es i d e' lt h);
      above = λ o h. omega (arith, over.above o h, en);
      rank_least = λ m all. let old = over.rank_least m (λ e' y h. all e' y (within_first es i d e' lt h)) in let new = all last x (within_last es i d lt) is in omega (arith, er);
      need_least = λ m all_offsets all. let old = over.need_least m all_offsets (λ e' y h. all e' y (within_first es i d e' lt h)) in let new = all last x (within_last es i d lt) is in omega (arith, en);
    }

-- for a list that the code has on the way
pub over_more_at : (back : ℕ) (es es0 : List Entered) (offsets : List ClosedNode) (table : List (Option Found)) (i : ℕ) (d : Entered) (f x f' : Found) → es0 ≡ es → i < length es0 → at table (get_or es0 i d).into ≡ Some x → f' ≡ raised back f (get_or es0 i d) x → IsOver back (take i es) offsets table f → IsOver back (take (i + 1) es) offsets table f'
over_more_at back es es0 offsets table i d f x f' e lt is raise over =
    subst (λ ys. IsOver back (take (i + 1) ys) offsets table f') e (over_more back es0 offsets table i d f x f' lt is raise (subst (λ ys. IsOver back (take i ys) offsets table f) (sym e) over))

pub over_none_at : (back : ℕ) (offsets offsets0 : List ClosedNode) (table : List (Option Found)) (g : ℕ) → offsets0 ≡ offsets → ((p : ClosedNode) → Contains offsets0 p → p.offset ≤ g) → ((m : ℕ) → ((p : ClosedNode) → Contains offsets0 p → p.offset ≤ m) → g ≤ m) → IsOver back [] offsets table (record { rank = 0; need = g })
over_none_at back offsets offsets0 table g e above least =
    subst (λ os. IsOver back [] os table (record { rank = 0; need = g })) e (over_none back offsets0 table g above least)

pub count_le : (table : List (Option Found)) → count_found table ≤ length table
count_le [] = omega arith
count_le (o ∷ table) = omega (arith, sum_by-cons one_if_found o table, at_most_one o, count_le table)
  where
    at_most_one : (o : Option Found) → one_if_found o ≤ 1
    at_most_one None = omega arith
    at_most_one (Some x) = omega arith

pub small_table : (back : ℕ) (gs : List GraphInst) (table : List (Option Found)) → IsGraph gs → IsSoundTable back gs table → (j : ℕ) (x : Found) → at table j ≡ Some x → IsSmall x 65537
small_table back gs table graph sound j x is =
    let s = sound.small j x is in
    (omega (arith, s.0, count_le table, sound.same, graph.few), s.1)

module _ (back : ℕ) (byte : back < 256) (gs : List GraphInst) (table : List (Option Found)) (graph : IsGraph gs) (sound : IsSoundTable back gs table) (i : ℕ) (inst : GraphInst) (within : i < length gs) (here : slice_get gs i ≡ Some inst) (missing : at table i ≡ None) where
  same_inst : (e : Entered) → EntersAlong gs i e → Contains inst.entered e
  same_inst e enters = let is : enters.inst ≡ inst = let a = enters.is in cc in subst (λ x. Contains x.entered e) is enters.has

  same_offsets : (o : ClosedNode) → HasClosedNode gs i o → Contains inst.offsets o
  same_offsets o h = let is : h.inst ≡ inst = let a = h.is in cc in subst (λ x. Contains x.offsets o) is h.has

  enters_it : (e : Entered) → Contains inst.entered e → EntersAlong gs i e
  enters_it e h = record { inst = inst; is = here; has = h }

  has_it : (p : ClosedNode) → Contains inst.offsets p → HasClosedNode gs i p
  has_it o h = record { inst = inst; is = here; has = h }

  pub stays_stuck : (e : Entered) → Contains inst.entered e → at table e.into ≡ None → IsInstStuck gs table i
  stays_stuck e h none = (e, enters_it e h, none)

  module _ (f : Found) (over : IsOver back inst.entered inst.offsets table f) where
    new : List (Option Found)
    new = set table i (Some f)

    below : i < length table
    below = subst (λ n. i < n) (sym sound.same) within

    keeps : (k : ℕ) (y : Found) → at table k ≡ Some y → at (set table i (Some f)) k ≡ Some y
    keeps k y is =
        let other : k ≢ i = λ e. absurd (let e' = ap (at table) e in cc) in
        get_or-set_other table i k (Some f) None other ∙ is

    one_more : count_found (set table i (Some f)) ≡ count_found table + 1
    one_more =
        let e = sum_by-set one_if_found table i (Some f) None below in
        let z : one_if_found (at table i) ≡ 0 = ap one_if_found missing in
        omega (arith, e, z)

    one_less : count_missing (set table i (Some f)) < count_missing table
    one_less =
        let e = sum_by-set one_if_missing table i (Some f) None below in
        let z : one_if_missing (at table i) ≡ 1 = ap one_if_missing missing in
        omega (arith, e, z)

    -- settled entries stay settled
    lift : (j : ℕ) (x : Found) → IsSettled back gs table j x → IsSettled back gs (set table i (Some f)) j x
    lift j x s =
        record {
          entered = λ e h. let p = s.entered e h in (p.0, keeps e.into p.0 p.1, p.2, p.3);
          offsets = s.offsets;
          rank_least = s.rank_least;
          need_least = s.need_least;
        }

    settled_here : IsSettled back gs (set table i (Some f)) i f
    settled_here =
        record {
          entered = λ e h. let p = over.entered e (same_inst e h) in (p.0, keeps e.into p.0 p.1, p.2, p.3);
          offsets = λ o h. over.above o (same_offsets o h);
          rank_least = λ rank ranks. over.rank_least (rank i) (λ e x h is. let a = (sound.settled e.into x is).rank_least rank ranks in let b = ranks i e (enters_it e h) in omega arith);
          need_least = λ need needs. over.need_least (need i) (λ o h. needs.offsets i o (has_it o h)) (λ e x h is. let a = (sound.settled e.into x is).need_least need needs in let b = needs.entered i e (enters_it e h) in omega arith);
        }

    small_here : IsSmall f (count_found table + 1)
    small_here =
        let r = over.rank_least (count_found table) (λ e x h is. (sound.small e.into x is).0) in
        let n = over.need_least (33023 * (f.rank + 1)) (λ o h. let a = graph.offsets i o (has_it o h) in omega arith)
        (λ e x h is.
        let p = over.entered e h in
        let same : p.0 ≡ x = same_found p.0 x (at table e.into) p.1 is in
        let lt : x.rank < f.rank = subst (λ y. y.rank < f.rank) same p.2 in
        let a = graph.edges i e (enters_it e h) in
        let b = (sound.small e.into x is).1 in
        omega arith) in
        (omega arith, n)

    at_table : (P : Found → ℕ → Type 0) (j : ℕ) (x : Found) → at (set table i (Some f)) j ≡ Some x → P f i → (at table j ≡ Some x → P x j) → P x j
    at_table P j x is at_i other =
        ⊎_elim
        (λ e. let e1 : at (set table i (Some f)) j ≡ Some f = ap (at (set table i (Some f))) e ∙ get_or-set_same table i (Some f) None below in
        subst (P x) (sym e) (subst (λ y. P y i) (same_found f x (at (set table i (Some f)) j) e1 is) at_i))
        (λ ne. other (sym (get_or-set_other table i j (Some f) None ne) ∙ is))
        (cases_eq j i)

    pub settled_visit : IsVisit back gs table i true (set table i (Some f))
    settled_visit =
        record {
          sound = record {
            same = length-set table i (Some f) ∙ sound.same;
            settled = λ j x is. at_table (λ y k. IsSettled back gs (set table i (Some f)) k y) j x is settled_here (λ old. lift j x (sound.settled j x old));
            small = λ j x is. subst (IsSmall x) (sym one_more) (at_table (λ y k. IsSmall y (count_found table + 1)) j x is small_here (λ old. let s = sound.small j x old in (omega (arith, s.0), s.1)));
          };
          fewer = λ e. one_less;
          kept = λ e. absurd (let e' = e in cc);
          stuck = λ e. absurd (let e' = e in cc);
        }

pub no_visit : (back : ℕ) (gs : List GraphInst) (table : List (Option Found)) (i : ℕ) → IsSoundTable back gs table → (at table i ≡ None → IsInstStuck gs table i) → IsVisit back gs table i false table
no_visit back gs table i sound stuck =
    record {
      sound = sound;
      fewer = λ e. absurd (let e' = e in cc);
      kept = λ e. refl;
      stuck = λ e. stuck;
    }

-- ---- a pass over all

pub none_found : (n i : ℕ) → at (replicate n None) i ≡ None
none_found zero i = refl
none_found (suc n) zero = refl
none_found (suc n) (suc i) = none_found n i

nothing_found : (n : ℕ) (table : List (Option Found)) → table ≡ replicate n None → (i : ℕ) (x : Found) → at table i ≡ Some x → ⊥
nothing_found n table is i x e = none-some x (sym (ap (λ (t : List (Option Found)). at t i) is ∙ none_found n i) ∙ e)

pub none_sound : (back : ℕ) (gs : List GraphInst) (table : List (Option Found)) → table ≡ replicate (length gs) None → IsSoundTable back gs table
none_sound back gs table is = record {
  same = ap length is ∙ length-replicate (length gs) None;
  settled = λ i x e. absurd (nothing_found (length gs) table is i x e);
  small = λ i x e. absurd (nothing_found (length gs) table is i x e);
}

pub none_here : (o : Option Found) → is_some o ≡ false → o ≡ None
none_here None e = refl
none_here (Some x) e = absurd (let e' = e in cc)

pub into_within : (back : ℕ) (gs : List GraphInst) (table : List (Option Found)) → IsGraph gs → IsSoundTable back gs table → (i : ℕ) (inst : GraphInst) → slice_get gs i ≡ Some inst → (e : Entered) → Contains inst.entered e → e.into < length table
into_within back gs table graph sound i inst is e h = omega (arith, sound.same, graph.within i e (record { inst = inst; is = is; has = h }))
