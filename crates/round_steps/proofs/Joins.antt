-- One more node is joined into a family.
use Rattle.std.proofs.Common.{◌≡◌, ◌≢◌, refl, sym, ap, ◌∙◌, subst, ℕ, ◌+◌, ◌<◌, ◌≤◌, ⊎_elim, List, [], ◌∷◌, ◌++◌, map, cond, Option, Some, None, Contains, arith, length-append, append_assoc}
use Rattle.std.specs.declared.cmp.Ordering.TheVariants.{Less, Equal, Greater}
use Rattle.std.proofs.lemmas.List.Elements.{Contains-append_left, Contains-push}
use Rattle.std.specs.FinMap.{get, insert, len, entries, get-entries, entries-insert, len-insert}
use Rattle.std.specs.Option.{is_some}
use Rattle.std.specs.FinMap.Entries.{find, put, by_order}
use Rattle.basics.specs.Items.{none_in, first_in, further_in as there}
use Rattle.abs_state.specs.declared.state.AbsState.{AbsState}
use Rattle.node_keys.specs.declared.keys.NodeKey.{NodeKey}
use Rattle.node_keys.specs.Keys.{offset_of}
use Rattle.node_keys.specs.Order.{node_cmp}
use Rattle.node_keys.specs.Total.{node_total}
use Rattle.local_rules.specs.declared.local.Node.{Node}
use Rattle.local_rules.specs.Cover.{IsNodeIn}
use Rattle.local_laws.proofs.AllLaws.{each_of}
use Rattle.certificate.specs.Claims.{cells_of}
use Rattle.round_rules.specs.Families.{Family, Lands, cells}
use Rattle.round_laws.specs.Steps.{joined_with, raised, HaveOwnKeys, weight}
use Rattle.round_laws.proofs.AllLaws.{rounds_are_joins, at_keys, get_same, get_other, same_cells, found_here, found_later}
use Rattle.round_steps.specs.Joins.{keys_of, AreNew, FitTogether, AreJoinedSoFar}

-- ---- cells

abbrev keys_in : List (NodeKey × AbsState) → List NodeKey
keys_in es = map (λ (x : NodeKey × AbsState). x.0) es

put_cells : (k : NodeKey) (v : AbsState) (es : List (NodeKey × AbsState)) → find node_cmp k es ≡ None
    → cells_of (keys_in (put node_cmp k v es)) ≡ 1 + offset_of k.sp + cells_of (keys_in es)
unfolding cells_of
put_cells k v [] none = omega arith
put_cells k v (e ∷ es) none =
    elim (node_cmp k e.0) as (λ r. node_cmp k e.0 ≡ r
    → cells_of (keys_in (by_order r ((k, v) ∷ e ∷ es) ((e.0, v) ∷ es) (e ∷ put node_cmp k v es))) ≡ 1 + offset_of k.sp + (1 + offset_of e.0.sp + cells_of (keys_in es))) [
      | Less ↦ λ p. omega arith
      | Equal ↦ λ p. absurd (let never = sym (found_here k e es p) ∙ none in cc)
      | Greater ↦ λ p. omega (arith, put_cells k v es (sym (found_later k e es p) ∙ none))
    ] refl

pub cells_new : (f : Family) (k : NodeKey) (v : AbsState) → get f k ≡ None → cells (insert f k v) ≡ 1 + offset_of k.sp + cells f
cells_new f k v none =
    subst (λ es. cells_of (keys_in es) ≡ 1 + offset_of k.sp + cells f) (sym (entries-insert node_total f k v)) (put_cells k v (entries f) (sym (get-entries f k) ∙ none))

pub cells_kept : (f : Family) (k : NodeKey) (t v : AbsState) → get f k ≡ Some t → cells (insert f k v) ≡ cells f
cells_kept f k t v is =
    let up : cells f ≤ cells (insert f k v) = same_cells f (insert f k v)
    (λ q s e. at_keys (λ q. (s : AbsState) → get f q ≡ Some s → (u : AbsState) × (get (insert f k v) q ≡ Some u)) k q
    (λ s e. (v, get_same f k v)) (λ ne s e. (s, get_other f k v q ne ∙ e)) s e) in
    let down : cells (insert f k v) ≤ cells f = same_cells (insert f k v) f
    (λ q s e. at_keys (λ q. (s : AbsState) → get (insert f k v) q ≡ Some s → (u : AbsState) × (get f q ≡ Some u)) k q
    (λ s e. (t, is)) (λ ne s e. (s, sym (get_other f k v q ne) ∙ e)) s e) in
    omega (arith, up, down)

-- a node that makes the family longer is new, and any other keeps the cells of the present one
pub cells_raised : (f : Family) (n : Node) → (len f < len (raised f n) → cells (raised f n) ≡ 1 + offset_of n.key.sp + cells f) × (len (raised f n) ≤ len f → cells (raised f n) ≡ cells f)
cells_raised f n = by (get f n.key) refl
  where
    v : AbsState
    v = joined_with (get f n.key) n.state

    many : len (insert f n.key v) ≡ cond (is_some (get f n.key)) (len f) (len f + 1)
    many = len-insert node_total f n.key v

    by : (o : Option AbsState) → get f n.key ≡ o
        → (len f < len (insert f n.key v) → cells (insert f n.key v) ≡ 1 + offset_of n.key.sp + cells f) × (len (insert f n.key v) ≤ len f → cells (insert f n.key v) ≡ cells f)
    by None e =
        let more : len (insert f n.key v) ≡ len f + 1 = many ∙ ap (λ (o : Option AbsState). cond (is_some o) (len f) (len f + 1)) e in
        ((λ lt. cells_new f n.key v e), (λ le. absurd (omega (arith, le, more))))
    by (Some t) e =
        let as_many : len (insert f n.key v) ≡ len f = many ∙ ap (λ (o : Option AbsState). cond (is_some o) (len f) (len f + 1)) e in
        ((λ lt. absurd (omega (arith, lt, as_many))), (λ le. cells_kept f n.key t v e))

pub one_cell_more : (f g : Family) (n : Node) (count offset before now more : ℕ) → count ≡ cells f → offset ≡ offset_of n.key.sp → g ≡ raised f n → before ≡ len f → now ≡ len g → before < now
    → more ≡ 1 + offset + count → more ≡ cells g
one_cell_more f g n count offset before now more counted at is was become lt e =
    let longer : len f < len (raised f n) = subst (λ (h : Family). len f < len h) is (omega (arith, was, become, lt)) in
    let all = (cells_raised f n).0 longer in
    (let t : more ≡ cells (raised f n) = omega (arith, e, at, counted, all) in t) ∙ ap cells (sym is)

pub as_many_cells : (f g : Family) (n : Node) (count before now : ℕ) → count ≡ cells f → g ≡ raised f n → before ≡ len f → now ≡ len g → now ≤ before → count ≡ cells g
as_many_cells f g n count before now counted is was become le =
    let as_long : len (raised f n) ≤ len f = subst (λ (h : Family). len h ≤ len f) is (omega (arith, was, become, le)) in
    counted ∙ sym ((cells_raised f n).1 as_long) ∙ ap cells (sym is)

-- ---- joins

pub none_yet : (f : Family) (count : ℕ) (all : List Node) → count ≡ cells f → FitTogether f all → AreNew f all → HaveOwnKeys all → AreJoinedSoFar f all f count all []
none_yet f count all counted fit fresh apart = record {
  joined = refl;
  counted = counted;
  fresh = fresh;
  apart = apart;
  fit = fit;
  formed = λ device followed formed nodes. (formed, nodes);
  keys = refl;
  kept = λ k apart. refl;
  more = omega arith;
}

module _ (f : Family) (all : List Node) (g : Family) (n : Node) (left : List Node) (changed : List NodeKey) (before : ℕ) (so : AreJoinedSoFar f all g before (n ∷ left) changed) where
  node : IsNodeIn so.fit.device so.fit.followed n.key n.state
  node = so.fit.nodes n (first_in n left)

  other : (k : NodeKey) → k ≢ n.key → get (raised g n) k ≡ get g k
  other k ne = get_other g n.key (joined_with (get g n.key) n.state) k ne

  -- the node raises the family
  higher : weight g < weight (raised g n)
  higher = ⊎_elim (λ same. absurd (so.fresh n (first_in n left) (subst (λ h. Lands h n) same landed))) (λ lt. lt) (rounds_are_joins.rises g n so.fit.formed node)
    where
      landed : Lands (raised g n) n
      landed = (rounds_are_joins.joined g (n ∷ []) so.fit.formed (each_of (λ m. IsNodeIn so.fit.device so.fit.followed m.key m.state) n [] node (λ m i. absurd (none_in m i)))).lands n (first_in n [])

  more_joined : (count : ℕ) → count ≡ cells (raised g n) → AreJoinedSoFar f all (raised g n) count left (changed ++ n.key ∷ [])
  more_joined count counted = record {
    joined = so.joined;
    counted = counted;
    fresh = λ x i l.
        so.fresh x (there n x left i) (record { at = l.at; is = sym (other x.key (so.apart.0 x i)) ∙ l.is; above = l.above });
    apart = so.apart.1;
    fit = record {
      device = so.fit.device;
      followed = so.fit.followed;
      formed = rounds_are_joins.formed g n so.fit.formed node;
      nodes = λ x i. so.fit.nodes x (there n x left i);
    };
    formed = λ device followed formed nodes.
        let now = so.formed device followed formed nodes in
        (rounds_are_joins.formed g n now.0 (now.1 n (first_in n left)), λ x i. now.1 x (there n x left i));
    keys = append_assoc changed (n.key ∷ []) (keys_of left) ∙ so.keys;
    kept = λ k apart.
        other k (λ same. apart (subst (Contains (changed ++ n.key ∷ [])) (sym same) (Contains-push changed n.key)))
        ∙ so.kept k (λ i. apart (Contains-append_left changed (n.key ∷ []) k i));
    more = let lt = higher in omega (arith, so.more, lt, length-append changed (n.key ∷ []));
  }

  pub one_more : (h : Family) (now : List NodeKey) (count : ℕ) → h ≡ raised g n → count ≡ cells h → now ≡ changed ++ n.key ∷ [] → AreJoinedSoFar f all h count left now
  one_more h now count is counted noted =
      subst (AreJoinedSoFar f all h count left) (sym noted)
      (subst (λ (x : Family). AreJoinedSoFar f all x count left (changed ++ n.key ∷ [])) (sym is) (more_joined count (counted ∙ ap cells is)))
