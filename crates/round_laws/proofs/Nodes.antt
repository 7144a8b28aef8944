-- A family is determined by its nodes.
use Rattle.std.proofs.Common.{◌≡◌, refl, sym, ap, ◌∙◌, subst, Bool, true, false, cond, ⊎_elim, List, [], ◌∷◌, map, Option, Some, None, Contains}
use Rattle.std.specs.List.{AllByRecursion}
use Rattle.std.specs.Prelude.{T}
use Rattle.std.specs.declared.cmp.Ordering.TheVariants.{Less}
use Rattle.std.specs.Ordering.{eq_by_cmp, is_eq}
use Rattle.std.specs.FinMap.{get, entries, entries_sorted, get-entries, same_map}
use Rattle.std.specs.FinMap.Entries.{find, is_sorted, below_all}
use Rattle.basics.specs.Booleans.{split_tests as both, less_if_so}
use Rattle.basics.specs.Items.{none_in, first_in, further_in, first_or_further}
use Rattle.std.proofs.lemmas.Option.{same_Some}
use Rattle.avr_model.specs.declared.device.Device.{Device}
use Rattle.abs_state.specs.declared.state.AbsState.{AbsState}
use Rattle.abs_state.proofs.AllLaws.{states_are_ordered, joins_are_formed}
use Rattle.node_keys.specs.declared.keys.NodeKey.{NodeKey}
use Rattle.node_keys.specs.Keys.{offset_of}
use Rattle.node_keys.specs.Order.{node_cmp}
use Rattle.node_keys.specs.Total.{node_total, node_equal}
use Rattle.node_keys.proofs.AllLaws.{keys_are_ordered}
use Rattle.local_rules.specs.declared.local.Node.{Node}
use Rattle.local_laws.proofs.AllLaws.{each_of}
use Rattle.round_rules.specs.Families.{Family, node_of, nodes_of, FamilyHas, Below, AreFormed}
use Rattle.round_laws.specs.Steps.{HaveOwnKeys}
use Rattle.round_laws.specs.Laws.{FamiliesAreTheirNodes}
use Rattle.round_laws.proofs.Keys.{node_exact}

pub tied : (k : NodeKey) → eq_by_cmp node_cmp k k ≡ true
tied k = sym (node_equal k k) ∙ (keys_are_ordered.same_nodes k k).1 refl

pub key_is : (k q : NodeKey) → eq_by_cmp node_cmp k q ≡ true → k ≡ q
key_is k q e = (keys_are_ordered.same_nodes k q).0 (node_equal k q ∙ e)

found_in : (k : NodeKey) (s : AbsState) (es : List (NodeKey × AbsState)) → find node_cmp k es ≡ Some s → Contains (map node_of es) (record { key = k; state = s })
found_in k s [] e = absurd (cc)
found_in k s (x ∷ xs) e = by (found_in k s xs) (eq_by_cmp node_cmp k x.0) refl e
  where
    by : (find node_cmp k xs ≡ Some s → Contains (map node_of xs) (record { key = k; state = s })) → (b : Bool) → eq_by_cmp node_cmp k x.0 ≡ b
        → cond b (Some x.1) (find node_cmp k xs) ≡ Some s → Contains (node_of x ∷ map node_of xs) (record { key = k; state = s })
    by rest true t e =
        let key = key_is k x.0 t in
        let state = same_Some x.1 s e in
        let same : node_of x ≡ record { key = k; state = s } = λ i. record { key = sym key i; state = state i } in
        subst (Contains (node_of x ∷ map node_of xs)) same (first_in (node_of x) (map node_of xs))
    by rest false t e = further_in (node_of x) (record { key = k; state = s }) (map node_of xs) (rest e)

-- ---- in order

abbrev IsAbove : NodeKey → List (NodeKey × AbsState) → Type 0
IsAbove x = AllByRecursion (λ e. node_cmp x e.0 ≡ Less)

all_above : (x : NodeKey) (es : List (NodeKey × AbsState)) → T (below_all node_cmp x es) → IsAbove x es
all_above x [] h = tt
all_above x (e ∷ es) h = let p = both _ _ h in (less_if_so _ p.0, all_above x es p.1)

member_above : (x : NodeKey) (es : List (NodeKey × AbsState)) (n : Node) → IsAbove x es → Contains (map node_of es) n → node_cmp x n.key ≡ Less
member_above x [] n a i = absurd (none_in n i)
member_above x (e ∷ es) n a i = each_of (λ m. node_cmp x m.key ≡ Less) (node_of e) (map node_of es) a.0 (λ m j. member_above x es m a.1 j) n i

never_less : (x q : NodeKey) → eq_by_cmp node_cmp q x ≡ true → node_cmp x q ≡ Less → ⊥
never_less x q e less =
    let same = key_is q x e in
    let self : node_cmp x x ≡ Less = ap (node_cmp x) (sym same) ∙ less in
    let never : is_eq Less ≡ true = ap is_eq (sym self) ∙ tied x in
    absurd (cc)

-- a key above all others is none of them
pub apart : (x : NodeKey) (es : List (NodeKey × AbsState)) (q : NodeKey) (s : AbsState) → T (below_all node_cmp x es) → find node_cmp q es ≡ Some s
    → eq_by_cmp node_cmp q x ≡ false
apart x es q s h e = by (eq_by_cmp node_cmp q x) refl
  where
    by : (b : Bool) → eq_by_cmp node_cmp q x ≡ b → b ≡ false
    by true t = absurd (never_less x q t (member_above x es (record { key = q; state = s }) (all_above x es h) (found_in q s es e)))
    by false t = refl

found : (es : List (NodeKey × AbsState)) (n : Node) → T (is_sorted node_cmp es) → Contains (map node_of es) n → find node_cmp n.key es ≡ Some n.state
found [] n sorted i = absurd (none_in n i)
found (e ∷ es) n sorted i =
    let p = both _ _ sorted in
    let first : n ≡ node_of e → find node_cmp n.key (e ∷ es) ≡ Some n.state = λ same.
    subst (λ (m : Node). find node_cmp m.key (e ∷ es) ≡ Some m.state) (sym same) (ap (λ b. cond b (Some e.1) (find node_cmp e.0 es)) (tied e.0)) in
    let later : Contains (map node_of es) n → find node_cmp n.key (e ∷ es) ≡ Some n.state = λ j.
    let rest = found es n p.1 j in
    ap (λ b. cond b (Some e.1) (find node_cmp n.key es)) (apart e.0 es n.key n.state p.0 rest) ∙ rest in
    ⊎_elim first later (first_or_further (node_of e) n (map node_of es) i)

pub sorted_parts : (e : NodeKey × AbsState) (es : List (NodeKey × AbsState)) → T (is_sorted node_cmp (e ∷ es)) → T (below_all node_cmp e.0 es) × T (is_sorted node_cmp es)
sorted_parts e es h = both _ _ h

pub has_member : (f : Family) (n : Node) → Contains (nodes_of f) n → FamilyHas f n
has_member f n i = get-entries f n.key ∙ found (entries f) n (entries_sorted f) i

pub member_has : (f : Family) (n : Node) → FamilyHas f n → Contains (nodes_of f) n
member_has f n h = found_in n.key n.state (entries f) (sym (get-entries f n.key) ∙ h)

nodes_apart : (es : List (NodeKey × AbsState)) → T (is_sorted node_cmp es) → HaveOwnKeys (map node_of es)
nodes_apart [] sorted = tt
nodes_apart (e ∷ es) sorted =
    let p = both _ _ sorted in (
      λ m i same. never_less e.0 m.key (subst (λ (k : NodeKey). eq_by_cmp node_cmp m.key k ≡ true) same (tied m.key)) (member_above e.0 es m (all_above e.0 es p.0) i),
      nodes_apart es p.1,
    )

-- ---- the order of families

below_same : {device : Device} {followed : Bool} (f g : Family) → AreFormed device followed f → AreFormed device followed g → Below f g → Below g f → f ≡ g
below_same f g a b up down = same_map node_total node_exact f g (λ q. by q (get f q) (get g q) refl refl)
  where
    by : (q : NodeKey) (x y : Option AbsState) → get f q ≡ x → get g q ≡ y → x ≡ y
    by q None None e d = refl
    by q None (Some t) e d = let l = (down (record { key = q; state = t }) d).is in absurd (let never = sym e ∙ l in cc)
    by q (Some s) None e d = let l = (up (record { key = q; state = s }) e).is in absurd (let never = sym d ∙ l in cc)
    by q (Some s) (Some t) e d =
        let n : Node = record { key = q; state = s } in
        let m : Node = record { key = q; state = t } in
        let l = up n e in
        let k = down m d in
        let le = subst (Rattle.abs_state.specs.Order.IsStateWithin s) (same_Some l.at t (sym l.is ∙ d)) l.above in
        let ge = subst (Rattle.abs_state.specs.Order.IsStateWithin t) (same_Some k.at s (sym k.is ∙ e)) k.above in
        ap Some (states_are_ordered.both s t (joins_are_formed.whole s (offset_of q.sp) (a n e).formed) (joins_are_formed.whole t (offset_of q.sp) (b m d).formed) le ge)

pub families_are_their_nodes : FamiliesAreTheirNodes
families_are_their_nodes = record {
  members = λ f n. (has_member f n, member_has f n);
  same = below_same;
  apart = λ f. nodes_apart (entries f) (entries_sorted f);
}
