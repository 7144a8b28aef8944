-- Joined successors are least upper bounds of the raw ones, in ascending order.
use Rattle.std.proofs.Common.{◌≡◌, refl, sym, ap, ap₂, ◌∙◌, subst, ◌&&◌, Bool, true, false, ◌⊎◌, inl, inr, ⊎_elim, List, [], ◌∷◌, Contains}
use Rattle.std.specs.List.Sorted.{IsStrictlySortedBy}
use Rattle.std.specs.declared.cmp.Ordering.{Ordering}
use Rattle.std.specs.declared.cmp.Ordering.TheVariants.{Less, Equal, Greater}
use Rattle.basics.specs.Items.{none_in, first_in, further_in, first_or_further}
use Rattle.local_rules.specs.Placing.{AreAscending}
use Rattle.local_rules.proofs.Placing.{joined, placed_ascend}
use Rattle.pair_domain.proofs.AllLaws.{known_is_ordered}
use Rattle.avr_model.specs.declared.device.Device.{Device}
use Rattle.abs_state.specs.declared.state.AbsState.{AbsState}
use Rattle.abs_state.specs.Order.{IsStateWithin, IsLeastAbove, state_join}
use Rattle.abs_state.specs.Banks.{is_tag_of, IsStateOf}
use Rattle.abs_state.specs.Formed.{IsFormed}
use Rattle.abs_state.proofs.AllLaws.{states_are_ordered, joins_are_formed, states_are_of, tags_stay_fit, hulls_hold_intervals}
use Rattle.node_keys.specs.declared.keys.NodeKey.{NodeKey}
use Rattle.node_keys.specs.Keys.{offset_of, is_root}
use Rattle.node_keys.specs.Order.{node_cmp}
use Rattle.node_keys.proofs.AllLaws.{keys_are_ordered}
use Rattle.local_rules.specs.declared.local.Node.{Node}
use Rattle.local_rules.specs.Local.{place_by, placed, joined_onto}
use Rattle.local_rules.specs.Cover.{IsNodeIn}
use Rattle.local_rules.specs.Order.{IsBelowOne}
use Rattle.local_laws.specs.Laws.{HasKey, AreNodesIn, JoinsAreLeast}
use Rattle.local_laws.proofs.Members.{each_of}

-- ---- two nodes of one key

and_self : (b : Bool) → b && b ≡ b
and_self true = refl
and_self false = refl

formed_at : {device : Device} {followed : Bool} (m n : Node) → n.key ≡ m.key → IsNodeIn device followed n.key n.state → IsFormed n.state (offset_of m.key.sp)
formed_at m n e h = subst (λ (k : NodeKey). IsFormed n.state (offset_of k.sp)) e h.formed

joined_least : {device : Device} {followed : Bool} (m n : Node) → n.key ≡ m.key → IsNodeIn device followed m.key m.state → IsNodeIn device followed n.key n.state → IsLeastAbove m.state n.state (state_join m.state n.state)
joined_least m n e a b =
    let f = formed_at m n e b in
    states_are_ordered.join m.state n.state (joins_are_formed.whole m.state (offset_of m.key.sp) a.formed) (joins_are_formed.whole n.state (offset_of m.key.sp) f) (a.formed.count_slots ∙ sym f.count_slots)

joined_node : {device : Device} {followed : Bool} (m n : Node) → n.key ≡ m.key → IsNodeIn device followed m.key m.state → IsNodeIn device followed n.key n.state → IsNodeIn device followed (joined m n).key (joined m n).state
joined_node {device = device} {followed = followed} m n e a b =
    let le = (joined_least m n e a b).first in
    record {
      word = a.word;
      small = a.small;
      masks = a.masks;
      fits = a.fits;
      pick = a.pick;
      formed = joins_are_formed.formed m.state n.state (offset_of m.key.sp) a.formed (formed_at m n e b);
      tags = tags_stay_fit.less m.state (joined m n).state le a.tags;
      carry_bytes = tags_stay_fit.carry_less m.state (joined m n).state le a.carry_bytes;
      untagged = λ root.
          joins_are_formed.untagged m.state n.state (offset_of m.key.sp) a.formed (formed_at m n e b) (a.untagged root)
          (b.untagged (ap (λ (k : NodeKey). k.inst.kind) e ∙ root));
      registers_of =
          states_are_of.joined (is_tag_of device) device (is_root m.key.inst.kind) m.state n.state refl (joins_are_formed.whole m.state (offset_of m.key.sp) a.formed)
          (joins_are_formed.whole n.state (offset_of m.key.sp) (formed_at m n e b)) (a.formed.count_slots ∙ sym (formed_at m n e b).count_slots) a.registers_of
          (subst (λ (k : NodeKey). IsStateOf device (is_root k.inst.kind) n.state) e b.registers_of);
      mode = known_is_ordered.followed m.state.facts n.state.facts ∙ ap₂ (λ x y. x && y) a.mode b.mode ∙ and_self followed;
      hulls =
          hulls_hold_intervals.joins m.state n.state (joins_are_formed.whole m.state (offset_of m.key.sp) a.formed)
          (joins_are_formed.whole n.state (offset_of m.key.sp) (formed_at m n e b)) a.hulls b.hulls;
    }

-- ---- what holds of all nodes, and of joins, holds of the joined ones

module _ (P : Node → Type 0) (join : (m n : Node) → n.key ≡ m.key → P m → P n → P (joined m n)) where
  placed_each : (n : Node) (ms : List Node) → P n → ((m : Node) → Contains ms m → P m) → (x : Node) → Contains (placed n ms) x → P x
  unfolding placed
  placed_each n [] h hs = each_of P n [] h hs
  placed_each n (m ∷ ms) h hs = by (placed_each n ms h (λ x i. hs x (further_in m x ms i))) (node_cmp n.key m.key) refl
    where
      by : ((x : Node) → Contains (placed n ms) x → P x) → (o : Ordering) → node_cmp n.key m.key ≡ o → (x : Node) → Contains (place_by o n m ms (placed n ms)) x → P x
      by rest Less e = each_of P n (m ∷ ms) h hs
      by rest Equal e = each_of P (joined m n) ms (join m n ((keys_are_ordered.equal_nodes n.key m.key).0 e) (hs m (first_in m ms)) h) (λ x i. hs x (further_in m x ms i))
      by rest Greater e = each_of P m (placed n ms) (hs m (first_in m ms)) rest

  joined_each : (done ns : List Node) → ((m : Node) → Contains done m → P m) → ((n : Node) → Contains ns n → P n) → (x : Node) → Contains (joined_onto done ns) x → P x
  unfolding joined_onto
  joined_each done [] h hs = h
  joined_each done (n ∷ ns) h hs = joined_each (placed n done) ns (placed_each n done (hs n (first_in n ns)) h) (λ x i. hs x (further_in n x ns i))

joined_nodes : {device : Device} {followed : Bool} (done ns : List Node) → AreNodesIn device followed done → AreNodesIn device followed ns → AreNodesIn device followed (joined_onto done ns)
joined_nodes {device = device} {followed = followed} = joined_each (λ (n : Node). IsNodeIn device followed n.key n.state) (joined_node {device = device} {followed = followed})

-- ---- each is below the one of its key

below_itself : (x : Node) (xs : List Node) → Contains xs x → IsBelowOne xs x
below_itself x xs i = record { state = x.state; present = i; above = states_are_ordered.same x.state }

below_more : (m x : Node) (xs : List Node) → IsBelowOne xs x → IsBelowOne (m ∷ xs) x
below_more m x xs b = record { state = b.state; present = further_in m (record { key = x.key; state = b.state }) xs b.present; above = b.above }

placed_below : {device : Device} {followed : Bool} (n : Node) (ms : List Node) → IsNodeIn device followed n.key n.state → AreNodesIn device followed ms → (x : Node) → (x ≡ n) ⊎ Contains ms x → IsBelowOne (placed n ms) x
unfolding placed
placed_below n [] h hs x = ⊎_elim (λ e. subst (IsBelowOne (n ∷ [])) (sym e) (below_itself n (n ∷ []) (first_in n []))) (λ i. absurd (none_in x i))
placed_below n (m ∷ ms) h hs x = by (placed_below n ms h (λ x i. hs x (further_in m x ms i))) (node_cmp n.key m.key) refl
  where
    by_equal : n.key ≡ m.key → (x ≡ n) ⊎ Contains (m ∷ ms) x → IsBelowOne (joined m n ∷ ms) x
    by_equal e =
        let above = joined_least m n e (hs m (first_in m ms)) h in
        let second : IsBelowOne (joined m n ∷ ms) n =
        record {
          state = state_join m.state n.state;
          present = subst (λ (k : NodeKey). Contains (joined m n ∷ ms) (record { key = k; state = state_join m.state n.state })) (sym e) (first_in (joined m n) ms);
          above = above.second;
        } in
        let first : IsBelowOne (joined m n ∷ ms) m = record { state = state_join m.state n.state; present = first_in (joined m n) ms; above = above.first } in
        ⊎_elim (λ e. subst (IsBelowOne (joined m n ∷ ms)) (sym e) second)
        (each_of (IsBelowOne (joined m n ∷ ms)) m ms first (λ x i. below_more (joined m n) x ms (below_itself x ms i)) x)

    by : ((y : Node) → (y ≡ n) ⊎ Contains ms y → IsBelowOne (placed n ms) y) → (o : Ordering) → node_cmp n.key m.key ≡ o → (x ≡ n) ⊎ Contains (m ∷ ms) x
        → IsBelowOne (place_by o n m ms (placed n ms)) x
    by rest Less e =
        ⊎_elim (λ e. subst (IsBelowOne (n ∷ m ∷ ms)) (sym e) (below_itself n (n ∷ m ∷ ms) (first_in n (m ∷ ms))))
        (λ i. below_itself x (n ∷ m ∷ ms) (further_in n x (m ∷ ms) i))
    by rest Equal e = by_equal ((keys_are_ordered.equal_nodes n.key m.key).0 e)
    by rest Greater e =
        ⊎_elim (λ e. below_more m x (placed n ms) (rest x (inl e)))
        (each_of (IsBelowOne (m ∷ placed n ms)) m ms (below_itself m (m ∷ placed n ms) (first_in m (placed n ms))) (λ y i. below_more m y (placed n ms) (rest y (inr i))) x)

joined_below : {device : Device} {followed : Bool} (done ns : List Node) → AreNodesIn device followed done → AreNodesIn device followed ns → (x : Node) → Contains done x ⊎ Contains ns x → IsBelowOne (joined_onto done ns) x
unfolding joined_onto
joined_below done [] h hs x = ⊎_elim (below_itself x done) (λ i. absurd (none_in x i))
joined_below {device = device} {followed = followed} done (n ∷ ns) h hs x =
    let done_nodes = placed_each (λ (n : Node). IsNodeIn device followed n.key n.state) (joined_node {device = device} {followed = followed}) n done (hs n (first_in n ns)) h in
    let rest = joined_below (placed n done) ns done_nodes (λ x i. hs x (further_in n x ns i)) in
    ⊎_elim (λ i. later rest (inr i)) (λ i. ⊎_elim (λ e. later rest (inl e)) (λ j. rest x (inr j)) (first_or_further n x ns i))
  where
    later : ((y : Node) → Contains (placed n done) y ⊎ Contains ns y → IsBelowOne (joined_onto (placed n done) ns) y) → (x ≡ n) ⊎ Contains done x
        → IsBelowOne (joined_onto (placed n done) ns) x
    later rest i =
        let one = placed_below n done (hs n (first_in n ns)) h x i in
        let above = rest (record { key = x.key; state = one.state }) (inl one.present) in
        record { state = above.state; present = above.present; above = states_are_ordered.through x.state one.state above.state one.above above.above }

-- ---- they ascend

joined_ascend : (done ns : List Node) → AreAscending done → AreAscending (joined_onto done ns)
unfolding joined_onto
joined_ascend done [] h = h
joined_ascend done (n ∷ ns) h = joined_ascend (placed n done) ns (placed_ascend n done h)

-- ---- the law

joined_keys : (nodes : List Node) (n : Node) → Contains (joined_onto [] nodes) n → HasKey nodes n.key
joined_keys nodes =
    joined_each (λ (n : Node). HasKey nodes n.key) (λ m n e a b. a) [] nodes (λ n i. absurd (none_in n i)) (λ n i. (n, (i, refl)))

abbrev IsUnder : Device → Bool → Node → AbsState → Node → Type 0
IsUnder device followed n t x = IsNodeIn device followed x.key x.state × (x.key ≡ n.key → IsStateWithin x.state t)

joined_under : (device : Device) (followed : Bool) (n : Node) (t : AbsState) (x y : Node) → y.key ≡ x.key → IsUnder device followed n t x → IsUnder device followed n t y
    → IsUnder device followed n t (joined x y)
joined_under device followed n t x y e a b =
    (joined_node x y e a.0 b.0, λ is. (joined_least x y e a.0 b.0).least t (a.1 is) (b.1 (e ∙ is)))

pub all_joins_are_least : JoinsAreLeast
unfolding IsStrictlySortedBy
all_joins_are_least = record {
  ascending = λ nodes. joined_ascend [] nodes tt;
  nodes = λ nodes h. joined_nodes [] nodes (λ n i. absurd (none_in n i)) h;
  above = λ nodes n h i. joined_below [] nodes (λ n i. absurd (none_in n i)) h n (inr i);
  keys = joined_keys;
  least = λ {device} {followed} nodes n t h i over.
      (joined_each (IsUnder device followed n t) (joined_under device followed n t) [] nodes (λ x i. absurd (none_in x i)) (λ x j. (h x j, over x j)) n i).1 refl;
}
