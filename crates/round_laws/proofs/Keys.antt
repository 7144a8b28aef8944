-- Families by their states at each key.
use Rattle.std.proofs.Common.{◌≡◌, ◌≢◌, refl, sym, ap, ◌∙◌, subst, Bool, true, false, cond, Some}
use Rattle.std.specs.FinMap.{IsAntisymmetric, get, insert, get-insert}
use Rattle.abs_state.specs.declared.state.AbsState.{AbsState}
use Rattle.node_keys.specs.declared.keys.NodeKey.{NodeKey}
use Rattle.node_keys.specs.Order.{node_cmp, same_node}
use Rattle.node_keys.specs.Total.{node_total, node_equal}
use Rattle.node_keys.proofs.AllLaws.{keys_are_ordered}
use Rattle.round_rules.specs.Families.{Family}

pub node_exact : IsAntisymmetric node_cmp
node_exact x y e = (keys_are_ordered.equal_nodes x y).0 e

-- what holds at this key and at each other holds at each
pub at_keys : (P : NodeKey → Type 0) (k q : NodeKey) → P k → ((q ≢ k) → P q) → P q
at_keys P k q here other = by (same_node q k) refl
  where
    by : (b : Bool) → same_node q k ≡ b → P q
    by true e = subst P (sym ((keys_are_ordered.same_nodes q k).0 e)) here
    by false e = other (λ is. let t = (keys_are_ordered.same_nodes q k).1 is in absurd (cc))

same_is : (k : NodeKey) → same_node k k ≡ true
same_is k = (keys_are_ordered.same_nodes k k).1 refl

other_is : (q k : NodeKey) → q ≢ k → same_node q k ≡ false
other_is q k ne = by (same_node q k) (λ t. ne ((keys_are_ordered.same_nodes q k).0 t))
  where
    by : (b : Bool) → (b ≡ true → ⊥) → b ≡ false
    by true never = absurd (never refl)
    by false never = refl

got : (f : Family) (k : NodeKey) (v : AbsState) (q : NodeKey) → get (insert f k v) q ≡ cond (same_node q k) (Some v) (get f q)
got f k v q = get-insert node_total f k v q ∙ ap (λ b. cond b (Some v) (get f q)) (sym (node_equal q k))

pub get_same : (f : Family) (k : NodeKey) (v : AbsState) → get (insert f k v) k ≡ Some v
get_same f k v = got f k v k ∙ ap (λ b. cond b (Some v) (get f k)) (same_is k)

pub get_other : (f : Family) (k : NodeKey) (v : AbsState) (q : NodeKey) → q ≢ k → get (insert f k v) q ≡ get f q
get_other f k v q ne = got f k v q ∙ ap (λ b. cond b (Some v) (get f q)) (other_is q k ne)
