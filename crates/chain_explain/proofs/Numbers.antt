-- Nodes by key and by number.
use Rattle.std.proofs.Common.{◌≡◌, refl, sym, ap, ◌∙◌, ℕ, ◌<◌, ⊎_elim, List, map, length, Option, Some, None, slice_get}
use Rattle.std.specs.List.Sorted.{IsStrictlySortedBy}
use Rattle.std.proofs.lemmas.Option.{slice_get_within}
use Rattle.std.proofs.lemmas.Bool.{cases_order}
use Rattle.basics.specs.Items.{contained_at}
use Rattle.edge_rules.specs.Places.{found_at, none_from, not_itself, pair}
use Rattle.node_keys.specs.declared.keys.NodeKey.{NodeKey}
use Rattle.node_keys.specs.Order.{node_cmp}
use Rattle.local_rules.specs.declared.local.Node.{Node}
use Rattle.local_laws.specs.Laws.{HasKey}
use Rattle.edge_rules.specs.Views.{key_of, index_of}

pub none_has : (k : NodeKey) (nodes : List Node) → index_of k nodes ≡ None → HasKey nodes k → ⊥
none_has k nodes e h = none_from k nodes 0 e h.0 h.1.0 h.1.1

-- a key has one number
pub same_number : (xs : List Node) → IsStrictlySortedBy node_cmp (map key_of xs) → (i j : ℕ) (a b : Node) → slice_get xs i ≡ Some a → slice_get xs j ≡ Some b → a.key ≡ b.key → i ≡ j
same_number xs s i j a b ea eb e =
    ⊎_elim (λ h. h)
    (λ h. ⊎_elim (λ l. absurd (not_itself a.key b.key (pair xs i j a b s ea eb l) e)) (λ l. absurd (not_itself b.key a.key (pair xs j i b a s eb ea l) (sym e))) h)
    (cases_order i j)

-- the node of a key is found
pub is_found : (nodes : List Node) → IsStrictlySortedBy node_cmp (map key_of nodes) → (k : NodeKey) (at : ℕ) (n : Node) → slice_get nodes at ≡ Some n → n.key ≡ k → index_of k nodes ≡ Some at
is_found nodes s k at n e same = by (index_of k nodes) refl
  where
    by : (o : Option ℕ) → index_of k nodes ≡ o → o ≡ Some at
    by None f = absurd (none_has k nodes f (n, (contained_at nodes at n e, same)))
    by (Some i) f = let w = found_at k nodes i f in ap (λ (x : ℕ). Some x) (same_number nodes s i at w.node n w.is e (w.same ∙ sym same))

pub inside_at : (k : NodeKey) (nodes : List Node) (at : ℕ) → index_of k nodes ≡ Some at → at < length nodes
inside_at k nodes at e = let w = found_at k nodes at e in slice_get_within nodes at w.node w.is
