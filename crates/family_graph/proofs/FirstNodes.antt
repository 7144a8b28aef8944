-- First nodes of cut instances.
use Rattle.std.proofs.Common.{◌≡◌, ◌∙◌, sym, ap, subst, true, false, ℕ, List, Option, Some, None, slice_get}
use Rattle.std.specs.Option.{is_some, option_map}
use Rattle.basics.specs.Items.{contained_at}
use Rattle.basics.specs.Lists.{one_at}
use Rattle.node_keys.specs.declared.keys.InstKey.{InstKey}
use Rattle.node_keys.specs.declared.keys.NodeKey.{NodeKey}
use Rattle.node_keys.specs.Keys.{entry_key, cut_at}
use Rattle.local_rules.specs.declared.local.Node.{Node}
use Rattle.local_laws.specs.Laws.{HasKey}
use Rattle.edge_rules.specs.Places.{found_at, none_from}
use Rattle.edge_rules.specs.Views.{key_of, index_of}
use Rattle.family_graph.specs.Numbers.{IsRooted}
use Rattle.family_graph.proofs.Insts.{node_of}
use Rattle.local_rules.specs.Site.{Task}

found_key : (nodes : List Node) (k : NodeKey) (o : Option ℕ) → o ≡ index_of k nodes → is_some o ≡ true → HasKey nodes k
found_key nodes k None e is = absurd (cc)
found_key nodes k (Some at) e is = let w = found_at k nodes at (sym e) in (w.node, (contained_at nodes at w.node w.is, w.same))

key_found : (nodes : List Node) (k : NodeKey) (o : Option ℕ) → o ≡ index_of k nodes → is_some o ≡ false → HasKey nodes k → ⊥
key_found nodes k None e is h = none_from k nodes 0 (sym e) h.0 h.1.0 h.1.1
key_found nodes k (Some at) e is h = cc

module _ (task : Task) (nodes : List Node) (at : ℕ) (key : NodeKey) (here : option_map key_of (slice_get nodes at) ≡ Some key) where
  key_is : (n : Node) → slice_get nodes at ≡ Some n → key ≡ n.key
  key_is n is = let w = node_of (slice_get nodes at) key here in sym w.2 ∙ ap (λ (m : Node). m.key) (one_at nodes at w.0 n w.1 is)

  pub rooted_yes : (o : Option ℕ) → o ≡ index_of (entry_key key.inst) nodes → is_some o ≡ true → IsRooted task nodes at
  rooted_yes o e is n depth at_n cut = subst (λ (k : NodeKey). HasKey nodes (entry_key k.inst)) (key_is n at_n) (found_key nodes (entry_key key.inst) o e is)

  pub rooted_no : (o : Option ℕ) (depth : ℕ) → o ≡ index_of (entry_key key.inst) nodes → is_some o ≡ false → cut_at task.assumptions key.inst ≡ Some depth → IsRooted task nodes at → ⊥
  rooted_no o depth e is cut h =
      let w = node_of (slice_get nodes at) key here in
      let own = h w.0 depth w.1 (subst (λ (k : NodeKey). cut_at task.assumptions k.inst ≡ Some depth) (sym w.2) cut) in
      key_found nodes (entry_key key.inst) o e is (subst (λ (k : NodeKey). HasKey nodes (entry_key k.inst)) w.2 own)
