-- Nodes whose states are cut, each to the part of it that is left, if any.
use Rattle.std.proofs.Common.{◌≡◌, refl, sym, subst, ⊎_elim, List, [], ◌∷◌, flat_map, Option, Some, None, Contains}
use Rattle.std.proofs.lemmas.List.Elements.{Contains-append_left, Contains-append_right, Contains-append_cases}
use Rattle.basics.specs.Items.{none_in, first_in, further_in, first_or_further}
use Rattle.abs_state.specs.declared.state.AbsState.{AbsState}
use Rattle.local_rules.specs.declared.local.Node.{Node}
use Rattle.local_rules.specs.Settling.{node_where}
use Rattle.local_laws.proofs.Members.{each_of}

abbrev pub left_nodes : (AbsState → Option AbsState) → List Node → List Node
left_nodes f nodes = flat_map (λ (n : Node). node_where n.key (f n.state)) nodes

-- the node of which something is left
pub record IsLeftOne (f : AbsState → Option AbsState) (nodes : List Node) (x : Node) : Type 0 where
  pub to : Node
  pub member : Contains nodes to
  pub same : x.key ≡ to.key
  pub left : f to.state ≡ Some x.state

module _ (f : AbsState → Option AbsState) where
  from_where : (nodes : List Node) (n : Node) → Contains nodes n → (left : Option AbsState) → f n.state ≡ left → (x : Node) → Contains (node_where n.key left) x → IsLeftOne f nodes x
  from_where nodes n member None e x h = absurd (none_in x h)
  from_where nodes n member (Some u) e x h =
      each_of (IsLeftOne f nodes) (record { key = n.key; state = u }) [] (record { to = n; member = member; same = refl; left = e }) (λ y j. absurd (none_in y j)) x h

  from_all : (all nodes : List Node) → ((n : Node) → Contains nodes n → Contains all n) → (x : Node) → Contains (left_nodes f nodes) x → IsLeftOne f all x
  from_all all [] within x h = absurd (none_in x h)
  from_all all (n ∷ ns) within x h =
      ⊎_elim (from_where all n (within n (first_in n ns)) (f n.state) refl x) (from_all all ns (λ m j. within m (further_in n m ns j)) x)
      (Contains-append_cases (node_where n.key (f n.state)) (left_nodes f ns) x h)

  -- each is left of one of the nodes
  pub from_left : (nodes : List Node) (x : Node) → Contains (left_nodes f nodes) x → IsLeftOne f nodes x
  from_left nodes x h = from_all nodes nodes (λ n j. j) x h

  -- what is left of a node is among them
  pub in_left : (nodes : List Node) (to : Node) (u : AbsState) → Contains nodes to → f to.state ≡ Some u → Contains (left_nodes f nodes) (record { key = to.key; state = u })
  in_left [] to u h e = absurd (none_in to h)
  in_left (n ∷ ns) to u h e =
      ⊎_elim
      (λ is. Contains-append_left (node_where n.key (f n.state)) (left_nodes f ns) (record { key = to.key; state = u })
      (subst (λ (m : Node). Contains (node_where m.key (f m.state)) (record { key = to.key; state = u })) is
      (subst (λ (y : Option AbsState). Contains (node_where to.key y) (record { key = to.key; state = u })) (sym e) (first_in (record { key = to.key; state = u }) []))))
      (λ rest. Contains-append_right (node_where n.key (f n.state)) (left_nodes f ns) (record { key = to.key; state = u }) (in_left ns to u rest e))
      (first_or_further n to ns h)
