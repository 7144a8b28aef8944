-- The family of each round is unique, and below each valid one.
use Rattle.std.proofs.Common.{◌≡◌, Bool, sym, ap, ◌∙◌, subst, ℕ, zero, suc, ◌+◌, ◌<◌, ◌≤◌, List, Option, Some, Contains, arith}
use Rattle.std.specs.FinMap.{get, empty, get-empty}
use Rattle.std.proofs.lemmas.Option.{same_Some}
use Rattle.avr_model.specs.declared.device.Device.{Device}
use Rattle.avr_model.specs.declared.assumption.Entry.{Entry}
use Rattle.avr_model.specs.Assumptions.{has_pairs, recur_line}
use Rattle.avr_model.specs.Devices.{device_of}
use Rattle.abs_state.specs.declared.state.AbsState.{AbsState}
use Rattle.abs_state.proofs.AllLaws.{states_are_ordered}
use Rattle.node_keys.specs.declared.keys.InstKey.{InstKey}
use Rattle.node_keys.specs.declared.keys.NodeKey.{NodeKey}
use Rattle.node_keys.specs.Keys.{root_inst, entry_key, if_called, cut_at}
use Rattle.node_keys.specs.Order.{node_cmp}
use Rattle.local_rules.specs.declared.local.Node.{Node}
use Rattle.local_rules.specs.Cover.{IsNodeIn}
use Rattle.local_laws.specs.Laws.{AreNodesIn}
use Rattle.node_keys.specs.declared.keys.EdgeKind.{EdgeKind}
use Rattle.node_keys.specs.declared.keys.Kind.{Kind}
use Rattle.node_keys.specs.declared.keys.Kind.TheVariants.{Root, Call, Vector}
use Rattle.avr_model.specs.Vectors.{vector_word}
use Rattle.edge_rules.specs.Edges.{Enters, by_call, by_interrupt, target}
use Rattle.edge_rules.specs.Nest.{NestEdge, recurs, enters as by_node}
use Rattle.edge_rules.specs.Families.{IsCovered}
use Rattle.edge_rules.specs.Roots.{root_of}
use Rattle.edge_laws.specs.Laws.{with_state}
use Rattle.edge_laws.proofs.AllLaws.{edges_lead_to_nodes, edges_grow}
use Rattle.round_rules.specs.Families.{Family, nodes_of, FamilyHas, Lands, Below, AreFormed, HasNoFault, LandIn}
use Rattle.round_rules.specs.Rounds.{Reaches, once, more, AreRanks, AreNeeds, first, IsNext, Comes}
use Rattle.round_laws.specs.Laws.{IsValidFamily}
use Rattle.round_laws.proofs.Keys.{at_keys, get_same, get_other}
use Rattle.round_laws.proofs.Nodes.{has_member, member_has, families_are_their_nodes}
use Rattle.local_rules.specs.Site.{Task}

-- ---- families

pub lands_up : (f g : Family) (n : Node) → Below f g → Lands f n → Lands g n
lands_up f g n below l =
    let m = below (with_state n l.at) l.is in
    record { at = m.at; is = m.is; above = states_are_ordered.through n.state l.at m.at l.above m.above }

pub lands_covered : (g : Family) (n : Node) → Lands g n → IsCovered (nodes_of g) n
lands_covered g n l = record { state = l.at; present = member_has g (with_state n l.at) l.is; above = l.above }

covered_lands : (g : Family) (n : Node) → IsCovered (nodes_of g) n → Lands g n
covered_lands g n c = record { at = c.state; is = has_member g (with_state n c.state) c.present; above = c.above }

pub formed_nodes : {device : Device} {followed : Bool} (f : Family) → AreFormed device followed f → AreNodesIn device followed (nodes_of f)
formed_nodes f formed n i = formed n (has_member f n i)

-- a property of the first family's one node holds of all its nodes
pub first_has : (A : List Entry) (P : NodeKey → AbsState → Type 0) → P (entry_key root_inst) (root_of A) → (n : Node) → FamilyHas (first A) n → P n.key n.state
first_has A P h n =
    at_keys (λ q. (s : AbsState) → get (first A) q ≡ Some s → P q s) (entry_key root_inst) n.key
    (λ s e. subst (P (entry_key root_inst)) (same_Some (root_of A) s (sym (get_same empty (entry_key root_inst) (root_of A)) ∙ e)) h)
    (λ ne s e. absurd (let never = sym (get-empty node_cmp n.key) ∙ sym (get_other empty (entry_key root_inst) (root_of A) n.key ne) ∙ e in cc)) n.state

module _ (task : Task) where
  pub comes_formed : (n : ℕ) (f : Family) → Comes task n f → AreFormed (device_of task.flash) (has_pairs task.assumptions) f
  comes_formed zero f c = subst (AreFormed (device_of task.flash) (has_pairs task.assumptions)) (sym c) (λ n h. first_has task.assumptions (IsNodeIn (device_of task.flash) (has_pairs task.assumptions)) (edges_lead_to_nodes.reset (device_of task.flash) (has_pairs task.assumptions)) n h)
  comes_formed (suc n) f c = c.4.formed

  -- ---- one family at each number

  next_same : (f g g' : Family) → IsNext task f g → IsNext task f g' → g ≡ g'
  next_same f g g' next next' =
      families_are_their_nodes.same g g' next.formed next'.formed (next.least g' next'.above next'.edges) (next'.least g next.above next.edges)

  pub comes_same : (n : ℕ) (f g : Family) → Comes task n f → Comes task n g → f ≡ g
  comes_same zero f g c d = c ∙ sym d
  comes_same (suc n) f g c d =
      let e = comes_same n c.0 d.0 c.1 d.1 in
      next_same d.0 f g (subst (λ x. IsNext task x f) e c.4) d.4

  pub comes_root : (n : ℕ) (f : Family) → Comes task n f → Lands f (record { key = entry_key root_inst; state = root_of task.assumptions })
  comes_root zero f c =
      record {
        at = root_of task.assumptions;
        is = ap (λ x. get x (entry_key root_inst)) c ∙ get_same empty (entry_key root_inst) (root_of task.assumptions);
        above = states_are_ordered.same (root_of task.assumptions);
      }
  comes_root (suc n) f c = lands_up c.0 f (record { key = entry_key root_inst; state = root_of task.assumptions }) c.4.above (comes_root n c.0 c.1)

  -- ---- below a valid family

  module _ (g : Family) (valid : IsValidFamily task g) where
    module _ (f : Family) (formed : AreFormed (device_of task.flash) (has_pairs task.assumptions) f) (below : Below f g) where
      covered : (n : Node) → Contains (nodes_of f) n → IsCovered (nodes_of g) n
      covered n i = lands_covered g n (below n (has_member f n i))

      edges_land : LandIn task f g
      edges_land n e has edge =
          let p = edges_grow.edges task (nodes_of f) (nodes_of g) n e (formed_nodes f formed) valid.sound.formed covered valid.sound.faultless (member_has f n has) edge in
          let c = valid.sound.edges (with_state n p.from) (record { kind = e.kind; to = e.to; state = p.landed }) p.present p.is_edge in
          record {
            at = c.state;
            is = has_member g (with_state (target e) c.state) c.present;
            above = states_are_ordered.through e.state p.landed c.state p.above c.above;
          }

      pub none_faulty : HasNoFault task f
      none_faulty n has =
          let l = below n has in
          let i = member_has g (with_state n l.at) l.is in
          edges_grow.faultless task n l.at (formed n has) (valid.sound.formed (with_state n l.at) i) l.above (valid.sound.faultless (with_state n l.at) i)

      enters_up : (n : Node) (way : EdgeKind) (inst : InstKey) (back : ℕ) (has : FamilyHas f n) → Enters task n way inst back → Enters task (with_state n (below n has).at) way inst back
      enters_up n way inst back has enters =
          let l = below n has in
          let i = member_has g (with_state n l.at) l.is in
          edges_grow.enters task n l.at way inst back (formed n has) (valid.sound.formed (with_state n l.at) i) l.above (valid.sound.faultless (with_state n l.at) i) enters

      -- each edge of the nest is one of the valid family's
      nest_up : (i j : InstKey) (depth : ℕ) → NestEdge task (FamilyHas f) i j depth → NestEdge task (Contains (nodes_of g)) i j depth
      nest_up i j depth (by_node n way back has same at e whole) =
          let l = below n has in
          by_node (with_state n l.at) way back (member_has g (with_state n l.at) l.is) same at (enters_up n way j back has e) whole
      nest_up i j depth (recurs n has same cut top) = let l = below n has in recurs (with_state n l.at) (member_has g (with_state n l.at) l.is) same cut top

      pub ranks_of : AreRanks task f valid.rank_of
      ranks_of i j offset e = valid.sound.ranks i j offset (nest_up i j offset e)

      pub needs_of : AreNeeds task f valid.need_of
      needs_of = record {
        offsets = λ n offset has is. let l = below n has in valid.sound.offsets (with_state n l.at) offset (member_has g (with_state n l.at) l.is) is;
        entered = λ i j offset e. valid.sound.needs i j offset (nest_up i j offset e);
      }

    pub comes_below : (n : ℕ) (f : Family) → Comes task n f → Below f g
    comes_below zero f c =
        subst (λ x. Below x g) (sym c) (λ n h. first_has task.assumptions (λ q s. Lands g (record { key = q; state = s })) (covered_lands g (record { key = entry_key root_inst; state = root_of task.assumptions }) valid.sound.reset) n h)
    comes_below (suc n) f c = c.4.least g (comes_below n c.0 c.1) (edges_land c.0 (comes_formed n c.0 c.1) (comes_below n c.0 c.1))

-- ---- ranks rule out cycles

pub reached_lower : (task : Task) (f : Family) (rank : InstKey → ℕ) → AreRanks task f rank → (i j : InstKey) → Reaches task f i j → rank j < rank i
reached_lower task f rank are _ _ (once i j offset e) = are i j offset e
reached_lower task f rank are _ _ (more i j k offset e rest) = omega (arith, are i j offset e, reached_lower task f rank are j k rest)

-- ---- an entered instance of a vector begins at its word

vector_same : (v u : ℕ) → Vector v ≡ Vector u → v ≡ u
vector_same v u e = cc

enters_word : (task : Task) (n : Node) (way : EdgeKind) (inst : InstKey) (back v : ℕ) → Enters task n way inst back → inst.kind ≡ Vector v
    → inst.entry ≡ vector_word (device_of task.flash) v
enters_word task n _ _ _ v (by_call offset site clean form member) e = absurd (cc)
enters_word task n _ _ _ v (by_interrupt offset u clears clean form i delay enabled allowed clearable) e = ap (vector_word (device_of task.flash)) (vector_same u v e)

-- only an instance of a call is cut
called_only : (kind : Kind) (line : Option ℕ) (depth v : ℕ) → kind ≡ Vector v → if_called kind line ≡ Some depth → ⊥
called_only Root line depth v e cut = cc
called_only Call line depth v e cut = cc
called_only (Vector u) line depth v e cut = cc

cut_called : (task : Task) (j : InstKey) (depth v : ℕ) → j.kind ≡ Vector v → cut_at task.assumptions j ≡ Some depth → ⊥
unfolding cut_at
cut_called task j depth v kind cut = called_only j.kind (recur_line task.assumptions j.entry) depth v kind cut

pub entered_word : (task : Task) (f : Family) (i j : InstKey) (v : ℕ) → Reaches task f i j → j.kind ≡ Vector v → j.entry ≡ vector_word (device_of task.flash) v
entered_word task f _ _ v (once i j offset (by_node n way back has same at e whole)) kind = enters_word task n way j back v e kind
entered_word task f _ _ v (once i j offset (recurs n has same cut top)) kind = absurd (cut_called task j offset v kind cut)
entered_word task f _ _ v (more i j k offset e rest) kind = entered_word task f j k v rest kind
