-- From a round to the next.
use Rattle.std.proofs.Common.{◌≡◌, refl, sym, ap, ◌∙◌, subst, ℕ, ◌<◌, ◌⊎◌, inl, inr, ⊎_elim, Bool, true, false, List, [], ◌∷◌, Contains, arith}
use Rattle.std.specs.FinMap.{empty, get-empty, same_map}
use Rattle.basics.specs.Items.{none_in, first_in, further_in as there, first_or_further}
use Rattle.avr_model.specs.Assumptions.{has_pairs}
use Rattle.avr_model.specs.Devices.{device_of}
use Rattle.abs_state.specs.declared.state.AbsState.{AbsState}
use Rattle.abs_state.proofs.AllLaws.{states_are_ordered}
use Rattle.node_keys.specs.declared.keys.InstKey.{InstKey}
use Rattle.node_keys.specs.declared.keys.NodeKey.{NodeKey}
use Rattle.node_keys.specs.Order.{node_cmp, same_node}
use Rattle.node_keys.specs.Total.{node_total}
use Rattle.node_keys.proofs.AllLaws.{keys_are_ordered}
use Rattle.local_rules.specs.declared.local.Node.{Node}
use Rattle.local_laws.proofs.AllLaws.{local_parts_are_monotone}
use Rattle.edge_rules.specs.Nest.{recurs, enters as by_node}
use Rattle.edge_laws.specs.Laws.{with_state}
use Rattle.edge_laws.proofs.AllLaws.{edges_grow}
use Rattle.round_table.specs.declared.crossings.Crossing.{Crossing}
use Rattle.round_nesting.specs.Nestings.{AreOnce}
use Rattle.round_rules.specs.Families.{Family, FamilyHas, Lands, Below, AreFormed, HasNoFault, IsClosed}
use Rattle.round_rules.specs.Rounds.{IsEntering, IsNext}
use Rattle.round_laws.specs.Steps.{weight}
use Rattle.round_laws.proofs.AllLaws.{families_are_their_nodes, node_exact}
use Rattle.round_steps.specs.declared.noting.Notes.{Notes}
use Rattle.round_steps.specs.Notings.{blank}
use Rattle.round_steps.specs.Joins.{KeptBut}
use Rattle.fixpoint.specs.Progress.{IsCaller, IsLeaver, AreTrue, AreKnown, Turn}
use Rattle.fixpoint.proofs.Aims.{own_aim, back_aim}
use Rattle.local_rules.specs.Site.{Task}

pub there_or_not : (xs : List NodeKey) (k : NodeKey) → Contains xs k ⊎ (Contains xs k → ⊥)
there_or_not [] k = inr (none_in k)
there_or_not (x ∷ xs) k = by (there_or_not xs k) (same_node k x) refl
  where
    by : Contains xs k ⊎ (Contains xs k → ⊥) → (b : Bool) → same_node k x ≡ b → Contains (x ∷ xs) k ⊎ (Contains (x ∷ xs) k → ⊥)
    by rest true e = inl (subst (Contains (x ∷ xs)) (sym ((keys_are_ordered.same_nodes k x).0 e)) (first_in x xs))
    by rest false e = ⊎_elim (λ i. inl (there x k xs i))
        (λ no. inr (λ i. ⊎_elim (λ is. let t = (keys_are_ordered.same_nodes k x).1 is in absurd (cc)) no (first_or_further x k xs i))) rest

module _ (task : Task) where
  -- ---- what is noted stays so in a greater family without faults

  module _ (f g : Family) (low : AreFormed (device_of task.flash) (has_pairs task.assumptions) f) (high : AreFormed (device_of task.flash) (has_pairs task.assumptions) g) (below : Below f g) (clean : HasNoFault task g) where
    abbrev up : (n : Node) → FamilyHas f n → Node
    up n has = with_state n (below n has).at

    caller_up : (inst : InstKey) (p : Crossing) → IsCaller task f inst p → IsCaller task g inst p
    caller_up inst p c =
        let l = below c.node c.has in
        let m = with_state c.node l.at in
        record {
          node = m;
          has = l.is;
          at = c.at;
          enters = edges_grow.enters task c.node l.at p.kind inst p.back (low c.node c.has) (high m l.is) l.above (clean m l.is) c.enters;
        }

    leaver_up : (inst : InstKey) (p : Crossing) → IsLeaver task f inst p → IsLeaver task g inst p
    leaver_up inst p c =
        let l = below c.node c.has in
        let m = with_state c.node l.at in
        let w = (local_parts_are_monotone.below task c.node.key c.node.state l.at (low c.node c.has) (high m l.is) l.above).within (clean m l.is) in
        record { node = m; has = l.is; at = c.at; of = c.of; exit = sym w.exit ∙ c.exit }

    entering_up : (i j : InstKey) (offset : ℕ) → IsEntering task f i j offset → IsEntering task g i j offset
    entering_up i j offset (by_node n way back has same at e whole) =
        let l = below n has in
        let m = with_state n l.at in
        by_node m way back l.is same at (edges_grow.enters task n l.at way j back (low n has) (high m l.is) l.above (clean m l.is) e) whole
    entering_up i j offset (recurs n has same cut top) = let l = below n has in recurs (with_state n l.at) l.is same cut top

    pub so_up : (notes : Notes) → AreTrue task f notes → AreTrue task g notes
    so_up notes so = record {
      callers = λ i p h. caller_up i p (so.callers i p h);
      leavers = λ i p h. leaver_up i p (so.leavers i p h);
      insts = λ i h. let c = so.insts i h in let l = below c.0 c.1 in (with_state c.0 l.at, l.is, c.2);
      spots = λ s h. let c = so.spots s h in let l = below c.node c.has in record { node = with_state c.node l.at; has = l.is; of = c.of; closed = c.closed };
      entrances = λ e h. entering_up e.from e.into e.offset (so.entrances e h);
    }

  -- ---- the next turn

  pub next_turn : (f g : Family) (notes : Notes) (changed : List NodeKey) → AreFormed (device_of task.flash) (has_pairs task.assumptions) f → IsNext task f g → AreKnown task f notes → AreOnce notes.nesting.insts
      → KeptBut f g changed → Turn task g changed notes
  next_turn f g notes changed formed next known once kept = record {
    held = λ n has. ⊎_elim (λ i. inl i)
        (λ no. let was : FamilyHas f n = sym (kept n.key no) ∙ has in
        inr (record {
          faultless = known.faultless n was;
          known = known.each n was;
          own = λ to own. let a = own_aim task f n to was own in subst (Lands g) a.at (next.edges a.from a.edge a.has a.is);
        }))
        (there_or_not changed n.key);
    backs = λ n m to has there comes. ⊎_elim (λ i. inl i)
        (λ no. ⊎_elim (λ i. inr (inl i))
        (λ neither.
        let was : FamilyHas f n = sym (kept n.key no) ∙ has in
        let were : FamilyHas f m = sym (kept m.key neither) ∙ there in
        let a = back_aim task f n m to was were comes in
        inr (inr (subst (Lands g) a.at (next.edges a.from a.edge a.has a.is))))
        (there_or_not changed m.key))
        (there_or_not changed n.key);
    so = λ clean. so_up f g formed next.formed next.above clean notes known.so;
    once = once;
  }

  -- ---- the first turn

  pub first_turn : (f : Family) (work : List NodeKey) → KeptBut empty f work → Turn task f work blank
  first_turn f work kept =
      let there : (n : Node) → FamilyHas f n → Contains work n.key = λ n has.
      ⊎_elim (λ i. i) (λ no. absurd (let never = sym (get-empty {X = AbsState} node_cmp n.key) ∙ sym (kept n.key no) ∙ has in cc)) (there_or_not work n.key) in
      record {
        held = λ n has. inl (there n has);
        backs = λ n m to has at comes. inl (there n has);
        so = λ clean. record {
          callers = λ i p h. absurd (none_in p h);
          leavers = λ i p h. absurd (none_in p h);
          insts = λ i h. absurd (none_in i h);
          spots = λ s h. absurd (none_in s h);
          entrances = λ e h. absurd (none_in e h);
        };
        once = λ i j inst a b. absurd (let never = a in cc);
      }

  -- ---- an end, or more

  below_itself : (f : Family) → Below f f
  below_itself f n has = record { at = n.state; is = has; above = states_are_ordered.same n.state }

  -- a family that the round raises is not closed
  pub not_closed : (f g : Family) → AreFormed (device_of task.flash) (has_pairs task.assumptions) f → IsNext task f g → weight f < weight g → IsClosed task f → ⊥
  not_closed f g formed next lt closed =
      let e = families_are_their_nodes.same f g formed next.formed next.above (next.least f (below_itself f) closed) in
      let same : weight f ≡ weight g = ap weight e in
      absurd (omega (arith, lt, same))

  pub unchanged : (f g : Family) (changed : List NodeKey) → changed ≡ [] → KeptBut f g changed → g ≡ f
  unchanged f g changed none kept =
      same_map node_total node_exact g f (λ k. kept k (λ i. none_in k (subst (λ (l : List NodeKey). Contains l k) none i)))

  pub closed_then : (f g : Family) → IsNext task f g → g ≡ f → IsClosed task f
  closed_then f g next same n e has edge = subst (λ h. Lands h (Rattle.edge_rules.specs.Edges.target e)) same (next.edges n e has edge)
