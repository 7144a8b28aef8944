-- The origin of a visit's targets.
use Rattle.std.proofs.Common.{◌≡◌, refl, sym, ap, ◌∙◌, subst, ⊎_elim, List, ◌++◌, map, Option, Some, None, Contains}
use Rattle.std.proofs.lemmas.List.Elements.{Contains-append_cases}
use Rattle.std.specs.FinMap.{get}
use Rattle.basics.specs.Items.{only_one_in, none_in, each_of_join}
use Rattle.family_edges.proofs.AllLaws.{each_returned}
use Rattle.abs_state.specs.declared.state.AbsState.{AbsState}
use Rattle.abs_state.specs.PairsBack.{returned}
use Rattle.node_keys.specs.declared.keys.InstKey.{InstKey}
use Rattle.local_rules.specs.declared.local.Exit.{Exit}
use Rattle.local_rules.specs.declared.local.Node.{Node}
use Rattle.local_laws.proofs.AllLaws.{each_in_map}
use Rattle.edge_rules.specs.declared.edge.Edge.{Edge}
use Rattle.edge_rules.specs.Edges.{raw_of, Enters, returned_key, target}
use Rattle.family_edges.specs.declared.ways.Way.{Way}
use Rattle.family_edges.specs.Next.{Leaver, node_of, local_edge, entry_edge, return_by, returns_in, all_returns}
use Rattle.round_table.specs.declared.crossings.Crossing.{Crossing}
use Rattle.round_table.specs.Crossings.{Groups, crossings_at, IsCrossing}
use Rattle.round_rules.specs.Families.{Family}
use Rattle.round_steps.specs.declared.looking.Look.{Look}
use Rattle.round_steps.specs.declared.noting.Notes.{Notes}
use Rattle.round_steps.specs.Looks.{IsLook}
use Rattle.round_steps.specs.Targets.{leaver_with, noted_leaver, noted_leavers, way_of, onward_to, onward_at, onwards_if, edges_if, edges_of, targets_of}
use Rattle.fixpoint.specs.Progress.{IsOwn, own_move, own_entry}
use Rattle.fixpoint.proofs.Looked.{seen_node, look_clean, look_same, look_exit, look_way}
use Rattle.local_rules.specs.Site.{Task}

each_noted : (f : Family) (leavers : Groups) (inst : InstKey) (P : Leaver → Type 0)
    → ((p : Crossing) (t : AbsState) → IsCrossing leavers inst p → get f p.node ≡ Some t → P (record { exit = p.exit; state = t }))
    → (l : Leaver) → Contains (noted_leavers f leavers inst) l → P l
each_noted f leavers inst P h = each_of_join (noted_leaver f) P (crossings_at leavers inst) (λ p l i j. by p i l (get f p.node) refl j)
  where
    by : (p : Crossing) → IsCrossing leavers inst p → (l : Leaver) (o : Option AbsState) → get f p.node ≡ o → Contains (leaver_with p.exit o) l → P l
    by p i l None at j = absurd (none_in l j)
    by p i l (Some t) at j = subst P (sym (only_one_in (record { exit = p.exit; state = t }) l j)) (h p t i at)

-- the parts of a visited node's edges
module _ (f : Family) (notes : Notes) (x : Look) (s : AbsState) where
  abbrev pub entries : List Edge
  entries = map (entry_edge s) x.ways.items

  abbrev pub returns : List Edge
  returns = all_returns (noted_leavers f notes.leavers) (node_of x.key s) x.ways.items

  abbrev pub onwards : List Edge
  onwards = onwards_if f notes.callers x.key.inst s x.part.exit

  abbrev pub moves : List Edge
  moves = map local_edge x.part.same

  pub edges_are : get f x.key ≡ Some s → edges_of f notes x ≡ ((entries ++ returns) ++ onwards) ++ moves
  edges_are there = ap (edges_if f notes x) there

module _ (task : Task) (f : Family) (notes : Notes) (x : Look) (is : IsLook task f x) (P : Node → Type 0) where
  abbrev n : Node
  n = seen_node task f x is

  abbrev s : AbsState
  s = is.state

  abbrev Aims : Edge → Type 0
  Aims e = P (target e)

  module _ (own : (to : Node) → IsOwn task n to → P to)
      (back : (w : Way) (p : Crossing) (t after : AbsState) → Enters task n w.kind w.inst w.back → IsCrossing notes.leavers w.inst p → get f p.node ≡ Some t
      → returned s t ≡ Some after → P (record { key = returned_key w.kind x.key w.back p.exit; state = after }))
      (onward : (e : Exit) (p : Crossing) (t after : AbsState) → (raw_of task n).exit ≡ Some e → IsCrossing notes.callers x.key.inst p → get f p.node ≡ Some t
      → returned t s ≡ Some after → P (record { key = returned_key p.kind p.node p.back e; state = after })) where
    by_entry : (e : Edge) → Contains (entries f notes x s) e → Aims e
    by_entry = each_in_map (entry_edge s) Aims x.ways.items
        (λ w i. own (target (entry_edge s w)) (own_entry w.kind w.inst w.back ((look_way task f x is w).0 i)))

    by_leaver : (w : Way) → Contains x.ways.items w → (l : Leaver) → Contains (noted_leavers f notes.leavers w.inst) l
        → (e : Edge) → Contains (return_by (node_of x.key s) w l) e → Aims e
    by_leaver w i = each_noted f notes.leavers w.inst (λ (l : Leaver). (e : Edge) → Contains (return_by (node_of x.key s) w l) e → Aims e)
        (λ p t at there. each_returned (node_of x.key s) w (record { exit = p.exit; state = t }) Aims
        (λ after r. back w p t after ((look_way task f x is w).0 i) at there r))

    by_return : (e : Edge) → Contains (returns f notes x s) e → Aims e
    by_return = each_of_join (returns_in (noted_leavers f notes.leavers) (node_of x.key s)) Aims x.ways.items
        (λ w e i. each_of_join (return_by (node_of x.key s) w) Aims (noted_leavers f notes.leavers w.inst) (λ l d j. by_leaver w i l j d) e)

    by_caller : (exit : Exit) (p : Crossing) (e : Edge) → x.part.exit ≡ Some exit → IsCrossing notes.callers x.key.inst p
        → Contains (onward_at f x.key.inst (record { exit = exit; state = s }) p) e → Aims e
    by_caller exit p e is_exit i = by (get f p.node) refl
      where
        l : Leaver
        l = record { exit = exit; state = s }

        by : (o : Option AbsState) → get f p.node ≡ o → Contains (onward_to x.key.inst l p o) e → Aims e
        by None at j = absurd (none_in e j)
        by (Some t) at j =
            each_returned (node_of p.node t) (way_of x.key.inst p) l Aims
            (λ after r. onward exit p t after (sym (look_exit task f x is) ∙ is_exit) i at r) e j

    by_onward : (o : Option Exit) → x.part.exit ≡ o → (e : Edge) → Contains (onwards_if f notes.callers x.key.inst s o) e → Aims e
    by_onward None is_exit e i = absurd (none_in e i)
    by_onward (Some exit) is_exit e i =
        each_of_join (onward_at f x.key.inst (record { exit = exit; state = s })) Aims (crossings_at notes.callers x.key.inst)
        (λ p d j l. by_caller exit p d is_exit j l) e i

    by_move : (e : Edge) → Contains (moves f notes x s) e → Aims e
    by_move = each_in_map local_edge Aims x.part.same
        (λ to i. own to (own_move to (look_clean task f x is) (subst (λ (l : List Node). Contains l to) (look_same task f x is) i)))

    by_edge : (e : Edge) → Contains (edges_of f notes x) e → Aims e
    by_edge e i =
        ⊎_elim
        (λ j. ⊎_elim (λ l. ⊎_elim (by_entry e) (by_return e) (Contains-append_cases (entries f notes x s) (returns f notes x s) e l))
        (by_onward x.part.exit refl e) (Contains-append_cases (entries f notes x s ++ returns f notes x s) (onwards f notes x s) e j))
        (by_move e)
        (Contains-append_cases ((entries f notes x s ++ returns f notes x s) ++ onwards f notes x s) (moves f notes x s) e
        (subst (λ (l : List Edge). Contains l e) (edges_are f notes x s is.has) i))

    -- each target is the node's own, a return to it, or a return to a node that enters what it leaves
    pub look_cases : (to : Node) → Contains (targets_of f notes x) to → P to
    look_cases = each_in_map target P (edges_of f notes x) by_edge
