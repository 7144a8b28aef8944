-- Landings, node by node.
use Rattle.std.proofs.Common.{◌≡◌, refl, sym, ap, ◌∙◌, subst, ℕ, ◌+◌, ◌<◌, ⊎_elim, List, [], ◌∷◌, ◌++◌, length, get_or, Option, Some, None, slice_get, Contains, arith}
use Rattle.std.proofs.lemmas.List.{length_push}
use Rattle.std.proofs.lemmas.Option.{slice_get_within}
use Rattle.basics.specs.Items.{only_one_in, none_in, first_in, contained_in_join, each_of_join}
use Rattle.basics.specs.Lists.{get_or_front, get_or_pushed, one_at}
use Rattle.basics.specs.Numbers.{before_or_last}
use Rattle.node_keys.specs.declared.keys.NodeKey.{NodeKey}
use Rattle.node_keys.specs.declared.keys.EdgeKind.{EdgeKind}
use Rattle.local_rules.specs.declared.local.Node.{Node}
use Rattle.edge_rules.specs.declared.edge.Edge.{Edge}
use Rattle.edge_rules.specs.Edges.{AreEdges}
use Rattle.edge_rules.specs.Families.{AreFaultless}
use Rattle.edge_rules.specs.Places.{found_at}
use Rattle.edge_rules.specs.Views.{index_of}
use Rattle.family_edges.specs.declared.landing.Landing.{Landing}
use Rattle.family_edges.specs.Landings.{IsLanding, AreLandingsOf, AreLandingsTo, AreLandings, landing_at, landing_of, landings_by}
use Rattle.local_rules.specs.Site.{Task}

-- ---- one edge

pub inside_at : (k : NodeKey) (nodes : List Node) (at : ℕ) → index_of k nodes ≡ Some at → at < length nodes
inside_at k nodes at e = let w = found_at k nodes at e in slice_get_within nodes at w.node w.is

landing_only : (kind : EdgeKind) (o : Option ℕ) (l : Landing) → Contains (landing_at kind o) l → (o ≡ Some l.at) × (l.kind ≡ kind)
landing_only kind None l h = absurd (none_in l h)
landing_only kind (Some at) l h =
    let e = only_one_in (record { kind = kind; at = at }) l h in (ap (λ (x : Landing). Some x.at) (sym e), ap (λ (x : Landing). x.kind) e)

landing_in : (kind : EdgeKind) (o : Option ℕ) (l : Landing) → o ≡ Some l.at → l.kind ≡ kind → Contains (landing_at kind o) l
landing_in kind o l e same =
    subst (λ (k : EdgeKind). Contains (landing_at k o) l) same
    (subst (λ (p : Option ℕ). Contains (landing_at l.kind p) l) (sym e) (first_in l []))

-- ---- one node

module _ (task : Task) (nodes : List Node) where
  landings_are : (n : Node) (edges : List Edge) → AreEdges task nodes n edges → AreLandingsOf task nodes n (landings_by nodes edges)
  landings_are n edges are l = (
    λ h. each_of_join (landing_of nodes) (IsLanding task nodes n) edges
        (λ e m has on. let o = landing_only e.kind (index_of e.to nodes) m on in record { edge = e; is = (are e).0 has; kind = o.1; at = o.0 }) l h,
    λ x. contained_in_join (landing_of nodes) edges x.edge l ((are x.edge).1 x.is) (landing_in x.edge.kind (index_of x.edge.to nodes) l x.at x.kind),
  )

  -- ---- all nodes

  pub landed_none : AreLandingsTo task nodes 0 []
  landed_none = record { count_is = refl; each = λ at n lt. absurd (omega (arith, lt)) }

  pub landed_more : (at : ℕ) (all : List (List Landing)) (n : Node) (edges : List Edge) (landings : List Landing) → AreLandingsTo task nodes at all
      → slice_get nodes at ≡ Some n → AreEdges task nodes n edges → landings ≡ landings_by nodes edges → AreLandingsTo task nodes (at + 1) (all ++ landings ∷ [])
  landed_more at all n edges landings s is are landings_is =
      record {
        count_is = length_push all landings ∙ ap (λ x. x + 1) s.count_is;
        each = λ i m lt e. ⊎_elim (old i m e) (new i m e) (before_or_last i at lt);
      }
    where
      old : (i : ℕ) (m : Node) → slice_get nodes i ≡ Some m → i < at → AreLandingsOf task nodes m (get_or (all ++ landings ∷ []) i [])
      old i m e lt =
          subst (λ (xs : List Landing). AreLandingsOf task nodes m xs) (sym (get_or_front all (landings ∷ []) i [] (subst (λ k. i < k) (sym s.count_is) lt)))
          (s.each i m lt e)

      here_at : AreLandingsOf task nodes n (get_or (all ++ landings ∷ []) at [])
      here_at =
          subst (λ (xs : List Landing). AreLandingsOf task nodes n xs)
          (sym (ap (λ k. get_or (all ++ landings ∷ []) k []) (sym s.count_is) ∙ get_or_pushed all landings [] ∙ landings_is)) (landings_are n edges are)

      new : (i : ℕ) (m : Node) → slice_get nodes i ≡ Some m → i ≡ at → AreLandingsOf task nodes m (get_or (all ++ landings ∷ []) i [])
      new i m e same =
          let one : n ≡ m = one_at nodes at n m is (subst (λ k. slice_get nodes k ≡ Some m) same e) in
          subst (λ k. AreLandingsOf task nodes m (get_or (all ++ landings ∷ []) k [])) (sym same)
          (subst (λ (x : Node). AreLandingsOf task nodes x (get_or (all ++ landings ∷ []) at [])) one here_at)

  pub landed_all : (at : ℕ) (all : List (List Landing)) → AreFaultless task nodes → AreLandingsTo task nodes at all → at ≡ length nodes → AreLandings task nodes all
  landed_all at all clean s full = record { faultless = clean; are = subst (λ k. AreLandingsTo task nodes k all) full s }
