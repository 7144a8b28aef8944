-- Entries of instances by nodes, node by node.
use Rattle.std.proofs.Common.{◌≡◌, refl, sym, ap, ◌∙◌, subst, ℕ, zero, suc, ◌+◌, ◌<◌, ⊎_elim, Bool, true, false, if◌then◌else◌, List, [], ◌∷◌, ◌++◌, length, get_or, Option, Some, None, slice_get, Contains, arith}
use Rattle.std.proofs.lemmas.List.{length_push}
use Rattle.std.proofs.lemmas.Option.{slice_get_within}
use Rattle.basics.specs.Items.{only_one_in, none_in, first_in, contained_at, contained_in_join, each_of_join}
use Rattle.basics.specs.Lists.{get_or_front, get_or_pushed, one_at}
use Rattle.basics.specs.Numbers.{before_or_last}
use Rattle.abs_state.specs.Frames.{entered}
use Rattle.node_keys.specs.declared.keys.EdgeKind.{EdgeKind}
use Rattle.node_keys.specs.declared.keys.InstKey.{InstKey}
use Rattle.node_keys.specs.declared.keys.NodeKey.{NodeKey}
use Rattle.node_keys.specs.Keys.{entry_key}
use Rattle.local_rules.specs.declared.local.Node.{Node}
use Rattle.local_laws.specs.Laws.{HasKey}
use Rattle.edge_rules.specs.declared.edge.Edge.{Edge}
use Rattle.edge_rules.specs.Edges.{is_entry, Enters, by_call, by_interrupt, IsEdge, moving, entering, returning}
use Rattle.edge_rules.specs.Places.{found_at, none_from}
use Rattle.edge_rules.specs.Views.{index_of}
use Rattle.family_edges.specs.declared.landing.Landing.{Landing}
use Rattle.family_edges.specs.Landings.{IsLanding, AreLandingsOf, AreLandings}
use Rattle.family_edges.proofs.Landed.{inside_at}
use Rattle.family_graph.specs.declared.entering.Entering.{Entering}
use Rattle.family_graph.specs.Graphs.{HasInst, IsPeopled, AreWaysOf, AreWaysTo, AreWays}
use Rattle.family_graph.specs.Numbers.{inst_of, way_of, ways_by}
use Rattle.local_rules.specs.Site.{Task}

-- an instance with its first node has a node
pub entered_inst : (nodes : List Node) (inst : InstKey) → HasKey nodes (entry_key inst) → HasInst nodes inst
entered_inst nodes inst h = (h.0, h.1.0, ap (λ (k : NodeKey). k.inst) h.1.1)

kind_enters : (task : Task) (n : Node) (way : EdgeKind) (inst : InstKey) (back : ℕ) → Enters task n way inst back → is_entry way ≡ true
kind_enters task n way inst back (by_call offset site f sp has) = refl
kind_enters task n way inst back (by_interrupt offset v clears f sp i delay on allowed dog) = refl

-- the number of an existing key
number_there : (k : NodeKey) (nodes : List Node) → HasKey nodes k → (at : ℕ) × (index_of k nodes ≡ Some at)
number_there k nodes h = by (index_of k nodes) refl
  where
    by : (o : Option ℕ) → index_of k nodes ≡ o → (at : ℕ) × (index_of k nodes ≡ Some at)
    by None e = absurd (none_from k nodes 0 e h.0 h.1.0 h.1.1)
    by (Some at) e = (at, e)

-- ---- one landing

way_only : (nodes : List Node) (l : Landing) (w : Entering) → Contains (way_of nodes l) w → (is_entry l.kind ≡ true) × (w ≡ record { kind = l.kind; inst = inst_of (slice_get nodes l.at) })
way_only nodes l w h = by (is_entry l.kind) refl h
  where
    by : (b : Bool) → is_entry l.kind ≡ b → Contains (if b then record { kind = l.kind; inst = inst_of (slice_get nodes l.at) } ∷ [] else []) w
        → (is_entry l.kind ≡ true) × (w ≡ record { kind = l.kind; inst = inst_of (slice_get nodes l.at) })
    by true e has = (e, only_one_in (record { kind = l.kind; inst = inst_of (slice_get nodes l.at) }) w has)
    by false e has = absurd (none_in w has)

way_in : (nodes : List Node) (l : Landing) (w : Entering) → is_entry l.kind ≡ true → record { kind = l.kind; inst = inst_of (slice_get nodes l.at) } ≡ w → Contains (way_of nodes l) w
way_in nodes l w e same =
    subst (λ (b : Bool). Contains (if b then record { kind = l.kind; inst = inst_of (slice_get nodes l.at) } ∷ [] else []) w) (sym e)
    (subst (λ (v : Entering). Contains (v ∷ []) w) (sym same) (first_in w []))

-- the instance of a node that is found
inst_at : (k : NodeKey) (nodes : List Node) (at : ℕ) → index_of k nodes ≡ Some at → inst_of (slice_get nodes at) ≡ k.inst
inst_at k nodes at e = let w = found_at k nodes at e in ap inst_of w.is ∙ ap (λ (j : NodeKey). j.inst) w.same

-- ---- one node

module _ (task : Task) (nodes : List Node) (peopled : IsPeopled task nodes) where
  entry_by : (n : Node) (edge : Edge) → IsEdge task nodes n edge → is_entry edge.kind ≡ true → (back : ℕ) × Enters task n edge.kind edge.to.inst back
  entry_by n edge (moving to f has) is = absurd cc
  entry_by n edge (entering way inst back enters) is = (back, enters)
  entry_by n edge (returning way inst back leaver x state enters has same f exit after) is = absurd cc

  way_from : (n : Node) (l : Landing) (w : Entering) → IsLanding task nodes n l → Contains (way_of nodes l) w → (back : ℕ) × Enters task n w.kind w.inst back
  way_from n l w x h =
      let o = way_only nodes l w h in
      let b = entry_by n x.edge x.is (subst (λ (k : EdgeKind). is_entry k ≡ true) x.kind o.0) in
      let kind : x.edge.kind ≡ w.kind = sym x.kind ∙ ap (λ (v : Entering). v.kind) (sym o.1) in
      let inst : x.edge.to.inst ≡ w.inst = sym (inst_at x.edge.to nodes l.at x.at) ∙ ap (λ (v : Entering). v.inst) (sym o.1) in
      (b.0, subst (λ (k : EdgeKind). Enters task n k w.inst b.0) kind (subst (λ (i : InstKey). Enters task n x.edge.kind i b.0) inst b.1))

  ways_are : (n : Node) (landings : List Landing) → Contains nodes n → AreLandingsOf task nodes n landings → AreWaysOf task n (ways_by nodes landings)
  ways_are n landings member are w = (
    λ h. each_of_join (way_of nodes) (λ v. (back : ℕ) × Enters task n v.kind v.inst back) landings (λ l v has on. way_from n l v ((are l).0 has) on) w h,
    λ x.
        let at = number_there (entry_key w.inst) nodes (peopled n w.kind w.inst x.0 member x.1) in
        let l : Landing = record { kind = w.kind; at = at.0 } in
        let e : Edge = record { kind = w.kind; to = entry_key w.inst; state = entered n.state } in
        let landing : IsLanding task nodes n l = record { edge = e; is = entering w.kind w.inst x.0 x.1; kind = refl; at = at.1 } in
        let same : record { kind = w.kind; inst = inst_of (slice_get nodes at.0) } ≡ w = ap (λ (i : InstKey). record { kind = w.kind; inst = i }) (inst_at (entry_key w.inst) nodes at.0 at.1) in
        contained_in_join (way_of nodes) landings l w ((are l).1 landing) (way_in nodes l w (kind_enters task n w.kind w.inst x.0 x.1) same),
  )

  -- ---- all nodes

  pub ways_more : (at : ℕ) (all : List (List Entering)) (n : Node) (landings : List Landing) (ways : List Entering) → AreWaysTo task nodes at all → slice_get nodes at ≡ Some n
      → AreLandingsOf task nodes n landings → ways ≡ ways_by nodes landings → AreWaysTo task nodes (at + 1) (all ++ ways ∷ [])
  ways_more at all n landings ways s is are ways_is =
      record {
        count_is = length_push all ways ∙ ap (λ x. x + 1) s.count_is;
        each = λ i m lt e. ⊎_elim (old i m e) (new i m e) (before_or_last i at lt);
      }
    where
      old : (i : ℕ) (m : Node) → slice_get nodes i ≡ Some m → i < at → AreWaysOf task m (get_or (all ++ ways ∷ []) i [])
      old i m e lt =
          subst (λ (xs : List Entering). AreWaysOf task m xs) (sym (get_or_front all (ways ∷ []) i [] (subst (λ k. i < k) (sym s.count_is) lt))) (s.each i m lt e)

      here_at : AreWaysOf task n (get_or (all ++ ways ∷ []) at [])
      here_at =
          subst (λ (xs : List Entering). AreWaysOf task n xs) (sym (ap (λ k. get_or (all ++ ways ∷ []) k []) (sym s.count_is) ∙ get_or_pushed all ways [] ∙ ways_is))
          (ways_are n landings (contained_at nodes at n is) are)

      new : (i : ℕ) (m : Node) → slice_get nodes i ≡ Some m → i ≡ at → AreWaysOf task m (get_or (all ++ ways ∷ []) i [])
      new i m e same =
          let one : n ≡ m = one_at nodes at n m is (subst (λ k. slice_get nodes k ≡ Some m) same e) in
          subst (λ k. AreWaysOf task m (get_or (all ++ ways ∷ []) k [])) (sym same) (subst (λ (x : Node). AreWaysOf task x (get_or (all ++ ways ∷ []) at [])) one here_at)

pub ways_none : (task : Task) (nodes : List Node) → AreWaysTo task nodes 0 []
ways_none task nodes = record { count_is = refl; each = λ at n lt. absurd (omega (arith, lt)) }

-- a list read by its number
pub read_list : {X : Type 0} (lists : List (List X)) (i : ℕ) (x : List X) → i < length lists → x ≡ get_or lists i x → x ≡ get_or lists i []
read_list [] i x lt is = absurd (omega (arith, lt))
read_list (g ∷ lists) zero x lt is = is
read_list (g ∷ lists) (suc i) x lt is = read_list lists i x (omega (arith, lt)) is

-- the entries of the node of this number, as read
pub ways_at : (task : Task) (nodes : List Node) (all : List (List Entering)) → AreWays task nodes all → (at : ℕ) (n : Node) → slice_get nodes at ≡ Some n
    → (item ways : List Entering) → item ≡ get_or all at item → ways ≡ item → AreWaysOf task n ways
ways_at task nodes all are at n e item ways read is =
    let lt = slice_get_within nodes at n e in
    subst (AreWaysOf task n) (sym (is ∙ read_list all at item (omega (arith, lt, are.count_is)) read)) (are.each at n lt e)

pub ways_have : (task : Task) (nodes : List Node) → IsPeopled task nodes → (n : Node) → Contains nodes n → (ways : List Entering) → AreWaysOf task n ways
    → (w : Entering) → Contains ways w → HasInst nodes w.inst
ways_have task nodes peopled n member ways are w has = let k = (are w).0 has in entered_inst nodes w.inst (peopled n w.kind w.inst k.0 member k.1)

pub ways_of_at : (task : Task) (nodes : List Node) (all : List (List Landing)) → AreLandings task nodes all → (at : ℕ) (n : Node) → slice_get nodes at ≡ Some n
    → (item landings : List Landing) → item ≡ get_or all at item → landings ≡ item → AreLandingsOf task nodes n landings
ways_of_at task nodes all are at n e item landings read is =
    let lt = slice_get_within nodes at n e in
    subst (AreLandingsOf task nodes n) (sym (is ∙ read_list all at item (omega (arith, lt, are.are.count_is)) read)) (are.are.each at n lt e)

pub landing_inside : (task : Task) (nodes : List Node) (n : Node) (landings : List Landing) → AreLandingsOf task nodes n landings → (l : Landing)
    → Contains landings l → l.at < length nodes
landing_inside task nodes n landings are l has = let x = (are l).0 has in inside_at x.edge.to nodes l.at x.at
