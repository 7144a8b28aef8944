-- The marked nodes are the reached ones.
use Rattle.std.proofs.Common.{◌≡◌, refl, sym, ap, ◌∙◌, subst, ℕ, zero, suc, ◌+◌, ◌≤◌, ⊎_elim, Bool, true, false, List, [], ◌∷◌, ◌++◌, length, map, get_or, drop, Some, slice_get, Contains, append-nil, arith}
use Rattle.std.specs.Prelude.{if◌then◌else◌}
use Rattle.std.specs.List.{AllByRecursion}
use Rattle.std.specs.List.Sorted.{IsStrictlySortedBy}
use Rattle.std.specs.declared.cmp.Ordering.TheVariants.{Less}
use Rattle.std.proofs.lemmas.List.{append_assoc}
use Rattle.std.proofs.lemmas.Option.{none-some, same_Some, slice_get_within}
use Rattle.basics.specs.Items.{place_of_contained, contained_at, none_in, first_in, further_in, first_or_further}
use Rattle.basics.specs.Lists.{one_at}
use Rattle.avr_model.specs.declared.device.Device.{Device}
use Rattle.avr_model.specs.Devices.{device_of}
use Rattle.node_keys.specs.declared.keys.NodeKey.{NodeKey}
use Rattle.node_keys.specs.Keys.{root_inst, entry_key}
use Rattle.node_keys.specs.Order.{node_cmp}
use Rattle.local_rules.specs.declared.local.Node.{Node}
use Rattle.edge_rules.specs.Views.{AreShown, key_of}
use Rattle.family_edges.specs.declared.landing.Landing.{Landing}
use Rattle.family_edges.specs.Landings.{AreLandings}
use Rattle.family_graph.specs.declared.entering.Entering.{Entering}
use Rattle.family_graph.specs.Graphs.{AreWaysOf, AreWays}
use Rattle.shortest_walk.specs.Graph.{AreMarks}
use Rattle.chain_explain.specs.Reached.{IsReached, AreReached}
use Rattle.chain_explain.specs.Moves.{kept_by, leads_by}
use Rattle.chain_explain.proofs.Edges.{reached_down, reached_up}
use Rattle.local_rules.specs.Site.{Task}

-- the node has a marked number
pub record IsNumberMarked (marks : List Bool) (nodes : List Node) (n : Node) : Type 0 where
  pub number : ℕ
  pub at : slice_get nodes number ≡ Some n
  pub mark : get_or marks number false ≡ true

later : (mark : Bool) (marks : List Bool) (x : Node) (nodes : List Node) (n : Node) → IsNumberMarked marks nodes n → IsNumberMarked (mark ∷ marks) (x ∷ nodes) n
later mark marks x nodes n m = record { number = suc m.number; at = m.at; mark = m.mark }

pub kept_marked : (marks : List Bool) (nodes : List Node) (n : Node) → Contains (kept_by marks nodes) n → IsNumberMarked marks nodes n
kept_marked [] nodes n h = absurd (none_in n h)
kept_marked (mark ∷ marks) [] n h = absurd (none_in n h)
kept_marked (true ∷ marks) (x ∷ nodes) n h =
    ⊎_elim (λ e. record { number = 0; at = ap (λ (y : Node). Some y) (sym e); mark = refl }) (λ i. later true marks x nodes n (kept_marked marks nodes n i)) (first_or_further x n (kept_by marks nodes) h)
kept_marked (false ∷ marks) (x ∷ nodes) n h = later false marks x nodes n (kept_marked marks nodes n h)

kept_at : (marks : List Bool) (nodes : List Node) (i : ℕ) (n : Node) → slice_get nodes i ≡ Some n → get_or marks i false ≡ true → Contains (kept_by marks nodes) n
kept_at [] nodes i n e m = absurd cc
kept_at (mark ∷ marks) [] i n e m = absurd (none-some n e)
kept_at (true ∷ marks) (x ∷ nodes) zero n e m = subst (Contains (x ∷ kept_by marks nodes)) (same_Some x n e) (first_in x (kept_by marks nodes))
kept_at (false ∷ marks) (x ∷ nodes) zero n e m = absurd cc
kept_at (true ∷ marks) (x ∷ nodes) (suc i) n e m = further_in x n (kept_by marks nodes) (kept_at marks nodes i n e m)
kept_at (false ∷ marks) (x ∷ nodes) (suc i) n e m = kept_at marks nodes i n e m

all_kept : (P : NodeKey → Type 0) (marks : List Bool) (nodes : List Node) → AllByRecursion P (map key_of nodes) → AllByRecursion P (map key_of (kept_by marks nodes))
all_kept P [] nodes h = tt
all_kept P (mark ∷ marks) [] h = tt
all_kept P (true ∷ marks) (x ∷ nodes) h = (h.0, all_kept P marks nodes h.1)
all_kept P (false ∷ marks) (x ∷ nodes) h = all_kept P marks nodes h.1

pub kept_ascend : (marks : List Bool) (nodes : List Node) → IsStrictlySortedBy node_cmp (map key_of nodes) → IsStrictlySortedBy node_cmp (map key_of (kept_by marks nodes))
unfolding IsStrictlySortedBy
kept_ascend [] nodes s = tt
kept_ascend (mark ∷ marks) [] s = tt
kept_ascend (true ∷ marks) (x ∷ nodes) s = (all_kept (λ k. node_cmp x.key k ≡ Less) marks nodes s.0, kept_ascend marks nodes s.1)
kept_ascend (false ∷ marks) (x ∷ nodes) s = kept_ascend marks nodes s.1

pub kept_shown : {device : Device} (marks : List Bool) (nodes kept : List Node) → kept ≡ kept_by marks nodes → AreShown device nodes → AreShown device kept
kept_shown {device = device} marks nodes kept e shown =
    subst (AreShown device) (sym e)
    record {
      followed = shown.followed;
      ascending = kept_ascend marks nodes shown.ascending;
      all = λ n h. let m = kept_marked marks nodes n h in shown.all n (contained_at nodes m.number n m.at);
    }

pub kept_few : (marks : List Bool) (nodes : List Node) → length (kept_by marks nodes) ≤ length nodes
kept_few [] nodes = omega arith
kept_few (mark ∷ marks) [] = omega arith
kept_few (true ∷ marks) (x ∷ nodes) = let few = kept_few marks nodes in omega (arith, few)
kept_few (false ∷ marks) (x ∷ nodes) = let few = kept_few marks nodes in omega (arith, few)

-- ---- the loop

drop_at : {X : Type 0} (xs : List X) (i : ℕ) (x : X) → slice_get xs i ≡ Some x → drop i xs ≡ x ∷ drop (suc i) xs
drop_at [] i x e = absurd (none-some x e)
drop_at (y ∷ ys) zero x e = ap (λ z. z ∷ ys) (same_Some y x e)
drop_at (y ∷ ys) (suc i) x e = drop_at ys i x e

next_drop : {X : Type 0} (xs : List X) (i : ℕ) (x : X) → slice_get xs i ≡ Some x → drop i xs ≡ x ∷ drop (i + 1) xs
next_drop xs i x e = let next : suc i ≡ i + 1 = omega arith in drop_at xs i x e ∙ ap (λ k. x ∷ drop k xs) next

-- the nodes kept so far, with those of the rest
pub kept_next : {X : Type 0} (marks : List Bool) (nodes kept more : List X) (i : ℕ) (mark : Bool) (n : X) → slice_get marks i ≡ Some mark → slice_get nodes i ≡ Some n
    → kept_by marks nodes ≡ kept ++ kept_by (drop i marks) (drop i nodes) → more ≡ kept ++ (if mark then n ∷ [] else [])
    → kept_by marks nodes ≡ more ++ kept_by (drop (i + 1) marks) (drop (i + 1) nodes)
kept_next {X = X} marks nodes kept more i mark n e f so_far added =
    so_far
    ∙ (ap (λ (xs : List X). kept ++ xs)
    (ap (λ (ms : List Bool). kept_by ms (drop i nodes)) (next_drop marks i mark e)
    ∙ (ap (kept_by (mark ∷ drop (i + 1) marks)) (next_drop nodes i n f) ∙ one mark (kept_by (drop (i + 1) marks) (drop (i + 1) nodes)) refl))
    ∙ (sym (append_assoc kept (if mark then n ∷ [] else []) (kept_by (drop (i + 1) marks) (drop (i + 1) nodes)))
    ∙ ap (λ (xs : List X). xs ++ kept_by (drop (i + 1) marks) (drop (i + 1) nodes)) (sym added)))
  where
    one : (b : Bool) (rest : List X) → kept_by (drop (i + 1) marks) (drop (i + 1) nodes) ≡ rest → (if b then n ∷ kept_by (drop (i + 1) marks) (drop (i + 1) nodes) else kept_by (drop (i + 1) marks) (drop (i + 1) nodes)) ≡ (if b then n ∷ [] else []) ++ rest
    one true rest h = ap (λ xs. n ∷ xs) h
    one false rest h = h

-- at the end no node is left
kept_nil : {X : Type 0} (marks : List Bool) → kept_by {X = X} marks [] ≡ []
kept_nil [] = refl
kept_nil (mark ∷ marks) = refl

kept_end : {X : Type 0} (marks : List Bool) (xs : List X) (i : ℕ) → length xs ≤ i → kept_by (drop i marks) (drop i xs) ≡ []
kept_end marks [] zero le = kept_nil marks
kept_end [] [] (suc i) le = refl
kept_end (mark ∷ marks) [] (suc i) le = kept_nil (drop i marks)
kept_end marks (x ∷ xs) zero le = absurd (omega (arith, le))
kept_end [] (x ∷ xs) (suc i) le = refl
kept_end (mark ∷ marks) (x ∷ xs) (suc i) le = kept_end marks xs i (omega (arith, le))

pub kept_whole : {X : Type 0} (marks : List Bool) (xs kept : List X) (i : ℕ) → length xs ≤ i → kept_by marks xs ≡ kept ++ kept_by (drop i marks) (drop i xs) → kept ≡ kept_by marks xs
kept_whole marks xs kept i le so_far = sym (so_far ∙ (ap (λ ys. kept ++ ys) (kept_end marks xs i le) ∙ append-nil kept))

-- ---- what is kept

module _ (task : Task) (nodes : List Node) (shown : AreShown (device_of task.flash) nodes) (all : List (List Landing)) (landed : AreLandings task nodes all) (root : ℕ)
    (reset : Node) (at : slice_get nodes root ≡ Some reset) (is : reset.key ≡ entry_key root_inst) (marks : List Bool) (marked : AreMarks (leads_by all) (root ∷ []) marks) where
  kept_reached : (n : Node) → Contains (kept_by marks nodes) n → Contains nodes n × IsReached task nodes n.key
  kept_reached n h =
      let m = kept_marked marks nodes n h in
      let r = reached_down task nodes shown all landed root reset at is m.number ((marked.exact m.number).0 m.mark) in
      (contained_at nodes m.number n m.at, subst (λ (x : Node). IsReached task nodes x.key) (one_at nodes m.number r.0 n r.1.0 m.at) r.1.1)

  reached_kept : (n : Node) → Contains nodes n × IsReached task nodes n.key → Contains (kept_by marks nodes) n
  reached_kept n h =
      let p = place_of_contained nodes n h.0 in
      kept_at marks nodes p.0 n p.1 ((marked.exact p.0).1 (reached_up task nodes shown all landed root reset at is n.key h.1 p.0 n p.1 refl))

  pub are_reached : AreReached task nodes (kept_by marks nodes)
  are_reached =
      record {
        ascending = kept_ascend marks nodes shown.ascending;
        exact = λ n. (kept_reached n, reached_kept n);
      }

-- for given marks and nodes
pub reached_given : (task : Task) (nodes : List Node) (marks given : List Bool) (kept : List Node) → AreReached task nodes (kept_by marks nodes) → given ≡ marks
    → kept ≡ kept_by given nodes → AreReached task nodes kept
reached_given task nodes marks given kept are same e = subst (AreReached task nodes) (sym (e ∙ ap (λ (ms : List Bool). kept_by ms nodes) same)) are

-- ---- the ways of what is kept

same_count : {X Y : Type 0} (marks : List Bool) (xs : List X) (ys : List Y) → length ys ≡ length xs → length (kept_by marks ys) ≡ length (kept_by marks xs)
same_count [] xs ys e = refl
same_count (mark ∷ marks) [] [] e = refl
same_count (mark ∷ marks) [] (y ∷ ys) e = absurd (omega (arith, e))
same_count (mark ∷ marks) (x ∷ xs) [] e = absurd (omega (arith, e))
same_count (true ∷ marks) (x ∷ xs) (y ∷ ys) e = let rest = same_count marks xs ys (omega (arith, e)) in omega (arith, rest)
same_count (false ∷ marks) (x ∷ xs) (y ∷ ys) e = same_count marks xs ys (omega (arith, e))

-- a property of each node and its list holds of each kept one
kept_each : {Y : Type 0} (P : Node → List Y → Type 0) (marks : List Bool) (nodes : List Node) (yss : List (List Y)) → length yss ≡ length nodes
    → ((at : ℕ) (n : Node) → slice_get nodes at ≡ Some n → P n (get_or yss at []))
    → (at : ℕ) (n : Node) → slice_get (kept_by marks nodes) at ≡ Some n → P n (get_or (kept_by marks yss) at [])
kept_each P [] nodes yss count h at n e = absurd (none-some n e)
kept_each P (mark ∷ marks) [] yss count h at n e = absurd (none-some n e)
kept_each P (mark ∷ marks) (x ∷ nodes) [] count h at n e = absurd (omega (arith, count))
kept_each P (true ∷ marks) (x ∷ nodes) (ys ∷ yss) count h zero n e = h 0 n e
kept_each P (true ∷ marks) (x ∷ nodes) (ys ∷ yss) count h (suc at) n e = kept_each P marks nodes yss (omega (arith, count)) (λ i m f. h (suc i) m f) at n e
kept_each P (false ∷ marks) (x ∷ nodes) (ys ∷ yss) count h at n e = kept_each P marks nodes yss (omega (arith, count)) (λ i m f. h (suc i) m f) at n e

pub ways_kept : (task : Task) (marks : List Bool) (nodes : List Node) (ways : List (List Entering)) → AreWays task nodes ways
    → AreWays task (kept_by marks nodes) (kept_by marks ways)
ways_kept task marks nodes ways are =
    record {
      count_is = same_count marks nodes ways are.count_is;
      each = λ at n lt e. kept_each (AreWaysOf task) marks nodes ways are.count_is (λ i m f. are.each i m (slice_get_within nodes i m f) f) at n e;
    }
