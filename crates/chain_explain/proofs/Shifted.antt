-- Walks of a part of a graph are walks of the graph.
use Rattle.std.proofs.Common.{◌≡◌, refl, sym, ap, ◌∙◌, subst, ℕ, ◌+◌, ◌-◌, ◌<◌, ◌≤◌, ⊎_elim, List, [], ◌∷◌, length, map, get_or, Contains, nat_cmp, arith}
use Rattle.std.specs.Cmp.Lexicographic.{slice_cmp}
use Rattle.std.specs.Ordering.{ordering_then}
use Rattle.std.specs.declared.cmp.Ordering.{Ordering}
use Rattle.std.specs.declared.cmp.Ordering.TheVariants.{Less}
use Rattle.std.proofs.lemmas.List.{length-map}
use Rattle.basics.specs.Items.{only_one_in, inside_if_contained, none_in, first_in, first_or_further}
use Rattle.local_laws.proofs.AllLaws.{in_map, each_in_map}
use Rattle.shortest_walk.specs.Graph.{PointsTo, IsNumberedGraph, IsNumberReached, at_start, by_edge}
use Rattle.shortest_walk.specs.Walk.{WalksOn, IsWalk, IsShortest, IsFirstOfShortest}
use Rattle.chain_explain.specs.Moves.{IsPortion}

-- the number in the whole graph
abbrev pub lifted : ℕ → ℕ → ℕ
lifted low i = low + i

cmp_lifted : (low a b : ℕ) → nat_cmp (low + a) (low + b) ≡ nat_cmp a b
cmp_lifted low a b = by (nat_cmp a b) refl
  where
    by : (o : Ordering) → nat_cmp a b ≡ o → nat_cmp (low + a) (low + b) ≡ nat_cmp a b
    by o e = grind arith

slices_lifted : (low : ℕ) (xs ys : List ℕ) → slice_cmp nat_cmp (map (lifted low) xs) (map (lifted low) ys) ≡ slice_cmp nat_cmp xs ys
slices_lifted low [] [] = refl
slices_lifted low [] (y ∷ ys) = refl
slices_lifted low (x ∷ xs) [] = refl
slices_lifted low (x ∷ xs) (y ∷ ys) =
    ap (λ (o : Ordering). ordering_then o (slice_cmp nat_cmp (map (lifted low) xs) (map (lifted low) ys))) (cmp_lifted low x y)
    ∙ ap (ordering_then (nat_cmp x y)) (slices_lifted low xs ys)

-- the nodes from `low` to below `high` only lead to one another, and the part is their graph
pub record IsApart (graph : List (List ℕ)) (low high : ℕ) : Type 0 where
  pub order : low ≤ high
  pub inside : high ≤ length graph
  pub few : length graph ≤ 65536
  pub above : (i j : ℕ) → low ≤ i → i < high → PointsTo graph i j → low ≤ j
  pub below : (i j : ℕ) → low ≤ i → i < high → PointsTo graph i j → j < high

module _ (graph portion : List (List ℕ)) (low high : ℕ) (apart : IsApart graph low high) (is : IsPortion graph low (high - low) portion) where
  leads_up : (i j : ℕ) → PointsTo portion i j → PointsTo graph (low + i) (low + j)
  leads_up i j h =
      let lt : i < high - low = let w = inside_if_contained portion i j h in let c = is.count_is in omega (arith, w, c) in
      let h' = subst (λ (xs : List ℕ). Contains xs j) (is.each i lt) h in
      each_in_map (λ x. x - low) (λ y. PointsTo graph (low + i) (low + y)) (get_or graph (low + i) [])
      (λ x has.
      let a = apart.above (low + i) x (omega arith) (omega (arith, lt)) has in
      subst (PointsTo graph (low + i)) (omega (arith, a)) has) j h'

  leads_down : (i j : ℕ) → i < high - low → PointsTo graph (low + i) (low + j) → PointsTo portion i j
  leads_down i j lt h =
      subst (λ (xs : List ℕ). Contains xs j) (sym (is.each i lt))
      (subst (Contains (map (λ x. x - low) (get_or graph (low + i) []))) (omega arith) (in_map (λ x. x - low) (get_or graph (low + i) []) (low + j) h))

  pub is_graph : IsNumberedGraph portion
  is_graph =
      record {
        few = let c = is.count_is in let a = apart.inside in let b = apart.few in omega (arith, c, a, b);
        within = λ i j h.
            let w = inside_if_contained portion i j h in
            let c = is.count_is in
            let b = apart.below (low + i) (low + j) (omega arith) (omega (arith, w, c)) (leads_up i j h) in
            omega (arith, b, c);
      }

  goes_up : (target i : ℕ) (rest : List ℕ) → WalksOn portion target i rest → WalksOn graph (low + target) (low + i) (map (lifted low) rest)
  goes_up target i [] e = ap (lifted low) e
  goes_up target i (j ∷ rest) h = (leads_up i j h.0, goes_up target j rest h.1)

  -- a path of the graph from a node of the part, as one of the part
  pub record Lowered (target i : ℕ) (rest : List ℕ) : Type 0 where
    pub own : List ℕ
    pub are : rest ≡ map (lifted low) own
    pub goes : WalksOn portion target i own

  goes_down : (target i : ℕ) (rest : List ℕ) → i < high - low → WalksOn graph (low + target) (low + i) rest → Lowered target i rest
  goes_down target i [] lt e = record { own = []; are = refl; goes = omega (arith, e) }
  goes_down target i (j ∷ rest) lt h =
      let a = apart.above (low + i) j (omega arith) (omega (arith, lt)) h.0 in
      let b = apart.below (low + i) j (omega arith) (omega (arith, lt)) h.0 in
      let e : j ≡ low + (j - low) = omega (arith, a) in
      let l = goes_down target (j - low) rest (omega (arith, a, b)) (subst (λ (x : ℕ). WalksOn graph (low + target) x rest) e h.1) in
      record {
        own = (j - low) ∷ l.own;
        are = λ k. e k ∷ l.are k;
        goes = (leads_down i (j - low) lt (subst (PointsTo graph (low + i)) e h.0), l.goes);
      }

  module _ (start target : ℕ) (within : start < high - low) where
    walk_up : (nodes : List ℕ) → IsWalk portion (start ∷ []) target nodes → IsWalk graph ((low + start) ∷ []) (low + target) (map (lifted low) nodes)
    walk_up nodes w =
        record {
          first = low + w.first;
          rest = map (lifted low) w.rest;
          are = ap (map (lifted low)) w.are;
          begins = subst (λ (x : ℕ). Contains ((low + start) ∷ []) (low + x)) (sym (only_one_in start w.first w.begins)) (first_in (low + start) []);
          goes = goes_up target w.first w.rest w.goes;
        }

    -- a walk of the graph as one of the part
    pub record LoweredWalk (nodes : List ℕ) : Type 0 where
      pub own : List ℕ
      pub are : nodes ≡ map (lifted low) own
      pub walk : IsWalk portion (start ∷ []) target own

    walk_down : (nodes : List ℕ) → IsWalk graph ((low + start) ∷ []) (low + target) nodes → LoweredWalk nodes
    walk_down nodes w =
        let begins : w.first ≡ low + start = only_one_in (low + start) w.first w.begins in
        let l = goes_down target start w.rest within (subst (λ (x : ℕ). WalksOn graph (low + target) x w.rest) begins w.goes) in
        record {
          own = start ∷ l.own;
          are = w.are ∙ (λ k. begins k ∷ l.are k);
          walk = record { first = start; rest = l.own; are = refl; begins = first_in start []; goes = l.goes };
        }

    shortest_down : (nodes : List ℕ) (l : LoweredWalk nodes) → IsShortest graph ((low + start) ∷ []) (low + target) nodes → IsShortest portion (start ∷ []) target l.own
    shortest_down nodes l s =
        record {
          walk = l.walk;
          least = λ other w.
              let up = s.least (map (lifted low) other) (walk_up other w) in
              let a : length nodes ≡ length l.own = ap length l.are ∙ length-map l.own (lifted low) in
              let b : length (map (lifted low) other) ≡ length other = length-map other (lifted low) in
              omega (arith, up, a, b);
        }

    pub first_up : (nodes : List ℕ) → IsFirstOfShortest portion (start ∷ []) target nodes → IsFirstOfShortest graph ((low + start) ∷ []) (low + target) (map (lifted low) nodes)
    first_up nodes f =
        record {
          shortest = record {
            walk = walk_up nodes f.shortest.walk;
            least = λ other w.
                let l = walk_down other w in
                let down = f.shortest.least l.own l.walk in
                let a : length other ≡ length l.own = ap length l.are ∙ length-map l.own (lifted low) in
                let b : length (map (lifted low) nodes) ≡ length nodes = length-map nodes (lifted low) in
                omega (arith, down, a, b);
          };
          first = λ other s.
              let l = walk_down other s.walk in
              subst (λ (o : Ordering). o ≡ Less → ⊥)
              (sym (ap (λ (xs : List ℕ). slice_cmp nat_cmp xs (map (lifted low) nodes)) l.are ∙ slices_lifted low l.own nodes))
              (f.first l.own (shortest_down other l s));
        }

    -- what the whole graph reaches from the start, the part reaches
    pub record ReachedBelow (i : ℕ) : Type 0 where
      pub own : ℕ
      pub is_own : i ≡ low + own
      pub inside : own < high - low
      pub reached : IsNumberReached portion (start ∷ []) own

    pub reached_below : (i : ℕ) → IsNumberReached graph ((low + start) ∷ []) i → ReachedBelow i
    reached_below i (at_start _ h) = record { own = start; is_own = only_one_in (low + start) i h; inside = within; reached = at_start start (first_in start []) }
    reached_below j (by_edge i _ r leads) =
        let b = reached_below i r in
        let at : PointsTo graph (low + b.own) j = subst (λ (x : ℕ). PointsTo graph x j) b.is_own leads in
        let lt = b.inside in
        let above = apart.above (low + b.own) j (omega arith) (omega (arith, lt)) at in
        let below = apart.below (low + b.own) j (omega arith) (omega (arith, lt)) at in
        let e : j ≡ low + (j - low) = omega (arith, above) in
        record {
          own = j - low;
          is_own = e;
          inside = omega (arith, above, below);
          reached = by_edge b.own (j - low) b.reached (leads_down b.own (j - low) lt (subst (PointsTo graph (low + b.own)) e at));
        }

-- the nodes of a walk are nodes of the graph
inside_on : (graph : List (List ℕ)) (target i : ℕ) (rest : List ℕ) → IsNumberedGraph graph → WalksOn graph target i rest → (j : ℕ) → Contains rest j → j < length graph
inside_on graph target i [] is goes j h = absurd (none_in j h)
inside_on graph target i (k ∷ rest) is goes j h =
    ⊎_elim (λ e. subst (λ x. x < length graph) (sym e) (is.within i k goes.0)) (inside_on graph target k rest is goes.1 j) (first_or_further k j rest h)

pub walk_inside : (graph : List (List ℕ)) (start target : ℕ) (nodes : List ℕ) → IsNumberedGraph graph → start < length graph → IsWalk graph (start ∷ []) target nodes → (j : ℕ) → Contains nodes j → j < length graph
walk_inside graph start target nodes is lt w j h =
    ⊎_elim (λ e. subst (λ x. x < length graph) (sym (e ∙ only_one_in start w.first w.begins)) lt) (inside_on graph target w.first w.rest is w.goes j)
    (first_or_further w.first j w.rest (subst (λ xs. Contains xs j) w.are h))
