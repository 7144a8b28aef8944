-- A table with all entries has the least ranks and needs; a table that is stuck has a cycle.
use Rattle.std.proofs.Common.{◌≡◌, ◌≢◌, ℕ, zero, suc, ◌+◌, ◌<◌, Option, Some, None, List, [], ◌∷◌, ◌++◌, map, take, length, get_or, slice_index, refl, sym, ap, ◌∙◌, subst, arith, ⊎_elim}
use Rattle.std.proofs.lemmas.List.{take_more, take_all, map-append}
use Rattle.std.proofs.lemmas.Option.{slice_get_within}
use Rattle.basics.specs.Numbers.{before_or_last}
use Rattle.instance_graph.specs.declared.graph.GraphInst.{GraphInst}
use Rattle.instance_graph.specs.declared.found.Found.{Found}
use Rattle.instance_graph.specs.Graph.{IsGraph, ReachesBy, once, more}
use Rattle.instance_graph.specs.Table.{at, IsSoundTable, IsInstStuck, AreFound, IsInstMissing, rank_of, need_of}
use Rattle.instance_graph.specs.Least.{IsLeast}
use Rattle.instance_graph.proofs.Walk.{some_cycle}

at_map : (f : Option Found → ℕ) → f None ≡ 0 → (table : List (Option Found)) (i : ℕ) → get_or (map f table) i 0 ≡ f (at table i)
at_map f e [] i = sym e
at_map f e (x ∷ table) zero = refl
at_map f e (x ∷ table) (suc i) = at_map f e table i

map_length : (f : Option Found → ℕ) (table : List (Option Found)) → length (map f table) ≡ length table
map_length f [] = refl
map_length f (x ∷ table) = omega (arith, map_length f table)

found_there : (o : Option Found) → o ≢ None → (x : Found) × (o ≡ Some x)
found_there None ne = absurd (ne refl)
found_there (Some x) ne = (x, refl)

reaches_inside : (gs : List GraphInst) (i j : ℕ) → ReachesBy gs i j → i < length gs
reaches_inside gs i j (once _ e enters) = slice_get_within gs i enters.inst enters.is
reaches_inside gs i j (more _ _ e enters rest) = slice_get_within gs i enters.inst enters.is

module _ (back : ℕ) (gs : List GraphInst) (table : List (Option Found)) (sound : IsSoundTable back gs table) where
  module _ (all : (i : ℕ) → i < length table → at table i ≢ None) where
    found : (i : ℕ) → i < length gs → (x : Found) × (at table i ≡ Some x)
    found i lt = found_there (at table i) (all i (subst (λ n. i < n) (sym sound.same) lt))

    rank_at : (i : ℕ) (x : Found) → at table i ≡ Some x → slice_index (map rank_of table) i ≡ x.rank
    rank_at i x is = at_map rank_of refl table i ∙ ap rank_of is

    need_at : (i : ℕ) (x : Found) → at table i ≡ Some x → slice_index (map need_of table) i ≡ x.need
    need_at i x is = at_map need_of refl table i ∙ ap need_of is

    pub least_of : (ranks needs : List ℕ) → ranks ≡ map rank_of table → needs ≡ map need_of table → IsLeast back gs ranks needs
    least_of ranks needs er en = subst (λ rs. IsLeast back gs rs needs) (sym er) (subst (λ ns. IsLeast back gs (map rank_of table) ns) (sym en) least)
      where
        least : IsLeast back gs (map rank_of table) (map need_of table)
        least =
            record {
              ranks_length = map_length rank_of table ∙ sound.same;
              needs_length = map_length need_of table ∙ sound.same;
              are_ranks = λ i e enters.
                  let x = found i (slice_get_within gs i enters.inst enters.is) in
                  let y = (sound.settled i x.0 x.1).entered e enters in
                  omega (arith, rank_at i x.0 x.1, rank_at e.into y.0 y.1, y.2);
              are_needs = record {
                offsets = λ i o h.
                    let x = found i (slice_get_within gs i h.inst h.is) in
                    omega (arith, need_at i x.0 x.1, (sound.settled i x.0 x.1).offsets o h);
                entered = λ i e enters.
                    let x = found i (slice_get_within gs i enters.inst enters.is) in
                    let y = (sound.settled i x.0 x.1).entered e enters in
                    omega (arith, need_at i x.0 x.1, need_at e.into y.0 y.1, y.3);
              };
              least_ranks = λ rank ranks i lt.
                  let x = found i lt in
                  omega (arith, rank_at i x.0 x.1, (sound.settled i x.0 x.1).rank_least rank ranks);
              least_needs = λ need needs i lt.
                  let x = found i lt in
                  omega (arith, need_at i x.0 x.1, (sound.settled i x.0 x.1).need_least need needs);
            }

  -- a table that is stuck with an entry missing has an instance on a cycle
  pub stuck_cycle : IsGraph gs → ((i : ℕ) → i < length gs → at table i ≡ None → IsInstStuck gs table i) → (i : ℕ) → i < length table → at table i ≡ None → ((j : ℕ) → j < length gs → ReachesBy gs j j → ⊥) → ⊥
  stuck_cycle graph stuck i lt none acyclic =
      let c = some_cycle gs (length gs) (λ j. (j < length gs) × (at table j ≡ None)) (λ j h. h.0) (λ j h. let s = stuck j h.0 h.1 in (s.0, s.1, (graph.within j s.0 s.1, s.2))) i (subst (λ n. i < n) sound.same lt, none) in
      acyclic c.0 (reaches_inside gs c.0 c.0 c.1) c.1

  -- for the code's intermediate lists
  pub stuck_at : (gs0 : List GraphInst) (table0 : List (Option Found)) → gs0 ≡ gs → table0 ≡ table → IsGraph gs → ((i : ℕ) → i < length gs0 → at table i ≡ None → IsInstStuck gs0 table i) → IsInstMissing table0 → ((j : ℕ) → j < length gs0 → ReachesBy gs0 j j → ⊥) → ⊥
  stuck_at gs0 table0 eg et graph stuck missing acyclic =
      let m : IsInstMissing table = subst IsInstMissing et missing in
      stuck_cycle graph
      (subst (λ g. (i : ℕ) → i < length g → at table i ≡ None → IsInstStuck g table i) eg stuck)
      m.inst m.inside m.none
      (subst (λ g. (j : ℕ) → j < length g → ReachesBy g j j → ⊥) eg acyclic)

  pub least_at : (table0 : List (Option Found)) (ranks needs : List ℕ) → table0 ≡ table → AreFound table0 (length table0) ranks needs → IsLeast back gs ranks needs
  least_at table0 ranks needs et found =
      let whole : take (length table) table ≡ table = take_all (length table) table (omega arith) in
      let f : AreFound table (length table) ranks needs = subst (λ t. AreFound t (length t) ranks needs) et found in
      least_of f.all ranks needs (f.ranks_are ∙ ap (map rank_of) whole) (f.needs_are ∙ ap (map need_of) whole)

-- ---- the ranks and needs of one instance more
not_none : (o : Option Found) (x : Found) → o ≡ Some x → o ≢ None
not_none o x is none = cc

mapped_more : (f : Option Found → ℕ) (table : List (Option Found)) (i : ℕ) (x : Found) (numbers new : List ℕ) → i < length table → at table i ≡ Some x → numbers ≡ map f (take i table) → new ≡ numbers ++ f (Some x) ∷ [] → new ≡ map f (take (i + 1) table)
mapped_more f table i x numbers new lt is old e =
    e ∙ ap (λ ns. ns ++ f (Some x) ∷ []) old ∙ ap (λ o. map f (take i table) ++ f o ∷ []) (sym is)
    ∙ sym (ap (map f) (take_more table i None lt) ∙ map-append f (take i table) (at table i ∷ []))

pub found_more : (table : List (Option Found)) (i : ℕ) (x : Found) (ranks needs ranks' needs' : List ℕ) → i < length table → at table i ≡ Some x → ranks' ≡ ranks ++ x.rank ∷ [] → needs' ≡ needs ++ x.need ∷ [] → AreFound table i ranks needs → AreFound table (i + 1) ranks' needs'
found_more table i x ranks needs ranks' needs' lt is er en found = record {
  all = λ j h. ⊎_elim (λ less. found.all j less) (λ same. subst (λ k. at table k ≢ None) (sym same) (not_none (at table i) x is)) (before_or_last j i h);
  ranks_are = mapped_more rank_of table i x ranks ranks' lt is found.ranks_are er;
  needs_are = mapped_more need_of table i x needs needs' lt is found.needs_are en;
}
