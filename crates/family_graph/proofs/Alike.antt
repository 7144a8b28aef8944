-- Graphs of one family.
use Rattle.std.proofs.Common.{arith, refl, sym, ap, subst, ◌∙◌, ◌≡◌, ◌≢◌, ℕ, ◌+◌, List, [], ◌∷◌, ◌++◌, length, Option, Some, None, slice_get, Contains, inl, inr}
use Rattle.std.specs.Option.{option_map}
use Rattle.std.specs.List.{AllByRecursion}
use Rattle.std.specs.List.Sorted.{IsStrictlySortedBy}
use Rattle.std.specs.Cmp.Lexicographic.{slice_cmp}
use Rattle.std.specs.Ordering.{nat_cmp}
use Rattle.std.specs.declared.cmp.Ordering.{Ordering}
use Rattle.std.specs.declared.cmp.Ordering.TheVariants.{Less, Equal}
use Rattle.std.proofs.lemmas.Option.{slice_get-map}
use Rattle.std.proofs.lemmas.List.Elements.{Contains-append_cases}
use Rattle.basics.specs.Items.{first_in, further_in, get_contained, only_one_in, none_in, all_at}
use Rattle.node_keys.specs.declared.keys.InstKey.{InstKey}
use Rattle.node_keys.specs.Order.{inst_cmp}
use Rattle.node_keys.proofs.AllLaws.{keys_are_ordered}
use Rattle.local_rules.specs.declared.local.Node.{Node}
use Rattle.instance_graph.specs.declared.graph.Entered.{Entered}
use Rattle.instance_graph.specs.declared.graph.GraphInst.{GraphInst}
use Rattle.instance_graph.specs.declared.graph.Link.{Link}
use Rattle.instance_graph.specs.declared.graph.ClosedNode.{ClosedNode}
use Rattle.instance_graph.specs.Graph as graph
use Rattle.instance_graph.specs.Chain.{way_numbers, IsChainFrom, ends, goes, edge_cmp, turn_of, entry_of}
use Rattle.instance_graph.specs.Least.{IsLeast}
use Rattle.family_graph.specs.Graphs.{insts_of, HasClosedNodeOf, HasEntryOf, IsGraphOf}
use Rattle.family_graph.specs.Laws.{GraphsAreAlike}
use Rattle.family_graph.proofs.Graphs.{keys_long}
use Rattle.local_rules.specs.Site.{Task}

-- ---- ascending lists with the same members are the same

less_all : (P : InstKey → Type 0) (xs : List InstKey) (y : InstKey) → AllByRecursion P xs → Contains xs y → P y
less_all P xs y all has = all_at P xs has.0 y all (get_contained xs y has)

pub not_less : (x : InstKey) → inst_cmp x x ≡ Less → ⊥
not_less x e = let q : inst_cmp x x ≡ Equal = (keys_are_ordered.equal_insts x x).1 refl in cc

pub both_ways : (x y : InstKey) → inst_cmp x y ≡ Less → inst_cmp y x ≡ Less → ⊥
both_ways x y a b = not_less x (keys_are_ordered.insts.trans x y x a b)

-- the least of two such lists is the same
pub heads : (x y : InstKey) (xs ys : List InstKey) → AllByRecursion (λ z. inst_cmp x z ≡ Less) xs → AllByRecursion (λ z. inst_cmp y z ≡ Less) ys → Contains (y ∷ ys) x → Contains (x ∷ xs) y → x ≡ y
heads x y xs ys hx hy in_y in_x =
    elim (Contains-append_cases (y ∷ []) ys x in_y) [
      | inl this ↦ only_one_in y x this
      | inr more ↦ elim (Contains-append_cases (x ∷ []) xs y in_x) [
        | inl this ↦ sym (only_one_in x y this)
        | inr other ↦ absurd (both_ways x y (less_all (λ z. inst_cmp x z ≡ Less) xs y hx other) (less_all (λ z. inst_cmp y z ≡ Less) ys x hy more))
      ]
    ]

pub tails : (x y : InstKey) (xs ys : List InstKey) → x ≡ y → AllByRecursion (λ z. inst_cmp x z ≡ Less) xs → (k : InstKey) → Contains xs k → Contains (y ∷ ys) k → Contains ys k
tails x y xs ys same hx k has there =
    elim (Contains-append_cases (y ∷ []) ys k there) [
      | inl this ↦ absurd (not_less x (subst (λ (z : InstKey). inst_cmp x z ≡ Less) (only_one_in y k this ∙ sym same) (less_all (λ z. inst_cmp x z ≡ Less) xs k hx has)))
      | inr more ↦ more
    ]

pub same_lists : (xs ys : List InstKey) → IsStrictlySortedBy inst_cmp xs → IsStrictlySortedBy inst_cmp ys → ((k : InstKey) → Contains xs k → Contains ys k) → ((k : InstKey) → Contains ys k → Contains xs k) → xs ≡ ys
unfolding IsStrictlySortedBy
same_lists [] [] hx hy to from = refl
same_lists [] (y ∷ ys) hx hy to from = absurd (none_in y (from y (first_in y ys)))
same_lists (x ∷ xs) [] hx hy to from = absurd (none_in x (to x (first_in x xs)))
same_lists (x ∷ xs) (y ∷ ys) hx hy to from =
    let e : x ≡ y = heads x y xs ys hx.0 hy.0 (to x (first_in x xs)) (from y (first_in y ys)) in
    let rest : xs ≡ ys =
    same_lists xs ys hx.1 hy.1
    (λ k h. tails x y xs ys e hx.0 k h (to k (further_in x k xs h)))
    (λ k h. tails y x ys xs (sym e) hy.0 k h (from k (further_in y k ys h))) in
    cc

-- ---- two graphs

entry_by : Option InstKey → ℕ
entry_by None = 0
entry_by (Some inst) = inst.entry

entry_as : (o : Option GraphInst) → entry_of o ≡ entry_by (option_map (λ g. g.key) o)
unfolding entry_by
entry_as None = refl
entry_as (Some g) = refl

module _ (task : Task) (nodes : List Node) (gs hs : List GraphInst) (g : IsGraphOf task nodes gs) (h : IsGraphOf task nodes hs) where
  keys : insts_of gs ≡ insts_of hs
  keys =
      same_lists (insts_of gs) (insts_of hs) g.ascending h.ascending (λ k has. (h.insts k).1 ((g.insts k).0 has)) (λ k has. (g.insts k).1 ((h.insts k).0 has))

  long : length gs ≡ length hs
  long = sym (keys_long gs) ∙ ap length keys ∙ keys_long hs

  node_to : (i : ℕ) (p : ClosedNode) → graph.HasClosedNode gs i p → graph.HasClosedNode hs i p
  node_to i p has = (h.closed i p).1 (subst (λ (ks : List InstKey). HasClosedNodeOf nodes ks i p) keys ((g.closed i p).0 has))

  entry_to : (i : ℕ) (e : Entered) → graph.EntersAlong gs i e → graph.EntersAlong hs i e
  entry_to i e has = (h.entered i e).1 (subst (λ (ks : List InstKey). HasEntryOf task nodes ks i e) keys ((g.entered i e).0 has))

  node_from : (i : ℕ) (p : ClosedNode) → graph.HasClosedNode hs i p → graph.HasClosedNode gs i p
  node_from i p has = (g.closed i p).1 (subst (λ (ks : List InstKey). HasClosedNodeOf nodes ks i p) (sym keys) ((h.closed i p).0 has))

  entry_from : (i : ℕ) (e : Entered) → graph.EntersAlong hs i e → graph.EntersAlong gs i e
  entry_from i e has = (g.entered i e).1 (subst (λ (ks : List InstKey). HasEntryOf task nodes ks i e) (sym keys) ((h.entered i e).0 has))

  pub least_as : (back : ℕ) (ranks needs : List ℕ) → IsLeast back hs ranks needs → IsLeast back gs ranks needs
  least_as back ranks needs l =
      record {
        ranks_length = l.ranks_length ∙ sym long;
        needs_length = l.needs_length ∙ sym long;
        are_ranks = λ i e has. l.are_ranks i e (entry_to i e has);
        are_needs = record { offsets = λ i p has. l.are_needs.offsets i p (node_to i p has); entered = λ i e has. l.are_needs.entered i e (entry_to i e has) };
        least_ranks = λ rank are i within. l.least_ranks rank (λ j e has. are j e (entry_from j e has)) i (omega (arith, within, long));
        least_needs = λ need are i within.
            l.least_needs need
            (record { offsets = λ j p has. are.offsets j p (node_from j p has); entered = λ j e has. are.entered j e (entry_from j e has) }) i (omega (arith, within, long));
      }

  entry_same : (i : ℕ) → entry_of (slice_get hs i) ≡ entry_of (slice_get gs i)
  entry_same i =
      entry_as (slice_get hs i)
      ∙ ap entry_by (sym (slice_get-map (λ (x : GraphInst). x.key) hs i) ∙ ap (λ (ks : List InstKey). slice_get ks i) (sym keys) ∙ slice_get-map (λ (x : GraphInst). x.key) gs i)
      ∙ sym (entry_as (slice_get gs i))

  turn_same : (e : Entered) → turn_of hs e ≡ turn_of gs e
  unfolding turn_of
  turn_same e = ap (λ (x : ℕ). e.node ∷ way_numbers e.way ++ x ∷ e.into ∷ []) (entry_same e.into)

  cmp_same : (a b : Entered) → edge_cmp hs a b ≡ edge_cmp gs a b
  unfolding edge_cmp
  cmp_same a b = ap (λ (xs : List ℕ). slice_cmp nat_cmp xs (turn_of hs b)) (turn_same a) ∙ ap (slice_cmp nat_cmp (turn_of gs a)) (turn_same b)

  pub chain_as : (back : ℕ) (needs : List ℕ) (i above : ℕ) (links : List Link) → IsChainFrom back hs needs i above links → IsChainFrom back gs needs i above links
  chain_as back needs i above links (ends _ _ p first) =
      ends i above p (record { is = (node_from i p first.is.0, first.is.1); first = λ q has. first.first q (node_to i q has.0, has.1) })
  chain_as back needs i above links (goes _ _ e rest none first more) =
      goes i above e rest (λ p has. none p (node_to i p has.0, has.1))
      (record {
        is = (entry_from i e first.is.0, first.is.1);
        first = λ d has. subst (λ (o : Ordering). o ≢ Less) (cmp_same d e) (first.first d (entry_to i d has.0, has.1));
      })
      (chain_as back needs e.into (above + e.offset + back) rest more)

pub graphs_are_alike : GraphsAreAlike
graphs_are_alike =
    record {
      least = λ task nodes gs hs back ranks needs g h l. least_as task nodes gs hs g h back ranks needs l;
      chain = λ task nodes gs hs back needs links g h c. chain_as task nodes gs hs g h back needs 0 0 links c;
    }
