-- The family of a certificate.
use Rattle.std.proofs.Common.{◌≡◌, refl, sym, ap, ap₂, ◌∙◌, subst, ℕ, zero, suc, ◌≤◌, List, [], ◌∷◌, map, length, Some, slice_get, arith}
use Rattle.std.specs.Prelude.{T}
use Rattle.std.specs.List.{AllByRecursion}
use Rattle.std.specs.List.Sorted.{IsStrictlySortedBy}
use Rattle.std.specs.declared.cmp.Ordering.TheVariants.{Less}
use Rattle.std.specs.Ordering.{is_lt}
use Rattle.std.specs.FinMap.{entries, from_sorted, entries-from_sorted, len-entries}
use Rattle.std.specs.FinMap.Entries.{is_sorted, below_all}
use Rattle.std.proofs.lemmas.Option.{same_Some}
use Rattle.basics.specs.Booleans.{join_tests, so_if_less}
use Rattle.abs_state.specs.declared.state.AbsState.{AbsState}
use Rattle.node_keys.specs.declared.keys.NodeKey.{NodeKey}
use Rattle.node_keys.specs.Order.{node_cmp}
use Rattle.local_rules.specs.declared.local.Node.{Node}
use Rattle.edge_rules.specs.declared.seeded.NodeForm.{NodeForm}
use Rattle.edge_rules.specs.Expansion.{Seeds, HasKeyAt}
use Rattle.edge_rules.specs.Families.{IsSoundFamily}
use Rattle.certificate.specs.Claims.{Claim, seed_keys, cells_of, most_cells}
use Rattle.certificate.specs.Insts.{rank_in, need_in}
use Rattle.certificate.proofs.AllLaws.{conditions_make_families_sound}
use Rattle.round_rules.specs.Families.{Family, node_of, nodes_of}
use Rattle.round_rules.specs.Solutions.{IsShown}
use Rattle.round_laws.specs.Laws.{StandsForShown}
use Rattle.local_rules.specs.Site.{Task}

abbrev pair_of : Node → NodeKey × AbsState
pair_of n = (n.key, n.state)

abbrev keys_at : List Node → List NodeKey
keys_at ns = map (λ (n : Node). n.key) ns

same_keys : (ns : List Node) (es : Seeds) → length ns ≡ length es → ((at : ℕ) (n : Node) → slice_get ns at ≡ Some n → HasKeyAt es at n.key) → keys_at ns ≡ seed_keys es
same_keys [] [] e h = refl
same_keys [] (x ∷ es) e h = absurd (omega arith)
same_keys (n ∷ ns) [] e h = absurd (omega arith)
same_keys (n ∷ ns) (x ∷ es) e h =
    let first = h zero n refl in
    let key : x.0 ≡ n.key = ap (λ (p : NodeKey × NodeForm). p.0) (same_Some x (n.key, first.0) first.1) in
    ap₂ (λ (k : NodeKey) (l : List NodeKey). k ∷ l) (sym key) (same_keys ns es (omega (arith, e)) (λ at m is. h (suc at) m is))

below_of : (k : NodeKey) (ns : List Node) → AllByRecursion (λ y. node_cmp k y ≡ Less) (keys_at ns) → T (below_all node_cmp k (map pair_of ns))
below_of k [] h = tt
below_of k (n ∷ ns) h = join_tests (is_lt (node_cmp k n.key)) _ (so_if_less (node_cmp k n.key) h.0) (below_of k ns h.1)

sorted_of : (ns : List Node) → IsStrictlySortedBy node_cmp (keys_at ns) → T (is_sorted node_cmp (map pair_of ns))
unfolding IsStrictlySortedBy
sorted_of [] h = tt
sorted_of (n ∷ ns) h = join_tests (below_all node_cmp n.key (map pair_of ns)) _ (below_of n.key ns h.0) (sorted_of ns h.1)

nodes_back : (ns : List Node) → map node_of (map pair_of ns) ≡ ns
nodes_back [] = refl
nodes_back (n ∷ ns) = ap (λ (l : List Node). n ∷ l) (nodes_back ns)

keys_back : (ns : List Node) → map (λ (e : NodeKey × AbsState). e.0) (map pair_of ns) ≡ keys_at ns
keys_back [] = refl
keys_back (n ∷ ns) = ap (λ (l : List NodeKey). n.key ∷ l) (keys_back ns)

count_back : (ns : List Node) → length (map pair_of ns) ≡ length ns
count_back [] = refl
count_back (n ∷ ns) = omega (arith, count_back ns)

pub stands : (task : Task) (c : Claim) → IsShown task c → StandsForShown task c
stands task c shown =
    let ns = shown.sound.nodes in
    let keys : keys_at ns ≡ seed_keys c.nodes = same_keys ns c.nodes shown.sound.expanded.count shown.sound.expanded.keys in
    let sorted = sorted_of ns (subst (IsStrictlySortedBy node_cmp) (sym keys) shown.claim.nodes_ascend) in
    let g : Family = from_sorted (map pair_of ns) in
    let are : entries g ≡ map pair_of ns = entries-from_sorted node_cmp (map pair_of ns) sorted in
    let nodes : nodes_of g ≡ ns = ap (map node_of) are ∙ nodes_back ns in
    let sound = conditions_make_families_sound task c ns shown.claim shown.sound.expanded shown.sound.meets in
    record {
      family = g;
      valid = record {
        rank_of = rank_in c.instances;
        need_of = need_in c.instances;
        bound = c.bound;
        sound =
            subst (λ (l : List Node). IsSoundFamily task (record { nodes = l; rank_of = rank_in c.instances; need_of = need_in c.instances; bound = c.bound })) (sym nodes) sound;
      };
      fits = record {
        few_nodes = omega (arith, len-entries g, ap length are, count_back ns, shown.sound.expanded.count, shown.claim.few_nodes);
        few_cells = subst (λ (l : List NodeKey). cells_of l ≤ most_cells) (sym (ap (map (λ (e : NodeKey × AbsState). e.0)) are ∙ keys_back ns ∙ keys)) shown.claim.few_cells;
      };
      bound = refl;
    }
