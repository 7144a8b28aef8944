-- The links and seeds gathered from landings.
use Rattle.std.proofs.Common.{◌≡◌, refl, sym, ap, ◌∙◌, subst, ℕ, zero, suc, ◌+◌, ◌<◌, ◌≤◌, ⊎_elim, true, false, not, List, [], ◌∷◌, ◌++◌, length, map, get_or, take, Some, slice_get, Contains, arith}
use Rattle.std.specs.Prelude.{◌↔◌}
use Rattle.std.proofs.lemmas.List.{length-map, get_or-map, get_or_default, take_all}
use Rattle.std.proofs.lemmas.List.Elements.{Contains-append_left, Contains-append_right, Contains-append_cases}
use Rattle.std.proofs.lemmas.Option.{none-some, same_Some, slice_get_within}
use Rattle.basics.specs.Booleans.{never_both}
use Rattle.basics.specs.Items.{none_in, first_in, only_one_in, contained_in_join, each_of_join, inside_if_contained}
use Rattle.basics.specs.Lists.{one_at, get_inside}
use Rattle.basics.specs.Numbers.{before_or_last}
use Rattle.family_edges.proofs.AllLaws.{if_from}
use Rattle.node_keys.specs.declared.keys.EdgeKind.{EdgeKind}
use Rattle.node_keys.specs.declared.keys.EdgeKind.TheVariants as kind
use Rattle.node_keys.specs.Keys.{offset_of}
use Rattle.local_rules.specs.declared.local.Node.{Node}
use Rattle.edge_rules.specs.declared.edge.Edge.{Edge}
use Rattle.edge_rules.specs.Edges.{IsEdge, is_entry}
use Rattle.edge_rules.specs.Places.{found_at}
use Rattle.edge_rules.specs.Views.{index_of}
use Rattle.node_keys.specs.declared.keys.NodeKey.{NodeKey}
use Rattle.family_edges.specs.declared.landing.Landing.{Landing}
use Rattle.family_edges.specs.Landings.{AreLandingsOf, AreLandings}
use Rattle.clear_laws.specs.Held.{StaysInFrame, is_guarded_push}
use Rattle.clear_laws.specs.declared.slots.SlotSeed.{SlotSeed}
use Rattle.clear_laws.specs.Reach.{links_of}
use Rattle.clear_laws.specs.Links.{IsTarget, IsLandingSeed, offsets_of}
use Rattle.store_clear.specs.Conditions.{is_local, link_of, seed_of, links_by, seeds_by, SeedComesBelow, AreSeedsTo, AreSlotSeeds, SpreadsAlong}
use Rattle.store_clear.proofs.Lists.{chosen_in}
use Rattle.local_rules.specs.Site.{Task}

-- ---- one edge

stays_in : (k : EdgeKind) → not (is_entry k) ≡ true → StaysInFrame k
stays_in kind.Local e = tt
stays_in kind.Call e = absurd cc
stays_in (kind.Interrupt v clears) e = absurd cc
stays_in kind.Return e = tt

in_stays : (k : EdgeKind) → StaysInFrame k → not (is_entry k) ≡ true
in_stays kind.Local h = refl
in_stays kind.Call h = absurd h
in_stays (kind.Interrupt v clears) h = absurd h
in_stays kind.Return h = refl

local_is : (k : EdgeKind) → is_local k ≡ true → k ≡ kind.Local
local_is kind.Local e = refl
local_is kind.Call e = absurd cc
local_is (kind.Interrupt v clears) e = absurd cc
local_is kind.Return e = absurd cc

inside_at : (nodes : List Node) (k : NodeKey) (at : ℕ) → index_of k nodes ≡ Some at → at < length nodes
inside_at nodes k at e = let w = found_at k nodes at e in slice_get_within nodes at w.node w.is

-- ---- one node

module _ (task : Task) (nodes : List Node) where
  abbrev Linked : Node → ℕ → Type 0
  Linked n t = (e : Edge) × (IsEdge task nodes n e × IsTarget nodes e t)

  abbrev Pushes : Node → ℕ → SlotSeed → Type 0
  Pushes n slot s = (e : Edge) × (IsEdge task nodes n e × IsLandingSeed nodes slot e s)

  module _ (n : Node) (landings : List Landing) (are : AreLandingsOf task nodes n landings) where
    linked_by : (t : ℕ) → Contains (links_by landings) t ↔ Linked n t
    linked_by t = (λ h. each_of_join link_of (Linked n) landings down t h, up)
      where
        down : (l : Landing) (u : ℕ) → Contains landings l → Contains (link_of l) u → Linked n u
        down l u has on =
            let w = (are l).0 has in
            let c = if_from (not (is_entry l.kind)) (l.at ∷ []) u on in
            (w.edge, (w.is, (subst StaysInFrame w.kind (stays_in l.kind c.0), w.at ∙ ap (λ (x : ℕ). Some x) (sym (only_one_in l.at u c.1)))))

        up : Linked n t → Contains (links_by landings) t
        up h =
            contained_in_join link_of landings (record { kind = h.0.kind; at = t }) t
            ((are (record { kind = h.0.kind; at = t })).1 (record { edge = h.0; is = h.1.0; kind = refl; at = h.1.1.1 }))
            (chosen_in (not (is_entry h.0.kind)) (t ∷ []) t (in_stays h.0.kind h.1.1.0) (first_in t []))

    pushed_by : (slot : ℕ) (s : SlotSeed) → Contains (seeds_by slot landings) s ↔ Pushes n slot s
    pushed_by slot s = (λ h. each_of_join (seed_of slot) (Pushes n slot) landings down s h, up)
      where
        down : (l : Landing) (s : SlotSeed) → Contains landings l → Contains (seed_of slot l) s → Pushes n slot s
        down l s has on =
            let w = (are l).0 has in
            let c = if_from (is_local l.kind) (record { node = l.at; slot = slot } ∷ []) s on in
            let same = only_one_in (record { node = l.at; slot = slot }) s c.1 in
            (w.edge, (w.is, (sym w.kind ∙ local_is l.kind c.0, w.at ∙ ap (λ (x : SlotSeed). Some x.node) (sym same), ap (λ (x : SlotSeed). x.slot) same)))

        up : Pushes n slot s → Contains (seeds_by slot landings) s
        up h =
            contained_in_join (seed_of slot) landings (record { kind = h.0.kind; at = s.node }) s
            ((are (record { kind = h.0.kind; at = s.node })).1 (record { edge = h.0; is = h.1.0; kind = refl; at = h.1.1.1 }))
            (chosen_in (is_local h.0.kind) (record { node = s.node; slot = slot } ∷ []) s (ap is_local h.1.1.0)
            (subst (λ x. Contains (record { node = s.node; slot = x } ∷ []) s) h.1.1.2 (first_in s [])))

  -- ---- seeds

  pub seeds_none : AreSeedsTo task nodes 0 []
  seeds_none s = (λ h. absurd (none_in s h), λ c. absurd (let lt = c.1 in omega (arith, lt)))

  module _ (at : ℕ) (n : Node) (is : slice_get nodes at ≡ Some n) (seeds : List SlotSeed) (so : AreSeedsTo task nodes at seeds) where
    weaker : (s : SlotSeed) → SeedComesBelow task nodes at s → SeedComesBelow task nodes (at + 1) s
    weaker s c = (c.0, let lt = c.1 in omega (arith, lt))

    here : (c : Node) (i : ℕ) → i ≡ at → slice_get nodes i ≡ Some c → c ≡ n
    here c i e read = one_at nodes at c n (subst (λ k. slice_get nodes k ≡ Some c) e read) is

    -- no guarded push there
    pub seeds_same : is_guarded_push task n.key.pc ≡ false → AreSeedsTo task nodes (at + 1) seeds
    seeds_same not_pushed s = (λ h. weaker s ((so s).0 h), up)
      where
        up : SeedComesBelow task nodes (at + 1) s → Contains seeds s
        up c =
            ⊎_elim (λ lt. (so s).1 (c.0, lt))
            (λ e. absurd (never_both (is_guarded_push task n.key.pc) (subst (λ (x : Node). is_guarded_push task x.key.pc ≡ true) (here c.0.node c.0.at e c.0.is) c.0.lands.0) not_pushed))
            (before_or_last c.0.at at c.1)

    pub seeds_more : (landings : List Landing) → AreLandingsOf task nodes n landings → is_guarded_push task n.key.pc ≡ true
        → AreSeedsTo task nodes (at + 1) (seeds ++ seeds_by (offset_of n.key.sp) landings)
    seeds_more landings are pushed s = (down, up)
      where
        slot : ℕ
        slot = offset_of n.key.sp

        down : Contains (seeds ++ seeds_by slot landings) s → SeedComesBelow task nodes (at + 1) s
        down h =
            ⊎_elim (λ i. weaker s ((so s).0 i))
            (λ i.
            let p = (pushed_by n landings are slot s).0 i in
            (record { at = at; node = n; edge = p.0; is = is; from = p.1.0; lands = (pushed, p.1.1) }, omega arith))
            (Contains-append_cases seeds (seeds_by slot landings) s h)

        up : SeedComesBelow task nodes (at + 1) s → Contains (seeds ++ seeds_by slot landings) s
        up c =
            ⊎_elim (λ lt. Contains-append_left seeds (seeds_by slot landings) s ((so s).1 (c.0, lt)))
            (λ e.
            let one = here c.0.node c.0.at e c.0.is in
            Contains-append_right seeds (seeds_by slot landings) s
            ((pushed_by n landings are slot s).1
            (c.0.edge, (subst (λ (x : Node). IsEdge task nodes x c.0.edge) one c.0.from, subst (λ (x : Node). IsLandingSeed nodes (offset_of x.key.sp) c.0.edge s) one c.0.lands.1))))
            (before_or_last c.0.at at c.1)

  -- ---- all nodes

  -- the landings of an existing node, as read
  pub landings_at : (all : List (List Landing)) → AreLandings task nodes all → (at : ℕ) (n : Node) → slice_get nodes at ≡ Some n → (d ls : List Landing) → ls ≡ get_or all at d
      → AreLandingsOf task nodes n ls
  landings_at all are at n is d ls read =
      subst (λ (xs : List Landing). AreLandingsOf task nodes n xs) (sym (read ∙ any_default)) (are.are.each at n lt is)
    where
      lt : at < length nodes
      lt = slice_get_within nodes at n is

      any_default : get_or all at d ≡ get_or all at []
      any_default = get_or_default all at d [] (let same = are.are.count_is in omega (arith, lt, same))

  pub spreads : (all : List (List Landing)) (links : List (List ℕ)) (offsets : List ℕ) (seeds : List SlotSeed) → AreLandings task nodes all → links ≡ map links_by all
      → offsets ≡ offsets_of nodes → AreSlotSeeds task nodes seeds → SpreadsAlong task nodes links offsets seeds
  spreads all links offsets seeds landings links_are offsets_are so =
      record {
        are = record {
          count = count;
          link = link;
          seed = λ s. (λ h. ((so s).0 h).0, λ c. (so s).1 (c, slice_get_within nodes c.at c.node c.is));
          offsets_are = offsets_are;
        };
        inside = record {
          same = count ∙ sym many;
          links_lead = λ k t h.
              let lt : k < length nodes = let w = inside_if_contained links k t h in omega (arith, w, count) in
              let n = get_inside nodes k lt in
              let e = (link k n.0 t n.1).0 h in
              let in_nodes = inside_at nodes e.0.to t e.1.1.1 in
              subst (λ x. t < x) (sym many) in_nodes;
          seeds_lead = λ s h.
              let c = ((so s).0 h).0 in
              let in_nodes = inside_at nodes c.edge.to s.node c.lands.1.1 in
              subst (λ x. s.node < x) (sym many) in_nodes;
        };
      }
    where
      many : length offsets ≡ length nodes
      many = ap length offsets_are ∙ length-map nodes (λ (n : Node). offset_of n.key.sp)

      count : length links ≡ length nodes
      count = ap length links_are ∙ (length-map all links_by ∙ landings.are.count_is)

      link : (at : ℕ) (n : Node) (t : ℕ) → slice_get nodes at ≡ Some n → Contains (links_of links at) t ↔ Linked n t
      link at n t is =
          let lt = slice_get_within nodes at n is in
          let in_all : at < length all = let same = landings.are.count_is in omega (arith, lt, same) in
          let read : links_of links at ≡ links_by (get_or all at []) =
          ap (λ (xs : List (List ℕ)). links_of xs at) links_are ∙ get_or-map links_by all at [] [] in_all in
          subst (λ (xs : List ℕ). Contains xs t ↔ Linked n t) (sym read) (linked_by n (get_or all at []) (landings.are.each at n lt is) t)

-- ---- offsets

pub offsets_more : (nodes : List Node) (at : ℕ) (so : List ℕ) (n : Node) (offset : ℕ) → so ≡ offsets_of (take at nodes) → slice_get nodes at ≡ Some n → offset ≡ offset_of n.key.sp
    → so ++ offset ∷ [] ≡ offsets_of (take (at + 1) nodes)
offsets_more nodes at so n offset so_far is same =
    ap (λ (xs : List ℕ). xs ++ offset ∷ []) so_far ∙ (ap (λ (x : ℕ). offsets_of (take at nodes) ++ x ∷ []) same ∙ more nodes at n is ∙ ap (λ k. offsets_of (take k nodes)) (let next : suc at ≡ at + 1 = omega arith in next))
  where
    more : (nodes : List Node) (at : ℕ) (n : Node) → slice_get nodes at ≡ Some n → offsets_of (take at nodes) ++ offset_of n.key.sp ∷ [] ≡ offsets_of (take (suc at) nodes)
    more [] at n e = absurd (none-some n e)
    more (x ∷ nodes) zero n e = ap (λ (y : Node). offset_of y.key.sp ∷ []) (sym (same_Some x n e))
    more (x ∷ nodes) (suc at) n e = ap (λ (xs : List ℕ). offset_of x.key.sp ∷ xs) (more nodes at n e)

pub offsets_end : (nodes : List Node) (at : ℕ) (so : List ℕ) → length nodes ≤ at → so ≡ offsets_of (take at nodes) → so ≡ offsets_of nodes
offsets_end nodes at so le so_far = so_far ∙ ap offsets_of (take_all at nodes le)
