-- The graph of a family gives its cycles, ranks and needs.
use Rattle.std.proofs.Common.{◌≡◌, refl, sym, ap, ◌∙◌, subst, ℕ, zero, suc, ◌+◌, ◌<◌, ◌≤◌, ◌⊎◌, inl, inr, ⊎_elim, Bool, true, false, if◌then◌else◌, List, [], ◌∷◌, map, length, Option, Some, None, slice_get, slice_index, arith}
use Rattle.std.proofs.lemmas.Option.{none-some, same_Some, slice_get_within}
use Rattle.basics.specs.Lists.{get_inside}
use Rattle.avr_model.specs.Devices.{device_of, back_of}
use Rattle.node_keys.specs.declared.keys.InstKey.{InstKey}
use Rattle.node_keys.specs.declared.keys.Kind.{Kind}
use Rattle.node_keys.specs.declared.keys.Kind.TheVariants.{Root, Call, Vector}
use Rattle.node_keys.specs.Keys.{root_inst}
use Rattle.node_keys.specs.Order.{same_inst}
use Rattle.node_keys.proofs.AllLaws.{keys_are_ordered}
use Rattle.edge_rules.specs.Nest.{recurs, enters as by_node}
use Rattle.instance_graph.specs.declared.graph.GraphInst.{GraphInst}
use Rattle.instance_graph.specs.declared.graph.Entered.{Entered}
use Rattle.instance_graph.specs.Graph as graph
use Rattle.instance_graph.specs.Least.{IsLeast}
use Rattle.instance_graph.specs.Cycle.{IsNamed, IsNoLater, group_of, number_of}
use Rattle.round_rules.specs.Refusals.{IsReEntry, IsRecursion}
use Rattle.round_rules.specs.Families.{Family}
use Rattle.round_rules.specs.Rounds.{IsEntering, Reaches, once, more, IsAcyclic, AreRanks, AreNeeds, IsRootNeed}
use Rattle.round_laws.specs.Graphs.{IsNumber, IsNumberFor, IsGraphOver, valued, GraphsTell}
use Rattle.local_rules.specs.Site.{Task}

-- ---- values by numbers

pub valued_at : (keys : List InstKey) (xs : List ℕ) (i : ℕ) (inst : InstKey) → ((a b : ℕ) (k : InstKey) → IsNumber keys a k → IsNumber keys b k → a ≡ b) → i < length xs
    → IsNumber keys i inst → valued keys xs inst ≡ slice_index xs i
valued_at [] xs i inst one lt e = absurd (none-some inst e)
valued_at (k ∷ ks) [] i inst one lt e = absurd (omega arith)
valued_at (k ∷ ks) (x ∷ xs) zero inst one lt e =
    let same : k ≡ inst = same_Some k inst e in
    ap (λ b. if b then x else valued ks xs inst) ((keys_are_ordered.same_insts k inst).1 same)
valued_at (k ∷ ks) (x ∷ xs) (suc i) inst one lt e =
    by (same_inst k inst) refl (valued_at ks xs i inst (λ a b j ea eb. let s = one (suc a) (suc b) j ea eb in omega (arith, s)) (omega (arith, lt)) e)
  where
    by : (b : Bool) → same_inst k inst ≡ b → valued ks xs inst ≡ slice_index xs i → (if b then x else valued ks xs inst) ≡ slice_index (x ∷ xs) (suc i)
    by true t rest =
        let s = one zero (suc i) inst (ap Some ((keys_are_ordered.same_insts k inst).0 t)) e in
        absurd (omega (arith, s))
    by false t rest = rest

pub valued_none : (keys : List InstKey) (xs : List ℕ) (inst : InstKey) → ((i : ℕ) → IsNumber keys i inst → ⊥) → valued keys xs inst ≡ 0
valued_none [] xs inst none = refl
valued_none (k ∷ ks) [] inst none = refl
valued_none (k ∷ ks) (x ∷ xs) inst none = by (same_inst k inst) refl (valued_none ks xs inst (λ i e. none (suc i) e))
  where
    by : (b : Bool) → same_inst k inst ≡ b → valued ks xs inst ≡ 0 → (if b then x else valued ks xs inst) ≡ 0
    by true t rest = absurd (none zero (ap Some ((keys_are_ordered.same_insts k inst).0 t)))
    by false t rest = rest

find : (keys : List InstKey) (inst : InstKey) → ((i : ℕ) × IsNumber keys i inst) ⊎ ((i : ℕ) → IsNumber keys i inst → ⊥)
find [] inst = inr (λ i e. none-some inst e)
find (k ∷ ks) inst = by (same_inst k inst) refl (find ks inst)
  where
    later : (same_inst k inst ≡ false) → ((i : ℕ) → IsNumber ks i inst → ⊥) → (i : ℕ) → IsNumber (k ∷ ks) i inst → ⊥
    later t none zero e = let s = (keys_are_ordered.same_insts k inst).1 (same_Some k inst e) in absurd (cc)
    later t none (suc i) e = none i e

    by : (b : Bool) → same_inst k inst ≡ b → ((i : ℕ) × IsNumber ks i inst) ⊎ ((i : ℕ) → IsNumber ks i inst → ⊥)
        → ((i : ℕ) × IsNumber (k ∷ ks) i inst) ⊎ ((i : ℕ) → IsNumber (k ∷ ks) i inst → ⊥)
    by true t rest = inl (zero, ap Some ((keys_are_ordered.same_insts k inst).0 t))
    by false t (inl h) = inl (suc h.0, h.1)
    by false t (inr none) = inr (later t none)

pub more_by : (xs : List ℕ) (spare i : ℕ) → i < length xs → slice_index (map (λ x. x + spare) xs) i ≡ slice_index xs i + spare
more_by [] spare i lt = absurd (omega arith)
more_by (x ∷ xs) spare zero lt = refl
more_by (x ∷ xs) spare (suc i) lt = more_by xs spare i (omega (arith, lt))

pub more_length : (xs : List ℕ) (spare : ℕ) → length (map (λ x. x + spare) xs) ≡ length xs
more_length [] spare = refl
more_length (x ∷ xs) spare = omega (arith, more_length xs spare)

abbrev value_of : (InstKey → ℕ) → Option InstKey → ℕ
value_of rank None = 0
value_of rank (Some k) = rank k

-- ---- the order of names

no_later : (a b : InstKey) (i j : ℕ) → IsNoLater a i b j
    → (group_of a.kind ≤ group_of b.kind) × (group_of a.kind ≡ group_of b.kind → number_of a.kind a.entry ≤ number_of b.kind b.entry)
no_later a b i j (inl lt) = (omega (arith, lt), λ e. omega (arith, lt, e))
no_later a b i j (inr h) = (omega (arith, h.0), λ e. ⊎_elim (λ lt. omega (arith, lt)) (λ same. omega (arith, same.0)) h.1)

entry_is : (kind : Kind) (entry : ℕ) → group_of kind ≡ 1 → number_of kind entry ≡ entry
entry_is Root entry e = refl
entry_is Call entry e = refl
entry_is (Vector v) entry e = absurd (omega (arith, e))

by_entry : (kind : Kind) (entry : ℕ) → ((u : ℕ) → kind ≡ Vector u → ⊥) → (group_of kind ≡ 1) × (number_of kind entry ≡ entry)
by_entry Root entry never = (refl, refl)
by_entry Call entry never = (refl, refl)
by_entry (Vector v) entry never = absurd (never v refl)

module _ (task : Task) (f : Family) (keys : List InstKey) (gs : List GraphInst) (is : IsGraphOver task f keys gs) where
  -- an upper instance has a number: it has a node, or is the root
  from_number : (i j : InstKey) (offset : ℕ) → IsEntering task f i j offset → (n : ℕ) × IsNumber keys n i
  from_number i j offset (by_node n way back has same at e whole) = is.numbered i (n, has, same)
  from_number i j offset (recurs n has same cut top) = (0, subst (IsNumber keys 0) (sym top) is.root)

  -- an instance with a number has no other
  own_number : (i n : ℕ) (inst : InstKey) → IsNumberFor keys i inst → IsNumber keys n inst → i ≡ n
  own_number i n inst (inl e) d = is.once i n inst e d
  own_number i n inst (inr h) d = absurd (h.1 n d)

  -- ---- which reaches which

  into_is : (n : ℕ) (k j : InstKey) → IsNumberFor keys n k → IsNumber keys n j → k ≡ j
  into_is n k j (inl e) d = same_Some k j (sym e ∙ d)
  into_is n k j (inr h) d = let lt = slice_get_within keys n j d in absurd (omega (arith, lt, h.0))

  entering_is : (a : ℕ) (e : Entered) (i j : InstKey) → graph.EntersAlong gs a e → IsNumber keys a i → IsNumber keys e.into j → IsEntering task f i j e.offset
  entering_is a e i j h from to =
      let x = is.entered a e h in
      let is_i : x.inst ≡ i = same_Some x.inst i (sym x.from ∙ from) in
      let is_j : x.into ≡ j = into_is e.into x.into j x.to to in
      subst (λ (k : InstKey). IsEntering task f i k e.offset) is_j (subst (λ (k : InstKey). IsEntering task f k x.into e.offset) is_i x.entering)

  number_from : (a b : ℕ) → graph.ReachesBy gs a b → (k : InstKey) × IsNumber keys a k
  number_from _ _ (graph.once a e h) = let x = is.entered a e h in (x.inst, x.from)
  number_from _ _ (graph.more a b e h rest) = let x = is.entered a e h in (x.inst, x.from)

  reached : (a b : ℕ) → graph.ReachesBy gs a b → (i j : InstKey) → IsNumber keys a i → IsNumber keys b j → Reaches task f i j
  reached _ _ (graph.once a e h) i j from to = once i j e.offset (entering_is a e i j h from to)
  reached _ _ (graph.more a b e h rest) i j from to =
      let mid = number_from e.into b rest in
      more i mid.0 j e.offset (entering_is a e i mid.0 h from mid.1) (reached e.into b rest mid.0 j mid.1 to)

  own_reach : (i j : InstKey) → Reaches task f i j → (n : ℕ) × IsNumber keys n i
  own_reach _ _ (once i j offset e) = from_number i j offset e
  own_reach _ _ (more i j k offset e rest) = from_number i j offset e

  reaches : (i j : InstKey) → Reaches task f i j → (a b : ℕ) → IsNumber keys a i → IsNumber keys b j → graph.ReachesBy gs a b
  reaches _ _ (once i j offset e) a b from to =
      let h = is.all_entered i j offset e in
      let is_a = is.once h.number a i h.from from in
      let is_b = own_number h.edge.into b j h.to to in
      subst (λ (n : ℕ). graph.ReachesBy gs a n) is_b (subst (λ (n : ℕ). graph.ReachesBy gs n h.edge.into) is_a (graph.once h.number h.edge h.enters))
  reaches _ _ (more i j k offset e rest) a b from to =
      let h = is.all_entered i j offset e in
      let is_a = is.once h.number a i h.from from in
      let mid = own_reach j k rest in
      let is_m = own_number h.edge.into mid.0 j h.to mid.1 in
      let tail = reaches j k rest mid.0 b mid.1 to in
      subst (λ (n : ℕ). graph.ReachesBy gs n b) is_a (graph.more h.number b h.edge h.enters (subst (λ (n : ℕ). graph.ReachesBy gs n b) (sym is_m) tail))

  acyclic : ((i : ℕ) → graph.ReachesBy gs i i → ⊥) → IsAcyclic task f
  acyclic never i h = let n = own_reach i i h in never n.0 (reaches i i h n.0 n.0 n.1 n.1)

  -- ---- the instance that is named

  module _ (at : ℕ) (inst : InstKey) (named : IsNamed gs at) (at_is : IsNumber keys at inst) where
    self : Reaches task f inst inst
    self = reached at at named.reaches inst inst at_is at_is

    before : (other : InstKey) → Reaches task f other other
        → (group_of inst.kind ≤ group_of other.kind) × (group_of inst.kind ≡ group_of other.kind → number_of inst.kind inst.entry ≤ number_of other.kind other.entry)
    before other h =
        let n = own_reach other other h in
        let mine = get_inside gs at (let lt = slice_get_within keys at inst at_is in omega (arith, lt, is.inside)) in
        let its = get_inside gs n.0 (let lt = slice_get_within keys n.0 other n.1 in omega (arith, lt, is.inside)) in
        let order = named.first n.0 mine.0 its.0 (reaches other other h n.0 n.0 n.1 n.1) mine.1 its.1 in
        no_later inst other at n.0
        (subst (λ (k : InstKey). IsNoLater k at other n.0) (is.keyed at mine.0 inst mine.1 at_is)
        (subst (λ (k : InstKey). IsNoLater mine.0.key at k n.0) (is.keyed n.0 its.0 other its.1 n.1) order))

    re_entry : (v : ℕ) → inst.kind ≡ Vector v → IsReEntry task f v inst.entry
    re_entry v e = record {
      inst = inst;
      reaches = self;
      kind = e;
      entry = refl;
      least = λ other u h d.
          let b = before other h in
          let le = b.1 (ap group_of e ∙ sym (ap group_of d)) in
          omega (arith, le, ap (λ k. number_of k inst.entry) e, ap (λ k. number_of k other.entry) d);
    }

    no_vector : group_of inst.kind ≡ 1 → (other : InstKey) (u : ℕ) → Reaches task f other other → other.kind ≡ Vector u → ⊥
    no_vector one other u h d = let b = before other h in let zero_is = ap group_of d in omega (arith, b.0, one, zero_is)

    recursion : group_of inst.kind ≡ 1 → IsRecursion task f inst.entry
    recursion one = record {
      inst = inst;
      reaches = self;
      entry = refl;
      vectors = no_vector one;
      least = λ other h.
          let its = by_entry other.kind other.entry (λ u d. no_vector one other u h d) in
          let mine = entry_is inst.kind inst.entry one in
          let le = (before other h).1 (one ∙ sym its.0) in
          omega (arith, le, its.1, mine);
    }

  named_within : (at : ℕ) → IsNamed gs at → at < length keys
  named_within at named = let k = number_from at at named.reaches in slice_get_within keys at k.0 k.1

  -- ---- ranks and needs

  module _ (ranks needs : List ℕ) (least : IsLeast (back_of (device_of task.flash)) gs ranks needs) where
    in_ranks : (i : ℕ) (inst : InstKey) → IsNumber keys i inst → i < length ranks
    in_ranks i inst e = let lt = slice_get_within keys i inst e in omega (arith, lt, is.inside, least.ranks_length)

    in_needs : (i : ℕ) (inst : InstKey) → IsNumber keys i inst → i < length needs
    in_needs i inst e = let lt = slice_get_within keys i inst e in omega (arith, lt, is.inside, least.needs_length)

    rank_is : (i : ℕ) (inst : InstKey) → IsNumber keys i inst → valued keys ranks inst ≡ slice_index ranks i
    rank_is i inst e = valued_at keys ranks i inst is.once (in_ranks i inst e) e

    -- the number of an instance has no lower rank
    rank_le : (i : ℕ) (inst : InstKey) → IsNumberFor keys i inst → valued keys ranks inst ≤ slice_index ranks i
    rank_le i inst (inl e) = omega (arith, rank_is i inst e)
    rank_le i inst (inr h) = omega (arith, valued_none keys ranks inst h.1)

    are_ranks : AreRanks task f (valued keys ranks)
    are_ranks i j offset e =
        let h = is.all_entered i j offset e in
        omega (arith, least.are_ranks h.number h.edge h.enters, rank_is h.number i h.from, rank_le h.edge.into j h.to)

    -- a function of instances as one of numbers
    abbrev by_number : (InstKey → ℕ) → ℕ → ℕ
    by_number rank i = value_of rank (slice_get keys i)

    by_number_is : (rank : InstKey → ℕ) (i : ℕ) (inst : InstKey) → IsNumber keys i inst → by_number rank i ≡ rank inst
    by_number_is rank i inst e = ap (value_of rank) e

    by_number_le : (rank : InstKey → ℕ) (i : ℕ) (inst : InstKey) → IsNumberFor keys i inst → by_number rank i ≤ rank inst
    by_number_le rank i inst (inl e) = omega (arith, by_number_is rank i inst e)
    by_number_le rank i inst (inr h) = none (slice_get keys i) refl
      where
        none : (o : Option InstKey) → slice_get keys i ≡ o → by_number rank i ≤ rank inst
        none None e = let z = ap (value_of rank) e in omega (arith, z)
        none (Some k) e = let lt = slice_get_within keys i k e in absurd (omega (arith, lt, h.0))

    graph_ranks : (rank : InstKey → ℕ) → AreRanks task f rank → graph.AreGraphRanks gs (by_number rank)
    graph_ranks rank are i e h =
        let x = is.entered i e h in
        omega (arith, are x.inst x.into e.offset x.entering, by_number_is rank i x.inst x.from, by_number_le rank e.into x.into x.to)

    least_ranks : (rank : InstKey → ℕ) → AreRanks task f rank → (inst : InstKey) → valued keys ranks inst ≤ rank inst
    least_ranks rank are inst =
        ⊎_elim
        (λ h. let le = least.least_ranks (by_number rank) (graph_ranks rank are) h.0 (let lt = slice_get_within keys h.0 inst h.1 in omega (arith, lt, is.inside)) in
        omega (arith, le, rank_is h.0 inst h.1, by_number_is rank h.0 inst h.1))
        (λ none. omega (arith, valued_none keys ranks inst none)) (find keys inst)

    module _ (spare : ℕ) where
      abbrev more_needs : List ℕ
      more_needs = map (λ x. x + spare) needs

      need_is : (i : ℕ) (inst : InstKey) → IsNumber keys i inst → valued keys more_needs inst ≡ slice_index needs i + spare
      need_is i inst e =
          valued_at keys more_needs i inst is.once (let lt = in_needs i inst e in omega (arith, lt, more_length needs spare)) e ∙ more_by needs spare i (in_needs i inst e)

      need_le : (i : ℕ) (inst : InstKey) → IsNumberFor keys i inst → valued keys more_needs inst ≤ slice_index needs i + spare
      need_le i inst (inl e) = omega (arith, need_is i inst e)
      need_le i inst (inr h) = omega (arith, valued_none keys more_needs inst h.1)

      are_needs : AreNeeds task f (valued keys more_needs)
      are_needs = record {
        offsets = λ n offset has closed.
            let h = is.all_closed n offset has closed in
            omega (arith, least.are_needs.offsets h.number h.closed h.has, h.at, need_is h.number n.key.inst h.of);
        entered = λ i j offset e.
            let h = is.all_entered i j offset e in
            omega (arith, least.are_needs.entered h.number h.edge h.enters, h.at, need_is h.number i h.from, need_le h.edge.into j h.to);
      }

    graph_needs : (need : InstKey → ℕ) → AreNeeds task f need → graph.AreGraphNeeds (back_of (device_of task.flash)) gs (by_number need)
    graph_needs need are = record {
      offsets = λ i p has. let x = is.closed i p has in omega (arith, are.offsets x.node p.offset x.has x.closed, by_number_is need i x.node.key.inst x.of);
      entered = λ i e h.
          let x = is.entered i e h in
          omega (arith, are.entered x.inst x.into e.offset x.entering, by_number_is need i x.inst x.from, by_number_le need e.into x.into x.to);
    }

    least_at : (need : InstKey → ℕ) → AreNeeds task f need → (i : ℕ) (inst : InstKey) → IsNumber keys i inst → slice_index needs i ≤ need inst
    least_at need are i inst e =
        let le = least.least_needs (by_number need) (graph_needs need are) i (let lt = slice_get_within keys i inst e in omega (arith, lt, is.inside)) in
        omega (arith, le, by_number_is need i inst e)

    least_needs : (need : InstKey → ℕ) → AreNeeds task f need → (inst : InstKey) → valued keys needs inst ≤ need inst
    least_needs need are inst =
        ⊎_elim (λ h. omega (arith, least_at need are h.0 inst h.1, valued_at keys needs h.0 inst is.once (in_needs h.0 inst h.1) h.1))
        (λ none. omega (arith, valued_none keys needs inst none)) (find keys inst)

    root_need : IsRootNeed task f (slice_index needs 0)
    root_need = record {
      need = valued keys (more_needs 0);
      are = are_needs 0;
      is = omega (arith, need_is 0 0 root_inst is.root);
      least = λ other are. least_at other are 0 root_inst is.root;
    }

pub graphs_tell : GraphsTell
graphs_tell = record {
  acyclic = acyclic;
  re_entry = λ task f keys gs at v inst is named at_is e. re_entry task f keys gs is at inst named at_is v e;
  recursion = λ task f keys gs at inst is named at_is one. recursion task f keys gs is at inst named at_is one;
  named = λ task f keys gs at is named. named_within task f keys gs is at named;
  ranks = λ task f keys gs ranks needs is least. are_ranks task f keys gs is ranks needs least;
  least_ranks = λ task f keys gs ranks needs rank is least are inst. least_ranks task f keys gs is ranks needs least rank are inst;
  needs = λ task f keys gs ranks needs spare is least. are_needs task f keys gs is ranks needs least spare;
  least_needs = λ task f keys gs ranks needs need is least are inst. least_needs task f keys gs is ranks needs least need are inst;
  root = λ task f keys gs ranks needs is least. root_need task f keys gs is ranks needs least;
}
