-- Instances by number.
use Rattle.std.proofs.Common.{arith, refl, sym, ap, subst, ◌∙◌, ◌≡◌, ℕ, zero, suc, ◌+◌, ◌-◌, ◌<◌, ◌≤◌, inl, inr, Bool, false, true, List, [], ◌∷◌, ◌++◌, length, length-append, Option, Some, None, get_or, slice_get, slice_index, IsTrue}
use Rattle.std.proofs.lemmas.Option.{slice_get_within, slice_get-get_or, none-some, same_Some}
use Rattle.std.specs.Option.{option_map}
use Rattle.std.proofs.lemmas.List.Elements.{Contains-append_cases}
use Rattle.std.specs.List.Sorted.{IsStrictlySortedBy}
use Rattle.std.specs.Ordering.{is_eq}
use Rattle.std.specs.declared.cmp.Ordering.TheVariants.{Less}
use Rattle.std.specs.Prelude.{◌↔◌}
use Rattle.std.proofs.lemmas.Bool.{both_ways}
use Rattle.basics.specs.Lists.{one_at, get_pushed}
use Rattle.basics.specs.Items.{contained_at, get_contained, only_one_in, all_at, all_pushed}
use Rattle.basics.specs.Numbers.{before_or_last}
use Rattle.edge_rules.specs.Places.{pair}
use Rattle.node_keys.specs.declared.keys.InstKey.{InstKey}
use Rattle.node_keys.specs.declared.keys.NodeKey.{NodeKey}
use Rattle.node_keys.specs.Order.{inst_cmp, same_inst}
use Rattle.node_keys.proofs.AllLaws.{keys_are_ordered, nodes_go_by_instance}
use Rattle.local_rules.specs.declared.local.Node.{Node}
use Rattle.edge_rules.specs.Views.{IsSpan, key_of}
use Rattle.family_edges.specs.Shown.{AreOfSomeDevice}
use Rattle.family_graph.specs.Graphs.{HasInst}
use Rattle.family_graph.specs.Numbers.{number_in, EndsWith, GrowsByInst, stays, adds, AreInstNumbers}
use Rattle.family_graph.proofs.Lists.{get_left, index_left, index_behind, all_last}

-- ---- an instance's number

pub less_differs : (a b : InstKey) → inst_cmp a b ≡ Less → same_inst a b ≡ false
unfolding same_inst
less_differs a b e = ap is_eq e

-- an instance's number is its index
pub number_is : (xs : List InstKey) (i : ℕ) (x : InstKey) → IsStrictlySortedBy inst_cmp xs → slice_get xs i ≡ Some x → number_in xs x ≡ i
unfolding IsStrictlySortedBy
number_is [] i x h e = absurd (none-some x e)
number_is (y ∷ ys) zero x h e = let same : same_inst y x ≡ true = (keys_are_ordered.same_insts y x).1 (same_Some y x e) in rw same refl
number_is (y ∷ ys) (suc i) x h e =
    let other = less_differs y x (all_at (λ z. inst_cmp y z ≡ Less) ys i x h.0 e) in
    let more = number_is ys i x h.1 e in
    rw (other, more) (omega arith)

-- ---- one more

sorted_behind : (front : List InstKey) (last inst : InstKey) → IsStrictlySortedBy inst_cmp (front ++ last ∷ []) → inst_cmp last inst ≡ Less
    → IsStrictlySortedBy inst_cmp ((front ++ last ∷ []) ++ inst ∷ [])
unfolding IsStrictlySortedBy
sorted_behind [] last inst h less = ((less, tt), (tt, tt))
sorted_behind (x ∷ xs) last inst h less = (
  all_pushed (λ z. inst_cmp x z ≡ Less) (xs ++ last ∷ []) inst h.0 (keys_are_ordered.insts.trans x last inst (all_last (λ z. inst_cmp x z ≡ Less) xs last h.0) less),
  sorted_behind xs last inst h.1 less,
)

sorted_end : (xs : List InstKey) (last inst : InstKey) → IsStrictlySortedBy inst_cmp xs → EndsWith xs last → inst_cmp last inst ≡ Less
    → IsStrictlySortedBy inst_cmp (xs ++ inst ∷ [])
sorted_end xs last inst h ends less =
    subst (λ (ys : List InstKey). IsStrictlySortedBy inst_cmp (ys ++ inst ∷ [])) (sym ends.is)
    (sorted_behind ends.front last inst (subst (IsStrictlySortedBy inst_cmp) ends.is h) less)

sorted_one : (inst : InstKey) → IsStrictlySortedBy inst_cmp (inst ∷ [])
unfolding IsStrictlySortedBy
sorted_one inst = (tt, tt)

pub sorted_none : IsStrictlySortedBy inst_cmp []
unfolding IsStrictlySortedBy
sorted_none = tt

module _ (nodes : List Node) where
  pub none_numbered : AreInstNumbers nodes 0 [] []
  none_numbered =
      record {
        all = refl;
        few = omega arith;
        ascending = sorted_none;
        used = λ inst has. absurd (omega (arith, has.1));
        named = λ at n lt is. absurd (omega (arith, lt));
        last = λ n lt is. absurd (omega (arith, lt));
      }

  module _ (at : ℕ) (n : Node) (here : slice_get nodes at ≡ Some n) where
    -- the number of each node so far
    named_more : (insts insts' : List InstKey) (numbers : List ℕ) (number : ℕ) → AreInstNumbers nodes at insts numbers
        → ((i : ℕ) (k : InstKey) → slice_get insts i ≡ Some k → slice_get insts' i ≡ Some k) → slice_get insts' number ≡ Some n.key.inst
        → (j : ℕ) (m : Node) → j < at + 1 → slice_get nodes j ≡ Some m → slice_get insts' (slice_index (numbers ++ number ∷ []) j) ≡ Some m.key.inst
    named_more insts insts' numbers number are kept new j m lt is =
        elim (before_or_last j at lt) [
          | inl less ↦
              let within : j < length numbers = omega (arith, are.all) in
              subst (λ (i : ℕ). slice_get insts' i ≡ Some m.key.inst) (sym (index_left numbers (number ∷ []) j within))
              (kept (slice_index numbers j) m.key.inst (are.named j m less is))
          | inr same ↦
              let e : slice_index (numbers ++ number ∷ []) j ≡ number = ap (slice_index (numbers ++ number ∷ [])) (same ∙ sym are.all) ∙ index_behind numbers number in
              let k : n ≡ m = one_at nodes at n m here (subst (λ (i : ℕ). slice_get nodes i ≡ Some m) same is) in
              subst (λ (i : ℕ). slice_get insts' i ≡ Some m.key.inst) (sym e) (subst (λ (x : Node). slice_get insts' number ≡ Some x.key.inst) k new)
        ]

    last_more : (insts : List InstKey) → EndsWith insts n.key.inst → (m : Node) → 0 < at + 1 → slice_get nodes (at + 1 - 1) ≡ Some m → EndsWith insts m.key.inst
    last_more insts ends m some is =
        let e : at + 1 - 1 ≡ at = omega arith in
        subst (λ (x : Node). EndsWith insts x.key.inst) (one_at nodes at n m here (subst (λ (i : ℕ). slice_get nodes i ≡ Some m) e is)) ends

    end_at : (insts : List InstKey) (number : ℕ) (ends : EndsWith insts n.key.inst) → number + 1 ≡ length insts → slice_get insts number ≡ Some n.key.inst
    end_at insts number ends is =
        let e : number ≡ length ends.front = omega (arith, ap length ends.is, length-append ends.front (n.key.inst ∷ [])) in
        subst (λ (xs : List InstKey). slice_get xs number ≡ Some n.key.inst) (sym ends.is)
        (subst (λ (i : ℕ). slice_get (ends.front ++ n.key.inst ∷ []) i ≡ Some n.key.inst) (sym e) (get_pushed ends.front n.key.inst))

    short : (insts : List InstKey) → length insts ≤ 0 → insts ≡ []
    short [] h = refl
    short (x ∷ xs) h = absurd (omega (arith, h))

    ascends_at : (k : ℕ) → at ≡ k → AreOfSomeDevice nodes → (insts : List InstKey) (numbers : List ℕ) → AreInstNumbers nodes at insts numbers → (EndsWith insts n.key.inst → ⊥)
        → IsStrictlySortedBy inst_cmp (insts ++ n.key.inst ∷ [])
    ascends_at zero is shown insts numbers are new =
        subst (λ (xs : List InstKey). IsStrictlySortedBy inst_cmp (xs ++ n.key.inst ∷ [])) (sym (short insts (omega (arith, are.few, is)))) (sorted_one n.key.inst)
    ascends_at (suc k) is shown insts numbers are new =
        let inside : at - 1 < length nodes = omega (arith, slice_get_within nodes at n here) in
        let p = get_or nodes (at - 1) n in
        let there : slice_get nodes (at - 1) ≡ Some p = slice_get-get_or nodes (at - 1) n inside in
        let ends = are.last p (omega (arith, is)) there in
        elim (nodes_go_by_instance.rises p.key n.key (pair nodes (at - 1) at p n shown.1.ascending there here (omega (arith, is)))) [
          | inl less ↦ sorted_end insts p.key.inst n.key.inst are.ascending ends less
          | inr same ↦ absurd (new (subst (EndsWith insts) same ends))
        ]

    pub numbered_more : AreOfSomeDevice nodes → (insts : List InstKey) (numbers : List ℕ) (insts' : List InstKey) (number : ℕ) → AreInstNumbers nodes at insts numbers
        → GrowsByInst insts n.key.inst insts' → number + 1 ≡ length insts' → AreInstNumbers nodes (at + 1) insts' (numbers ++ number ∷ [])
    numbered_more shown insts numbers insts' number are (stays ends) is =
        record {
          all = omega (arith, length-append numbers (number ∷ []), are.all);
          few = omega (arith, are.few);
          ascending = are.ascending;
          used = are.used;
          named = named_more insts insts numbers number are (λ i k e. e) (end_at insts number ends is);
          last = last_more insts ends;
        }
    numbered_more shown insts numbers insts' number are (adds new) is =
        let e : number ≡ length insts = omega (arith, length-append insts (n.key.inst ∷ []), is) in
        record {
          all = omega (arith, length-append numbers (number ∷ []), are.all);
          few = omega (arith, are.few, length-append insts (n.key.inst ∷ []));
          ascending = ascends_at at refl shown insts numbers are new;
          used = λ k has. elim (Contains-append_cases insts (n.key.inst ∷ []) k has) [
            | inl old ↦ are.used k old
            | inr this ↦ (n, contained_at nodes at n here, sym (only_one_in n.key.inst k this))
          ];
          named = named_more insts (insts ++ n.key.inst ∷ []) numbers number are (λ i k g. get_left insts (n.key.inst ∷ []) i k g)
              (subst (λ (i : ℕ). slice_get (insts ++ n.key.inst ∷ []) i ≡ Some n.key.inst) (sym e) (get_pushed insts n.key.inst));
          last = last_more (insts ++ n.key.inst ∷ []) (record { front = insts; is = refl });
        }

  -- the number at the first node of an instance is the instance's
  pub number_at : (insts : List InstKey) (numbers : List ℕ) (inst : InstKey) (low high : ℕ) → AreInstNumbers nodes (length nodes) insts numbers → IsSpan nodes inst low high
      → HasInst nodes inst → (low < length numbers) × (slice_index numbers low ≡ number_in insts inst)
  number_at insts numbers inst low high are span has =
      let k = has.1.0 in
      let there = get_contained nodes has.0 has.1 in
      let between = (span.exact k has.0 there).0 has.2 in
      let inside : low < length nodes = omega (arith, between.0, between.1, span.inside) in
      let a = get_or nodes low has.0 in
      let first : slice_get nodes low ≡ Some a = slice_get-get_or nodes low has.0 inside in
      let same : a.key.inst ≡ inst = (span.exact low a first).1 (omega arith, omega (arith, between.0, between.1)) in (
        omega (arith, are.all),
        sym (number_is insts (slice_index numbers low) inst are.ascending (subst (λ (x : InstKey). slice_get insts (slice_index numbers low) ≡ Some x) same (are.named low a inside first))),
      )

-- an instance with a node is at its number
pub number_there : (nodes : List Node) (insts : List InstKey) (numbers : List ℕ) (inst : InstKey) → AreInstNumbers nodes (length nodes) insts numbers → HasInst nodes inst
    → slice_get insts (number_in insts inst) ≡ Some inst
number_there nodes insts numbers inst are has =
    let k = has.1.0 in
    let there = are.named k has.0 has.1.1 (get_contained nodes has.0 has.1) in
    let here : slice_get insts (slice_index numbers k) ≡ Some inst = subst (λ (x : InstKey). slice_get insts (slice_index numbers k) ≡ Some x) has.2 there in
    subst (λ (i : ℕ). slice_get insts i ≡ Some inst) (sym (number_is insts (slice_index numbers k) inst are.ascending here)) here

-- ---- a node by its number

pub node_of : (o : Option Node) (k : NodeKey) → option_map key_of o ≡ Some k → (n : Node) × (o ≡ Some n) × (n.key ≡ k)
node_of None k e = absurd (none-some k e)
node_of (Some n) k e = (n, refl, same_Some n.key k e)

-- ---- the code's steps

pub numbered_none : (nodes : List Node) (insts : List InstKey) (numbers : List ℕ) → insts ≡ [] → numbers ≡ [] → AreInstNumbers nodes 0 insts numbers
numbered_none nodes insts numbers a b =
    subst (λ (xs : List InstKey). AreInstNumbers nodes 0 xs numbers) (sym a) (subst (AreInstNumbers nodes 0 []) (sym b) (none_numbered nodes))

pub numbered_step : (nodes : List Node) (at : ℕ) (k : NodeKey) → option_map key_of (slice_get nodes at) ≡ Some k → AreOfSomeDevice nodes
    → (insts : List InstKey) (numbers : List ℕ) (insts' : List InstKey) (number : ℕ) (numbers' : List ℕ) → AreInstNumbers nodes at insts numbers
    → GrowsByInst insts k.inst insts' → number + 1 ≡ length insts' → numbers' ≡ numbers ++ number ∷ [] → AreInstNumbers nodes (at + 1) insts' numbers'
numbered_step nodes at k here shown insts numbers insts' number numbers' are grows is pushed =
    let n = node_of (slice_get nodes at) k here in
    subst (AreInstNumbers nodes (at + 1) insts') (sym pushed)
    (numbered_more nodes at n.0 n.1 shown insts numbers insts' number are (subst (λ (x : NodeKey). GrowsByInst insts x.inst insts') (sym n.2) grows) is)

pub grows_kept : (insts insts' d : List InstKey) (inst : InstKey) (b : Bool) → d ≡ insts → (IsTrue b ↔ EndsWith d inst) → b ≡ true → insts' ≡ insts → GrowsByInst insts inst insts'
grows_kept insts insts' d inst b same ends is kept =
    subst (GrowsByInst insts inst) (sym kept) (stays (subst (λ (xs : List InstKey). EndsWith xs inst) same (ends.0 is)))

pub grows_added : (insts insts' d : List InstKey) (inst : InstKey) (b : Bool) → d ≡ insts → (IsTrue b ↔ EndsWith d inst) → b ≡ false → insts' ≡ insts ++ inst ∷ [] → GrowsByInst insts inst insts'
grows_added insts insts' d inst b same ends is added =
    subst (GrowsByInst insts inst) (sym added) (adds (λ h. both_ways b is (ends.1 (subst (λ (xs : List InstKey). EndsWith xs inst) (sym same) h))))
