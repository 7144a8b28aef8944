-- The named instance: settled ones never are, and one more instance.
use Rattle.std.specs.Option.{is_some}
use Rattle.std.specs.List.{Contains}
use Rattle.std.proofs.Common.{true, ◌≡◌, ◌≢◌, ◌∙◌, ℕ, zero, suc, ◌+◌, ◌<◌, ◌≤◌, Option, Some, None, List, length, replicate, slice_get, slice_index, refl, sym, ap, subst, arith, ⊎_elim}
use Rattle.std.proofs.lemmas.Option.{slice_get_within}
use Rattle.basics.specs.Numbers.{before_or_last}
use Rattle.instance_graph.specs.declared.found.Found.{Found}
use Rattle.instance_graph.specs.declared.graph.Entered.{Entered}
use Rattle.instance_graph.specs.declared.graph.GraphInst.{GraphInst}
use Rattle.instance_graph.specs.Cycle.{IsNamed}
use Rattle.instance_graph.specs.Graph.{EntersAlong, ReachesBy, once, more}
use Rattle.instance_graph.specs.Search.{AreLayers, IsNamedOf, IsNamedBelow}
use Rattle.instance_graph.specs.Table.{at, IsSoundTable}
use Rattle.instance_graph.proofs.Table.{same_found}
use Rattle.instance_graph.proofs.Tested.{edge_of}

-- what a settled instance reaches is settled, with a lower rank
lower : (back : ℕ) (gs : List GraphInst) (table : List (Option Found)) → IsSoundTable back gs table → (i j : ℕ) → ReachesBy gs i j → (x : Found) → at table i ≡ Some x → (y : Found) × (at table j ≡ Some y) × (y.rank < x.rank)
lower back gs table sound i j (once _ e enters) x is = let p = (sound.settled i x is).entered e enters in (p.0, p.1, p.2)
lower back gs table sound i j (more _ _ e enters rest) x is =
    let p = (sound.settled i x is).entered e enters in
    let q = lower back gs table sound e.into j rest p.0 p.1 in
    (q.0, q.1, omega (arith, p.2, q.2))

pub settled_apart : (back : ℕ) (gs : List GraphInst) (table : List (Option Found)) → IsSoundTable back gs table → (i : ℕ) (x : Found) → at table i ≡ Some x → ReachesBy gs i i → ⊥
settled_apart back gs table sound i x is r =
    let q = lower back gs table sound i i r x is in
    let same : q.0 ≡ x = same_found q.0 x (at table i) q.1 is in
    absurd (omega (arith, q.2, ap (λ y. y.rank) same))

pub settled_there : (o : Option Found) → is_some o ≡ true → (x : Found) × (o ≡ Some x)
settled_there None e = absurd (let e' = e in cc)
settled_there (Some x) e = (x, refl)

-- ---- numbers that only fall along edges
abbrev pub AreLayersBelow : List GraphInst → List ℕ → ℕ → Type 0
AreLayersBelow gs numbers i = (k : ℕ) (e : Entered) → k < i → EntersAlong gs k e → slice_index numbers e.into ≤ slice_index numbers k

reached_no_higher : (gs : List GraphInst) (numbers : List ℕ) → AreLayers gs numbers → (i j : ℕ) → ReachesBy gs i j → slice_index numbers j ≤ slice_index numbers i
reached_no_higher gs numbers layers i j (once _ e enters) = layers i e enters
reached_no_higher gs numbers layers i j (more _ _ e enters rest) = omega (arith, layers i e enters, reached_no_higher gs numbers layers e.into j rest)

-- an instance on a cycle enters one of its own number
pub stays_on : (gs : List GraphInst) (numbers : List ℕ) → AreLayers gs numbers → (i : ℕ) → ReachesBy gs i i → (e : Entered) × EntersAlong gs i e × (slice_index numbers e.into ≡ slice_index numbers i)
stays_on gs numbers layers i (once _ e enters) = (e, enters, refl)
stays_on gs numbers layers i (more _ _ e enters rest) =
    (e, enters, omega (arith, layers i e enters, reached_no_higher gs numbers layers e.into i rest))

pub no_candidate : (gs : List GraphInst) (numbers : List ℕ) (i number : ℕ) (here : GraphInst) (es : List Entered) → AreLayers gs numbers → slice_get gs i ≡ Some here → es ≡ here.entered → number ≡ slice_index numbers i → ((e : Entered) → Contains es e → slice_index numbers e.into ≢ number) → ReachesBy gs i i → ⊥
no_candidate gs numbers i number here es layers is same at never reaches =
    let on = stays_on gs numbers layers i reaches in
    never on.0 (subst (λ xs. Contains xs on.0) (sym same) (edge_of gs i here is i on.0 refl on.1)) (on.2 ∙ sym at)

pub layers_more : (gs : List GraphInst) (numbers : List ℕ) (i number : ℕ) (here : GraphInst) (es : List Entered) → slice_get gs i ≡ Some here → es ≡ here.entered → number ≡ slice_index numbers i → ((e : Entered) → Contains es e → slice_index numbers e.into ≤ number) → AreLayersBelow gs numbers i → AreLayersBelow gs numbers (i + 1)
layers_more gs numbers i number here es is same at down before k e lt h =
    ⊎_elim
    (λ less. before k e less h)
    (λ on. subst (λ m. slice_index numbers e.into ≤ slice_index numbers m) (sym on) (omega (arith, at, down e (subst (λ xs. Contains xs e) (sym same) (edge_of gs i here is k e on h)))))
    (before_or_last k i lt)

pub layers_upto : (gs : List GraphInst) (numbers : List ℕ) (i : ℕ) → length gs ≤ i → AreLayersBelow gs numbers i → AreLayers gs numbers
layers_upto gs numbers i le all k e h = all k e (omega (arith, le, slice_get_within gs k h.inst h.is)) h

none_above : (n i : ℕ) → slice_index (replicate n 0) i ≡ 0
none_above zero i = refl
none_above (suc n) zero = refl
none_above (suc n) (suc i) = none_above n i

pub named_skip : (gs : List GraphInst) (i : ℕ) (best : Option ℕ) → (ReachesBy gs i i → ⊥) → IsNamedBelow gs i best → IsNamedBelow gs (i + 1) best
named_skip gs i None never named = λ j lt r. ⊎_elim (λ less. named j less r) (λ same. never (subst (λ k. ReachesBy gs k k) same r)) (before_or_last j i lt)
named_skip gs i (Some at) never named = record {
  inside = named.inside;
  reaches = named.reaches;
  first = λ j a b lt r is_a is_b. ⊎_elim (λ less. named.first j a b less r is_a is_b) (λ same. absurd (never (subst (λ k. ReachesBy gs k k) same r))) (before_or_last j i lt);
}

pub named_at : (gs : List GraphInst) (n at : ℕ) (best : Option ℕ) → best ≡ Some at → IsNamedBelow gs n best → IsNamedOf gs n at
named_at gs n at best is named = subst (IsNamedBelow gs n) is named

pub named_all : (gs : List GraphInst) (at : ℕ) → IsNamedOf gs (length gs) at → IsNamed gs at
named_all gs at named = record {
  reaches = named.reaches;
  first = λ j a b r is_a is_b. named.first j a b (slice_get_within gs j b is_b) r is_a is_b;
}
