-- The edges that lead to nodes, landing by landing and node by node.
use Rattle.std.proofs.Common.{◌≡◌, ◌≢◌, refl, sym, ap, ◌∙◌, subst, ℕ, ◌+◌, ◌<◌, ◌==◌, ◌⊎◌, inl, inr, Bool, true, false, cond, List, [], ◌∷◌, length, Some, Contains, slice_get, fold, take, drop, ◌++◌, arith}
use Rattle.std.proofs.lemmas.Bool.{cases_lt}
use Rattle.std.proofs.lemmas.Grind.{common_steps}
use Rattle.std.proofs.lemmas.Bool.Decides.{nat_tests}
use Rattle.std.proofs.lemmas.Option.{slice_get_within}
use Rattle.basics.specs.Numbers.{equals_itself}
use Rattle.basics.specs.Items.{none_in, first_in, further_in, first_or_further, contained_at}
use Rattle.basics.specs.Lists.{one_at}
use Rattle.avr_model.specs.declared.device.Device.{Device}
use Rattle.node_keys.specs.declared.keys.EdgeKind.{EdgeKind}
use Rattle.node_keys.specs.declared.keys.EdgeKind.TheVariants.{Local, Call, Interrupt, Return}
use Rattle.node_keys.specs.declared.keys.NodeKey.{NodeKey}
use Rattle.local_rules.specs.declared.local.Node.{Node}
use Rattle.edge_rules.specs.declared.edge.Edge.{Edge}
use Rattle.edge_rules.specs.Edges.{IsEdge}
use Rattle.edge_rules.specs.Places.{found_at}
use Rattle.edge_rules.specs.Views.{AreShown, index_of}
use Rattle.family_edges.specs.declared.landing.Landing.{Landing}
use Rattle.family_edges.specs.Landings.{AreLandingsOf}
use Rattle.round_solutions.proofs.AllLaws.{node_once}
use Rattle.fixpoint.specs.declared.leading.Lead.{Lead}
use Rattle.fixpoint.specs.declared.leading.Lead.TheVariants.{Nothing, Only, More}
use Rattle.fixpoint.specs.Leads.{moved, led, lead_at, noted, LeadsTo, IsLead, AreLeads}
use Rattle.fixpoint.proofs.Places.{place_is, noted_long, noted_there}
use Rattle.local_rules.specs.Site.{Task}

-- ---- how edges land at the node of a number, by their kinds

abbrev kinds_at : ℕ → List Landing → List EdgeKind
kinds_at p [] = []
kinds_at p (l ∷ ls) = cond (l.at == p) (l.kind ∷ kinds_at p ls) (kinds_at p ls)

in_kinds : (p : ℕ) (ls : List Landing) (l : Landing) → l.at ≡ p → Contains ls l → Contains (kinds_at p ls) l.kind
in_kinds p [] l to i = absurd (none_in l i)
in_kinds p (x ∷ xs) l to i = by (in_kinds p xs l to) (x.at == p) refl (first_or_further x l xs i)
  where
    by : (Contains xs l → Contains (kinds_at p xs) l.kind) → (b : Bool) → (x.at == p) ≡ b → (l ≡ x) ⊎ Contains xs l
        → Contains (cond b (x.kind ∷ kinds_at p xs) (kinds_at p xs)) l.kind
    by rest true t (inl same) = subst (λ (y : Landing). Contains (x.kind ∷ kinds_at p xs) y.kind) (sym same) (first_in x.kind (kinds_at p xs))
    by rest true t (inr j) = further_in x.kind l.kind (kinds_at p xs) (rest j)
    by rest false t (inl same) = let here : x.at ≡ p = sym (ap (λ (y : Landing). y.at) same) ∙ to in absurd (grind (arith, nat_tests))
    by rest false t (inr j) = rest j

record OfKind (p : ℕ) (ls : List Landing) (x : EdgeKind) : Type 0 where
  landing : Landing
  member : Contains ls landing
  at : landing.at ≡ p
  kind : landing.kind ≡ x

further : (p : ℕ) (l : Landing) (ls : List Landing) (x : EdgeKind) → OfKind p ls x → OfKind p (l ∷ ls) x
further p l ls x h = record { landing = h.landing; member = further_in l h.landing ls h.member; at = h.at; kind = h.kind }

of_kind : (p : ℕ) (ls : List Landing) (x : EdgeKind) → Contains (kinds_at p ls) x → OfKind p ls x
of_kind p [] x i = absurd (none_in x i)
of_kind p (l ∷ ls) x i = by (of_kind p ls x) (l.at == p) refl i
  where
    by : (Contains (kinds_at p ls) x → OfKind p ls x) → (b : Bool) → (l.at == p) ≡ b → Contains (cond b (l.kind ∷ kinds_at p ls) (kinds_at p ls)) x → OfKind p (l ∷ ls) x
    by rest true t i =
        elim (first_or_further l.kind x (kinds_at p ls) i) [
          | inl same ↦ record { landing = l; member = first_in l ls; at = grind (arith, nat_tests); kind = sym same }
          | inr j ↦ further p l ls x (rest j)
        ]
    by rest false t i = further p l ls x (rest i)

-- ---- from kind to kind

abbrev run : ℕ → Lead → List EdgeKind → Lead
run at lead [] = lead
run at lead (x ∷ xs) = run at (led lead at x) xs

abbrev AllLocal : List EdgeKind → Type 0
AllLocal xs = (x : EdgeKind) → Contains xs x → x ≡ Local

record HasOther (xs : List EdgeKind) : Type 0 where
  kind : EdgeKind
  member : Contains xs kind
  is : kind ≢ Local

is_local : (x : EdgeKind) → (x ≡ Local) ⊎ (x ≢ Local)
is_local Local = inl refl
is_local Call = inr (λ e. absurd (cc))
is_local (Interrupt v clears) = inr (λ e. absurd (cc))
is_local Return = inr (λ e. absurd (cc))

scan : (xs : List EdgeKind) → AllLocal xs ⊎ HasOther xs
scan [] = inl (λ x i. absurd (none_in x i))
scan (y ∷ ys) = by (is_local y) (scan ys)
  where
    by : (y ≡ Local) ⊎ (y ≢ Local) → AllLocal ys ⊎ HasOther ys → AllLocal (y ∷ ys) ⊎ HasOther (y ∷ ys)
    by (inl e) (inl all) = inl (λ x i. elim (first_or_further y x ys i) [ inl same ↦ same ∙ e | inr j ↦ all x j ])
    by (inl e) (inr h) = inr (record { kind = h.kind; member = further_in y h.kind ys h.member; is = h.is })
    by (inr ne) rest = inr (record { kind = y; member = first_in y ys; is = ne })

more_stays : (at : ℕ) (x : EdgeKind) → led More at x ≡ More
more_stays at Local = refl
more_stays at Call = refl
more_stays at (Interrupt v clears) = refl
more_stays at Return = refl

stays : (at : ℕ) (xs : List EdgeKind) → run at More xs ≡ More
stays at [] = refl
stays at (x ∷ xs) = ap (λ (l : Lead). run at l xs) (more_stays at x) ∙ stays at xs

spoils : (lead : Lead) (at : ℕ) (x : EdgeKind) → x ≢ Local → led lead at x ≡ More
spoils lead at Local ne = absurd (ne refl)
spoils lead at Call ne = refl
spoils lead at (Interrupt v clears) ne = refl
spoils lead at Return ne = refl

other : (at : ℕ) (lead : Lead) (xs : List EdgeKind) (x : EdgeKind) → x ≢ Local → Contains xs x → run at lead xs ≡ More
other at lead [] x ne i = absurd (none_in x i)
other at lead (y ∷ ys) x ne i =
    elim (first_or_further y x ys i) [
      | inl same ↦ ap (λ (l : Lead). run at l ys) (spoils lead at y (λ e. ne (same ∙ e))) ∙ stays at ys
      | inr j ↦ other at (led lead at y) ys x ne j
    ]

unlike : (m at : ℕ) → m < at → (m == at) ≡ false
unlike m at lt = grind (arith, nat_tests)

local_led : (lead : Lead) (at : ℕ) (x : EdgeKind) → x ≡ Local → led lead at x ≡ moved lead at
local_led lead at x e = ap (led lead at) e

again : (at : ℕ) (xs : List EdgeKind) → AllLocal xs → run at (Only at) xs ≡ Only at
again at [] all = refl
again at (x ∷ xs) all =
    let first : led (Only at) at x ≡ Only at = local_led (Only at) at x (all x (first_in x xs)) ∙ ap (λ b. cond b (Only at) More) (equals_itself at) in
    ap (λ (l : Lead). run at l xs) first ∙ again at xs (λ y j. all y (further_in x y xs j))

fresh : (at : ℕ) (x : EdgeKind) (xs : List EdgeKind) → AllLocal (x ∷ xs) → run at Nothing (x ∷ xs) ≡ Only at
fresh at x xs all = ap (λ (l : Lead). run at l xs) (local_led Nothing at x (all x (first_in x xs))) ∙ again at xs (λ y j. all y (further_in x y xs j))

second : (at m : ℕ) (x : EdgeKind) (xs : List EdgeKind) → m < at → AllLocal (x ∷ xs) → run at (Only m) (x ∷ xs) ≡ More
second at m x xs lt all =
    let first : led (Only m) at x ≡ More = local_led (Only m) at x (all x (first_in x xs)) ∙ ap (λ b. cond b (Only m) More) (unlike m at lt) in
    ap (λ (l : Lead). run at l xs) first ∙ stays at xs

-- ---- the edges of one node

-- an edge of this kind leads from the node to the key
record HasKindOfEdge (task : Task) (nodes : List Node) (n : Node) (k : NodeKey) (x : EdgeKind) : Type 0 where
  edge : Edge
  is : IsEdge task nodes n edge
  to : edge.to ≡ k
  kind : edge.kind ≡ x

module _ {device : Device} (task : Task) (nodes : List Node) (shown : AreShown device nodes) (at : ℕ) (n : Node) (is_at : slice_get nodes at ≡ Some n) (landings : List Landing)
    (exact : AreLandingsOf task nodes n landings) (p : ℕ) (there : Node) (is_there : slice_get nodes p ≡ Some there) where
  abbrev k : NodeKey
  k = there.key

  edge_of : (x : EdgeKind) → Contains (kinds_at p landings) x → HasKindOfEdge task nodes n k x
  edge_of x i =
      let h = of_kind p landings x i in
      let l = (exact h.landing).0 h.member in
      let f = found_at l.edge.to nodes h.landing.at l.at in
      let same : f.node ≡ there = one_at nodes p f.node there (subst (λ (j : ℕ). slice_get nodes j ≡ Some f.node) h.at f.is) is_there in
      record { edge = l.edge; is = l.is; to = sym f.same ∙ ap (λ (m : Node). m.key) same; kind = sym l.kind ∙ h.kind }

  -- an edge from the node
  own : (x : EdgeKind) (h : HasKindOfEdge task nodes n k x) → LeadsTo task nodes (at + 1) k at h.edge
  own x h = record { node = n; below = omega arith; at = is_at; is = h.is; leads = h.to }

  kind_of : (e : Edge) → LeadsTo task nodes (at + 1) k at e → Contains (kinds_at p landings) e.kind
  kind_of e l =
      let same = one_at nodes at l.node n l.at is_at in
      let place = subst (λ (q : NodeKey). index_of q nodes ≡ Some p) (sym l.leads) (place_is nodes shown p there is_there) in
      let landing : Landing = record { kind = e.kind; at = p } in
      in_kinds p landings landing refl ((exact landing).1 (record { edge = e; is = subst (λ (x : Node). IsEdge task nodes x e) same l.is; kind = refl; at = place }))

  earlier : (i : ℕ) (e : Edge) → i < at → LeadsTo task nodes (at + 1) k i e → LeadsTo task nodes at k i e
  earlier i e lt l = record { node = l.node; below = lt; at = l.at; is = l.is; leads = l.leads }

  later : (i : ℕ) (e : Edge) → LeadsTo task nodes at k i e → LeadsTo task nodes (at + 1) k i e
  later i e l = record { node = l.node; below = let lt = l.below in omega (arith, lt); at = l.at; is = l.is; leads = l.leads }

  split : (P : ℕ → Edge → Type 0) → ((i : ℕ) (e : Edge) → LeadsTo task nodes at k i e → P i e) → ((e : Edge) → LeadsTo task nodes (at + 1) k at e → P at e)
      → (i : ℕ) (e : Edge) → LeadsTo task nodes (at + 1) k i e → P i e
  split P before first_in i e l =
      elim (cases_lt i at) [
        | inl lt ↦ before i e (earlier i e lt l)
        | inr ge ↦
            let same : i ≡ at = let lt = l.below in omega (arith, lt, ge) in
            subst (λ (j : ℕ). P j e) (sym same) (first_in e (subst (λ (j : ℕ). LeadsTo task nodes (at + 1) k j e) same l))
      ]

  abbrev Before : Lead → Type 0
  Before lead = IsLead task nodes at k lead

  abbrev After : Lead → Type 0
  After lead = IsLead task nodes (at + 1) k lead

  -- no edge from the node leads there
  without : kinds_at p landings ≡ [] → (lead : Lead) → Before lead → After lead
  without none Nothing h = split (λ i e. ⊥) h (λ e l. none_in e.kind (subst (λ (xs : List EdgeKind). Contains xs e.kind) none (kind_of e l)))
  without none (Only m) h = (
    (h.0.0, later m h.0.0 h.0.1),
    split (λ i e. (i ≡ m) × (e.kind ≡ Local)) h.1 (λ e l. absurd (none_in e.kind (subst (λ (xs : List EdgeKind). Contains xs e.kind) none (kind_of e l)))),
  )
  without none More h = h

  -- an edge that isn't local does
  spoiled : (x : EdgeKind) → x ≢ Local → Contains (kinds_at p landings) x → After More
  spoiled x ne i m o =
      let h = edge_of x i in
      let same = (o.only n h.edge (contained_at nodes at n is_at) h.is h.to).1 in
      ne (sym h.kind ∙ ap (λ (e : Edge). e.kind) same ∙ o.moves)

  -- local edges do
  with_local : (x : EdgeKind) (xs : List EdgeKind) → kinds_at p landings ≡ x ∷ xs → AllLocal (x ∷ xs) → (lead : Lead) → Before lead → After (run at lead (x ∷ xs))
  with_local x xs are all Nothing h =
      let f = edge_of x (subst (λ (l : List EdgeKind). Contains l x) (sym are) (first_in x xs)) in
      subst After (sym (fresh at x xs all)) (
        (f.edge, own x f),
        split (λ i e. (i ≡ at) × (e.kind ≡ Local)) (λ i e l. absurd (h i e l)) (λ e l. (refl, all e.kind (subst (λ (l : List EdgeKind). Contains l e.kind) are (kind_of e l)))),
      )
  with_local x xs are all (Only m) h =
      let f = edge_of x (subst (λ (l : List EdgeKind). Contains l x) (sym are) (first_in x xs)) in
      let l = h.0.1 in
      subst After (sym (second at m x xs l.below all))
      (λ j o.
      let a = (o.only l.node h.0.0 (contained_at nodes m l.node l.at) l.is l.leads).0 in
      let b = (o.only n f.edge (contained_at nodes at n is_at) f.is f.to).0 in
      let same : m ≡ at = node_once nodes m at n shown.ascending (l.at ∙ ap Some (a ∙ sym b)) is_at in
      let lt = l.below in
      omega (arith, lt, same))
  with_local x xs are all More h = subst After (sym (stays at (x ∷ xs))) h

  step_by : (xs : List EdgeKind) → kinds_at p landings ≡ xs → (lead : Lead) → Before lead → After (run at lead xs)
  step_by [] are lead h = without are lead h
  step_by (x ∷ xs) are lead h =
      elim (scan (x ∷ xs)) [
        | inl all ↦ with_local x xs are all lead h
        | inr o ↦ subst After (sym (other at lead (x ∷ xs) o.kind o.is o.member)) (spoiled o.kind o.is (subst (λ (l : List EdgeKind). Contains l o.kind) (sym are) o.member))
      ]

  step : (lead : Lead) → Before lead → After (run at lead (kinds_at p landings))
  step lead h = step_by (kinds_at p landings) refl lead h

-- ---- all nodes

folded_long : (at : ℕ) (ls : List Landing) (leads : List Lead) → length (fold (noted at) leads ls) ≡ length leads
folded_long at [] leads = refl
folded_long at (l ∷ ls) leads = folded_long at ls (noted at leads l) ∙ noted_long at leads l

folded_at : (at : ℕ) (ls : List Landing) (leads : List Lead) (p : ℕ) → p < length leads → lead_at (fold (noted at) leads ls) p ≡ run at (lead_at leads p) (kinds_at p ls)
folded_at at [] leads p lt = refl
folded_at at (l ∷ ls) leads p lt =
    folded_at at ls (noted at leads l) p (omega (arith, lt, noted_long at leads l))
    ∙ ap (λ (x : Lead). run at x (kinds_at p ls)) (noted_there at leads l p lt)
    ∙ by (l.at == p)
  where
    by : (b : Bool) → run at (cond b (led (lead_at leads p) at l.kind) (lead_at leads p)) (kinds_at p ls)
        ≡ run at (lead_at leads p) (cond b (l.kind ∷ kinds_at p ls) (kinds_at p ls))
    by true = refl
    by false = refl

led_more : {device : Device} (task : Task) (nodes : List Node) → AreShown device nodes → (at : ℕ) (n : Node) → slice_get nodes at ≡ Some n → (landings : List Landing)
    → AreLandingsOf task nodes n landings → (leads : List Lead) → AreLeads task nodes at leads → AreLeads task nodes (at + 1) (fold (noted at) leads landings)
led_more task nodes shown at n is landings exact leads are = record {
  all = folded_long at landings leads ∙ are.all;
  each = λ p m e.
      let lt = slice_get_within nodes p m e in
      subst (IsLead task nodes (at + 1) m.key) (sym (folded_at at landings leads p (omega (arith, lt, are.all))))
      (step task nodes shown at n is landings exact p m e (lead_at leads p) (are.each p m e));
}

all_written : (xs ys : List Lead) (n : ℕ) → n ≡ length xs → length ys ≡ length xs → take n (ys ++ drop (length ys) xs) ≡ ys
all_written xs ys n size same = grind (arith, common_steps)

-- after writing back
pub led_written : {device : Device} (task : Task) (nodes : List Node) → AreShown device nodes → (at : ℕ) (n : Node) → slice_get nodes at ≡ Some n → (landings : List Landing)
    → AreLandingsOf task nodes n landings → (leads ys zs : List Lead) (size : ℕ) → AreLeads task nodes at leads → zs ≡ leads
    → ys ≡ fold (noted at) zs landings → size ≡ length leads → AreLeads task nodes (at + 1) (take size (ys ++ drop (length ys) leads))
led_written task nodes shown at n is landings exact leads ys zs size are from whole sized =
    let folded : ys ≡ fold (noted at) leads landings = whole ∙ ap (λ (z : List Lead). fold (noted at) z landings) from in
    let long : length ys ≡ length leads = ap length folded ∙ folded_long at landings leads in
    subst (AreLeads task nodes (at + 1)) (sym (all_written leads ys size sized long ∙ folded)) (led_more task nodes shown at n is landings exact leads are)
