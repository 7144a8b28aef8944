-- The forms of the nodes of a family, by the edges that lead to them.
use Rattle.std.proofs.Common.{◌≡◌, refl, sym, ap, ap₂, ◌∙◌, subst, ℕ, zero, suc, ◌+◌, Bool, true, false, cond, nat_lt, List, [], ◌∷◌, ◌++◌, length, Some, slice_get, length-append, Result, IfOk, Vec, Global, arith}
use Rattle.std.proofs.lemmas.Bool.Decides.{nat_tests}
use Rattle.std.proofs.lemmas.Option.{none-some, same_Some, slice_get_within}
use Rattle.std.proofs.lemmas.Result.{IfOk-weaker}
use Rattle.basics.specs.Items.{get_contained}
use Rattle.basics.specs.Lists.{one_at}
use Rattle.node_keys.specs.declared.keys.NodeKey.{NodeKey}
use Rattle.local_rules.specs.declared.local.Node.{Node}
use Rattle.edge_rules.specs.declared.seeded.NodeForm.{NodeForm}
use Rattle.edge_rules.specs.declared.seeded.NodeForm.TheVariants.{State, From}
use Rattle.edge_rules.specs.Edges.{IsEdge}
use Rattle.edge_rules.specs.Expansion.{Seeds}
use Rattle.round_rules.specs.Sparse.{IsOnlyFrom}
use Rattle.round_solutions.specs.Parts.{IsForm, AreForms}
use Rattle.round_solutions.proofs.AllLaws.{lone_edges_tell}
use Rattle.fixpoint.specs.declared.leading.Lead.{Lead}
use Rattle.fixpoint.specs.declared.leading.Lead.TheVariants.{Nothing, Only, More}
use Rattle.fixpoint.specs.Leads.{lead_at, LeadsTo, IsLead, AreLeads, form_by, forms_from}
use Rattle.local_rules.specs.Site.{Task}

module _ (task : Task) (nodes : List Node) (k : NodeKey) where
  abbrev Last : Lead → Type 0
  Last lead = IsLead task nodes (length nodes) k lead

  -- the origin of the only edge was visited
  origin : (m : ℕ) (o : IsOnlyFrom task nodes k m) → LeadsTo task nodes (length nodes) k m o.edge
  origin m o = record { node = o.node; below = slice_get_within nodes m o.node o.at; at = o.at; is = o.is; leads = o.leads }

  only_one : (m : ℕ) → Last (Only m) → IsOnlyFrom task nodes k m
  only_one m h =
      let l = h.0.1 in
      let local = (h.1 m h.0.0 l).1 in
      record {
        node = l.node;
        at = l.at;
        edge = h.0.0;
        is = l.is;
        leads = l.leads;
        moves = local;
        only = λ other e i is leads.
            let p = h.1 i.0 e (record { node = other; below = i.1; at = get_contained nodes other i; is = is; leads = leads }) in
            let node = one_at nodes m other l.node (subst (λ (j : ℕ). slice_get nodes j ≡ Some other) p.0 (get_contained nodes other i)) l.at in
            (node, lone_edges_tell.one task nodes l.node e h.0.0 (subst (λ (x : Node). IsEdge task nodes x e) node is) l.is p.1 local (leads ∙ sym l.leads));
      }

  none_only : (lead : Lead) → Last lead → ((m : ℕ) → lead ≡ Only m → ⊥) → (m : ℕ) → IsOnlyFrom task nodes k m → ⊥
  none_only Nothing h ne m o = h m o.edge (origin m o)
  none_only (Only j) h ne m o = ne j refl
  none_only More h ne m o = h m o

module _ (task : Task) (nodes : List Node) where
  form_is : (at : ℕ) (n : Node) (lead : Lead) → IsLead task nodes (length nodes) n.key lead → IsForm task nodes at n (form_by at lead n.state)
  form_is at n Nothing h = (refl, λ m lt o. none_only task nodes n.key Nothing h (λ j e. absurd (cc)) m o)
  form_is at n (Only j) h = by (nat_lt j at) refl
    where
      by : (b : Bool) → nat_lt j at ≡ b → IsForm task nodes at n (cond b (From j) (State n.state))
      by true t = (grind (arith, nat_tests), only_one task nodes n.key j h)
      by false t = (refl, λ m lt o. let p = h.1 m o.edge (origin task nodes n.key m o) in let same = p.0 in absurd (grind (arith, nat_tests)))
  form_is at n More h = (refl, λ m lt o. h m o)

forms_long : (at : ℕ) (leads : List Lead) (ns : List Node) → length (forms_from at leads ns) ≡ length ns
forms_long at leads [] = refl
forms_long at leads (n ∷ ns) = ap suc (forms_long (at + 1) leads ns)

forms_get : (at : ℕ) (leads : List Lead) (ns : List Node) (i : ℕ) (n : Node) → slice_get ns i ≡ Some n
    → slice_get (forms_from at leads ns) i ≡ Some (n.key, form_by (at + i) (lead_at leads (at + i)) n.state)
forms_get at leads [] i n e = absurd (none-some n e)
forms_get at leads (x ∷ xs) zero n e =
    let here : at ≡ at + 0 = omega arith in
    let same = same_Some x n e in
    λ j. Some ((same j).key, form_by (here j) (lead_at leads (here j)) (same j).state)
forms_get at leads (x ∷ xs) (suc i) n e =
    let there : at + 1 + i ≡ at + suc i = omega arith in
    subst (λ (j : ℕ). slice_get (forms_from (at + 1) leads xs) i ≡ Some (n.key, form_by j (lead_at leads j) n.state)) there (forms_get (at + 1) leads xs i n e)

pub forms_are : (task : Task) (nodes : List Node) (leads : List Lead) → AreLeads task nodes (length nodes) leads
    → AreForms task nodes (forms_from 0 leads nodes)
forms_are task nodes leads are = record {
  count = forms_long 0 leads nodes;
  each = λ at n e.
      let zero_more : 0 + at ≡ at = omega arith in (
        form_by at (lead_at leads at) n.state,
        (
          subst (λ (j : ℕ). slice_get (forms_from 0 leads nodes) at ≡ Some (n.key, form_by j (lead_at leads j) n.state)) zero_more (forms_get 0 leads nodes at n e),
          form_is task nodes at n (lead_at leads at) (are.each at n e),
        ),
      );
}

-- ---- on the way there

-- one more node
pub forms_more : (at : ℕ) (leads : List Lead) (done : List Node) (n : Node)
    → forms_from at leads (done ++ n ∷ []) ≡ forms_from at leads done ++ (n.key, form_by (at + length done) (lead_at leads (at + length done)) n.state) ∷ []
forms_more at leads [] n = let here : at ≡ at + 0 = omega arith in λ j. (n.key, form_by (here j) (lead_at leads (here j)) n.state) ∷ []
forms_more at leads (x ∷ xs) n =
    let there : at + 1 + length xs ≡ at + length (x ∷ xs) = omega arith in
    ap (λ (l : Seeds). (x.key, form_by at (lead_at leads at) x.state) ∷ l)
    (forms_more (at + 1) leads xs n
    ∙ ap (λ (j : ℕ). forms_from (at + 1) leads xs ++ (n.key, form_by j (lead_at leads j) n.state) ∷ []) there)

pub forms_pushed : (leads : List Lead) (done : List Node) (n : Node) (forms pushed : Seeds) (at : ℕ) (form : NodeForm) → forms ≡ forms_from 0 leads done
    → length forms ≡ length done → at ≡ length forms → form ≡ form_by at (lead_at leads at) n.state → pushed ≡ forms ++ (n.key, form) ∷ []
    → (pushed ≡ forms_from 0 leads (done ++ n ∷ [])) × (length pushed ≡ length (done ++ n ∷ []))
forms_pushed leads done n forms pushed at form are long is form_is all =
    let there : at ≡ 0 + length done = omega (arith, is, long) in (
      all
          ∙ ap₂ (λ (l : Seeds) (x : NodeForm). l ++ (n.key, x) ∷ []) are (form_is ∙ ap (λ (j : ℕ). form_by j (lead_at leads j) n.state) there)
          ∙ sym (forms_more 0 leads done n),
      omega (arith, ap length all, length-append forms ((n.key, form) ∷ []), length-append done (n ∷ []), long),
    )

pub forms_hold : {E : Type 0} (r : Result (Vec (NodeKey × NodeForm) Global) E) (task : Task) (nodes listed : List Node) (leads slice : List Lead)
    → AreLeads task nodes (length nodes) leads → slice ≡ leads → listed ≡ nodes → IfOk r (λ forms. forms.items ≡ forms_from 0 slice listed)
    → IfOk r (λ forms. AreForms task nodes forms.items)
forms_hold r task nodes listed leads slice are same all h =
    IfOk-weaker r (λ forms. forms.items ≡ forms_from 0 slice listed) (λ forms. AreForms task nodes forms.items)
    (λ forms e. subst (AreForms task nodes) (sym (e ∙ ap₂ (λ (l : List Lead) (ns : List Node). forms_from 0 l ns) same all)) (forms_are task nodes leads are)) h
