-- Instances are determined by keys, ranks and needs, and nodes by keys and forms.
use Rattle.std.proofs.Common.{refl, sym, ap, subst, ◌∙◌, ◌≡◌, ℕ, suc, true, List, [], ◌∷◌, map, Some, slice_get, Contains, if◌then◌else◌}
use Rattle.std.specs.List.Sorted.{IsStrictlySortedBy}
use Rattle.std.specs.declared.cmp.Ordering.TheVariants.{Less}
use Rattle.basics.specs.Lists.{same_head, same_tail}
use Rattle.basics.specs.Items.{first_in, further_in}
use Rattle.family_graph.proofs.Insts.{less_differs}
use Rattle.node_keys.specs.declared.keys.InstKey.{InstKey}
use Rattle.node_keys.specs.declared.keys.NodeKey.{NodeKey}
use Rattle.node_keys.specs.Order.{inst_cmp, same_inst}
use Rattle.node_keys.proofs.AllLaws.{keys_are_ordered}
use Rattle.edge_rules.specs.declared.seeded.NodeForm.{NodeForm}
use Rattle.edge_rules.specs.Expansion.{Seeds}
use Rattle.certificate.specs.declared.instance.Inst.{Inst}
use Rattle.certificate.specs.Insts.{inst_keys, rank_in, need_in}
use Rattle.round_solutions.proofs.Sorted.{of_all}

itself : (k : InstKey) → same_inst k k ≡ true
itself k = (keys_are_ordered.same_insts k k).1 refl

rank_here : (x : Inst) (xs : List Inst) → rank_in (x ∷ xs) x.key ≡ x.rank
rank_here x xs = ap (λ b. if b then x.rank else rank_in xs x.key) (itself x.key)

rank_there : (x : Inst) (xs : List Inst) (k : InstKey) → inst_cmp x.key k ≡ Less → rank_in (x ∷ xs) k ≡ rank_in xs k
rank_there x xs k less = ap (λ b. if b then x.rank else rank_in xs k) (less_differs x.key k less)

need_here : (x : Inst) (xs : List Inst) → need_in (x ∷ xs) x.key ≡ x.need
need_here x xs = ap (λ b. if b then x.need else need_in xs x.key) (itself x.key)

need_there : (x : Inst) (xs : List Inst) (k : InstKey) → inst_cmp x.key k ≡ Less → need_in (x ∷ xs) k ≡ need_in xs k
need_there x xs k less = ap (λ b. if b then x.need else need_in xs k) (less_differs x.key k less)

inst_is : (x y : Inst) → x.key ≡ y.key → x.rank ≡ y.rank → x.need ≡ y.need → x ≡ y
inst_is x y a b c = ap (λ k. record { key = k; rank = x.rank; need = x.need }) a ∙ ap (λ r. record { key = y.key; rank = r; need = x.need }) b ∙ ap (λ n. record { key = y.key; rank = y.rank; need = n }) c

pub same_insts : (xs ys : List Inst) → inst_keys xs ≡ inst_keys ys → IsStrictlySortedBy inst_cmp (inst_keys xs)
    → ((k : InstKey) → Contains (inst_keys xs) k → rank_in xs k ≡ rank_in ys k) → ((k : InstKey) → Contains (inst_keys xs) k → need_in xs k ≡ need_in ys k) → xs ≡ ys
unfolding IsStrictlySortedBy
same_insts [] [] keys sorted ranks needs = refl
same_insts [] (y ∷ ys) keys sorted ranks needs = absurd (let e : [] ≡ y.key ∷ inst_keys ys = keys in cc)
same_insts (x ∷ xs) [] keys sorted ranks needs = absurd (let e : x.key ∷ inst_keys xs ≡ [] = keys in cc)
same_insts (x ∷ xs) (y ∷ ys) keys sorted ranks needs =
    let head : x.key ≡ y.key = same_head x.key y.key (inst_keys xs) (inst_keys ys) keys in
    let tail : inst_keys xs ≡ inst_keys ys = same_tail x.key y.key (inst_keys xs) (inst_keys ys) keys in
    let less : (k : InstKey) → Contains (inst_keys xs) k → inst_cmp x.key k ≡ Less = λ k h. of_all (λ z. inst_cmp x.key z ≡ Less) (inst_keys xs) k sorted.0 h in
    let less' : (k : InstKey) → Contains (inst_keys xs) k → inst_cmp y.key k ≡ Less = λ k h. subst (λ (z : InstKey). inst_cmp z k ≡ Less) head (less k h) in
    let first : x ≡ y = inst_is x y head
    (sym (rank_here x xs) ∙ ranks x.key (first_in x.key (inst_keys xs)) ∙ ap (rank_in (y ∷ ys)) head ∙ rank_here y ys)
    (sym (need_here x xs) ∙ needs x.key (first_in x.key (inst_keys xs)) ∙ ap (need_in (y ∷ ys)) head ∙ need_here y ys) in
    let rest : xs ≡ ys = same_insts xs ys tail sorted.1
    (λ k h. sym (rank_there x xs k (less k h)) ∙ ranks k (further_in x.key k (inst_keys xs) h) ∙ rank_there y ys k (less' k h))
    (λ k h. sym (need_there x xs k (less k h)) ∙ needs k (further_in x.key k (inst_keys xs) h) ∙ need_there y ys k (less' k h)) in
    cc

pair_is : (x y : NodeKey × NodeForm) → x.0 ≡ y.0 → x.1 ≡ y.1 → x ≡ y
pair_is (a, b) (c, d) e f = cc

-- nodes with equal keys and equal forms at each number
pub same_seeds : (xs ys : Seeds) → map (λ e. e.0) xs ≡ map (λ e. e.0) ys
    → ((at : ℕ) (k : NodeKey) (a b : NodeForm) → slice_get xs at ≡ Some (k, a) → slice_get ys at ≡ Some (k, b) → a ≡ b) → xs ≡ ys
same_seeds [] [] keys forms = refl
same_seeds [] (y ∷ ys) keys forms = absurd (let e : [] ≡ y.0 ∷ map (λ e. e.0) ys = keys in cc)
same_seeds (x ∷ xs) [] keys forms = absurd (let e : x.0 ∷ map (λ e. e.0) xs ≡ [] = keys in cc)
same_seeds (x ∷ xs) (y ∷ ys) keys forms =
    let head : x.0 ≡ y.0 = same_head x.0 y.0 (map (λ e. e.0) xs) (map (λ e. e.0) ys) keys in
    let tail : map (λ e. e.0) xs ≡ map (λ e. e.0) ys = same_tail x.0 y.0 (map (λ e. e.0) xs) (map (λ e. e.0) ys) keys in
    let first : x ≡ y = pair_is x y head (forms 0 x.0 x.1 y.1 refl (ap (λ (k : NodeKey). Some (k, y.1)) (sym head))) in
    let rest : xs ≡ ys = same_seeds xs ys tail (λ at k a b e f. forms (suc at) k a b e f) in
    cc
