-- One more entrance among the exits.
use Rattle.std.proofs.Common.{◌≡◌, refl, sym, ap, ◌∙◌, subst, inl, ⊎_elim, Bool, true, false, cond, Option, Some, List, [], ◌∷◌, ◌++◌}
use Rattle.std.specs.Global.{Vec}
use Rattle.std.specs.List.{Contains}
use Rattle.std.specs.Map.{lookup}
use Rattle.std.proofs.lemmas.List.Elements.{Contains-append_left, Contains-push}
use Rattle.node_keys.specs.declared.keys.InstKey.{InstKey}
use Rattle.node_keys.specs.Order.{same_inst}
use Rattle.node_keys.proofs.AllLaws.{keys_are_ordered}
use Rattle.round_nesting.specs.Nestings.{Entrance}
use Rattle.round_nesting.specs.Exits.{Exited, items_of, exits_at, HasExit, AreExitsKept, IsExitAdded}

-- the list of the entrance's upper instance gets it as last item
pub added : (es new : Exited) (x : Entrance) (old : Option (Vec Entrance)) (w : Vec Entrance) → old ≡ lookup (same_inst x.from) es → w.items ≡ items_of old ++ x ∷ []
    → ((q : InstKey) → lookup (same_inst q) new ≡ cond (same_inst x.from q) (Some w) (lookup (same_inst q) es)) → IsExitAdded es x new
added es new x old w found is up y has = by (same_inst x.from y.from) refl
  where
    by : (b : Bool) → same_inst x.from y.from ≡ b → HasExit new y
    by true e =
        let same : x.from ≡ y.from = (keys_are_ordered.same_insts x.from y.from).0 e in
        let now : exits_at new y.from ≡ items_of old ++ x ∷ [] = ap items_of (up y.from ∙ ap (λ b. cond b (Some w) (lookup (same_inst y.from) es)) e) ∙ is in
        let before : exits_at es y.from ≡ items_of old = ap (exits_at es) (sym same) ∙ ap items_of (sym found) in
        subst (λ (l : List Entrance). Contains l y) (sym now)
        (⊎_elim (λ h. Contains-append_left (items_of old) (x ∷ []) y (subst (λ (l : List Entrance). Contains l y) before h))
        (λ it. subst (Contains (items_of old ++ x ∷ [])) (sym it) (Contains-push (items_of old) x)) has)
    by false e =
        let now : exits_at new y.from ≡ exits_at es y.from = ap items_of (up y.from ∙ ap (λ b. cond b (Some w) (lookup (same_inst y.from) es)) e) in
        ⊎_elim (λ h. subst (λ (l : List Entrance). Contains l y) (sym now) h)
        (λ it. absurd (let t = (keys_are_ordered.same_insts x.from y.from).1 (ap (λ (z : Entrance). z.from) (sym it)) in cc)) has

pub kept_if_added : (es new : Exited) (x : Entrance) → IsExitAdded es x new → AreExitsKept es new
kept_if_added es new x added y h = added y (inl h)

-- the list of the instance has the same items
pub kept_same : (es new : Exited) (from : InstKey) (old : Option (Vec Entrance)) (w : Vec Entrance) → old ≡ lookup (same_inst from) es → w.items ≡ items_of old
    → ((q : InstKey) → lookup (same_inst q) new ≡ cond (same_inst from q) (Some w) (lookup (same_inst q) es)) → AreExitsKept es new
kept_same es new from old w found is up y has = by (same_inst from y.from) refl
  where
    by : (b : Bool) → same_inst from y.from ≡ b → HasExit new y
    by true e =
        let same : from ≡ y.from = (keys_are_ordered.same_insts from y.from).0 e in
        let now : exits_at new y.from ≡ items_of old = ap items_of (up y.from ∙ ap (λ b. cond b (Some w) (lookup (same_inst y.from) es)) e) ∙ is in
        let before : exits_at es y.from ≡ items_of old = ap (exits_at es) (sym same) ∙ ap items_of (sym found) in
        subst (λ (l : List Entrance). Contains l y) (before ∙ sym now) has
    by false e = subst (λ (l : List Entrance). Contains l y) (sym (ap items_of (up y.from ∙ ap (λ b. cond b (Some w) (lookup (same_inst y.from) es)) e))) has
