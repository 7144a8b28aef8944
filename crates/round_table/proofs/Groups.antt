-- Crossings by instance.
use Rattle.std.proofs.Common.{◌≡◌, refl, sym, ap, ◌∙◌, subst, ◌⊎◌, inl, inr, ⊎_elim, rules, Bool, true, false, cond, if◌then◌else◌, List, [], ◌∷◌, ◌++◌, map, Option, Some, slice_get, ℕ, zero, suc, Contains}
use Rattle.std.specs.Prelude.{◌==◌, ◌↔◌, unwrap_or}
use Rattle.std.specs.Bool.{Decides}
use Rattle.std.specs.Option.{option_map}
use Rattle.std.specs.List.{IsDistinct, AllByRecursion, list_any}
use Rattle.std.specs.Map.{lookup}
use Rattle.std.proofs.lemmas.Bool.Decides.{Decides-eqb, Decides-and}
use Rattle.std.proofs.lemmas.List.Elements.{Contains-append_left, Contains-push_cases, Contains-push}
use Rattle.std.proofs.lemmas.Map.Made.{lookup-map_values}
use Rattle.std.proofs.lemmas.Option.{none-some, same_Some}
use Rattle.indexmap.specs.IndexSet.{IndexSet, insert_key}
use Rattle.indexmap.proofs.CallerLemmas.{Contains-list_any}
use Rattle.node_keys.specs.declared.keys.EdgeKind.{EdgeKind}
use Rattle.node_keys.specs.declared.keys.InstKey.{InstKey}
use Rattle.node_keys.specs.contracts.keys.EdgeKindPartialEq.TheImpl as kinds
use Rattle.node_keys.specs.Order.{same_inst, same_node}
use Rattle.node_keys.proofs.AllLaws.{keys_are_ordered}
use Rattle.local_rules.specs.declared.local.Exit.{Exit}
use Rattle.local_rules.specs.contracts.local.ExitPartialEq.TheImpl as exits
use Rattle.round_table.specs.declared.crossings.Crossing.{Crossing}
use Rattle.round_table.specs.contracts.crossings.CrossingPartialEq.TheImpl as crossings
use Rattle.round_table.specs.Crossings.{Groups, listed, crossings_at, IsCrossing, IsCrossingAdded, AreCrossingsOnce}

-- ---- when two are the same

abbrev pub same : Crossing → Crossing → Bool
same = crossings.ghosts.eq

same_kind : (a b : EdgeKind) → Decides (kinds.ghosts.eq a b) (a ≡ b)
same_kind a b = search rules

same_exit : (a b : Exit) → Decides (exits.ghosts.eq a b) (a ≡ b)
same_exit a b = search rules

decides : (a b : Crossing) → Decides (same a b) (a ≡ b)
decides a b =
    let parts = Decides-and (same_node a.node b.node) _ (keys_are_ordered.same_nodes a.node b.node)
    (Decides-and (kinds.ghosts.eq a.kind b.kind) _ (same_kind a.kind b.kind)
    (Decides-and (a.back == b.back) (exits.ghosts.eq a.exit b.exit) (Decides-eqb a.back b.back) (same_exit a.exit b.exit))) in (
      λ e. let p = parts.0 e in λ i. record { node = p.0 i; kind = p.1.0 i; back = p.1.1.0 i; exit = p.1.1.1 i },
      λ e. parts.1 (ap (λ (c : Crossing). c.node) e, (ap (λ (c : Crossing). c.kind) e, (ap (λ (c : Crossing). c.back) e, ap (λ (c : Crossing). c.exit) e))),
    )

crossing_is : (a b : Crossing) → same a b ≡ true → a ≡ b
crossing_is a b e = (decides a b).0 e

-- ---- a set with one more

inserted : (cs : List Crossing) (c x : Crossing) → Contains (insert_key same cs c) x ↔ (Contains cs x ⊎ (x ≡ c))
inserted cs c x = by (list_any (same c) cs) refl
  where
    by : (b : Bool) → list_any (same c) cs ≡ b → Contains (if b then cs else cs ++ c ∷ []) x ↔ (Contains cs x ⊎ (x ≡ c))
    by true e = (λ h. inl h, ⊎_elim (λ h. h) (λ is. subst (Contains cs) (sym is) (Contains-list_any same crossing_is cs c e)))
    by false e = (
      λ h. ⊎_elim (λ old. inl old) (λ is. inr (sym is)) (Contains-push_cases cs c x h),
      ⊎_elim (λ h. Contains-append_left cs (c ∷ []) x h) (λ is. subst (Contains (cs ++ c ∷ [])) (sym is) (Contains-push cs c)),
    )

-- ---- one crossing more

module _ (gs new : Groups) (inst : InstKey) (c : Crossing) (is : (q : InstKey) → crossings_at new q ≡ cond (same_inst inst q) (insert_key same (crossings_at gs inst) c) (crossings_at gs q)) where
  added_by : IsCrossingAdded gs inst c new
  added_by i x = by (same_inst inst i) refl
    where
      by : (b : Bool) → same_inst inst i ≡ b → IsCrossing new i x ↔ (IsCrossing gs i x ⊎ ((i ≡ inst) × (x ≡ c)))
      by true e =
          let at : inst ≡ i = (keys_are_ordered.same_insts inst i).0 e in
          let now : crossings_at new i ≡ insert_key same (crossings_at gs inst) c = is i ∙ ap (λ b. cond b (insert_key same (crossings_at gs inst) c) (crossings_at gs i)) e in
          let old : crossings_at gs inst ≡ crossings_at gs i = ap (crossings_at gs) at in
          let more = inserted (crossings_at gs inst) c x in (
            λ h. ⊎_elim (λ k. inl (subst (λ (l : List Crossing). Contains l x) old k)) (λ k. inr (sym at, k)) (more.0 (subst (λ (l : List Crossing). Contains l x) now h)),
            λ h. subst (λ (l : List Crossing). Contains l x) (sym now)
                (more.1 (⊎_elim (λ k. inl (subst (λ (l : List Crossing). Contains l x) (sym old) k)) (λ k. inr k.1) h)),
          )
      by false e =
          let now : crossings_at new i ≡ crossings_at gs i = is i ∙ ap (λ b. cond b (insert_key same (crossings_at gs inst) c) (crossings_at gs i)) e in (
            λ h. inl (subst (λ (l : List Crossing). Contains l x) now h),
            ⊎_elim (λ k. subst (λ (l : List Crossing). Contains l x) (sym now) k)
                (λ k. absurd (let t = (keys_are_ordered.same_insts inst i).1 (sym k.0) in cc)),
          )

-- the items of a set, if there is one
abbrev pub kept : {S : Type 0} → Option (IndexSet Crossing S) → List Crossing
kept o = unwrap_or (option_map (λ s. s.keys) o) []

pub kept_at : {S : Type 0} (es : List (InstKey × IndexSet Crossing S)) (q : InstKey) → crossings_at (map listed es) q ≡ kept (lookup (same_inst q) es)
kept_at es q = ap (λ (o : Option (List Crossing)). unwrap_or o []) (lookup-map_values (λ s. s.keys) (same_inst q) es)

pub added : {S : Type 0} (es new : List (InstKey × IndexSet Crossing S)) (inst : InstKey) (c : Crossing) (o : Option (IndexSet Crossing S)) (w : IndexSet Crossing S)
    → o ≡ lookup (same_inst inst) es → w.keys ≡ insert_key same (kept o) c
    → ((q : InstKey) → lookup (same_inst q) new ≡ cond (same_inst inst q) (Some w) (lookup (same_inst q) es)) → IsCrossingAdded (map listed es) inst c (map listed new)
added {S} es new inst c o w found is up =
    added_by (map listed es) (map listed new) inst c
    (λ q. kept_at new q ∙ ap kept (up q) ∙ split (same_inst inst q) (lookup (same_inst q) es)
    ∙ ap (λ l. cond (same_inst inst q) l (kept (lookup (same_inst q) es))) (is ∙ ap (λ l. insert_key same l c) (ap kept found ∙ sym (kept_at es inst)))
    ∙ ap (cond (same_inst inst q) (insert_key same (crossings_at (map listed es) inst) c)) (sym (kept_at es q)))
  where
    split : (b : Bool) (p : Option (IndexSet Crossing S)) → kept (cond b (Some w) p) ≡ cond b w.keys (kept p)
    split true p = refl
    split false p = refl

-- ---- each stands once

other_than : (x : Crossing) (cs : List Crossing) (j : ℕ) (c : Crossing) → AllByRecursion (λ y. same x y ≡ false) cs → slice_get cs j ≡ Some c → x ≡ c → ⊥
other_than x [] j c h e is = none-some c e
other_than x (y ∷ ys) zero c h e is = let t = (decides x y).1 (is ∙ sym (same_Some y c e)) in let f = h.0 in absurd (cc)
other_than x (y ∷ ys) (suc j) c h e is = other_than x ys j c h.1 e is

pub are_once : (cs : List Crossing) → IsDistinct same cs → AreCrossingsOnce cs
unfolding IsDistinct
are_once [] d i j c e f = absurd (none-some c e)
are_once (x ∷ xs) d zero zero c e f = refl
are_once (x ∷ xs) d zero (suc j) c e f = absurd (other_than x xs j c d.0 f (same_Some x c e))
are_once (x ∷ xs) d (suc i) zero c e f = absurd (other_than x xs i c d.0 e (same_Some x c f))
are_once (x ∷ xs) d (suc i) (suc j) c e f = ap suc (are_once xs d.1 i j c e f)
