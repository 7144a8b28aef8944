-- One more note of a nesting.
use Rattle.std.proofs.Common.{◌≡◌, refl, sym, ap, ◌∙◌, subst, inl, inr, ⊎_elim, Bool, true, false, if◌then◌else◌, List, [], ◌∷◌, ◌++◌, Some, slice_get, ℕ, zero, suc, Contains}
use Rattle.std.specs.List.{IsDistinct, AllByRecursion, list_any}
use Rattle.std.proofs.lemmas.List.Elements.{Contains-push_cases, Contains-push, Contains-append_left}
use Rattle.std.proofs.lemmas.Option.{none-some, same_Some}
use Rattle.basics.specs.Items.{first_in, further_in, first_or_further}
use Rattle.indexmap.specs.IndexSet.{insert_key}
use Rattle.indexmap.proofs.CallerLemmas.{Contains-list_any}
use Rattle.node_keys.specs.declared.keys.InstKey.{InstKey}
use Rattle.node_keys.specs.declared.keys.NodeKey.{NodeKey}
use Rattle.node_keys.specs.declared.keys.SpForm.TheVariants.{Closed}
use Rattle.node_keys.specs.Keys.{root_inst}
use Rattle.node_keys.specs.Order.{same_inst}
use Rattle.node_keys.proofs.AllLaws.{keys_are_ordered}
use Rattle.round_nesting.specs.Nestings.{Spot, Entrance, Noted, AreOnce, IsNodeNoted, HasEntrance, AreAlike}
use Rattle.round_nesting.specs.Drawn.{insts_of, AreOthersApart, HasMore}

-- ---- a set with one member more

module _ {K : Type 0} (eq : K → K → Bool) (exact : (x y : K) → eq x y ≡ true → x ≡ y) where
  inserted_by : (ks : List K) (k : K) (b : Bool) → list_any (eq k) ks ≡ b → HasMore ks k (if b then ks else ks ++ k ∷ [])
  inserted_by ks k true e x = (λ h. inl h, ⊎_elim (λ h. h) (λ same. subst (Contains ks) (sym same) (Contains-list_any eq exact ks k e)))
  inserted_by ks k false e x = (
    λ h. ⊎_elim (λ old. inl old) (λ same. inr (sym same)) (Contains-push_cases ks k x h),
    ⊎_elim (λ h. Contains-append_left ks (k ∷ []) x h) (λ same. subst (Contains (ks ++ k ∷ [])) (sym same) (Contains-push ks k)),
  )

  pub inserted : (ks new : List K) (k : K) → new ≡ insert_key eq ks k → HasMore ks k new
  inserted ks new k is = subst (HasMore ks k) (sym is) (inserted_by ks k (list_any (eq k) ks) refl)

pub there_already : {K : Type 0} (ks : List K) (k : K) → Contains ks k → HasMore ks k ks
there_already ks k has x = (λ h. inl h, ⊎_elim (λ h. h) (λ same. subst (Contains ks) (sym same) has))

-- ---- instances

pub root_more : (has_root : Bool) (others : List InstKey) (inst : InstKey) → inst ≡ root_inst → HasMore (insts_of has_root others) inst (root_inst ∷ others)
root_more true others inst is x = (λ h. inl h, ⊎_elim (λ h. h) (λ same. subst (Contains (root_inst ∷ others)) (sym (same ∙ is)) (first_in root_inst others)))
root_more false others inst is x = (
  λ h. ⊎_elim (λ same. inr (same ∙ sym is)) (λ old. inl old) (first_or_further root_inst x others h),
  ⊎_elim (λ h. further_in root_inst x others h) (λ same. subst (Contains (root_inst ∷ others)) (sym (same ∙ is)) (first_in root_inst others)),
)

pub other_more : (has_root : Bool) (others new : List InstKey) (inst : InstKey) → HasMore others inst new → HasMore (insts_of has_root others) inst (insts_of has_root new)
other_more false others new inst more x = more x
other_more true others new inst more x = (
  λ h. ⊎_elim (λ same. inl (subst (Contains (root_inst ∷ others)) (sym same) (first_in root_inst others)))
      (λ m. ⊎_elim (λ old. inl (further_in root_inst x others old)) (λ same. inr same) ((more x).0 m)) (first_or_further root_inst x new h),
  ⊎_elim
      (λ h. ⊎_elim (λ same. subst (Contains (root_inst ∷ new)) (sym same) (first_in root_inst new)) (λ old. further_in root_inst x new ((more x).1 (inl old))) (first_or_further root_inst x others h))
      (λ same. further_in root_inst x new ((more x).1 (inr same))),
)

other_than : (x : InstKey) (keys : List InstKey) (j : ℕ) (inst : InstKey) → AllByRecursion (λ y. same_inst x y ≡ false) keys → slice_get keys j ≡ Some inst → x ≡ inst → ⊥
other_than x [] j inst h e same = none-some inst e
other_than x (k ∷ ks) zero inst h e same = let t = (keys_are_ordered.same_insts x k).1 (same ∙ sym (same_Some k inst e)) in let f = h.0 in absurd (cc)
other_than x (k ∷ ks) (suc j) inst h e same = other_than x ks j inst h.1 e same

are_once : (keys : List InstKey) → IsDistinct same_inst keys → AreOnce keys
unfolding IsDistinct
are_once [] d i j inst e f = absurd (none-some inst e)
are_once (k ∷ ks) d zero zero inst e f = refl
are_once (k ∷ ks) d zero (suc j) inst e f = absurd (other_than k ks j inst d.0 f (same_Some k inst e))
are_once (k ∷ ks) d (suc i) zero inst e f = absurd (other_than k ks i inst d.0 e (same_Some k inst f))
are_once (k ∷ ks) d (suc i) (suc j) inst e f = ap suc (are_once ks d.1 i j inst e f)

pub apart_more : (others new : List InstKey) (inst : InstKey) → AreOthersApart others → (inst ≡ root_inst → ⊥) → HasMore others inst new → IsDistinct same_inst new → AreOthersApart new
apart_more others new inst apart other more distinct = record {
  once = are_once new distinct;
  rootless = λ h. ⊎_elim (λ old. apart.rootless old) (λ same. other (sym same)) ((more root_inst).0 h);
}

at_member : (keys : List InstKey) (i : ℕ) (inst : InstKey) → slice_get keys i ≡ Some inst → Contains keys inst
at_member [] i inst e = absurd (none-some inst e)
at_member (k ∷ ks) zero inst e = subst (Contains (k ∷ ks)) (same_Some k inst e) (first_in k ks)
at_member (k ∷ ks) (suc i) inst e = further_in k inst ks (at_member ks i inst e)

pub insts_once : (has_root : Bool) (others : List InstKey) → AreOthersApart others → AreOnce (insts_of has_root others)
insts_once false others apart = apart.once
insts_once true others apart = by
  where
    by : AreOnce (root_inst ∷ others)
    by zero zero inst e f = refl
    by zero (suc j) inst e f = absurd (apart.rootless (subst (Contains others) (sym (same_Some root_inst inst e)) (at_member others j inst f)))
    by (suc i) zero inst e f = absurd (apart.rootless (subst (Contains others) (sym (same_Some root_inst inst f)) (at_member others i inst e)))
    by (suc i) (suc j) inst e f = ap suc (apart.once i j inst e f)

-- the root's note is kept apart
pub root_kept : (has_root : Bool) (others : List InstKey) → AreOthersApart others → Contains (insts_of has_root others) root_inst → has_root ≡ true
root_kept true others apart h = refl
root_kept false others apart h = absurd (apart.rootless h)

-- ---- nodes and entrances

spot_of : (key : NodeKey) (offset : ℕ) (s : Spot) → key.sp ≡ Closed offset → s ≡ record { inst = key.inst; offset = offset } → (s.inst ≡ key.inst) × (key.sp ≡ Closed s.offset)
spot_of key offset s is same = (ap (λ (x : Spot). x.inst) same, is ∙ ap (λ (x : Spot). Closed x.offset) (sym same))

of_spot : (key : NodeKey) (offset : ℕ) (s : Spot) → key.sp ≡ Closed offset → s.inst ≡ key.inst → key.sp ≡ Closed s.offset → s ≡ record { inst = key.inst; offset = offset }
of_spot key offset s is inst closed =
    let same : s.offset ≡ offset = cc (closed, is) in
    λ i. record { inst = inst i; offset = same i }

pub closed_node : (old : Noted) (key : NodeKey) (offset : ℕ) (insts : List InstKey) (spots : List Spot) → key.sp ≡ Closed offset → HasMore old.insts key.inst insts
    → HasMore old.spots (record { inst = key.inst; offset = offset }) spots → IsNodeNoted old key (record { insts = insts; spots = spots; entrances = old.entrances })
closed_node old key offset insts spots is more at = record {
  insts = more;
  spots = λ s. (
    λ h. ⊎_elim (λ before. inl before) (λ same. inr (spot_of key offset s is same)) ((at s).0 h),
    λ h. (at s).1 (⊎_elim (λ before. inl before) (λ it. inr (of_spot key offset s is it.0 it.1)) h),
  );
  entrances = λ e. (λ h. h, λ h. h);
}

pub open_node : (old : Noted) (key : NodeKey) (insts : List InstKey) → ((offset : ℕ) → key.sp ≡ Closed offset → ⊥) → HasMore old.insts key.inst insts
    → IsNodeNoted old key (record { insts = insts; spots = old.spots; entrances = old.entrances })
open_node old key insts never more = record {
  insts = more;
  spots = λ s. (λ h. inl h, ⊎_elim (λ h. h) (λ it. absurd (never s.offset it.1)));
  entrances = λ e. (λ h. h, λ h. h);
}

pub entrance_kept : (old : Noted) (x : Entrance) (entrances : List Entrance) → HasMore old.entrances x entrances
    → HasEntrance old x (record { insts = old.insts; spots = old.spots; entrances = entrances })
entrance_kept old x entrances more = record { insts = λ inst. (λ h. h, λ h. h); spots = λ s. (λ h. h, λ h. h); entrances = more }

pub alike : (n : Noted) → AreAlike n n
alike n = record { insts = λ inst. (λ h. h, λ h. h); spots = λ s. (λ h. h, λ h. h); entrances = λ e. (λ h. h, λ h. h) }
