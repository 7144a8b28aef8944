-- What holds of the states of all successors.
use Rattle.std.proofs.Common.{◌≡◌, refl, ℕ, zero, suc, Bool, true, false, List, [], ◌∷◌, ◌++◌, map, Option, Some, None, if◌then◌else◌, Contains, ⊎_elim}
use Rattle.std.proofs.lemmas.List.Elements.{Contains-append_cases}
use Rattle.basics.specs.Items.{none_in}
use Rattle.avr_model.specs.declared.device.Device.{Device}
use Rattle.bit_domain.specs.declared.bits.Tri.{Tri}
use Rattle.bit_domain.specs.declared.bits.Tri.TheVariants.{Zero, One, Any}
use Rattle.abs_state.specs.declared.state.AbsState.{AbsState}
use Rattle.node_keys.specs.declared.keys.NodeKey.{NodeKey}
use Rattle.node_keys.specs.declared.keys.Kind.{Kind}
use Rattle.node_keys.specs.declared.keys.Kind.TheVariants.{Root, Call, Vector}
use Rattle.node_keys.specs.declared.keys.SpForm.{SpForm}
use Rattle.node_keys.specs.declared.keys.SpForm.TheVariants.{Closed, Open}
use Rattle.local_rules.specs.declared.local.Exit.{Exit}
use Rattle.local_rules.specs.declared.local.Node.{Node}
use Rattle.local_rules.specs.Raw.{Raw, nowhere, one, all_of, untracked_if, off_table}
use Rattle.local_rules.specs.Flow.{branch_by, going_where, jumping, at_closed, indirect_call, calling, is_half_written, returning}
use Rattle.local_laws.proofs.Members.{each_of, each_in_map}

module _ (P : AbsState → Type 0) where
  abbrev pub AllOf : Raw → Type 0
  AllOf r = (to : Node) → Contains r.moves to → P to.state

  pub each_none : AllOf nowhere
  each_none to h = absurd (none_in to h)

  pub each_one : (k : NodeKey) (s : AbsState) → P s → AllOf (one k s)
  each_one k s h = each_of (λ (n : Node). P n.state) (record { key = k; state = s }) [] h (λ n j. absurd (none_in n j))

  pub each_two : (j k : NodeKey) (s : AbsState) → P s → (to : Node) → Contains (record { key = j; state = s } ∷ record { key = k; state = s } ∷ []) to → P to.state
  each_two j k s h = each_of (λ (n : Node). P n.state) (record { key = j; state = s }) (record { key = k; state = s } ∷ []) h (each_one k s h)

  pub each_if : (b : Bool) (p q : Raw) → AllOf p → AllOf q → AllOf (if b then p else q)
  each_if true p q h g = h
  each_if false p q h g = g

  pub each_both : (p q : Raw) → AllOf p → AllOf q → AllOf (all_of (p ∷ q ∷ []))
  each_both p q h g to j =
      ⊎_elim (h to) (λ rest. ⊎_elim (g to) (λ none. absurd (none_in to none)) (Contains-append_cases q.moves [] to rest)) (Contains-append_cases p.moves (q.moves ++ []) to j)

  pub each_all : (f : ℕ → Raw) (xs : List ℕ) → ((x : ℕ) → AllOf (f x)) → AllOf (all_of (map f xs))
  each_all f [] h to j = each_none to j
  each_all f (x ∷ xs) h to j = ⊎_elim (h x to) (each_all f xs h to) (Contains-append_cases (f x).moves (all_of (map f xs)).moves to j)

  -- with one state
  pub each_same : {A : Type 0} (f : A → NodeKey) (s : AbsState) (xs : List A) → P s → (to : Node) → Contains (map (λ x. record { key = f x; state = s }) xs) to → P to.state
  each_same f s xs h = each_in_map (λ x. record { key = f x; state = s }) (λ (n : Node). P n.state) xs (λ x j. h)

  pub each_branch : (t : Tri) (j k : NodeKey) (s : AbsState) → P s → AllOf (branch_by t j k s)
  each_branch One j k s h = each_one j s h
  each_branch Zero j k s h = each_one k s h
  each_branch Any j k s h = each_two k j s h

  pub each_where : (k : NodeKey) (x : Option AbsState) (pc : ℕ) → ((u : AbsState) → x ≡ Some u → P u) → AllOf (going_where k x pc)
  each_where k None pc h = each_none
  each_where k (Some u) pc h = each_one (off_table k pc) u (h u refl)

  pub each_jumping : (targets : Option (List ℕ)) (k : NodeKey) (s : AbsState) → P s → AllOf (jumping targets k s)
  each_jumping None k s h = each_none
  each_jumping (Some targets) k s h = each_same (off_table k) s targets h

  pub each_closed : (sp : SpForm) (pc : ℕ) (f : ℕ → Raw) → ((offset : ℕ) → AllOf (f offset)) → AllOf (at_closed sp pc f)
  each_closed (Closed offset) pc f h = h offset
  each_closed (Open offset high) pc f h = each_none

  pub each_untracked : (half : Bool) (pc : ℕ) (r : Raw) → AllOf r → AllOf (untracked_if half pc r)
  each_untracked true pc r h = h
  each_untracked false pc r h = h

  pub each_calling : (k : NodeKey) (back : ℕ) (targets : List ℕ) → AllOf (calling k back targets)
  each_calling k back targets = each_untracked (is_half_written k.sp) k.pc _ each_none

  pub each_indirect : (device : Device) (targets : Option (List ℕ)) (k : NodeKey) → AllOf (indirect_call device targets k)
  each_indirect device None k = each_untracked (is_half_written k.sp) k.pc _ each_none
  each_indirect device (Some targets) k = each_untracked (is_half_written k.sp) k.pc _ each_none

  pub each_returning : (x : Exit) (pc : ℕ) (kind : Kind) (offset : ℕ) → AllOf (returning x pc kind offset)
  each_returning x pc kind (suc n) = each_none
  each_returning x pc Root zero = each_none
  each_returning x pc Call zero = each_none
  each_returning x pc (Vector v) zero = each_none
