-- The number of an instance.
use Rattle.std.proofs.Common.{◌≡◌, ◌≢◌, refl, sym, ap, subst, ◌⊎◌, inl, inr, Bool, true, false, cond, List, [], ◌∷◌, Some, None, slice_get, slice_index_or, ℕ, zero, suc, ◌+◌, ◌<◌, ◌≤◌, nat_lt, not, length, Contains, arith}
use Rattle.std.specs.Prelude.{position}
use Rattle.std.proofs.lemmas.Bool.{cases_lt}
use Rattle.std.proofs.lemmas.Bool.Decides.{nat_tests}
use Rattle.std.proofs.lemmas.Option.{none-some, same_Some}
use Rattle.node_keys.specs.declared.keys.InstKey.{InstKey}
use Rattle.node_keys.specs.Order.{same_inst}
use Rattle.node_keys.specs.Keys.{root_inst}
use Rattle.node_keys.proofs.AllLaws.{keys_are_ordered}
use Rattle.round_laws.specs.Graphs.{IsNumberFor, IsNumber}
use Rattle.round_nesting.specs.Drawn.{number_of}

found_at : (inst : InstKey) (keys : List InstKey) → number_of keys inst < length keys → slice_get keys (number_of keys inst) ≡ Some inst
found_at inst [] lt = absurd (omega arith)
found_at inst (k ∷ ks) lt = by (same_inst inst k) refl lt (found_at inst ks)
  where
    by : (b : Bool) → same_inst inst k ≡ b → cond (not b) (1 + number_of ks inst) 0 < length (k ∷ ks)
        → (number_of ks inst < length ks → slice_get ks (number_of ks inst) ≡ Some inst)
        → slice_get (k ∷ ks) (cond (not b) (1 + number_of ks inst) 0) ≡ Some inst
    by true t lt rest = ap Some (sym ((keys_are_ordered.same_insts inst k).0 t))
    by false t lt rest =
        let one : suc (number_of ks inst) ≡ 1 + number_of ks inst = omega arith in
        subst (λ (i : ℕ). slice_get (k ∷ ks) i ≡ Some inst) one (rest (omega (arith, lt)))

none_at : (inst : InstKey) (keys : List InstKey) → length keys ≤ number_of keys inst → (j : ℕ) → slice_get keys j ≢ Some inst
none_at inst [] le j is = none-some inst is
none_at inst (k ∷ ks) le j is = by (same_inst inst k) refl le (none_at inst ks) j is
  where
    by : (b : Bool) → same_inst inst k ≡ b → length (k ∷ ks) ≤ cond (not b) (1 + number_of ks inst) 0
        → (length ks ≤ number_of ks inst → (j : ℕ) → slice_get ks j ≢ Some inst) → (j : ℕ) → slice_get (k ∷ ks) j ≡ Some inst → ⊥
    by true t le rest j is = absurd (omega (arith, le))
    by false t le rest zero is = let s = (keys_are_ordered.same_insts inst k).1 (sym (same_Some k inst is)) in absurd (cc)
    by false t le rest (suc j) is = rest (omega (arith, le)) j is

pub number_within : (inst : InstKey) (keys : List InstKey) → number_of keys inst ≤ length keys
number_within inst [] = omega arith
number_within inst (k ∷ ks) = by (same_inst inst k) (number_within inst ks)
  where
    by : (b : Bool) → number_of ks inst ≤ length ks → cond (not b) (1 + number_of ks inst) 0 ≤ length (k ∷ ks)
    by true le = omega arith
    by false le = omega (arith, le)

pub stands : (keys : List InstKey) (inst : InstKey) → IsNumberFor keys (number_of keys inst) inst
stands keys inst = by (cases_lt (number_of keys inst) (length keys))
  where
    by : (number_of keys inst < length keys) ⊎ (length keys ≤ number_of keys inst) → IsNumberFor keys (number_of keys inst) inst
    by (inl lt) = inl (found_at inst keys lt)
    by (inr le) = inr (le, none_at inst keys le)

pub at_index : (keys : List InstKey) (inst : InstKey) (i : ℕ) → i < length keys → slice_index_or keys i inst ≡ inst → slice_get keys i ≡ Some inst
at_index [] inst i lt e = absurd (omega (arith, lt))
at_index (k ∷ ks) inst zero lt e = ap Some e
at_index (k ∷ ks) inst (suc i) lt e = at_index ks inst i (omega (arith, lt)) e

pub there : (keys : List InstKey) (i : ℕ) → i < length keys → (inst : InstKey) × (slice_get keys i ≡ Some inst)
there [] i lt = absurd (omega arith)
there (k ∷ ks) zero lt = (k, refl)
there (k ∷ ks) (suc i) lt = there ks i (omega (arith, lt))

-- a noted instance has its number
pub numbered : (keys : List InstKey) (inst : InstKey) → Contains keys inst → IsNumber keys (number_of keys inst) inst
numbered keys inst h = by (stands keys inst)
  where
    by : IsNumberFor keys (number_of keys inst) inst → IsNumber keys (number_of keys inst) inst
    by (inl is) = is
    by (inr none) = absurd (none.1 h.0 (at_index keys inst h.0 h.1 h.2))

-- ---- what a look-up finds

position_is : (inst : InstKey) (keys : List InstKey) (at : ℕ) → position (same_inst inst) keys ≡ Some at → number_of keys inst ≡ at
position_is inst keys at e = by (nat_lt (number_of keys inst) (length keys)) e
  where
    by : (b : Bool) → cond b (Some (number_of keys inst)) None ≡ Some at → number_of keys inst ≡ at
    by true e = same_Some (number_of keys inst) at e
    by false e = absurd (cc)

position_behind : (inst : InstKey) (keys : List InstKey) → position (same_inst inst) keys ≡ None → length keys ≤ number_of keys inst
position_behind inst keys e = by (nat_lt (number_of keys inst) (length keys)) refl e
  where
    by : (b : Bool) → nat_lt (number_of keys inst) (length keys) ≡ b → cond b (Some (number_of keys inst)) None ≡ None → length keys ≤ number_of keys inst
    by true t e = absurd (cc)
    by false t e = grind (arith, nat_tests)

behind_root : (inst : InstKey) (others : List InstKey) → same_inst inst root_inst ≡ false → 1 + number_of others inst ≡ number_of (root_inst ∷ others) inst
behind_root inst others t = ap (λ b. cond (not b) (1 + number_of others inst) 0) (sym t)

pub other_number : (inst : InstKey) (others : List InstKey) (at : ℕ) → same_inst inst root_inst ≡ false → Some at ≡ position (same_inst inst) others
    → at + 1 ≡ number_of (root_inst ∷ others) inst
other_number inst others at t e = omega (arith, behind_root inst others t, position_is inst others at (sym e))

pub no_number : (inst : InstKey) (others : List InstKey) → same_inst inst root_inst ≡ false → None ≡ position (same_inst inst) others
    → length others + 1 ≡ number_of (root_inst ∷ others) inst
no_number inst others t e = omega (arith, behind_root inst others t, position_behind inst others (sym e), number_within inst others)
