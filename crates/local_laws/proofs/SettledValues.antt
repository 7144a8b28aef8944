-- A settled state, register by register.
use Rattle.std.proofs.Common.{◌≡◌, refl, sym, ap, ◌∙◌, subst, ℕ, zero, suc, Bool, true, false, List, [], ◌∷◌, Option, Some, None, length, if◌then◌else◌, arith}
use Rattle.sp_domain.specs.declared.tags.Tag.{Tag}
use Rattle.sp_domain.specs.declared.tags.Tag.TheVariants as tag
use Rattle.sp_domain.specs.Tags.{IsTagWithin}
use Rattle.abs_state.specs.declared.values.AbsByte.{AbsByte}
use Rattle.abs_state.specs.declared.state.AbsState.{AbsState}
use Rattle.abs_state.specs.Frames.{with_value}
use Rattle.abs_state.specs.Order.{IsByteWithin}
use Rattle.abs_state.specs.Values.{value_at}
use Rattle.local_rules.specs.HighBytes.{SpView}
use Rattle.local_rules.specs.Settling.{settled_by, settled_value, settled_values, with_registers, settled_state}

-- one value, on any device
abbrev pub settled_in : SpView → AbsByte → Option AbsByte
settled_in view v = if view.high then Some v else settled_value view.offset v

-- registers are settled, and nothing else changes
pub record IsSettled (view : SpView) (s u : AbsState) : Type 0 where
  pub count : length u.registers ≡ length s.registers
  pub each : (r : ℕ) → settled_in view (value_at s.registers r) ≡ Some (value_at u.registers r)
  pub flags : u.flags ≡ s.flags
  pub slots : u.slots ≡ s.slots
  pub facts : u.facts ≡ s.facts

-- ---- all registers

record AreSettled (offset : ℕ) (vs us : List AbsByte) : Type 0 where
  pub count : length us ≡ length vs
  pub each : (r : ℕ) → settled_value offset (value_at vs r) ≡ Some (value_at us r)

are_settled : (offset : ℕ) (vs us : List AbsByte) → settled_values offset vs ≡ Some us → AreSettled offset vs us
unfolding settled_values
are_settled offset [] us e = let is : [] ≡ us = cc in subst (AreSettled offset []) is (record { count = refl; each = λ r. refl })
are_settled offset (v ∷ vs) us e = by (settled_value offset v) (settled_values offset vs) refl (are_settled offset vs) e
  where
    by : (x : Option AbsByte) (y : Option (List AbsByte)) → settled_value offset v ≡ x → ((rest : List AbsByte) → y ≡ Some rest → AreSettled offset vs rest)
        → with_value x y ≡ Some us → AreSettled offset (v ∷ vs) us
    by None y first others h = absurd (cc)
    by (Some u) None first others h = absurd (cc)
    by (Some u) (Some rest) first others h =
        let further = others rest refl in
        let is : u ∷ rest ≡ us = cc in
        subst (AreSettled offset (v ∷ vs)) is (record { count = omega (arith, further.count); each = all further.each })
      where
        all : ((r : ℕ) → settled_value offset (value_at vs r) ≡ Some (value_at rest r)) → (r : ℕ) → settled_value offset (value_at (v ∷ vs) r) ≡ Some (value_at (u ∷ rest) r)
        all each zero = first
        all each (suc r) = each r

pub is_settled : (view : SpView) (s u : AbsState) → settled_state view s ≡ Some u → IsSettled view s u
unfolding settled_state
is_settled view s u e = by view.high refl e
  where
    registers : view.high ≡ false → (x : Option (List AbsByte)) → settled_values view.offset s.registers ≡ x → with_registers s x ≡ Some u → IsSettled view s u
    registers low None e h = absurd (cc)
    registers low (Some us) e h =
        let all = are_settled view.offset s.registers us e in
        let is : record s { registers = us } ≡ u = cc in
        subst (IsSettled view s) is (record {
          count = all.count;
          each = λ r. ap (λ (b : Bool). if b then Some (value_at s.registers r) else settled_value view.offset (value_at s.registers r)) low ∙ all.each r;
          flags = refl;
          slots = refl;
          facts = refl;
        })

    by : (has_high : Bool) → view.high ≡ has_high → (if has_high then Some s else with_registers s (settled_values view.offset s.registers)) ≡ Some u → IsSettled view s u
    by true high e =
        let is : s ≡ u = cc in
        subst (IsSettled view s) is (record {
          count = refl;
          each = λ r. ap (λ (b : Bool). if b then Some (value_at s.registers r) else settled_value view.offset (value_at s.registers r)) high;
          flags = refl;
          slots = refl;
          facts = refl;
        })
    by false low e = registers low (settled_values view.offset s.registers) refl e

-- ---- values without a tag stay

untagged_stays : (view : SpView) (v w : AbsByte) → v.tag ≡ tag.None → settled_in view v ≡ Some w → w ≡ v
untagged_stays view v w none e = by view.high e
  where
    by : (has_high : Bool) → (if has_high then Some v else settled_value view.offset v) ≡ Some w → w ≡ v
    by true e = let is : v ≡ w = cc in sym is
    by false e =
        let same : Some v ≡ Some w = ap (λ (t : Tag). settled_by view.offset t v) (sym none) ∙ e in
        let is : v ≡ w = cc in sym is

none_above : (t : Tag) → IsTagWithin tag.None t → t ≡ tag.None
none_above tag.None le = refl
none_above (tag.Entry r) le = sym le
none_above tag.EntryFlags le = sym le
none_above (tag.SpLo j) le = sym le
none_above (tag.SpHi k) le = sym le

-- so a value above one without a tag stays above it
pub settled_above : (view : SpView) (s u : AbsState) (r : ℕ) (x : AbsByte) → IsSettled view s u → x.tag ≡ tag.None → IsByteWithin x (value_at s.registers r)
    → IsByteWithin x (value_at u.registers r)
settled_above view s u r x h none le =
    let tags : IsTagWithin tag.None (value_at s.registers r).tag = subst (λ (t : Tag). IsTagWithin t (value_at s.registers r).tag) none le.tag in
    subst (IsByteWithin x) (sym (untagged_stays view (value_at s.registers r) (value_at u.registers r) (none_above (value_at s.registers r).tag tags) (h.each r))) le
