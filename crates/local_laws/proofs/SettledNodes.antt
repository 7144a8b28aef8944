-- Which values change where high bytes are settled: those of a register with the tag of a high byte.
use Rattle.std.proofs.Common.{◌≡◌, refl, sym, ◌∙◌, ap, ℕ, suc, ◌<◌, Bool, true, false, List, [], ◌∷◌, length, Some, if◌then◌else◌, arith}
use Rattle.std.specs.Prelude.{⊤}
use Rattle.sp_domain.specs.declared.tags.Tag.{Tag}
use Rattle.sp_domain.specs.declared.tags.Tag.TheVariants as tag
use Rattle.abs_state.specs.declared.values.AbsByte.{AbsByte}
use Rattle.abs_state.specs.declared.state.AbsState.{AbsState}
use Rattle.abs_state.specs.Values.{value_at}
use Rattle.abs_state.specs.Frames.{with_value}
use Rattle.local_rules.specs.HighBytes.{SpView}
use Rattle.local_rules.specs.Settling.{settled_by, settled_value, settled_values, with_registers, settled_state}
use Rattle.local_laws.proofs.SettledValues.{settled_in, IsSettled}

-- ---- one value

-- the tag is not that of a high byte
abbrev pub IsLow : Tag → Type 0
IsLow (tag.SpHi k) = ⊥
IsLow t = ⊤

low_stays : (offset : ℕ) (t : Tag) (v : AbsByte) → IsLow t → settled_by offset t v ≡ Some v
low_stays offset tag.None v low = refl
low_stays offset (tag.Entry r) v low = refl
low_stays offset tag.EntryFlags v low = refl
low_stays offset (tag.SpLo j) v low = refl
low_stays offset (tag.SpHi k) v low = absurd low

-- ---- states

pub settled_if_each : (offset : ℕ) (vs ws : List AbsByte) → length ws ≡ length vs
    → ((r : ℕ) → r < length vs → settled_value offset (value_at vs r) ≡ Some (value_at ws r)) → settled_values offset vs ≡ Some ws
unfolding settled_values
settled_if_each offset [] [] n e = refl
settled_if_each offset [] (w ∷ ws) n e = absurd (omega arith)
settled_if_each offset (v ∷ vs) [] n e = absurd (omega arith)
settled_if_each offset (v ∷ vs) (w ∷ ws) n e =
    let first = e 0 (omega arith) in
    let rest = settled_if_each offset vs ws (omega arith) (λ r h. e (suc r) (omega arith)) in
    λ i. with_value (first i) (rest i)

-- a state stays, if no register has the tag of a high byte
pub low_settled : (view : SpView) (s : AbsState) → (view.high ≡ false → (r : ℕ) → IsLow (value_at s.registers r).tag) → settled_state view s ≡ Some s
unfolding settled_state
low_settled view s low = by view.high refl
  where
    by : (high : Bool) → view.high ≡ high → (if high then Some s else with_registers s (settled_values view.offset s.registers)) ≡ Some s
    by true e = refl
    by false e =
        ap (with_registers s) (settled_if_each view.offset s.registers s.registers refl (λ r lt. low_stays view.offset (value_at s.registers r).tag (value_at s.registers r) (low e r)))

pub low_same : (view : SpView) (s t : AbsState) → (view.high ≡ false → (r : ℕ) → IsLow (value_at s.registers r).tag) → settled_state view s ≡ Some t → s ≡ t
low_same view s t low e = let same : Some s ≡ Some t = sym (low_settled view s low) ∙ e in cc

-- a value without this tag stays
pub low_value : (view : SpView) (v w : AbsByte) → settled_in view v ≡ Some w → (view.high ≡ false → IsLow v.tag) → w ≡ v
low_value view v w e low = by view.high refl e
  where
    by : (high : Bool) → view.high ≡ high → (if high then Some v else settled_value view.offset v) ≡ Some w → w ≡ v
    by true is e = cc
    by false is e = let same = low_stays view.offset v.tag v (low is) in cc

pub low_register : (view : SpView) (s t : AbsState) (r : ℕ) → IsSettled view s t → (view.high ≡ false → IsLow (value_at s.registers r).tag) → value_at t.registers r ≡ value_at s.registers r
low_register view s t r h low = low_value view (value_at s.registers r) (value_at t.registers r) (h.each r) low
