-- Registers that are settled one by one.
use Rattle.std.proofs.Common.{◌≡◌, ◌∙◌, refl, sym, ap, ℕ, zero, suc, ◌<◌, ◌≤◌, Bool, true, false, if◌then◌else◌, List, [], ◌∷◌, length, slice_index_or, slice_set, Option, Some, None, arith}
use Rattle.abs_state.specs.declared.values.AbsByte.{AbsByte}
use Rattle.abs_state.specs.Frames.{with_value}
use Rattle.abs_state.specs.declared.state.AbsState.{AbsState}
use Rattle.abs_state.specs.PairBytes.{left_in}
use Rattle.local_rules.specs.HighBytes.{SpView}
use Rattle.local_rules.specs.Settling.{settled_value, settled_values, settled_state, with_registers}
use Rattle.local_reads.specs.Settling.{values_in}

-- the registers from r on settled
abbrev pub settled_from : ℕ → ℕ → List AbsByte → Option (List AbsByte)
settled_from offset zero vs = settled_values offset vs
settled_from offset (suc r) [] = Some []
settled_from offset (suc r) (v ∷ vs) = with_value (Some v) (settled_from offset r vs)

pub from_start : (offset : ℕ) (vs : List AbsByte) → settled_from offset 0 vs ≡ settled_values offset vs
from_start offset vs = refl

pub from_end : (offset r : ℕ) (vs : List AbsByte) → length vs ≤ r → settled_from offset r vs ≡ Some vs
unfolding settled_values
from_end offset zero [] le = refl
from_end offset (suc r) [] le = refl
from_end offset zero (v ∷ vs) le = absurd (omega (arith, le))
from_end offset (suc r) (v ∷ vs) le = ap (with_value (Some v)) (from_end offset r vs (omega (arith, le)))

one_behind : (offset r : ℕ) (vs : List AbsByte) (d v : AbsByte) → r < length vs → settled_value offset (slice_index_or vs r d) ≡ Some v
    → settled_from offset (suc r) (slice_set vs r v) ≡ settled_from offset r vs
unfolding settled_values
one_behind offset r [] d v lt e = absurd (omega (arith, lt))
one_behind offset zero (w ∷ vs) d v lt e = ap (λ o. with_value o (settled_values offset vs)) (sym e)
one_behind offset (suc r) (w ∷ vs) d v lt e = ap (with_value (Some w)) (one_behind offset r vs d v (omega (arith, lt)) e)

pub one_more : (offset r next : ℕ) (vs : List AbsByte) (d v : AbsByte) → next ≡ suc r → r < length vs → settled_value offset (slice_index_or vs r d) ≡ Some v
    → settled_from offset next (slice_set vs r v) ≡ settled_from offset r vs
one_more offset r next vs d v is lt e = ap (λ (n : ℕ). settled_from offset n (slice_set vs r v)) is ∙ one_behind offset r vs d v lt e

pub none_left : (offset r : ℕ) (vs : List AbsByte) (d : AbsByte) → r < length vs → settled_value offset (slice_index_or vs r d) ≡ None → settled_from offset r vs ≡ None
unfolding settled_values
none_left offset r [] d lt e = absurd (omega (arith, lt))
none_left offset zero (w ∷ vs) d lt e = ap (λ o. with_value o (settled_values offset vs)) e
none_left offset (suc r) (w ∷ vs) d lt e = ap (with_value (Some w)) (none_left offset r vs d (omega (arith, lt)) e)

-- ---- the whole state

pub high_stays : (view : SpView) (s : AbsState) → view.high ≡ true → settled_state view s ≡ Some s
unfolding settled_state
high_stays view s is = ap (λ (b : Bool). if b then Some s else with_registers s (settled_values view.offset s.registers)) is

left_registers : (b : Bool) (s : AbsState) (vs : List AbsByte) → left_in b (record s { registers = vs }) ≡ with_registers s (values_in b vs)
left_registers true s vs = refl
left_registers false s vs = refl

pub low_settles : (view : SpView) (s : AbsState) (b : Bool) (vs : List AbsByte) → view.high ≡ false → values_in b vs ≡ settled_values view.offset s.registers
    → left_in b (record s { registers = vs }) ≡ settled_state view s
unfolding settled_state
low_settles view s b vs is e =
    left_registers b s vs ∙ ap (with_registers s) e
    ∙ sym (ap (λ (c : Bool). if c then Some s else with_registers s (settled_values view.offset s.registers)) is)
