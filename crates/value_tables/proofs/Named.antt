-- Registers whose tags name registers of the frame's entry, with one changed.
use Rattle.std.proofs.Common.{◌≡◌, sym, subst, ℕ, ◌<◌, ◌≢◌, List, length, slice_set, inl, inr, arith}
use Rattle.std.proofs.lemmas.Bool.{cases_eq}
use Rattle.std.proofs.lemmas.Grind.{elements}
use Rattle.abs_state.specs.declared.values.AbsByte.{AbsByte}
use Rattle.abs_state.specs.Values.{value_at}
use Rattle.abs_state.specs.Formed.{NamesRegister}

abbrev pub AllName : List AbsByte → Type 0
AllName vs = (r : ℕ) → r < 34 → NamesRegister (value_at vs r).tag

value_at-set_same : (vs : List AbsByte) (n : ℕ) (v : AbsByte) → n < length vs → value_at (slice_set vs n v) n ≡ v
value_at-set_same vs n v h = grind (arith, elements)

value_at-set_other : (vs : List AbsByte) (n r : ℕ) (v : AbsByte) → r ≢ n → value_at (slice_set vs n v) r ≡ value_at vs r
value_at-set_other vs n r v h = grind (arith, elements)

pub set_names : (vs : List AbsByte) (n : ℕ) (v : AbsByte) → n < length vs → NamesRegister v.tag → AllName vs → AllName (slice_set vs n v)
set_names vs n v h names all r lt = elim (cases_eq r n) [
  | inl same ↦
      let here : value_at (slice_set vs n v) r ≡ v = subst (λ (k : ℕ). value_at (slice_set vs n v) k ≡ v) (sym same) (value_at-set_same vs n v h) in
      subst (λ (w : AbsByte). NamesRegister w.tag) (sym here) names
  | inr other ↦ subst (λ (w : AbsByte). NamesRegister w.tag) (sym (value_at-set_other vs n r v other)) (all r lt)
]
