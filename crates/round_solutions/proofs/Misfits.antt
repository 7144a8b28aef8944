-- Entries that do not fit a device.
use Rattle.std.proofs.Common.{◌≡◌, sym, ◌∙◌, subst, ℕ, ◌<◌, true, List, Some, slice_get}
use Rattle.std.proofs.lemmas.Bool.{false≢true}
use Rattle.std.proofs.lemmas.Option.{slice_get_within, get_or_from_slice_get}
use Rattle.basics.specs.Numbers.{same_if_neither}
use Rattle.avr_model.specs.declared.device.Device.{Device}
use Rattle.avr_model.specs.declared.assumption.Entry.{Entry}
use Rattle.vector_table.specs.Entries.{fits_device}
use Rattle.round_rules.specs.declared.refusal.Refusal.TheVariants as refusal
use Rattle.round_rules.specs.Refusals.{Test, over, faulty, re_entry, recursion, too_deep, refusal_of}
use Rattle.round_rules.specs.Solutions.{AllFit, IsFirstMisfit}

fit_at : (device : Device) (A : List Entry) (at : ℕ) (e : Entry) → AllFit device A → slice_get A at ≡ Some e → fits_device device e ≡ true
fit_at device A at e fit is = subst (λ (x : Entry). fits_device device x ≡ true) (get_or_from_slice_get A at e e is) (fit at e (slice_get_within A at e is))

-- in a list that fits, no entry is a misfit
pub misfit_fits : (device : Device) (A : List Entry) (at : ℕ) → IsFirstMisfit device A at → AllFit device A → ⊥
misfit_fits device A at h fit = false≢true (sym h.misfit ∙ fit_at device A at h.entry fit h.is)

misfit_before : (device : Device) (A : List Entry) (i j : ℕ) → IsFirstMisfit device A i → IsFirstMisfit device A j → i < j → ⊥
misfit_before device A i j g h lt = false≢true (sym g.misfit ∙ h.before i g.entry g.is lt)

pub one_misfit : (device : Device) (A : List Entry) (i j : ℕ) → IsFirstMisfit device A i → IsFirstMisfit device A j → i ≡ j
one_misfit device A i j g h = same_if_neither i j (misfit_before device A i j g h) (misfit_before device A j i h g)

-- no test of the rounds tells of a misfit
pub never_misfit : (at : ℕ) (t : Test) → refusal.Misfit at ≡ refusal_of t → ⊥
never_misfit at (over limit) e = absurd cc
never_misfit at (faulty x) e = absurd cc
never_misfit at (re_entry v word) e = absurd cc
never_misfit at (recursion word) e = absurd cc
never_misfit at (too_deep d) e = absurd cc
