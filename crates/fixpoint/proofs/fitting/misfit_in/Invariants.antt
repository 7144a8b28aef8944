use Rattle.std.proofs.Common.{◌≡◌, ◌<◌, ℕ, true, Some, slice_get}
use Rattle.avr_model.specs.declared.assumption.Entry.{Entry}
use Rattle.vector_table.specs.Entries.{fits_device}
use Rattle.fixpoint.proofs.fitting.misfit_in.Given as goal

abbrev pub invariant-loop-at : goal.invariant-loop-at
invariant-loop-at l = (i : ℕ) (e : Entry) → slice_get l.entries i ≡ Some e → i < l.at → fits_device l.device e ≡ true
