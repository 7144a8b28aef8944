-- Decoded forms of words, one after the other.
use Rattle.std.proofs.Common.{◌≡◌, ◌⊎◌, inl, inr, ⊎_elim, ℕ, suc, zero, Bool, Option, List, [], ◌∷◌, ◌++◌, length, Some, refl, sym, ap, subst, ◌∙◌}
use Rattle.std.specs.Prelude.{slice_get}
use Rattle.avr_model.specs.declared.instruction.Instr.{Instr}
use Rattle.avr_model.specs.Sites.{instruction_at, is_fixed, is_scratch}
use Rattle.avr_model.specs.Devices.{Image}
use Rattle.avr_decode.specs.declared.reading.Reading.{Reading}
use Rattle.avr_decode.specs.Reading.{reading_at, AreReadings}

pub none_read : (image : Image) (rs : List Reading) → rs ≡ [] → AreReadings image rs
none_read image [] e = λ a r found. absurd cc
none_read image (x ∷ rs) e = absurd cc

there_or_last : (rs : List Reading) (x : Reading) (a : ℕ) (r : Reading) → slice_get (rs ++ x ∷ []) a ≡ Some r → (slice_get rs a ≡ Some r) ⊎ ((a ≡ length rs) × (r ≡ x))
there_or_last [] x zero r e = inr (refl, cc)
there_or_last [] x (suc a) r e = absurd cc
there_or_last (y ∷ rs) x zero r e = inl e
there_or_last (y ∷ rs) x (suc a) r e =
    ⊎_elim (λ (there : slice_get rs a ≡ Some r). inl there) (λ (last : (a ≡ length rs) × (r ≡ x)). inr (ap suc last.0, last.1)) (there_or_last rs x a r e)

pub one_more_read : (image : Image) (rs new : List Reading) (a : ℕ) (instr : Option Instr) (fixed scratch : Bool) → AreReadings image rs → length rs ≡ a
    → new ≡ rs ++ record { instruction = instr; is_fixed = fixed; is_scratch = scratch } ∷ [] → instr ≡ instruction_at image a → fixed ≡ is_fixed image a → scratch ≡ is_scratch image a
    → AreReadings image new
one_more_read image rs new a instr fixed scratch are count grown is_instr is_fix is_scr = subst (AreReadings image) (sym grown) (λ k r found.
    ⊎_elim (λ (there : slice_get rs k ≡ Some r). are k r there)
    (λ (last : (k ≡ length rs) × (r ≡ x)). last.1 ∙ is ∙ ap (reading_at image) (sym (last.0 ∙ count)))
    (there_or_last rs x k r found))
  where
    x : Reading
    x = record { instruction = instr; is_fixed = fixed; is_scratch = scratch }

    is : x ≡ reading_at image a
    is = cc
