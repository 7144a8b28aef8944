-- The cached form of a word is its decoded form.
use Rattle.std.proofs.Common.{◌≡◌, ℕ, true, List, length, nat_lt, slice_index_or, refl, sym, ap, ◌∙◌}
use Rattle.std.proofs.lemmas.Option.{slice_get_read}
use Rattle.std.specs.Prelude.{slice_get}
use Rattle.basics.specs.Numbers.{less_from_test}
use Rattle.avr_model.specs.Sites.{instruction_at}
use Rattle.avr_model.specs.Devices.{Image}
use Rattle.avr_decode.specs.declared.reading.Reading.{Reading}
use Rattle.avr_decode.specs.Reading.{AreReadings}

pub said : (image : Image) (readings kept : List Reading) (a n : ℕ) (r : Reading) → AreReadings image readings → kept ≡ readings → n ≡ a
    → true ≡ nat_lt n (length kept) → r ≡ slice_index_or kept n r → r.instruction ≡ instruction_at image a
said image readings kept a n r are same place inside is =
    ap (λ (x : Reading). x.instruction) (are n r (ap (λ rs. slice_get rs n) (sym same) ∙ slice_get_read kept (length kept) n r refl (less_from_test n (length kept) (sym inside)) is))
    ∙ ap (instruction_at image) place
