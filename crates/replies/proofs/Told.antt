-- A printed line.
use Rattle.std.proofs.Common.{◌≡◌, ℕ, List, [], Option, Some, None, false, sym, ap, ◌∙◌}
use Rattle.std.specs.Option.{option_map}
use Rattle.text_base.specs.Writing.{Written, with_words, with_end}
use Rattle.replies.specs.Texts.{told, AreWritten}

-- the words written in a line are those of its text
pub told_written : (words : Option (List (List ℕ))) (before after : Written) (bytes : List ℕ) → before ≡ record { bytes = []; begun = false } → AreWritten before after words → bytes ≡ (with_end after).bytes
    → option_map told words ≡ Some bytes
told_written None before after bytes new written is = absurd written
told_written (Some ws) before after bytes new written is =
    ap Some (sym (is ∙ ap (λ (w : Written). (with_end w).bytes) (written ∙ ap (λ (w : Written). with_words w ws) new)))
