-- Appended texts, and prefixes of them.
use Rattle.std.proofs.Common.{◌≡◌, inl, inr, ◌++◌, ℕ, List, [], ◌∷◌, if◌then◌else◌, refl, ap, sym, ◌∙◌, subst, append_assoc, append-nil}
use Rattle.std.proofs.lemmas.List.{append_cancel_left}
use Rattle.text_base.specs.Lines.{line}
use Rattle.text_base.specs.Writing.{Written, with_word, with_words, with_end, WritesLines}
use Rattle.line_reading.specs.Appending.{WroteWords, LineIsAppended, LineIsPart, PartOfMore, PartBehind}

pub line_is_appended : WritesLines → LineIsAppended
line_is_appended law old new ws none e = e ∙ law old ws none

-- what was written is a prefix of what will be
record Between (old new last : List ℕ) : Type 0 where
  pub done : List ℕ
  pub missing : List ℕ
  pub begins : new ≡ old ++ done
  pub ends : last ≡ new ++ missing

pushed : Written → List ℕ → List ℕ
pushed w text = if w.begun then 32 ∷ text else text

more_words : (w : Written) (ws : List (List ℕ)) → Between w.bytes w.bytes (with_end (with_words w ws)).bytes
unfolding pushed
more_words w [] = record { done = []; missing = 10 ∷ []; begins = sym (append-nil w.bytes); ends = refl }
more_words w (t ∷ ts) =
    let more = more_words (with_word w t) ts in
    record { done = []; missing = pushed w t ++ more.missing; begins = sym (append-nil w.bytes); ends = more.ends ∙ append_assoc w.bytes (pushed w t) more.missing }

at_start : (w v : Written) (ws : List (List ℕ)) → v ≡ w → Between w.bytes v.bytes (with_end (with_words w ws)).bytes
at_start w v ws e = let P : Written → Type 0 = λ x. Between w.bytes x.bytes (with_end (with_words w ws)).bytes in subst P (sym e) (more_words w ws)

wrote : (w v : Written) (ws : List (List ℕ)) → WroteWords w ws v → Between w.bytes v.bytes (with_end (with_words w ws)).bytes
unfolding pushed
wrote w v [] h = at_start w v [] h
wrote w v (t ∷ ts) (inl e) = at_start w v (t ∷ ts) e
wrote w v (t ∷ ts) (inr h) =
    let more = wrote (with_word w t) v ts h in
    record { done = pushed w t ++ more.done; missing = more.missing; begins = more.begins ∙ append_assoc w.bytes (pushed w t) more.done; ends = more.ends }

pub line_is_part : WritesLines → LineIsPart
line_is_part law old new ws none h =
    let b = wrote old new ws h in
    let whole = sym (ap (λ (w : Written). w.bytes) (law old ws none)) ∙ b.ends ∙ ap (λ (xs : List ℕ). xs ++ b.missing) b.begins ∙ append_assoc old.bytes b.done b.missing in
    record { done = b.done; missing = b.missing; parts = append_cancel_left old.bytes (line ws) (b.done ++ b.missing) whole; bytes = b.begins }

pub part_of_more : PartOfMore
part_of_more before text more after h =
    record { done = h.done; missing = h.missing ++ more; parts = ap (λ (xs : List ℕ). xs ++ more) h.parts ∙ append_assoc h.done h.missing more; bytes = h.bytes }

pub part_behind : PartBehind
part_behind before text more after h =
    record { done = text ++ h.done; missing = h.missing; parts = ap (λ (xs : List ℕ). text ++ xs) h.parts ∙ sym (append_assoc text h.done h.missing); bytes = h.bytes ∙ append_assoc before text h.done }
