-- One more line of a list, and the answer of a call.
use Rattle.std.proofs.Common.{◌≡◌, ◌≢◌, List, [], ◌∷◌, refl, sym, ◌∙◌, ap, Result, Ok, Err}
use Rattle.std.specs.Result.{IsErr, IsErrAnd}
use Rattle.std.proofs.lemmas.Bool.{false≢true}
use Rattle.avr_model.specs.declared.device.Device.{Device}
use Rattle.avr_model.specs.declared.assumption.Entry.{Entry}
use Rattle.text_base.specs.Answers.{Answers}
use Rattle.text_base.specs.Lines.{TextLine}
use Rattle.line_reading.specs.Reading.{then_at}
use Rattle.assumption_files.specs.declared.fault.AssumeText.{AssumeText}
use Rattle.assumption_files.specs.Reading.{with_line, entries_from}

next_of : (device : Device) (es : List Entry) (rest : List TextLine) (l : TextLine) (ls : List TextLine) → rest ≡ l ∷ ls → entries_from device es rest ≡ then_at (with_line device es l) (λ more. entries_from device more ls)
unfolding entries_from
next_of device es rest l ls e = rw e refl

-- a line that is read
pub lines_more : (device : Device) (es fs : List Entry) (rest : List TextLine) (l : TextLine) (ls : List TextLine) (all : Result (List Entry) AssumeText) → rest ≡ l ∷ ls → with_line device es l ≡ Ok fs
    → entries_from device es rest ≡ all → entries_from device fs ls ≡ all
lines_more device es fs rest l ls all e read is = sym (next_of device es rest l ls e ∙ ap (λ d. then_at d (λ more. entries_from device more ls)) read) ∙ is

-- a line that is refused
pub line_refused : (device : Device) (es : List Entry) (rest : List TextLine) (l : TextLine) (ls : List TextLine) (all : Result (List Entry) AssumeText) (f : AssumeText) → rest ≡ l ∷ ls → with_line device es l ≡ Err f
    → entries_from device es rest ≡ all → all ≡ Err f
line_refused device es rest l ls all f e read is = sym is ∙ next_of device es rest l ls e ∙ ap (λ d. then_at d (λ more. entries_from device more ls)) read

-- no line is left
pub lines_end : (device : Device) (es : List Entry) (rest : List TextLine) (all : Result (List Entry) AssumeText) → rest ≡ [] → entries_from device es rest ≡ all → all ≡ Ok es
unfolding entries_from
lines_end device es rest all e is = sym is ∙ rw e refl

-- a fault that is passed on
pub passed_on : {X Y : Type 0} (view : X → Y) (free f : AssumeText) (r : Result X AssumeText) (due : Result Y AssumeText) → IsErrAnd r (λ e. e ≡ f) → IsErr r → (f ≢ free → due ≡ Err f) → Answers view free r due
passed_on view free f (Ok x) due gives err told = absurd (false≢true err)
passed_on view free f (Err e) due gives err told = λ other. rw gives (told (λ same. other (gives ∙ same)))
