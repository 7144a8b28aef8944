-- Each status has a number of its own: its index in the list of all.
use Rattle.std.proofs.Common.{◌≡◌, List, [], ◌∷◌, Option, Some, slice_get, refl, sym, ap, ◌∙◌}
use Rattle.replies.specs.declared.status.Status.{Status}
use Rattle.replies.specs.declared.status.Status.TheVariants as exit
use Rattle.replies.specs.Status.{code, CodesAreApart}

abbrev statuses : List Status
statuses =
    exit.Done ∷ exit.Rejected ∷ exit.Usage ∷ exit.ReadFault ∷ exit.WriteFault ∷ exit.TooLong ∷ exit.BadFirmware ∷ exit.BadAssumptions ∷ exit.BadCertificate
    ∷ exit.BadSchedule ∷ exit.NoCertificate ∷ exit.Spent ∷ exit.OutOfMemory ∷ exit.Unclear ∷ exit.BadPeripherals ∷ []

there : (s : Status) → slice_get statuses (code s) ≡ Some s
there exit.Done = refl
there exit.Rejected = refl
there exit.Usage = refl
there exit.ReadFault = refl
there exit.WriteFault = refl
there exit.TooLong = refl
there exit.BadFirmware = refl
there exit.BadAssumptions = refl
there exit.BadCertificate = refl
there exit.BadSchedule = refl
there exit.NoCertificate = refl
there exit.Spent = refl
there exit.OutOfMemory = refl
there exit.Unclear = refl
there exit.BadPeripherals = refl

pub codes_apart : CodesAreApart
codes_apart s t e = let both : ◌≡◌ {A = Option Status} (Some s) (Some t) = sym (there s) ∙ ap (slice_get statuses) e ∙ there t in cc
