-- The number of an exit status. Source: docs/FORMATS.md.
use Rattle.std.specs.Prelude.{◌≡◌, ℕ}
use Rattle.replies.specs.declared.status.Status.{Status}
use Rattle.replies.specs.declared.status.Status.TheVariants as exit

abbrev pub code : Status → ℕ
code exit.Done = 0
code exit.Rejected = 1
code exit.Usage = 2
code exit.ReadFault = 3
code exit.WriteFault = 4
code exit.TooLong = 5
code exit.BadFirmware = 6
code exit.BadAssumptions = 7
code exit.BadCertificate = 8
code exit.BadSchedule = 9
code exit.NoCertificate = 10
code exit.Spent = 11
code exit.OutOfMemory = 12
code exit.Unclear = 13
code exit.BadPeripherals = 14

-- no two statuses have one number
abbrev pub CodesAreApart : Type 0
CodesAreApart = (s t : Status) → code s ≡ code t → s ≡ t
