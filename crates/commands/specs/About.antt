-- What the program says of itself. Source: own.
use Rattle.std.specs.Prelude.{ℕ, List, [], ◌∷◌, ◌++◌, codes}
use Rattle.commands.specs.declared.command.Topic.{Topic}
use Rattle.commands.specs.declared.command.Topic.TheVariants.{Help, Version}

-- lines as they are printed
abbrev pub lined : List (List ℕ) → List ℕ
lined [] = []
lined (line ∷ lines) = line ++ 10 ∷ lined lines

abbrev pub version_lines : List (List ℕ)
version_lines = codes "stackbound 0.10.0" ∷ []

abbrev pub help_lines : List (List ℕ)
help_lines =
    codes "usage: stackbound COMMAND WORD .."
    ∷ codes ""
    ∷ codes "  analyse FW                 writes the certificate with the smallest bound, or the reason why there is none"
    ∷ codes "  check FW CERT              validates a certificate and prints its bound"
    ∷ codes "  report FW CERT             prints the needs of each function"
    ∷ codes "  explain FW CERT            prints the deepest chain of calls and interrupts"
    ∷ codes "  premises FW CERT           lists the places where a step may be flagged"
    ∷ codes "  clear FW CERT              says whether there is no such place"
    ∷ codes "  attain FW CERT             looks for a run that is as deep as the bound"
    ∷ codes "  run FW SCHEDULE            replays a schedule"
    ∷ codes "  simulate FW PERIPHERALS    runs the firmware with timers and receivers"
    ∷ codes "  demo N                     analyses a firmware made from a number"
    ∷ codes ""
    ∷ codes "FW is an ELF file or a raw image of a chip's flash. Options: --assume LIST, --device NAME; --steps N (analyse, simulate);"
    ∷ codes "--trials N (attain); --json (report); --why (premises). Formats and statuses: docs/FORMATS.md. In a build:"
    ∷ codes "tools/stackcheck, docs/BUILDS.md."
    ∷ []

-- the text on a topic
abbrev pub about_text : Topic → List ℕ
about_text Help = lined help_lines
about_text Version = lined version_lines
