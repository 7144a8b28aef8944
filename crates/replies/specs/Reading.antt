-- The contents of a command's files, as read. Source: own.
use Rattle.std.specs.Prelude.{ℕ, ◌≡◌, ◌≤◌, List, length, ⊤, Bool, true, false, Option, Some, None}
use Rattle.text_base.specs.Outside.{Held, Blamed, Gives, MayExceed, IsBlamed}
use Rattle.commands.specs.Commands.{Work, Run, Simulate, Command, On, Demo, About, Role, Firmware, Second, Assumptions, name_of, IsFileOf}

-- nothing was read of a file yet, all its bytes were, or it is longer than its cap
pub data Seen : Type 0 where
  Unread : Seen
  Whole : (bytes : List ℕ) → Seen
  Long : Seen

-- the contents of a command's files, by role
pub record Contents : Type 0 where
  pub firmware : Seen
  pub second : Seen
  pub assumptions : Seen

abbrev pub seen_of : Contents → Role → Seen
seen_of seen Firmware = seen.firmware
seen_of seen Second = seen.second
seen_of seen Assumptions = seen.assumptions

-- ---- caps

-- the most bytes of a firmware or a schedule (16 MiB), of a certificate (192 MiB), of an assumption file and of peripherals (1 MiB)
abbrev pub firmware_cap : ℕ
firmware_cap = 16777216

abbrev pub schedule_cap : ℕ
schedule_cap = 16777216

abbrev pub certificate_cap : ℕ
certificate_cap = 201326592

abbrev pub assumption_cap : ℕ
assumption_cap = 1048576

abbrev pub peripherals_cap : ℕ
peripherals_cap = 1048576

abbrev pub file_cap : Work → ℕ
file_cap (Run schedule) = schedule_cap
file_cap (Simulate peripherals steps) = peripherals_cap
file_cap work = certificate_cap

abbrev pub second_cap : Command → ℕ
second_cap (On request) = file_cap request.work
second_cap (Demo size) = certificate_cap
second_cap (About topic) = certificate_cap

abbrev pub cap_of : Command → Role → ℕ
cap_of command Firmware = firmware_cap
cap_of command Second = second_cap command
cap_of command Assumptions = assumption_cap

-- ---- what files tell

-- the contents agree with what the files object reports
abbrev pub Agrees : Held → ℕ → Seen → Type 0
Agrees held cap Unread = ⊤
Agrees held cap (Whole bytes) = Gives held bytes × (length bytes ≤ cap)
Agrees held cap Long = MayExceed held cap

abbrev pub AgreesUnder : (List ℕ → Held) → ℕ → Option (List ℕ) → Seen → Type 0
AgreesUnder holds cap None seen = ⊤
AgreesUnder holds cap (Some name) seen = Agrees (holds name) cap seen

-- the contents of each file of a command agree with what the files object reports
abbrev pub AllAgree : Command → (List ℕ → Held) → Contents → Type 0
AllAgree command holds seen = (role : Role) → AgreesUnder holds (cap_of command role) (name_of command role) (seen_of seen role)

-- ---- a read that failed

-- the order of reading: firmware, second file, assumptions
abbrev pub is_before : Role → Role → Bool
is_before Firmware Firmware = false
is_before Firmware role = true
is_before Second Assumptions = true
is_before Second role = false
is_before Assumptions role = false

-- if the command has this file, some bytes within the cap agree with what is reported
abbrev pub WasRead : (List ℕ → Held) → ℕ → Option (List ℕ) → Type 0
WasRead holds cap None = ⊤
WasRead holds cap (Some name) = (bytes : List ℕ) × Agrees (holds name) cap (Whole bytes)

-- The file of this name is the first of the command's that could not be read: those before it were, and the files object names it.
pub record IsFirstFailed (command : Command) (holds : List ℕ → Held) (blamed : Blamed) (name : List ℕ) : Type 0 where
  pub role : Role
  pub is : IsFileOf command role name
  pub blames : IsBlamed blamed name
  pub earlier : (r : Role) → is_before r role ≡ true → WasRead holds (cap_of command r) (name_of command r)
