-- The commands, their files, and the words of a command. Source: own.
use Rattle.std.specs.Prelude.{ℕ, ◌≡◌, ◌==◌, ◌&&◌, ◌||◌, not, nat_le, Bool, true, false, List, [], ◌∷◌, Option, Some, None, Result, Ok, Err, is_none, is_some, codes, if◌then◌else◌}
use Rattle.std.specs.Option.{option_map}
use Rattle.std.specs.Str.{bytes_eq}
use Rattle.avr_model.specs.declared.device.Device.{Device}
use Rattle.avr_model.specs.Devices.{M328}
use Rattle.avr_model.specs.Names.{device_named}
use Rattle.text_base.specs.declared.digits.DigitFault.{DigitFault}
use Rattle.text_base.specs.Digits.{dec_answer}
use Rattle.commands.specs.declared.command.Topic.{Topic}
use Rattle.commands.specs.declared.command.Topic.TheVariants.{Help, Version}
use Rattle.commands.specs.declared.line.Permitted.{Permitted}
use Rattle.commands.specs.Options.{Valued}
use Rattle.commands.specs.Options as option

-- The work of a request, with the name of its second file and its own options: judge a certificate; write the least one, within a number
-- of rounds if given; replay a schedule; judge a certificate and report it, or the origin of its bound, or whether no step can be flagged,
-- or where a step may be, possibly with causes; judge it and write it with the schedule that trials find; simulate peripherals for a number
-- of choices.
pub data Work : Type 0 where
  Check : (certificate : List ℕ) → Work
  Analyse : (steps : Option ℕ) → Work
  Run : (schedule : List ℕ) → Work
  Report : (certificate : List ℕ) (json : Bool) → Work
  Explain : (certificate : List ℕ) → Work
  Clear : (certificate : List ℕ) → Work
  Premises : (certificate : List ℕ) (why : Bool) → Work
  Attain : (certificate : List ℕ) (trials : ℕ) → Work
  Simulate : (peripherals : List ℕ) (steps : ℕ) → Work

-- work on a firmware for a device, with the names of the firmware and of the assumption file
pub record Request : Type 0 where
  pub device : Device
  pub firmware : List ℕ
  pub assume : Option (List ℕ)
  pub work : Work

-- A command: a request, to measure the analysis on a generated image, or to say what the program is.
pub data Command : Type 0 where
  On : (request : Request) → Command
  Demo : (size : ℕ) → Command
  About : (topic : Topic) → Command

-- the device of the command; one without a firmware has the ATmega328P
abbrev pub device_for : Command → Device
device_for (On request) = request.device
device_for (Demo size) = M328
device_for (About topic) = M328

-- ---- files

-- the role of a file, in the order in which files are read
pub data Role : Type 0 where
  Firmware : Role
  Second : Role
  Assumptions : Role

-- the name of the second file: certificate, schedule or peripherals
abbrev pub file_of : Work → Option (List ℕ)
file_of (Check certificate) = Some certificate
file_of (Analyse steps) = None
file_of (Run schedule) = Some schedule
file_of (Report certificate json) = Some certificate
file_of (Explain certificate) = Some certificate
file_of (Clear certificate) = Some certificate
file_of (Premises certificate why) = Some certificate
file_of (Attain certificate trials) = Some certificate
file_of (Simulate peripherals steps) = Some peripherals

-- the name of the assumption file, which `clear` does not have
abbrev pub assume_of : Work → Option (List ℕ) → Option (List ℕ)
assume_of (Clear certificate) assume = None
assume_of work assume = assume

-- the name of a command's file of this role, if it has one
abbrev pub name_of : Command → Role → Option (List ℕ)
name_of (On request) Firmware = Some request.firmware
name_of (On request) Second = file_of request.work
name_of (On request) Assumptions = assume_of request.work request.assume
name_of (Demo size) role = None
name_of (About topic) role = None

-- this is the name of the command's file of this role
abbrev pub IsFileOf : Command → Role → List ℕ → Type 0
IsFileOf command role name = name_of command role ≡ Some name

-- ---- words

-- a word that can be a name or an option's value: it is not empty and does not begin with `-`
abbrev pub is_name : List ℕ → Bool
is_name [] = false
is_name (b ∷ bs) = not (b == 45)

-- The words after the command's name: up to two names in order, options with their values, and an option that still needs its value.
pub record LineSoFar : Type 0 where
  pub first : Option (List ℕ)
  pub second : Option (List ℕ)
  pub assume : Option (List ℕ)
  pub steps : Option (List ℕ)
  pub device : Option (List ℕ)
  pub trials : Option (List ℕ)
  pub json : Bool
  pub why : Bool
  pub waits : Option Valued

abbrev pub empty_line : LineSoFar
empty_line = record { first = None; second = None; assume = None; steps = None; device = None; trials = None; json = false; why = false; waits = None }

-- the value, if there was none before
abbrev pub once : Option (List ℕ) → List ℕ → Option (Option (List ℕ))
once None word = Some (Some word)
once (Some before) word = None

abbrev pub with_assume : LineSoFar → Option (Option (List ℕ)) → Option LineSoFar
with_assume line None = None
with_assume line (Some value) = Some (record line { assume = value; waits = None })

abbrev pub with_steps : LineSoFar → Option (Option (List ℕ)) → Option LineSoFar
with_steps line None = None
with_steps line (Some value) = Some (record line { steps = value; waits = None })

abbrev pub with_device : LineSoFar → Option (Option (List ℕ)) → Option LineSoFar
with_device line None = None
with_device line (Some value) = Some (record line { device = value; waits = None })

abbrev pub with_trials : LineSoFar → Option (Option (List ℕ)) → Option LineSoFar
with_trials line None = None
with_trials line (Some value) = Some (record line { trials = value; waits = None })

-- the value of an option, which may occur once
abbrev pub with_value : Valued → LineSoFar → List ℕ → Option LineSoFar
with_value option.Assume line word = with_assume line (once line.assume word)
with_value option.Steps line word = with_steps line (once line.steps word)
with_value option.Device line word = with_device line (once line.device word)
with_value option.Trials line word = with_trials line (once line.trials word)

-- the next name, if there are at most two
abbrev pub named : Option (List ℕ) → Option (List ℕ) → LineSoFar → List ℕ → Option LineSoFar
named None second line word = Some (record line { first = Some word })
named (Some first) None line word = Some (record line { second = Some word })
named (Some first) (Some second) line word = None

abbrev pub waiting : LineSoFar → Valued → LineSoFar
waiting line option = record line { waits = Some option }

abbrev pub with_json : LineSoFar → Option LineSoFar
with_json line = if line.json then None else Some (record line { json = true })

abbrev pub with_why : LineSoFar → Option LineSoFar
with_why line = if line.why then None else Some (record line { why = true })

-- a word that is no option's value
abbrev pub with_free : LineSoFar → List ℕ → Option LineSoFar
with_free line word =
    if bytes_eq word (codes "--assume") then Some (waiting line option.Assume)
    else (if bytes_eq word (codes "--steps") then Some (waiting line option.Steps)
    else (if bytes_eq word (codes "--device") then Some (waiting line option.Device)
    else (if bytes_eq word (codes "--trials") then Some (waiting line option.Trials)
    else (if bytes_eq word (codes "--json") then with_json line
    else (if bytes_eq word (codes "--why") then with_why line
    else (if is_name word then named line.first line.second line word else None))))))

abbrev pub placed : Option Valued → LineSoFar → List ℕ → Option LineSoFar
placed None line word = with_free line word
placed (Some option) line word = if is_name word then with_value option line word else None

-- one more word
abbrev pub with_word : LineSoFar → List ℕ → Option LineSoFar
with_word line word = placed line.waits line word

-- the line with all words, if each is permitted
abbrev pub then_words : Option LineSoFar → List (List ℕ) → Option LineSoFar
then_words line [] = line
then_words None (word ∷ words) = None
then_words (Some line) (word ∷ words) = then_words (with_word line word) words

-- ---- numbers

-- the number of a canonical decimal, if it is at most `most`
abbrev pub number_of : Result ℕ DigitFault → Option ℕ
number_of (Ok n) = Some n
number_of (Err fault) = None

abbrev pub decimal_in : List ℕ → ℕ → Option ℕ
decimal_in word most = number_of (dec_answer word most)

-- a number of rounds, at most 2^64 - 1, if there is one
abbrev pub steps_in : Option (List ℕ) → Option (Option ℕ)
steps_in None = Some None
steps_in (Some word) = option_map Some (decimal_in word 18446744073709551615)

-- The choices of a simulated run: 200,000 by default, and at most 16,777,216, to which greater numbers are cut.
abbrev pub choices_of : Option ℕ → ℕ
choices_of None = 200000
choices_of (Some n) = if nat_le n 16777216 then n else 16777216

abbrev pub choices_in : Option (List ℕ) → Option ℕ
choices_in word = option_map choices_of (steps_in word)

-- the number of trials: at most 65,536, and 64 by default
abbrev pub trials_in : Option (List ℕ) → Option ℕ
trials_in None = Some 64
trials_in (Some word) = decimal_in word 65536

-- the size of an image, from 1 to 2,000
abbrev pub positive : Option ℕ → Option ℕ
positive None = None
positive (Some n) = if nat_le 1 n then Some n else None

abbrev pub size_in : List ℕ → Option ℕ
size_in word = positive (decimal_in word 2000)

-- ---- devices

-- the device by its name, the ATmega328P by default
abbrev pub device_in : Option (List ℕ) → Option Device
device_in None = Some M328
device_in (Some word) = device_named word

-- ---- commands

-- no options
abbrev pub no_options : Permitted
no_options = record { assume = false; steps = false; device = false; trials = false; json = false; why = false }

-- `--device`
abbrev pub device_option : Permitted
device_option = record no_options { device = true }

-- `--assume` and `--device`
abbrev pub plain_options : Permitted
plain_options = record device_option { assume = true }

-- with one more
abbrev pub steps_options : Permitted
steps_options = record plain_options { steps = true }

abbrev pub trials_options : Permitted
trials_options = record plain_options { trials = true }

abbrev pub json_options : Permitted
json_options = record plain_options { json = true }

abbrev pub why_options : Permitted
why_options = record plain_options { why = true }

-- an option stands only if it is permitted
abbrev pub fits : Bool → Bool → Bool
fits permitted stands = permitted || not stands

-- the line has no options with a number but these
abbrev pub permits_numbers : Permitted → LineSoFar → Bool
permits_numbers options line = fits options.steps (is_some line.steps) && fits options.trials (is_some line.trials)

-- the line has no options without a value but these
abbrev pub permits_marks : Permitted → LineSoFar → Bool
permits_marks options line = fits options.json line.json && fits options.why line.why

-- the line has no options but these
abbrev pub permits : Permitted → LineSoFar → Bool
permits options line =
    fits options.assume (is_some line.assume) && (fits options.device (is_some line.device) && (permits_numbers options line && permits_marks options line))

-- the word is this name, and the line has no options but these
abbrev pub asks : List ℕ → LineSoFar → List ℕ → Permitted → Bool
asks word line name options = bytes_eq word name && permits options line

-- the work of this name with a second file
abbrev pub paired : List ℕ → LineSoFar → List ℕ → Option Work
paired word line second =
    if asks word line (codes "check") plain_options then Some (Check second)
    else (if asks word line (codes "run") plain_options then Some (Run second)
    else (if asks word line (codes "report") json_options then Some (Report second line.json)
    else (if asks word line (codes "explain") plain_options then Some (Explain second)
    else (if asks word line (codes "clear") device_option then Some (Clear second)
    else (if asks word line (codes "premises") why_options then Some (Premises second line.why)
    else (if asks word line (codes "attain") trials_options then option_map (Attain second) (trials_in line.trials)
    else (if asks word line (codes "simulate") steps_options then option_map (Simulate second) (choices_in line.steps)
    else None)))))))

-- the work of this name with a second file, or without
abbrev pub work_in : List ℕ → LineSoFar → Option (List ℕ) → Option Work
work_in word line (Some second) = paired word line second
work_in word line None = if asks word line (codes "analyse") steps_options then option_map Analyse (steps_in line.steps) else None

-- the request of these parts, if there are all
abbrev pub requested : Option Device → Option (List ℕ) → Option (List ℕ) → Option Work → Option Command
requested (Some device) (Some firmware) assume (Some work) = Some (On (record { device = device; firmware = firmware; assume = assume; work = work }))
requested _ _ assume _ = None

-- the measurement of one number alone
abbrev pub measured : Option (List ℕ) → Option (List ℕ) → Option Command
measured (Some count) None = option_map Demo (size_in count)
measured _ _ = None

-- the command of this name
abbrev pub called : List ℕ → LineSoFar → Option Command
called word line =
    if asks word line (codes "demo") no_options
    then measured line.first line.second
    else requested (device_in line.device) line.first line.assume (work_in word line line.second)

-- no option lacks its value
abbrev pub whole : List ℕ → Option LineSoFar → Option Command
whole word None = None
whole word (Some line) = if is_none line.waits then called word line else None

-- The first word is the command's name. `--assume`, `--steps`, `--device` and `--trials` take the next word. Each option occurs at most
-- once, and only if the command has it. The remaining words are the names in order.
abbrev pub command_named : List (List ℕ) → Option Command
command_named [] = None
command_named (word ∷ words) = whole word (then_words (Some empty_line) words)

-- what the words ask of the program itself: one word alone does
abbrev pub topic_of : List ℕ → Option Topic
topic_of word = if bytes_eq word (codes "--help") then Some Help else (if bytes_eq word (codes "--version") then Some Version else None)

abbrev pub topic_in : List (List ℕ) → Option Topic
topic_in [] = None
topic_in (word ∷ []) = topic_of word
topic_in (word ∷ other ∷ words) = None

abbrev pub about_or : Option Topic → Option Command → Option Command
about_or None command = command
about_or (Some topic) command = Some (About topic)

-- The command of a list of words.
abbrev pub command_of : List (List ℕ) → Option Command
command_of words = about_or (topic_in words) (command_named words)
