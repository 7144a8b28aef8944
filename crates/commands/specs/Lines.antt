-- The program's command line as `clap` has it, and the words that are refused before. Source: own.
use Rattle.std.specs.Prelude.{◌≡◌, ◌⊎◌, ◌&&◌, ◌||◌, not, Bool, true, false, List, [], ◌∷◌, Option, Some, None, codes}
use Rattle.std.specs.Borrow.{Bor}
use Rattle.std.specs.Str.{bytes_eq}
use Rattle.clap.specs.Words.{App, Rule, Row, Text, first_of, one_of, new_app, new_rule, with_rule, with_subcommand}
use Rattle.clap.specs.Simple.{new_shape}
use Rattle.clap.specs.declared.builder.action.ArgAction.TheVariants.{SetTrue}
use Rattle.commands.specs.Commands.{LineSoFar, is_name}
use Rattle.commands.specs.declared.syntax.ArgumentKind.{ArgumentKind}
use Rattle.commands.specs.declared.syntax.ArgumentKind.TheVariants.{Name, Value, Flag}

-- ---- what clap knows

-- a required name
abbrev pub name_rule : Text → Rule
name_rule id = record (new_rule id) { required = true }

-- an option that takes the next word
abbrev pub value_rule : Text → Rule
value_rule id = record (new_rule id) { long = Some id }

-- an option without a value
abbrev pub flag_rule : Text → Rule
flag_rule id = record (new_rule id) { long = Some id; action = Some SetTrue }

-- the options of a command on a firmware: an assumption file, and the device
abbrev pub on_device : App → App
on_device app = with_rule (with_rule app (value_rule (codes "assume"))) (value_rule (codes "device"))

-- a firmware and a second file
abbrev pub pair_app : Text → App
pair_app name = with_rule (with_rule (new_app name) (name_rule (codes "first"))) (name_rule (codes "second"))

-- a firmware and a second file, with the options of a firmware
abbrev pub judging_app : Text → App
judging_app name = on_device (pair_app name)

abbrev pub check_app : App
check_app = judging_app (codes "check")

abbrev pub run_app : App
run_app = judging_app (codes "run")

-- with an option without a value
abbrev pub judging_flagged_app : Text → Text → App
judging_flagged_app name id = with_rule (judging_app name) (flag_rule id)

abbrev pub report_app : App
report_app = judging_flagged_app (codes "report") (codes "json")

abbrev pub explain_app : App
explain_app = judging_app (codes "explain")

-- without an assumption file
abbrev pub clear_app : App
clear_app = with_rule (pair_app (codes "clear")) (value_rule (codes "device"))

abbrev pub premises_app : App
premises_app = judging_flagged_app (codes "premises") (codes "why")

abbrev pub analyse_app : App
analyse_app = with_rule (on_device (with_rule (new_app (codes "analyse")) (name_rule (codes "first")))) (value_rule (codes "steps"))

-- with an option that takes the next word
abbrev pub judging_with_app : Text → Text → App
judging_with_app name id = with_rule (judging_app name) (value_rule id)

abbrev pub attain_app : App
attain_app = judging_with_app (codes "attain") (codes "trials")

abbrev pub simulate_app : App
simulate_app = judging_with_app (codes "simulate") (codes "steps")

abbrev pub demo_app : App
demo_app = with_rule (new_app (codes "demo")) (name_rule (codes "first"))

-- no help and no version
abbrev pub bare_app : App
bare_app = record {
  top = record (new_shape (codes "stackbound")) {
    no_binary_name = true;
    disable_help_flag = true;
    disable_help_subcommand = true;
    disable_version_flag = true;
    subcommand_required = true;
  };
  subs = [];
}

-- ---- the same, made of a table

-- the rule of an argument by its kind
abbrev pub rule_by : ArgumentKind → Text → Rule
rule_by Name id = name_rule id
rule_by Value id = value_rule id
rule_by Flag id = flag_rule id

-- the command with these arguments
abbrev pub with_rules : App → List (Bor Text × ArgumentKind) → App
with_rules app [] = app
with_rules app (a ∷ rest) = with_rules (with_rule app (rule_by a.1 a.0.now)) rest

-- the program with these commands, each with its arguments
abbrev pub with_commands : App → List (Bor Text × Bor (List (Bor Text × ArgumentKind))) → App
with_commands app [] = app
with_commands app (c ∷ rest) = with_commands (with_subcommand app (with_rules (new_app c.0.now) c.1.now).top) rest

-- an option of this name
abbrev pub is_option_named : Text → Bor Text × ArgumentKind → Bool
is_option_named name (id, Name) = false
is_option_named name (id, Value) = bytes_eq name id.now
is_option_named name (id, Flag) = bytes_eq name id.now

-- ---- the whole

-- the program with its commands
abbrev pub line_app : App
line_app =
    with_subcommand (with_subcommand (with_subcommand (with_subcommand (with_subcommand (with_subcommand (with_subcommand (with_subcommand (with_subcommand (with_subcommand bare_app check_app.top) analyse_app.top) run_app.top) report_app.top) explain_app.top) clear_app.top) premises_app.top) attain_app.top) simulate_app.top) demo_app.top

-- ---- what is refused before

abbrev pub is_option : Text → Bool
is_option word =
    bytes_eq word (codes "--assume")
    || (bytes_eq word (codes "--steps") || (bytes_eq word (codes "--device") || (bytes_eq word (codes "--trials") || (bytes_eq word (codes "--json") || bytes_eq word (codes "--why")))))

-- an empty word, or one that begins with `-` and is no option
abbrev pub is_refused : Text → Bool
is_refused word = not (is_name word) && not (is_option word)

-- ---- what is read from what clap found

-- the text of an option that takes none: `false` where it wasn't used
abbrev pub TellsMark : Bool → Option Text → Type 0
TellsMark true o = o ≡ Some (codes "true")
TellsMark false o = (o ≡ None) ⊎ (o ≡ Some (codes "false"))

-- what a command's matches say is this line
pub record TellsLine (rows : List Row) (l : LineSoFar) : Type 0 where
  pub first : first_of (codes "first") rows ≡ l.first
  pub second : first_of (codes "second") rows ≡ l.second
  pub assume : first_of (codes "assume") rows ≡ l.assume
  pub steps : first_of (codes "steps") rows ≡ l.steps
  pub device : first_of (codes "device") rows ≡ l.device
  pub trials : first_of (codes "trials") rows ≡ l.trials
  pub json : TellsMark l.json (one_of (codes "json") rows)
  pub why : TellsMark l.why (one_of (codes "why") rows)
  pub waits : l.waits ≡ None
