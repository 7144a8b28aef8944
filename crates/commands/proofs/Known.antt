-- What each command's level has, and what it hasn't.
use Rattle.std.proofs.Common.{◌≡◌, ℕ, suc, ◌&&◌, ◌||◌, List, [], ◌∷◌, Bool, true, false, not, nat_lt, refl, ap, sym, subst, codes, Some, is_some}
use Rattle.std.specs.Prelude.{if◌then◌else◌, fold}
use Rattle.std.specs.Str.{bytes_eq}
use Rattle.std.proofs.lemmas.Slice.Eq.{bytes_eq-Decides}
use Rattle.std.proofs.lemmas.Bool.{and_from}
use Rattle.clap.specs.Words.{Shape, Text, Rule, Row, Kinds}
use Rattle.clap.specs.Kinds.{or_else}
use Rattle.clap.specs.declared.error.kind.ErrorKind.TheVariants as fault
use Rattle.clap.specs.Walk.{has_row, arg_by_id, arg_by_index, arg_by_long, reading_by, values_or_missing, next_position, with_default}
use Rattle.clap.specs.Simple.{built, filled, with_index}
use Rattle.clap.specs.Takes.{values_pass, is_given}
use Rattle.clap.proofs.OnLiterals.{clap_on_literals}
use Rattle.commands.specs.Options.{Valued, Assume, Steps, Device, Trials}
use Rattle.commands.specs.declared.line.Permitted.{Permitted}
use Rattle.commands.specs.Commands.{LineSoFar, no_options, device_option, plain_options, steps_options, trials_options, json_options, why_options}
use Rattle.commands.specs.Lines.{name_rule, value_rule, flag_rule, judging_app, analyse_app, report_app, clear_app, premises_app, attain_app, simulate_app, demo_app, line_app, is_refused}
use Rattle.commands.proofs.Levels.{below, IsLevelNamed, named_check, named_analyse, named_run, named_report, named_explain, named_clear, named_premises, named_attain, named_simulate, named_demo}
use Rattle.commands.proofs.Pieces.{Mark, Json, Why, option_name, mark_name}
use Rattle.commands.proofs.Going.{IsPositional, IsOption, IsFlag, IsStrict, AllowsWords, IsWordLevel}
use Rattle.commands.proofs.Shown.{Shows, Tells, tells, tells_default, no_defaults}

-- ---- what each command has

abbrev has_option : Permitted → Valued → Bool
has_option options Assume = options.assume
has_option options Steps = options.steps
has_option options Device = options.device
has_option options Trials = options.trials

abbrev has_mark : Permitted → Mark → Bool
has_mark options Json = options.json
has_mark options Why = options.why

-- a second name or none, and these options
abbrev pub allows : Bool → Permitted → AllowsWords
allows second options = record { second = second; given = has_option options; marked = has_mark options }

abbrev pub judging : AllowsWords
judging = allows true plain_options

abbrev pub reporting : AllowsWords
reporting = allows true json_options

abbrev pub telling : AllowsWords
telling = allows true why_options

abbrev pub analysing : AllowsWords
analysing = allows false steps_options

abbrev pub attains : AllowsWords
attains = allows true trials_options

abbrev pub simulating : AllowsWords
simulating = allows true steps_options

abbrev pub clearing : AllowsWords
clearing = allows true device_option

abbrev pub measuring : AllowsWords
measuring = allows false no_options

-- ---- arguments

no_value : ◌≡◌ {A = Bool} false true → ⊥
no_value e = cc

-- a use fails where there was one, and so does one of an option without its value
used_once : (b again : Bool) → again ≡ false → or_else (if b && not again then fault.ArgumentConflict ∷ [] else []) [] ≡ [] → b ≡ false
used_once true true is e = absurd (cc)
used_once true false is e = absurd (cc)
used_once false again is e = refl

wants_value : ◌≡◌ {A = Kinds} (fault.InvalidValue ∷ []) [] → ⊥
wants_value e = cc

same_text : (t : Text) → bytes_eq t t ≡ true
same_text t = (bytes_eq-Decides t t).1 refl

-- as they are built
abbrev option_rule : Text → Rule
option_rule id = with_index 1 (filled (value_rule id))

abbrev name_at : ℕ → Text → Rule
name_at i id = with_index i (filled (name_rule id))

abbrev mark_rule : Text → Rule
mark_rule id = with_index 1 (filled (flag_rule id))

option_is : (s : Shape) (id : Text) → s.args_override_self ≡ false → arg_by_long s.rules id ≡ Some (option_rule id) → arg_by_id s.rules id ≡ Some (option_rule id) → IsOption s id
unfolding clap_on_literals
option_is s id once long found = record {
  rule = option_rule id;
  found = long;
  usable = record {
    how = reading_by (option_rule id);
    found = found;
    passes = λ word rows h. ap (λ (b : Bool). (not b || s.args_override_self) && values_pass (option_rule id) (word ∷ [])) h;
    adds = λ word rows. refl;
    repeats = λ word rows e. used_once (has_row id rows) s.args_override_self once e;
  };
  takes = refl;
  hungry = λ rows e. wants_value e;
  one = λ word. ap (λ (b : Bool). not (nat_lt (if b then 1 else 0) 1)) (same_text id);
}

name_is : (s : Shape) (i : ℕ) (id : Text) → s.args_override_self ≡ false → arg_by_index s.rules i ≡ Some (name_at i id) → arg_by_id s.rules id ≡ Some (name_at i id) → next_position (name_at i id) i ≡ suc i → IsPositional s i id
unfolding clap_on_literals
name_is s i id once at found next = record {
  rule = name_at i id;
  found = at;
  usable = record {
    how = reading_by (name_at i id);
    found = found;
    passes = λ word rows h. ap (λ (b : Bool). (not b || s.args_override_self) && values_pass (name_at i id) (word ∷ [])) h;
    adds = λ word rows. refl;
    repeats = λ word rows e. used_once (has_row id rows) s.args_override_self once e;
  };
  one = refl;
  single = refl;
  last = refl;
  next = next;
}

mark_is : (s : Shape) (id : Text) → s.args_override_self ≡ false → arg_by_long s.rules id ≡ Some (mark_rule id) → IsFlag s id
unfolding clap_on_literals
mark_is s id once long = record {
  rule = mark_rule id;
  how = reading_by (mark_rule id);
  values = values_or_missing (mark_rule id) [];
  found = long;
  takes = refl;
  passes = λ rows h. ap (λ (b : Bool). (not b || s.args_override_self) && values_pass (mark_rule id) (values_or_missing (mark_rule id) [])) h;
  adds = λ rows. refl;
  repeats = λ rows e. used_once (has_row id rows) s.args_override_self once e;
  told = refl;
}

each_option : (P : Valued → Type 0) → P Assume → P Steps → P Device → P Trials → (v : Valued) → P v
each_option P a s d t Assume = a
each_option P a s d t Steps = s
each_option P a s d t Device = d
each_option P a s d t Trials = t

each_mark : (P : Mark → Type 0) → P Json → P Why → (m : Mark) → P m
each_mark P j w Json = j
each_mark P j w Why = w

-- ---- levels

-- a command's level takes what the command has and nothing else, and its defaults change no text
pub record IsKnown (name : Text) (words : AllowsWords) : Type 0 where
  pub shape : Shape
  pub level : IsWordLevel shape words (codes "first")
  pub strict : IsStrict shape words
  pub named : IsLevelNamed (built line_app) name shape
  pub free : is_refused name ≡ false
  pub ends : (l : LineSoFar) (rows : List Row) → Shows l rows → Tells l (fold with_default rows shape.rules)

judging_has : (n : Text) → IsWordLevel (below (judging_app n)) judging (codes "first")
unfolding clap_on_literals
judging_has n = record {
  first = name_is (below (judging_app n)) 1 (codes "first") refl refl refl refl;
  second = λ e. name_is (below (judging_app n)) 2 (codes "second") refl refl refl refl;
  given = each_option (λ v. judging.given v ≡ true → IsOption (below (judging_app n)) (option_name v)) (λ e. option_is (below (judging_app n)) (option_name Assume) refl refl refl) (λ e. absurd (no_value e)) (λ e. option_is (below (judging_app n)) (option_name Device) refl refl refl) (λ e. absurd (no_value e));
  marked = each_mark (λ m. judging.marked m ≡ true → IsFlag (below (judging_app n)) (mark_name m)) (λ e. absurd (no_value e)) (λ e. absurd (no_value e));
  defaults = refl;
  valid = λ rows f t. and_from (is_given (codes "first") rows) _ f (and_from (is_given (codes "second") rows) _ (t refl) refl);
  same = refl;
  of_second = (refl, refl);
  of_given = Rattle.commands.proofs.Shown.first_apart;
  of_marked = Rattle.commands.proofs.Shown.first_unmarked;
}

judging_only : (n : Text) → IsStrict (below (judging_app n)) judging
unfolding clap_on_literals
judging_only n = record {
  second = refl;
  third = refl;
  given = each_option (λ v. is_some (arg_by_long (below (judging_app n)).rules (option_name v)) ≡ judging.given v) refl refl refl refl;
  marked = each_mark (λ m. is_some (arg_by_long (below (judging_app n)).rules (mark_name m)) ≡ judging.marked m) refl refl;
}

analyse_has : IsWordLevel (below analyse_app) analysing (codes "first")
unfolding clap_on_literals
analyse_has = record {
  first = name_is (below analyse_app) 1 (codes "first") refl refl refl refl;
  second = λ e. absurd (no_value e);
  given = each_option (λ v. analysing.given v ≡ true → IsOption (below analyse_app) (option_name v)) (λ e. option_is (below analyse_app) (option_name Assume) refl refl refl) (λ e. option_is (below analyse_app) (option_name Steps) refl refl refl) (λ e. option_is (below analyse_app) (option_name Device) refl refl refl) (λ e. absurd (no_value e));
  marked = each_mark (λ m. analysing.marked m ≡ true → IsFlag (below analyse_app) (mark_name m)) (λ e. absurd (no_value e)) (λ e. absurd (no_value e));
  defaults = refl;
  valid = λ rows f t. and_from (is_given (codes "first") rows) _ f refl;
  same = refl;
  of_second = (refl, refl);
  of_given = Rattle.commands.proofs.Shown.first_apart;
  of_marked = Rattle.commands.proofs.Shown.first_unmarked;
}

analyse_only : IsStrict (below analyse_app) analysing
unfolding clap_on_literals
analyse_only = record {
  second = refl;
  third = refl;
  given = each_option (λ v. is_some (arg_by_long (below analyse_app).rules (option_name v)) ≡ analysing.given v) refl refl refl refl;
  marked = each_mark (λ m. is_some (arg_by_long (below analyse_app).rules (mark_name m)) ≡ analysing.marked m) refl refl;
}

report_has : IsWordLevel (below report_app) reporting (codes "first")
unfolding clap_on_literals
report_has = record {
  first = name_is (below report_app) 1 (codes "first") refl refl refl refl;
  second = λ e. name_is (below report_app) 2 (codes "second") refl refl refl refl;
  given = each_option (λ v. reporting.given v ≡ true → IsOption (below report_app) (option_name v)) (λ e. option_is (below report_app) (option_name Assume) refl refl refl) (λ e. absurd (no_value e)) (λ e. option_is (below report_app) (option_name Device) refl refl refl) (λ e. absurd (no_value e));
  marked = each_mark (λ m. reporting.marked m ≡ true → IsFlag (below report_app) (mark_name m)) (λ e. mark_is (below report_app) (mark_name Json) refl refl) (λ e. absurd (no_value e));
  defaults = refl;
  valid = λ rows f t. and_from (is_given (codes "first") rows) _ f (and_from (is_given (codes "second") rows) _ (t refl) refl);
  same = refl;
  of_second = (refl, refl);
  of_given = Rattle.commands.proofs.Shown.first_apart;
  of_marked = Rattle.commands.proofs.Shown.first_unmarked;
}

report_only : IsStrict (below report_app) reporting
unfolding clap_on_literals
report_only = record {
  second = refl;
  third = refl;
  given = each_option (λ v. is_some (arg_by_long (below report_app).rules (option_name v)) ≡ reporting.given v) refl refl refl refl;
  marked = each_mark (λ m. is_some (arg_by_long (below report_app).rules (mark_name m)) ≡ reporting.marked m) refl refl;
}

clear_has : IsWordLevel (below clear_app) clearing (codes "first")
unfolding clap_on_literals
clear_has = record {
  first = name_is (below clear_app) 1 (codes "first") refl refl refl refl;
  second = λ e. name_is (below clear_app) 2 (codes "second") refl refl refl refl;
  given = each_option (λ v. clearing.given v ≡ true → IsOption (below clear_app) (option_name v)) (λ e. absurd (no_value e)) (λ e. absurd (no_value e)) (λ e. option_is (below clear_app) (option_name Device) refl refl refl) (λ e. absurd (no_value e));
  marked = each_mark (λ m. clearing.marked m ≡ true → IsFlag (below clear_app) (mark_name m)) (λ e. absurd (no_value e)) (λ e. absurd (no_value e));
  defaults = refl;
  valid = λ rows f t. and_from (is_given (codes "first") rows) _ f (and_from (is_given (codes "second") rows) _ (t refl) refl);
  same = refl;
  of_second = (refl, refl);
  of_given = Rattle.commands.proofs.Shown.first_apart;
  of_marked = Rattle.commands.proofs.Shown.first_unmarked;
}

clear_only : IsStrict (below clear_app) clearing
unfolding clap_on_literals
clear_only = record {
  second = refl;
  third = refl;
  given = each_option (λ v. is_some (arg_by_long (below clear_app).rules (option_name v)) ≡ clearing.given v) refl refl refl refl;
  marked = each_mark (λ m. is_some (arg_by_long (below clear_app).rules (mark_name m)) ≡ clearing.marked m) refl refl;
}

premises_has : IsWordLevel (below premises_app) telling (codes "first")
unfolding clap_on_literals
premises_has = record {
  first = name_is (below premises_app) 1 (codes "first") refl refl refl refl;
  second = λ e. name_is (below premises_app) 2 (codes "second") refl refl refl refl;
  given = each_option (λ v. telling.given v ≡ true → IsOption (below premises_app) (option_name v)) (λ e. option_is (below premises_app) (option_name Assume) refl refl refl) (λ e. absurd (no_value e)) (λ e. option_is (below premises_app) (option_name Device) refl refl refl) (λ e. absurd (no_value e));
  marked = each_mark (λ m. telling.marked m ≡ true → IsFlag (below premises_app) (mark_name m)) (λ e. absurd (no_value e)) (λ e. mark_is (below premises_app) (mark_name Why) refl refl);
  defaults = refl;
  valid = λ rows f t. and_from (is_given (codes "first") rows) _ f (and_from (is_given (codes "second") rows) _ (t refl) refl);
  same = refl;
  of_second = (refl, refl);
  of_given = Rattle.commands.proofs.Shown.first_apart;
  of_marked = Rattle.commands.proofs.Shown.first_unmarked;
}

premises_only : IsStrict (below premises_app) telling
unfolding clap_on_literals
premises_only = record {
  second = refl;
  third = refl;
  given = each_option (λ v. is_some (arg_by_long (below premises_app).rules (option_name v)) ≡ telling.given v) refl refl refl refl;
  marked = each_mark (λ m. is_some (arg_by_long (below premises_app).rules (mark_name m)) ≡ telling.marked m) refl refl;
}

attain_has : IsWordLevel (below attain_app) attains (codes "first")
unfolding clap_on_literals
attain_has = record {
  first = name_is (below attain_app) 1 (codes "first") refl refl refl refl;
  second = λ e. name_is (below attain_app) 2 (codes "second") refl refl refl refl;
  given = each_option (λ v. attains.given v ≡ true → IsOption (below attain_app) (option_name v)) (λ e. option_is (below attain_app) (option_name Assume) refl refl refl) (λ e. absurd (no_value e)) (λ e. option_is (below attain_app) (option_name Device) refl refl refl) (λ e. option_is (below attain_app) (option_name Trials) refl refl refl);
  marked = each_mark (λ m. attains.marked m ≡ true → IsFlag (below attain_app) (mark_name m)) (λ e. absurd (no_value e)) (λ e. absurd (no_value e));
  defaults = refl;
  valid = λ rows f t. and_from (is_given (codes "first") rows) _ f (and_from (is_given (codes "second") rows) _ (t refl) refl);
  same = refl;
  of_second = (refl, refl);
  of_given = Rattle.commands.proofs.Shown.first_apart;
  of_marked = Rattle.commands.proofs.Shown.first_unmarked;
}

attain_only : IsStrict (below attain_app) attains
unfolding clap_on_literals
attain_only = record {
  second = refl;
  third = refl;
  given = each_option (λ v. is_some (arg_by_long (below attain_app).rules (option_name v)) ≡ attains.given v) refl refl refl refl;
  marked = each_mark (λ m. is_some (arg_by_long (below attain_app).rules (mark_name m)) ≡ attains.marked m) refl refl;
}

simulate_has : IsWordLevel (below simulate_app) simulating (codes "first")
unfolding clap_on_literals
simulate_has = record {
  first = name_is (below simulate_app) 1 (codes "first") refl refl refl refl;
  second = λ e. name_is (below simulate_app) 2 (codes "second") refl refl refl refl;
  given = each_option (λ v. simulating.given v ≡ true → IsOption (below simulate_app) (option_name v)) (λ e. option_is (below simulate_app) (option_name Assume) refl refl refl) (λ e. option_is (below simulate_app) (option_name Steps) refl refl refl) (λ e. option_is (below simulate_app) (option_name Device) refl refl refl) (λ e. absurd (no_value e));
  marked = each_mark (λ m. simulating.marked m ≡ true → IsFlag (below simulate_app) (mark_name m)) (λ e. absurd (no_value e)) (λ e. absurd (no_value e));
  defaults = refl;
  valid = λ rows f t. and_from (is_given (codes "first") rows) _ f (and_from (is_given (codes "second") rows) _ (t refl) refl);
  same = refl;
  of_second = (refl, refl);
  of_given = Rattle.commands.proofs.Shown.first_apart;
  of_marked = Rattle.commands.proofs.Shown.first_unmarked;
}

simulate_only : IsStrict (below simulate_app) simulating
unfolding clap_on_literals
simulate_only = record {
  second = refl;
  third = refl;
  given = each_option (λ v. is_some (arg_by_long (below simulate_app).rules (option_name v)) ≡ simulating.given v) refl refl refl refl;
  marked = each_mark (λ m. is_some (arg_by_long (below simulate_app).rules (mark_name m)) ≡ simulating.marked m) refl refl;
}

demo_has : IsWordLevel (below demo_app) measuring (codes "first")
unfolding clap_on_literals
demo_has = record {
  first = name_is (below demo_app) 1 (codes "first") refl refl refl refl;
  second = λ e. absurd (no_value e);
  given = each_option (λ v. measuring.given v ≡ true → IsOption (below demo_app) (option_name v)) (λ e. absurd (no_value e)) (λ e. absurd (no_value e)) (λ e. absurd (no_value e)) (λ e. absurd (no_value e));
  marked = each_mark (λ m. measuring.marked m ≡ true → IsFlag (below demo_app) (mark_name m)) (λ e. absurd (no_value e)) (λ e. absurd (no_value e));
  defaults = refl;
  valid = λ rows f t. and_from (is_given (codes "first") rows) _ f refl;
  same = refl;
  of_second = (refl, refl);
  of_given = Rattle.commands.proofs.Shown.first_apart;
  of_marked = Rattle.commands.proofs.Shown.first_unmarked;
}

demo_only : IsStrict (below demo_app) measuring
unfolding clap_on_literals
demo_only = record {
  second = refl;
  third = refl;
  given = each_option (λ v. is_some (arg_by_long (below demo_app).rules (option_name v)) ≡ measuring.given v) refl refl refl refl;
  marked = each_mark (λ m. is_some (arg_by_long (below demo_app).rules (mark_name m)) ≡ measuring.marked m) refl refl;
}

pub known_check : IsKnown (codes "check") judging
unfolding clap_on_literals
known_check = record {
  shape = below (judging_app (codes "check"));
  level = judging_has (codes "check");
  strict = judging_only (codes "check");
  named = named_check;
  free = refl;
  ends = λ l rows k. subst (Tells l) (sym (no_defaults (below (judging_app (codes "check"))).rules rows refl)) (tells l rows k);
}

pub known_run : IsKnown (codes "run") judging
unfolding clap_on_literals
known_run = record {
  shape = below (judging_app (codes "run"));
  level = judging_has (codes "run");
  strict = judging_only (codes "run");
  named = named_run;
  free = refl;
  ends = λ l rows k. subst (Tells l) (sym (no_defaults (below (judging_app (codes "run"))).rules rows refl)) (tells l rows k);
}

pub known_explain : IsKnown (codes "explain") judging
unfolding clap_on_literals
known_explain = record {
  shape = below (judging_app (codes "explain"));
  level = judging_has (codes "explain");
  strict = judging_only (codes "explain");
  named = named_explain;
  free = refl;
  ends = λ l rows k. subst (Tells l) (sym (no_defaults (below (judging_app (codes "explain"))).rules rows refl)) (tells l rows k);
}

pub known_analyse : IsKnown (codes "analyse") analysing
unfolding clap_on_literals
known_analyse = record {
  shape = below analyse_app;
  level = analyse_has;
  strict = analyse_only;
  named = named_analyse;
  free = refl;
  ends = λ l rows k. subst (Tells l) (sym (no_defaults (below analyse_app).rules rows refl)) (tells l rows k);
}

pub known_report : IsKnown (codes "report") reporting
unfolding clap_on_literals
known_report = record {
  shape = below report_app;
  level = report_has;
  strict = report_only;
  named = named_report;
  free = refl;
  ends = λ l rows k. subst (Tells l) (sym (ap (λ (rs : List Row). with_default rs (mark_rule (mark_name Json))) (no_defaults (name_at 1 (codes "first") ∷ name_at 2 (codes "second") ∷ option_rule (codes "assume") ∷ option_rule (codes "device") ∷ []) rows refl))) (tells_default l Json (mark_rule (mark_name Json)) rows refl refl refl k);
}

pub known_clear : IsKnown (codes "clear") clearing
unfolding clap_on_literals
known_clear = record {
  shape = below clear_app;
  level = clear_has;
  strict = clear_only;
  named = named_clear;
  free = refl;
  ends = λ l rows k. subst (Tells l) (sym (no_defaults (below clear_app).rules rows refl)) (tells l rows k);
}

pub known_premises : IsKnown (codes "premises") telling
unfolding clap_on_literals
known_premises = record {
  shape = below premises_app;
  level = premises_has;
  strict = premises_only;
  named = named_premises;
  free = refl;
  ends = λ l rows k. subst (Tells l) (sym (ap (λ (rs : List Row). with_default rs (mark_rule (mark_name Why))) (no_defaults (name_at 1 (codes "first") ∷ name_at 2 (codes "second") ∷ option_rule (codes "assume") ∷ option_rule (codes "device") ∷ []) rows refl))) (tells_default l Why (mark_rule (mark_name Why)) rows refl refl refl k);
}

pub known_attain : IsKnown (codes "attain") attains
unfolding clap_on_literals
known_attain = record {
  shape = below attain_app;
  level = attain_has;
  strict = attain_only;
  named = named_attain;
  free = refl;
  ends = λ l rows k. subst (Tells l) (sym (no_defaults (below attain_app).rules rows refl)) (tells l rows k);
}

pub known_simulate : IsKnown (codes "simulate") simulating
unfolding clap_on_literals
known_simulate = record {
  shape = below simulate_app;
  level = simulate_has;
  strict = simulate_only;
  named = named_simulate;
  free = refl;
  ends = λ l rows k. subst (Tells l) (sym (no_defaults (below simulate_app).rules rows refl)) (tells l rows k);
}

pub known_demo : IsKnown (codes "demo") measuring
unfolding clap_on_literals
known_demo = record {
  shape = below demo_app;
  level = demo_has;
  strict = demo_only;
  named = named_demo;
  free = refl;
  ends = λ l rows k. subst (Tells l) (sym (no_defaults (below demo_app).rules rows refl)) (tells l rows k);
}
