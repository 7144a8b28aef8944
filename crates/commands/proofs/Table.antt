-- The empty table, and a table with one more row in front.
use Rattle.std.proofs.Common.{◌≡◌, ◌≤◌, ◌<◌, ◌-◌, List, [], ◌∷◌, length, get_or, drop, take, take_all, ap, ◌∙◌, refl, arith}
use Rattle.std.specs.Borrow.{Bor}
use Rattle.clap.specs.Words.{App, Text, new_app, with_rule, with_subcommand}
use Rattle.commands.specs.declared.syntax.ArgumentKind.{ArgumentKind}
use Rattle.commands.specs.Lines.{rule_by, with_rules, with_commands}

-- an argument
abbrev pub NamedArgument : Type 0
NamedArgument = Bor Text × ArgumentKind

-- a command with its arguments
abbrev pub Listed : Type 0
Listed = Bor Text × Bor (List NamedArgument)

pub no_args : (xs : List NamedArgument) (app : App) → length xs < 1 → app ≡ with_rules app xs
no_args [] app none = refl
no_args (x ∷ xs) app none = absurd (omega (arith, none))

pub first_arg : (xs : List NamedArgument) (other : NamedArgument) (app grown : App) → 1 ≤ length xs → grown ≡ with_rule app (rule_by (get_or xs 0 other).1 (get_or xs 0 other).0.now)
    → with_rules grown (take (length xs - 1) (drop 1 xs)) ≡ with_rules app xs
first_arg [] other app grown some e = absurd (omega (arith, some))
first_arg (x ∷ xs) other app grown some e = ap (with_rules grown) (take_all (length (x ∷ xs) - 1) xs (omega arith)) ∙ ap (λ (y : App). with_rules y xs) e

pub no_command : (cs : List Listed) (app : App) → length cs < 1 → app ≡ with_commands app cs
no_command [] app none = refl
no_command (c ∷ cs) app none = absurd (omega (arith, none))

pub first_command : (cs : List Listed) (other : Listed) (app : App) → 1 ≤ length cs
    → with_commands (with_subcommand app (with_rules (new_app (get_or cs 0 other).0.now) (get_or cs 0 other).1.now).top) (take (length cs - 1) (drop 1 cs)) ≡ with_commands app cs
first_command [] other app some = absurd (omega (arith, some))
first_command (c ∷ cs) other app some = ap (with_commands (with_subcommand app (with_rules (new_app c.0.now) c.1.now).top)) (take_all (length (c ∷ cs) - 1) cs (omega arith))
