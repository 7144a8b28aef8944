use Rattle.std.proofs.Common.{◌≡◌, List, ap, ap₂, sym, subst, ◌∙◌, option_map}
use Rattle.clap.specs.Words.{Row, found_of, rows_of}
use Rattle.clap.specs.declared.parser.matches.ArgMatches.TheViews.{out-ArgMatches}
use Rattle.commands.specs.Commands.{called}
use Rattle.commands.specs.Lines.{TellsLine}
use Rattle.commands.proofs.Found.{is_value, never_some, names_are}
use Rattle.commands.proofs.words.command_in.Goals as goal

pub returns-in-None : goal.returns-in-None
returns-in-None c = λ name rows l e t.
    absurd (never_some rows (c.in-None.ensures.rows ∙ ap (option_map (λ p. p.1)) e))

pub returns-in-Some : goal.returns-in-Some
returns-in-Some c = λ name rows l e t.
    let rows_are : rows_of (found_of c.in-Some.inner.now) ≡ rows = is_value _ _ (c.in-Some.ensures.rows ∙ ap (option_map (λ p. p.1)) e) in
    let name_is : c.in-Some.name.now ≡ name = is_value _ _ (c.in-Some.ensures.name ∙ sym (names_are (out-ArgMatches c.args.matches.now).subcommand) ∙ ap (option_map (λ p. p.0)) e) in
    c.called.ensures ∙ ap₂ called name_is (c.line_in.ensures l (subst (λ (rs : List Row). TellsLine rs l) (sym rows_are) t))
