use Rattle.std.proofs.Common.{◌≡◌, ap₂, ◌∙◌}
use Rattle.std.proofs.lemmas.Result.{IfOk-weaker}
use Rattle.clap.specs.Words.{App, app_of, with_subcommand}
use Rattle.commands.proofs.Table.{no_command, first_command}
use Rattle.commands.proofs.syntax.+with_commands.Goals as goal

pub returns-in_default : goal.returns-in_default
returns-in_default t c = λ app is. is ∙ no_command c.args.commands.now app c.in_default.len_below

pub returns-in_ok-subcommand-in-Ok : goal.returns-in_ok-subcommand-in-Ok
returns-in_ok-subcommand-in-Ok t c = λ app is.
    let named = rw c.new.ensures.app at c.in-Ok.ensures.app in
    let grown : app_of c.in_ok-subcommand-in-Ok.field-0 ≡ with_subcommand (app_of c.args.program) (app_of c.in-Ok.command).top = c.in_ok-subcommand-in-Ok.ensures.shape c.in-Ok.ensures.local in
    let whole = grown ∙ ap₂ (λ (p s : App). with_subcommand p s.top) is named in
    IfOk-weaker c.with_commands.result _ _ (λ x h. h ∙ first_command c.args.commands.now _ app c.in-len1-up.len_at_least) (c.with_commands.ensures _ whole)
