use Rattle.std.proofs.Common.{ap, ◌∙◌}
use Rattle.std.proofs.lemmas.Result.{IfOk-weaker}
use Rattle.clap.specs.Words.{app_of, with_rule}
use Rattle.commands.proofs.Table.{no_args, first_arg}
use Rattle.commands.proofs.syntax.+with_args.Goals as goal

pub returns-in-empty-clause-app : goal.returns-in-empty-clause-app
returns-in-empty-clause-app t c = no_args c.args.args.now (app_of c.args.command) c.in-empty.len_below

pub returns-in_ok-arg-in-len1-up-clause-app : goal.returns-in_ok-arg-in-len1-up-clause-app
returns-in_ok-arg-in-len1-up-clause-app t c =
    let grown = c.in_ok-arg-in-len1-up.ensures.shape c.arg_of.ensures.local ∙ ap (with_rule (app_of c.args.command)) c.arg_of.ensures.rule in
    IfOk-weaker c.with_args.result _ _ (λ x h. h ∙ first_arg c.args.args.now _ (app_of c.args.command) _ c.in-len1-up.len_at_least grown) c.with_args.ensures.app
