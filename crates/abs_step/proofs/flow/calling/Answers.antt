use Rattle.std.proofs.Common.{sym, ap, ◌∙◌, map, None}
use Rattle.local_rules.specs.Raw.{untracked_if, enters}
use Rattle.local_rules.specs.Flow.{site, calling, is_half_written}
use Rattle.abs_step.proofs.Led.{led}
use Rattle.abs_step.proofs.flow.calling.Goals as goal

pub returns-in_ok-calls-in-Closed : goal.returns-in_ok-calls-in-Closed
returns-in_ok-calls-in-Closed c nodes =
    led nodes c.in_ok-calls-in-Closed.calls None (calling c.args.key.now c.args.back c.args.entries.now)
    (ap (λ sp. untracked_if (is_half_written sp) c.args.key.now.pc (enters (map (λ t. site t c.args.back) c.args.entries.now))) c.in-Closed.is
    ∙ ap enters (sym c.in_ok-calls-in-Closed.ensures.ok))
