use Rattle.std.proofs.Common.{sym, ap, ◌∙◌, subst}
use Rattle.local_rules.specs.Flow.{calling, indirect_call}
use Rattle.abs_step.specs.Leading.{LeadsOn}
use Rattle.abs_step.proofs.flow.indirect_call.Goals as goal

pub returns : goal.returns
returns c nodes =
    subst (LeadsOn nodes nodes c.calling-outside.result)
    ((λ i. calling c.args.site.now.key.now (c.further-back.ensures i) (c.deref.ensures.value i)) ∙ ap (λ t. indirect_call c.args.site.now.device t c.args.site.now.key.now) (sym c.in_ok-entries.ensures))
    (c.calling-outside.ensures nodes)
