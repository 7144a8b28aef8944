use Rattle.std.proofs.Common.{◌∙◌, sym}
use Rattle.abs_step.proofs.Woken.{none_woken}
use Rattle.abs_step.proofs.pointer_stores.waking.Goals as goal

pub returns-then-not-may_wake : goal.returns-then-not-may_wake
returns-then-not-may_wake c =
    none_woken c.args.write.now.device c.args.site.now.assumptions.now c.args.write.now.key c.args.write.now.state.now _ c.args.nodes.now
    (sym c.may_wake.ensures ∙ c.if-not-may_wake.true)
