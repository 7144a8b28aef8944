use Rattle.std.proofs.Common.{arith}
use Rattle.fixpoint.proofs.Formed.{forms_pushed}
use Rattle.fixpoint.proofs.forming.formed.Goals as goal

pub loop-node-preserved : goal.loop-node-preserved
loop-node-preserved c =
    forms_pushed c.args.leads.now c.loop-node.yielded c.in-Some.node c.loop-node.forms.items c.push.new.self.items c.len-at.result c.in_ok-form.form c.loop-node.invariant.0
    c.loop-node.invariant.1 (omega (arith, c.len-at.ensures, c.loop-node.forms.ok.0)) c.in_ok-form.ensures c.in_ok-push.ensures.items
