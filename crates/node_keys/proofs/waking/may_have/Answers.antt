use Rattle.std.proofs.Common.{◌∙◌, arith}
use Rattle.node_keys.proofs.Commons.{may_coded}
use Rattle.node_keys.proofs.waking.may_have.Goals as goal

pub returns : goal.returns
returns c = c.has_common.ensures ∙ may_coded c.args.value.now c.args.mask (omega arith)
