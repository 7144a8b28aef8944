use Rattle.std.proofs.Common.{◌∙◌, sym, false, cond, arith}
use Rattle.node_keys.proofs.Steps.{common_any}
use Rattle.node_keys.proofs.splits.is_common_unknown.Goals as goal

pub returns-then-one : goal.returns-then-one
returns-then-one c =
    (λ i. cond (sym c.if-one.true i) false c.has_common-any.result)
    ∙ common_any c.args.value.now c.args.mask c.has_common-one.result c.has_common-any.result c.has_common-one.ensures c.has_common-any.ensures (omega arith)

pub returns-else-one : goal.returns-else-one
returns-else-one c =
    (λ i. cond (sym c.if-one.false i) false c.has_common-any.result)
    ∙ common_any c.args.value.now c.args.mask c.has_common-one.result c.has_common-any.result c.has_common-one.ensures c.has_common-any.ensures (omega arith)
