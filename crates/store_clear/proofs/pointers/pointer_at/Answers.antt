use Rattle.std.proofs.Common.{sym, ◌∙◌}
use Rattle.store_clear.proofs.Spans.{pointer_missing, pointer_found}
use Rattle.store_clear.proofs.pointers.pointer_at.Goals as goal

pub returns-in_err-numbers : goal.returns-in_err-numbers
returns-in_err-numbers c task f is family =
    let told = c.args.every.now.told in
    pointer_missing told.nodes.now told.conditions.now c.requires.every.never c.args.pc c.args.instr.now task f is family c.in_ok-pair.pair
    (sym c.pointer_of.ensures ∙ c.in_ok-pair.was) c.low_register.result c.span_at.result c.low_register.ensures c.span_at.ensures _ c.in_err-numbers.was
    c.from_residual-in_err-numbers.ensures

pub returns : goal.returns
returns c task f is family =
    let told = c.args.every.now.told in
    pointer_found told.nodes.now told.conditions.now c.requires.every.never c.args.pc c.args.instr.now task f is family c.in_ok-pair.pair
    (sym c.pointer_of.ensures ∙ c.in_ok-pair.was) c.low_register.result c.span_at.result c.low_register.ensures c.span_at.ensures c.in_ok-numbers.numbers c.in_ok-numbers.was
