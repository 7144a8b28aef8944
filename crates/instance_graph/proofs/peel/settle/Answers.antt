use Rattle.std.proofs.Common.{◌+◌, ◌∙◌, ap₂, max, subst, get_or}
use Rattle.std.specs.List.{Contains}
use Rattle.std.proofs.lemmas.List.Elements.{Contains-get_or}
use Rattle.instance_graph.specs.declared.graph.Entered.{Entered}
use Rattle.instance_graph.proofs.Table.{no_entry, over_none_at, over_more_at}
use Rattle.instance_graph.proofs.peel.settle.Goals as goal

pub loop-entered-init : goal.loop-entered-init
loop-entered-init c = over_none_at c.args.back c.args.inst.now.offsets c.as_slice.result.now c.args.table.now c.greatest.result c.as_slice.ensures c.greatest.ensures.above c.greatest.ensures.least

pub bounds : goal.bounds
bounds c =
    let e : Entered = get_or c.as_slice-entered-items.result.now c.loop-entered.entered-index no_entry in
    c.requires.within e (subst (λ xs. Contains xs e) c.as_slice-entered-items.ensures (Contains-get_or c.as_slice-entered-items.result.now c.loop-entered.entered-index no_entry c.loop-entered-test.true))

pub loop-entered-preserved : goal.loop-entered-preserved
loop-entered-preserved c =
    over_more_at c.args.back c.args.inst.now.entered c.as_slice-entered-items.result.now c.args.inst.now.offsets c.args.table.now c.loop-entered.entered-index no_entry c.loop-entered.found c.in-Some.x (record { rank = c.max.result; need = c.max-in-Some.result }) c.as_slice-entered-items.ensures c.loop-entered-test.true c.in-Some.is
    (λ j. record { rank = c.max.ensures j; need = (c.max-in-Some.ensures ∙ ap₂ (λ offset back. max c.loop-entered.found.need (offset + back + c.in-Some.x.need)) c.from.ensures c.from-in-Some.ensures) j }) c.loop-entered.invariant
