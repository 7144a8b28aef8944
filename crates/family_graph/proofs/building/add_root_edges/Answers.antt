use Rattle.std.proofs.Common.{◌∙◌, sym, refl, length}
use Rattle.family_graph.proofs.Adding.{recurs_root, recurs_other}
use Rattle.family_graph.proofs.building.add_root_edges.Goals as goal

pub returns-then-eq : goal.returns-then-eq
returns-then-eq c =
    recurs_root c.args.task.now.assumptions.now c.args.insts.now c.args.behind (length c.args.insts.now) c.args.inst.now c.args.entered.now.items c.add_recurs.new.entered.items
    (c.eq.ensures.same.0 c.if-eq.true ∙ c.root.ensures) refl c.in_ok-add_recurs.ensures

pub returns : goal.returns
returns c =
    recurs_other c.args.task.now.assumptions.now c.args.insts.now c.args.behind c.args.inst.now c.args.entered.now.items
    (λ same. let t = c.eq.ensures.same.1 (same ∙ sym c.root.ensures) in let f = c.if-eq.false in absurd (cc))
