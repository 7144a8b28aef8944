use Rattle.std.proofs.Common.{Vec, Global, ap, ◌∙◌}
use Rattle.node_keys.specs.declared.keys.InstKey.{InstKey}
use Rattle.family_graph.proofs.Insts.{grows_kept, grows_added}
use Rattle.family_graph.proofs.numbering.put.Goals as goal
use Rattle.family_graph.proofs.numbering.put.Goals.{then-not-ends_with+in_ok-push, else-not-ends_with}

pub returns-clause-grows : goal.returns-clause-grows
returns-clause-grows c =
    elim c.if-not-ends_with.branch [
      | then-not-ends_with+in_ok-push w ↦
          grows_added c.args.insts.now.items c.if-not-ends_with.insts.items c.deref.result.now c.args.inst.now c.ends_with.result c.deref.ensures.value c.ends_with.ensures
          w.if-not-ends_with.true (ap (λ (v : Vec InstKey Global). v.items) w.insts-is ∙ w.in_ok-push.ensures.items)
      | else-not-ends_with w ↦
          grows_kept c.args.insts.now.items c.if-not-ends_with.insts.items c.deref.result.now c.args.inst.now c.ends_with.result c.deref.ensures.value c.ends_with.ensures
          w.if-not-ends_with.false (ap (λ (v : Vec InstKey Global). v.items) w.insts-is)
    ]
