use Rattle.std.proofs.Common.{◌≡◌, refl, subst, List, length, arith}
use Rattle.avr_model.specs.Devices.{device_of}
use Rattle.edge_rules.specs.Seeds.{form_of}
use Rattle.edge_laws.proofs.ExpansionLaws.{filled_lists_are_shown}
use Rattle.local_rules.specs.declared.local.Node.{Node}
use Rattle.family_edges.specs.Expanding.{AreKept}
use Rattle.family_edges.proofs.Working.{numbered, gives_missing, gives_more, gives_whole, still_kept}
use Rattle.family_edges.proofs.expanding.expand.Goals as goal
use Rattle.family_edges.specs.Tasks.{task_of}

pub work-requires-clause-nodes : goal.work-requires-clause-nodes
work-requires-clause-nodes g c =
    numbered (task_of c.args.task.now) (g.S.Seeded.nodes c.args.nodes.now) c.loop-at.at c.loop-at.done.items c.loop-at.invariant.0
    c.deref.result.now c.deref.ensures.value

pub returns-in-None : goal.returns-in-None
returns-in-None g c =
    gives_missing (task_of c.args.task.now) (g.S.Seeded.nodes c.args.nodes.now) c.loop-at.at c.loop-at.done.items c.loop-at.invariant.0
    c.deref.result.now c.deref.ensures.value c.key.result.now (form_of c.seed.result) c.key.ensures c.seed.ensures c.in_ok-state.field-0
    c.in_ok-state.ensures.state c.in-None.is

pub loop-at-preserved : goal.loop-at-preserved
loop-at-preserved g c =
    let node : Node = record { key = c.key.result.now; state = c.in-Some.state } in (
      gives_more (task_of c.args.task.now) (g.S.Seeded.nodes c.args.nodes.now) c.loop-at.at c.loop-at.done.items c.loop-at.invariant.0
          c.deref.result.now c.deref.ensures.value c.key.result.now (form_of c.seed.result) c.key.ensures c.seed.ensures c.in_ok-state.field-0
          c.in_ok-state.ensures.state c.requires.seeds c.in-Some.state c.push.new.self.items c.in-Some.is c.in_ok-push-in-Some.ensures.items,
      still_kept (task_of c.args.task.now) c.loop-at.done.items node c.push.new.self.items c.work.new.kept.from c.work.new.kept.nodes.items
          c.in_ok-push-in-Some.ensures.items
          (subst (λ (l : List Node). AreKept (task_of c.args.task.now) l c.work.new.kept.from c.work.new.kept.nodes.items) c.deref.ensures.value c.in_ok-state.ensures.kept),
    )

pub new-requires-2 : goal.new-requires-2
new-requires-2 g c =
    let full : c.loop-at.at ≡ length (g.S.Seeded.nodes c.args.nodes.now) = omega (arith, c.loop-at-test.false, c.loop-at.auto.at-end, c.count-at-end.ensures) in (
      device_of c.args.task.now.flash.now,
      filled_lists_are_shown.shown (task_of c.args.task.now) (g.S.Seeded.nodes c.args.nodes.now) c.loop-at.done.items
          (gives_whole (task_of c.args.task.now) (g.S.Seeded.nodes c.args.nodes.now) c.loop-at.at c.loop-at.done.items c.loop-at.invariant.0
          c.loop-at.done.items refl full) c.requires.ascending,
    )

pub returns : goal.returns
returns g c =
    let full : c.loop-at.at ≡ length (g.S.Seeded.nodes c.args.nodes.now) = omega (arith, c.loop-at-test.false, c.loop-at.auto.at-end, c.count-at-end.ensures) in
    gives_whole (task_of c.args.task.now) (g.S.Seeded.nodes c.args.nodes.now) c.loop-at.at c.loop-at.done.items c.loop-at.invariant.0
    c.new-2.result c.new-2.ensures full
