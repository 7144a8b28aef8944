use Rattle.std.proofs.Common.{◌∙◌, sym, ap, subst}
use Rattle.avr_model.specs.Devices.{device_of}
use Rattle.avr_model.specs.Assumptions.{has_pairs}
use Rattle.round_rules.specs.Families.{Family, AreFormed, cells}
use Rattle.round_laws.specs.Steps.{raised_all}
use Rattle.round_steps.specs.Joins.{KeptBut}
use Rattle.fixpoint.proofs.Ending.{no_cells, no_nodes, root_nodes, root_fresh, root_apart, first_is, pushed_root}
use Rattle.fixpoint.proofs.rounds.start.Goals as goal

pub join_all-requires-clause-count : goal.join_all-requires-clause-count
join_all-requires-clause-count c = sym (ap cells c.requires ∙ no_cells)

pub join_all-requires-clause-fit : goal.join_all-requires-clause-fit
join_all-requires-clause-fit c =
    let A = c.args.task.now.assumptions.now in
    let device = device_of c.args.task.now.flash.now in
    let followed = has_pairs A in
    record {
      device = device;
      followed = followed;
      formed = subst (AreFormed device followed) (sym c.requires) (no_nodes device followed);
      nodes =
          root_nodes device A c.push.new.self.items
          (pushed_root A c.push.new.self.items c.new-nodes.result.items c.entry.result c.root-2.result c.in_ok-state.state c.in_ok-push.ensures.items c.new-nodes.ensures.items
          c.entry.ensures c.root-2.ensures c.in_ok-state.ensures);
    }

pub join_all-requires-clause-fresh : goal.join_all-requires-clause-fresh
join_all-requires-clause-fresh c = root_fresh c.args.table.now c.push.new.self.items c.requires

pub join_all-requires-clause-apart : goal.join_all-requires-clause-apart
join_all-requires-clause-apart c =
    root_apart c.args.task.now.assumptions.now c.push.new.self.items
    (pushed_root c.args.task.now.assumptions.now c.push.new.self.items c.new-nodes.result.items c.entry.result c.root-2.result c.in_ok-state.state c.in_ok-push.ensures.items
    c.new-nodes.ensures.items c.entry.ensures c.root-2.ensures c.in_ok-state.ensures)

pub returns : goal.returns
returns c = record {
  first = c.in_ok-work.ensures.joined ∙ ap (λ (f : Family). raised_all f c.push.new.self.items) c.requires
      ∙ first_is c.args.task.now.assumptions.now c.push.new.self.items
      (pushed_root c.args.task.now.assumptions.now c.push.new.self.items c.new-nodes.result.items c.entry.result c.root-2.result c.in_ok-state.state c.in_ok-push.ensures.items
      c.new-nodes.ensures.items c.entry.ensures c.root-2.ensures c.in_ok-state.ensures);
  count = c.in_ok-work.ensures.count;
  kept = subst (λ (f : Family). KeptBut f c.join_all.new.table c.in_ok-work.work.items) c.requires c.in_ok-work.ensures.kept;
}
