use Rattle.std.proofs.Common.{◌≡◌, ℕ, sym, ap, ap₂, ◌∙◌, subst, ◌≤◌, arith}
use Rattle.basics.specs.Items.{place_of_contained, contained_at}
use Rattle.avr_model.specs.Devices.{device_of, back_of}
use Rattle.avr_model.specs.State.{SIZE}
use Rattle.avr_model.proofs.AllLaws.{devices_are_alike}
use Rattle.node_keys.specs.declared.keys.InstKey.{InstKey}
use Rattle.node_keys.specs.declared.keys.NodeKey.{NodeKey}
use Rattle.node_keys.specs.Keys.{offset_of}
use Rattle.chain_explain.specs.declared.explanation.PartPoint.TheVariants as point
use Rattle.chain_explain.specs.Explanation.{adds_by}
use Rattle.chain_explain.specs.Reached.{IsReached}
use Rattle.chain_explain.specs.Walks.{IsWay}
use Rattle.chain_explain.proofs.Stepped.{key_there}
use Rattle.chain_explain.proofs.parts.node_part.Goals as goal
use Rattle.family_edges.specs.Tasks.{task_of}

pub way-requires-clause-there : goal.way-requires-clause-there
way-requires-clause-there c =
    let w = key_there c.args.reached.now c.args.link.now.node c.key-key.result.now c.key-key.ensures in
    let of = (c.requires.reached.exact w.0).0 (contained_at c.args.reached.now c.args.link.now.node w.0 w.1.0) in
    (w.0, (of.0, w.1.1))

pub way-requires-clause-reached : goal.way-requires-clause-reached
way-requires-clause-reached c =
    let w = key_there c.args.reached.now c.args.link.now.node c.key-key.result.now c.key-key.ensures in
    let of = (c.requires.reached.exact w.0).0 (contained_at c.args.reached.now c.args.link.now.node w.0 w.1.0) in
    subst (IsReached (task_of c.args.task.now) c.args.family.now.nodes) w.1.1 of.1

pub adds-requires : goal.adds-requires
adds-requires c =
    let w = key_there c.args.reached.now c.args.link.now.node c.key-key.result.now c.key-key.ensures in
    let of = (c.requires.reached.exact w.0).0 (contained_at c.args.reached.now c.args.link.now.node w.0 w.1.0) in
    let small = (c.requires.shown.all w.0 of.0).small in
    let low : offset_of w.0.key.sp ≤ SIZE = omega (arith, small, devices_are_alike.most_depth (device_of c.args.task.now.flash.now)) in
    subst (λ (k : NodeKey). offset_of k.sp ≤ SIZE) w.1.1 low

pub returns : goal.returns
returns c =
    let w = key_there c.args.reached.now c.args.link.now.node c.key-key.result.now c.key-key.ensures in
    let of = (c.requires.reached.exact w.0).0 (contained_at c.args.reached.now c.args.link.now.node w.0 w.1.0) in
    let at = place_of_contained c.args.family.now.nodes w.0 of.0 in
    let back : c.back.result ≡ back_of (device_of c.args.task.now.flash.now) = c.back.ensures.exact ∙ ap back_of c.device.ensures in
    let inst : c.key-key.result.now.inst ≡ w.0.key.inst = ap (λ (k : NodeKey). k.inst) (sym w.1.1) in
    record {
      node = w.0;
      at = w.1.0;
      inst = inst;
      walk = c.in_ok-walk.walk;
      point = ap (λ (k : NodeKey). point.Node k.pc c.in_ok-walk.walk) (sym w.1.1);
      adds = c.adds.ensures ∙ ap₂ (λ (b : ℕ) (k : NodeKey). adds_by b (offset_of k.sp) c.args.link.now.way) back (sym w.1.1);
      target = at.0;
      is = at.1;
      way = subst (λ (i : InstKey). IsWay (task_of c.args.task.now) c.args.family.now.nodes i at.0 c.in_ok-walk.walk) inst (c.in_ok-walk.ensures at.0 w.0 at.1 w.1.1);
    }
