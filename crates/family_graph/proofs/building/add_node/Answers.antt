use Rattle.std.proofs.Common.{◌∙◌, ap}
use Rattle.basics.specs.Lists.{one_at}
use Rattle.local_rules.specs.declared.local.Node.{Node}
use Rattle.node_keys.specs.declared.keys.NodeKey.{NodeKey}
use Rattle.family_graph.proofs.Insts.{node_of}
use Rattle.family_graph.proofs.Adding.{adds_closed}
use Rattle.family_graph.proofs.building.add_node.Goals as goal

pub returns-in_ok-add_entries : goal.returns-in_ok-add_entries
returns-in_ok-add_entries c =
    let k = node_of _ c.key.result.now c.key.ensures in
    λ n e.
    adds_closed c.args.family.now.task.now.assumptions.now c.args.family.now.numbering.now.insts.items c.args.at c.args.ways.now n.key.sp c.in-Closed.offset
    c.args.parts.now.offsets.items c.push.new.self.items c.args.parts.now.entered.items c.add_entries.new.entered.items
    (ap (λ (x : Node). x.key.sp) (one_at c.args.family.now.nodes.now c.args.at n k.0 e k.1) ∙ ap (λ (x : NodeKey). x.sp) k.2 ∙ c.in-Closed.is)
    c.in_ok-push.ensures.items c.in_ok-add_entries.ensures
