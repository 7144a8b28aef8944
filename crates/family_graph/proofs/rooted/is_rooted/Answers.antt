use Rattle.std.proofs.Common.{◌∙◌, sym, ap}
use Rattle.node_keys.specs.declared.keys.NodeKey.{NodeKey}
use Rattle.edge_rules.specs.Views.{index_of}
use Rattle.family_graph.proofs.FirstNodes.{rooted_yes, rooted_no}
use Rattle.family_edges.specs.Tasks.{task_of}
use Rattle.family_graph.proofs.rooted.is_rooted.Goals as goal

pub returns-in-Some-clause-yes : goal.returns-in-Some-clause-yes
returns-in-Some-clause-yes c = λ yes.
    rooted_yes (task_of c.args.task.now) c.args.nodes.now c.args.at c.key.result.now c.key.ensures c.find.result
    (c.find.ensures ∙ ap (λ (k : NodeKey). index_of k c.args.nodes.now) c.entry.ensures) (sym c.is_some.ensures ∙ yes)

pub returns-in-Some-clause-no : goal.returns-in-Some-clause-no
returns-in-Some-clause-no c = λ no.
    rooted_no (task_of c.args.task.now) c.args.nodes.now c.args.at c.key.result.now c.key.ensures c.find.result c.in-Some.field-0
    (c.find.ensures ∙ ap (λ (k : NodeKey). index_of k c.args.nodes.now) c.entry.ensures) (sym c.is_some.ensures ∙ no) (sym c.cut.ensures ∙ c.in-Some.is)
