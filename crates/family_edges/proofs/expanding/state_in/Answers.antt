use Rattle.std.proofs.Common.{◌≡◌, sym, ap, ◌∙◌, Some, None}
use Rattle.std.specs.List.{find}
use Rattle.std.specs.Option.{option_map, option_copied}
use Rattle.node_keys.specs.Order.{same_node}
use Rattle.local_rules.specs.declared.local.Node.{Node}
use Rattle.family_edges.proofs.Working.{found_first}
use Rattle.family_edges.proofs.expanding.state_in.Goals as goal

pub returns-in_ok-copy-in-Some : goal.returns-in_ok-copy-in-Some
returns-in_ok-copy-in-Some c =
    let first : Some c.in-Some.node.now ≡ find (λ n. same_node n.key c.args.key.now) c.args.nodes.now = sym (ap option_copied c.in-Some.is) ∙ c.first_of.ensures in
    ap (λ s. Some s) c.in_ok-copy-in-Some.ensures ∙ (ap (option_map (λ (n : Node). n.state)) first ∙ found_first c.args.key.now c.args.nodes.now)

pub returns-in-None : goal.returns-in-None
returns-in-None c =
    let none : None ≡ find (λ n. same_node n.key c.args.key.now) c.args.nodes.now = sym (ap option_copied c.in-None.is) ∙ c.first_of.ensures in
    ap (option_map (λ (n : Node). n.state)) none ∙ found_first c.args.key.now c.args.nodes.now
