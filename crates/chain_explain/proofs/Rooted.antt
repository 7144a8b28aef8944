-- The instance of each reached node has its first node among the reached ones.
use Rattle.std.proofs.Common.{refl, sym, subst, ◌≡◌, List, Contains}
use Rattle.avr_model.specs.Devices.{device_of}
use Rattle.abs_state.specs.declared.state.AbsState.{AbsState}
use Rattle.abs_state.specs.Frames.{entered}
use Rattle.node_keys.specs.declared.keys.InstKey.{InstKey}
use Rattle.node_keys.specs.declared.keys.NodeKey.{NodeKey}
use Rattle.node_keys.specs.Keys.{root_inst, entry_key}
use Rattle.local_rules.specs.declared.local.Node.{Node}
use Rattle.local_laws.specs.Laws.{HasKey}
use Rattle.edge_rules.specs.Edges.{IsEdge, moving, entering, returning, target}
use Rattle.edge_rules.specs.Families.{IsCovered}
use Rattle.edge_rules.specs.Roots.{root_of}
use Rattle.edge_rules.specs.Views.{AreShown}
use Rattle.certificate.specs.Valid.{reset_node, AllLand}
use Rattle.family_graph.specs.Graphs.{AreRooted}
use Rattle.chain_explain.specs.Reached.{IsReached, AreReached, at_reset, by_edge}
use Rattle.chain_explain.proofs.Edges.{stays}
use Rattle.local_rules.specs.Site.{Task}

module _ (task : Task) (nodes reached : List Node) (are : AreReached task nodes reached) (shown : AreShown (device_of task.flash) nodes) (lands : AllLand task nodes)
    (reset : IsCovered nodes (reset_node task.assumptions)) where
  has_key : (k : NodeKey) (s : AbsState) → IsCovered nodes (record { key = k; state = s }) → IsReached task nodes k → HasKey reached k
  has_key k s c r = let n : Node = record { key = k; state = c.state } in (n, ((are.exact n).1 (c.present, r), refl))

  rooted_at : (k : NodeKey) → IsReached task nodes k → HasKey reached (entry_key k.inst)
  rooted_at _ at_reset = has_key (entry_key root_inst) (root_of task.assumptions) reset at_reset
  rooted_at _ (by_edge n _ h r (moving to clean member)) =
      subst (λ (i : InstKey). HasKey reached (entry_key i)) (sym (stays task nodes shown n _ h (moving to clean member) refl)) (rooted_at n.key r)
  rooted_at _ (by_edge n _ h r (entering way inst back enters)) =
      has_key (entry_key inst) (entered n.state) (lands n _ h (entering way inst back enters)) (by_edge n _ h r (entering way inst back enters))
  rooted_at _ (by_edge n _ h r (returning way inst back leaver x state enters present at clean exit is)) = rooted_at n.key r

  pub rooted : AreRooted task reached
  rooted n depth h cut = rooted_at n.key ((are.exact n).0 h).1
