-- All nodes linked by their words. Definitions for the contracts of internal functions.
use Rattle.std.specs.Prelude.{◌≡◌, List}
use Rattle.local_rules.specs.declared.local.Node.{Node}
use Rattle.store_clear.specs.declared.pointers.EveryNode.{EveryNode}
use Rattle.store_clear.specs.ByWord.{AreLinked}
use Rattle.store_clear.specs.Pointers.{AreAllNever}

-- these are the nodes, all of them linked
pub record IsEveryNode (nodes : List Node) (every : EveryNode) : Type 0 where
  pub are : every.told.nodes.now ≡ nodes
  pub never : AreAllNever nodes every.told.conditions.now
  pub linked : AreLinked nodes every.told.conditions.now 0 every.links.now.first.items every.links.now.later.items
