-- The nest of a family: which instance lies below which, and how deep. Source: own.
use Rattle.std.specs.Prelude.{ℕ, ◌≡◌, Some, None}
use Rattle.node_keys.specs.declared.keys.InstKey.{InstKey}
use Rattle.node_keys.specs.declared.keys.EdgeKind.{EdgeKind}
use Rattle.node_keys.specs.Keys.{root_inst, offset_of, cut_at}
use Rattle.local_rules.specs.declared.local.Node.{Node}
use Rattle.edge_rules.specs.Edges.{Enters}
use Rattle.local_rules.specs.Site.{Task}

-- Instance j lies below instance i, entered when so many bytes are below the base of i. By a node of i that enters j, if j isn't cut. And
-- the root has each cut instance that has a node, at the depth of its `recur` line: that stands for all calls of it, since a call at a
-- greater depth is flagged. The nodes of the family are those that `Has` has.
pub data NestEdge (task : Task) (Has : Node → Type 0) (i j : InstKey) (depth : ℕ) : Type 0 where
  enters : (n : Node) (way : EdgeKind) (back : ℕ) → Has n → n.key.inst ≡ i → offset_of n.key.sp ≡ depth → Enters task n way j back
      → cut_at task.assumptions j ≡ None → NestEdge task Has i j depth
  recurs : (n : Node) → Has n → n.key.inst ≡ j → cut_at task.assumptions j ≡ Some depth → i ≡ root_inst → NestEdge task Has i j depth
