-- The definition of clear nodes is met by some firmware, and fails for another.
use Rattle.std.specs.Prelude.{Contains}
use Rattle.local_rules.specs.declared.local.Node.{Node}
use Rattle.edge_rules.specs.Families.{IsSoundFamily}
use Rattle.clear_laws.specs.Clear.{IsClear}
use Rattle.family_tables.specs.Stores.{over_room, over_pushed, room_family, pushed_family, at_depth}
use Rattle.local_rules.specs.Site.{bare}

-- A firmware that stores onto a byte of its stack that no push made live has a sound family of clear nodes. If the byte was pushed, the
-- store isn't clear, although its slot is free.
pub record ClearnessIsMet : Type 0 where
  pub sound : IsSoundFamily (bare over_room) room_family
  pub clear : (n : Node) → Contains room_family.nodes n → IsClear (bare over_room) room_family n
  pub unclear : IsClear (bare over_pushed) pushed_family (at_depth 2 2) → ⊥
