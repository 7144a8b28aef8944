-- The lexicographic order of keys by their numbers.
use Rattle.std.specs.Prelude.{ℕ, Bool, List}
use Rattle.std.specs.Cmp.Lexicographic.{slice_cmp}
use Rattle.std.specs.Ordering.{nat_cmp, is_eq}
use Rattle.std.specs.declared.cmp.Ordering.{Ordering}
use Rattle.node_keys.specs.declared.keys.InstKey.{InstKey}
use Rattle.node_keys.specs.declared.keys.NodeKey.{NodeKey}
use Rattle.node_keys.specs.Keys.{inst_numbers, node_numbers}

-- the first difference decides
abbrev pub numbers_cmp : List ℕ → List ℕ → Ordering
numbers_cmp = slice_cmp nat_cmp

unfoldable pub inst_cmp : InstKey → InstKey → Ordering
inst_cmp a b = numbers_cmp (inst_numbers a) (inst_numbers b)

unfoldable pub node_cmp : NodeKey → NodeKey → Ordering
node_cmp a b = numbers_cmp (node_numbers a) (node_numbers b)

-- whether two instances have the same numbers
unfoldable pub same_inst : InstKey → InstKey → Bool
same_inst a b = is_eq (inst_cmp a b)

unfoldable pub same_node : NodeKey → NodeKey → Bool
same_node a b = is_eq (node_cmp a b)
