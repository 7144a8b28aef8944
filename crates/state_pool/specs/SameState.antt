-- Equality of two states.
use Rattle.std.specs.Prelude.{Bool, true, false, ◌&&◌, ◌==◌}
use base.Stored.{Gv}
use base.Stored.Gv.{gnil, gnum, gcons}
use Rattle.abs_state.specs.contracts.state.AbsState as abs_state
use Rattle.abs_state.specs.declared.state.AbsState.{AbsState}

-- two trees of numbers are equal
unfoldable pub same_tree : Gv → Gv → Bool
same_tree gnil gnil = true
same_tree (gnum n) (gnum m) = n == m
same_tree (gcons a b) (gcons c d) = same_tree a c && same_tree b d
same_tree _ _ = false

-- two states are equal if their codes are
unfoldable pub same_state : AbsState → AbsState → Bool
same_state s t = same_tree (abs_state.the_row.coded.code s) (abs_state.the_row.coded.code t)
