-- The instances that one instance reaches, as marks in a list.
use Rattle.std.specs.Prelude.{◌≡◌, ℕ, ◌+◌, ◌*◌, ◌≤◌, Bool, true, false, List, length, Contains, slice_index_or, ◌⊎◌}
use Rattle.std.specs.List.{sum_by}
use Rattle.instance_graph.specs.declared.graph.GraphInst.{GraphInst}
use Rattle.instance_graph.specs.declared.graph.Entered.{Entered}
use Rattle.instance_graph.specs.Graph.{EntersAlong, ReachesBy}

-- whether instance i is marked
abbrev pub marked : List Bool → ℕ → Bool
marked seen i = slice_index_or seen i false

-- ---- how many are not marked yet

abbrev pub one_if_new : Bool → ℕ
one_if_new true = 0
one_if_new false = 1

abbrev pub count_new : List Bool → ℕ
count_new seen = sum_by one_if_new seen

-- loop invariant: marked instances are reached, and all successors of a marked one that is not on the stack are marked
pub record IsMarked (gs : List GraphInst) (from : ℕ) (seen : List Bool) (stack : List ℕ) : Type 0 where
  pub same : length seen ≡ length gs
  pub reached : (j : ℕ) → marked seen j ≡ true → ReachesBy gs from j
  pub stacked : (j : ℕ) → Contains stack j → marked seen j ≡ true
  pub first : (e : Entered) → EntersAlong gs from e → marked seen e.into ≡ true
  pub rest : (j : ℕ) (e : Entered) → marked seen j ≡ true → EntersAlong gs j e → Contains stack j ⊎ (marked seen e.into ≡ true)

-- the marks and the stack after the targets of these edges are marked
pub record IsSpread (es : List Entered) (old : List Bool) (old_stack : List ℕ) (new : List Bool) (new_stack : List ℕ) : Type 0 where
  pub same : length new ≡ length old
  pub kept : (j : ℕ) → marked old j ≡ true → marked new j ≡ true
  pub stack_kept : (j : ℕ) → Contains old_stack j → Contains new_stack j
  pub all : (e : Entered) → Contains es e → marked new e.into ≡ true
  pub only : (j : ℕ) → marked new j ≡ true → (marked old j ≡ true) ⊎ ((e : Entered) × Contains es e × (e.into ≡ j) × Contains new_stack j)
  pub stack_only : (j : ℕ) → Contains new_stack j → Contains old_stack j ⊎ (marked new j ≡ true)
  pub less : 2 * count_new new + length new_stack ≤ 2 * count_new old + length old_stack
