-- The first instance on a cycle, among those visited so far.
use Rattle.std.specs.Prelude.{◌≡◌, ℕ, ◌<◌, ◌≤◌, List, Option, Some, MatchOption, length, slice_get, slice_index}
use Rattle.instance_graph.specs.declared.graph.Entered.{Entered}
use Rattle.instance_graph.specs.declared.graph.GraphInst.{GraphInst}
use Rattle.instance_graph.specs.Graph.{EntersAlong, ReachesBy}
use Rattle.instance_graph.specs.Cycle.{IsNoLater}

-- an instance on a cycle that comes no later than any below n
pub record IsNamedOf (gs : List GraphInst) (n at : ℕ) : Type 0 where
  pub inside : at < length gs
  pub reaches : ReachesBy gs at at
  pub first : (j : ℕ) (a b : GraphInst) → j < n → ReachesBy gs j j → slice_get gs at ≡ Some a → slice_get gs j ≡ Some b → IsNoLater a.key at b.key j

-- no instance below n is on a cycle, or this is the first of those that are
abbrev pub IsNamedBelow : List GraphInst → ℕ → Option ℕ → Type 0
IsNamedBelow gs n best = MatchOption best ((j : ℕ) → j < n → ReachesBy gs j j → ⊥) (IsNamedOf gs n)

-- instances in an order in which none enters one with a greater number
abbrev pub AreLayers : List GraphInst → List ℕ → Type 0
AreLayers gs numbers = (i : ℕ) (e : Entered) → EntersAlong gs i e → slice_index numbers e.into ≤ slice_index numbers i
