-- The least ranks and needs.
use Rattle.std.specs.Prelude.{◌≡◌, ℕ, ◌<◌, ◌≤◌, List, length, slice_index}
use Rattle.instance_graph.specs.declared.graph.GraphInst.{GraphInst}
use Rattle.instance_graph.specs.Graph.{AreGraphRanks, AreGraphNeeds}

-- ranks and needs, one of each for each instance, and none are smaller anywhere; a return address takes `back` bytes
pub record IsLeast (back : ℕ) (gs : List GraphInst) (ranks needs : List ℕ) : Type 0 where
  pub ranks_length : length ranks ≡ length gs
  pub needs_length : length needs ≡ length gs
  pub are_ranks : AreGraphRanks gs (slice_index ranks)
  pub are_needs : AreGraphNeeds back gs (slice_index needs)
  pub least_ranks : (rank : ℕ → ℕ) → AreGraphRanks gs rank → (i : ℕ) → i < length gs → slice_index ranks i ≤ rank i
  pub least_needs : (need : ℕ → ℕ) → AreGraphNeeds back gs need → (i : ℕ) → i < length gs → slice_index needs i ≤ need i
