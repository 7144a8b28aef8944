-- Laws of the calls of a pool.
use Rattle.std.specs.Prelude.{ℕ, ◌+◌, ◌≡◌, ◌<◌, ◌≤◌}
use Rattle.std.specs.FinMap.{len}
use Rattle.abs_state.specs.declared.state.AbsState.{AbsState}
use Rattle.state_pool.specs.Uses.{Uses, IsStateHeld, AreDistinct, AreUsed, AreBelow, IsInterned, released}

-- An interned state is in the pool. Interning it again gives the same number, and a release then restores the pool. So a state that is
-- released as often as it was interned is gone. Interning adds at most one state, and at most one to each count.
pub record ReleasesUndo : Type 0 where
  pub held : (old new : Uses) (s : AbsState) (n : ℕ) → IsInterned old s n new → (count : ℕ) × IsStateHeld new n s count
  pub same : (old new newer : Uses) (s : AbsState) (n k : ℕ) → AreDistinct new → IsInterned old s n new → IsInterned new s k newer → k ≡ n
  pub back : (old new : Uses) (s : AbsState) (n : ℕ) → AreUsed old → IsInterned old s n new → released new n ≡ old
  pub many : (old new : Uses) (s : AbsState) (n : ℕ) → IsInterned old s n new → len new ≤ len old + 1
  pub below : (old new : Uses) (s : AbsState) (n most : ℕ) → 0 < most → AreBelow most old → IsInterned old s n new → AreBelow (most + 1) new
