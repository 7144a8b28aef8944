use Rattle.std.proofs.Common.{◌≡◌, ◌<◌, ◌≤◌, ℕ, false, get_or}
use Rattle.flash_image.proofs.mark_table.below.Given as goal

-- none of the numbers so far is marked
abbrev pub invariant-loop-x : goal.invariant-loop-x
invariant-loop-x l = record {
  inside : l.at ≤ l.x;
  none : (m : ℕ) → l.at < m → m ≤ l.x → get_or l.table m false ≡ false;
}

abbrev pub decreases-loop-x : goal.decreases-loop-x
decreases-loop-x l = l.at
