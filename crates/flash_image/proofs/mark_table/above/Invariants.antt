use Rattle.std.proofs.Common.{◌≡◌, ◌-◌, ◌<◌, ◌≤◌, ℕ, false, get_or}
use Rattle.flash_image.proofs.mark_table.above.Given as goal

-- none of the numbers so far is marked
abbrev pub invariant-loop-x : goal.invariant-loop-x
invariant-loop-x l = record {
  inside : l.x ≤ l.at;
  none : (m : ℕ) → l.x ≤ m → m < l.at → get_or l.table m false ≡ false;
}

abbrev pub decreases-loop-x : goal.decreases-loop-x
decreases-loop-x l = 65535 - l.at
