use Rattle.std.proofs.Common.{ℕ, ◌*◌, ◌∙◌, ap, false, replicate}
use Rattle.elf_load.proofs.taken.TakenBytes.none.Goals as goal

pub returns : goal.returns
returns c = c.in_ok-flags.ensures.items_if_clones_equal (λ y e. e) ∙ ap (λ (n : ℕ). replicate (2 * n) false) c.limit.ensures
