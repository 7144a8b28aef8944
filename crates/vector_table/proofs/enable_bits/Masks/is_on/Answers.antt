use Rattle.std.proofs.Common.{◌∙◌, ap, ℕ, ◌-◌}
use Rattle.std.specs.Int.{bit_at}
use Rattle.vector_table.proofs.Enables.{bit_test}
use Rattle.vector_table.proofs.Places.{vector_room}
use Rattle.vector_table.proofs.enable_bits.Masks.is_on.Goals as goal

pub overflow_shr-result : goal.overflow_shr-result
overflow_shr-result c = (vector_room c.args.device c.args.v c.requires.vector).1.1.1

pub returns : goal.returns
returns c = bit_test c.self.inside.bits (c.args.v - 2) ∙ ap (λ (x : ℕ). bit_at x (c.args.v - 2)) c.self.view_is
