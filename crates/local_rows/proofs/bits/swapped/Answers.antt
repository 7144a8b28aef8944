use Rattle.std.proofs.Common.{◌∙◌, ◌+◌, ◌%◌}
use Rattle.std.specs.Int.{bit_at}
use Rattle.bit_domain.specs.TriByte.{tri_of, tri_at}
use Rattle.bit_domain.proofs.AllLaws.{bytes_are_their_bits}
use Rattle.local_rows.proofs.bits.swapped.Goals as goal

pub returns : goal.returns
returns c =
    c.new.ensures
    ∙ bytes_are_their_bits.same (λ i. tri_of (bit_at c.halves_exchanged.result i) (bit_at c.halves_exchanged-2.result i)) (λ i. tri_at c.args.bits ((i + 4) % 8)) (λ i h p.
    tri_of (c.halves_exchanged.ensures i h p) (c.halves_exchanged-2.ensures i h p))
