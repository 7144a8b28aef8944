use Rattle.std.proofs.Common.{◌∙◌, ap₂, arith, ℕ, ◌&&◌, Option}
use Rattle.avr_model.specs.Vectors.{held_of, is_moving}
use Rattle.bit_domain.specs.declared.bits.Tri.{Tri}
use Rattle.bit_domain.proofs.AllLaws.{bytes_are_their_bits}
use Rattle.local_rules.specs.Reads.{io_tri, free_tri}
use Rattle.local_reads.proofs.Enabled.{one_more}
use Rattle.local_reads.proofs.reads.io_bits.Goals as goal

pub loop-bit-preserved : goal.loop-bit-preserved
loop-bit-preserved c =
    one_more c.loop-bit.bits c.with-bits.result c.loop-bit.bit c.io_tri.result
    (λ i. io_tri (free_tri (c.args.may && is_moving c.args.device c.args.address i)) c.args.may (held_of c.args.device c.args.address i) c.args.masks) c.loop-bit-test.true
    c.loop-bit.invariant (c.io_tri.ensures ∙ ap₂ (λ (t : Tri) (o : Option ℕ). io_tri t c.args.may o c.args.masks) c.free_tri-free.ensures c.held_of-vector.ensures.exact) c.with-bits.ensures

pub returns : goal.returns
returns c =
    bytes_are_their_bits.built c.loop-bit.bits
    (λ i. io_tri (free_tri (c.args.may && is_moving c.args.device c.args.address i)) c.args.may (held_of c.args.device c.args.address i) c.args.masks) (λ i lt. c.loop-bit.invariant i (omega arith))
