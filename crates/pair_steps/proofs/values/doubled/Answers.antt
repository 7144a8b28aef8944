use Rattle.std.proofs.Common.{◌≡◌, sym, ◌∙◌, ap, subst, ℕ, ◌-◌, ◌==◌, if◌then◌else◌, arith}
use Rattle.bit_domain.specs.declared.bits.Tri.{Tri}
use Rattle.bit_domain.specs.declared.bytes.TriByte.{TriByte}
use Rattle.bit_domain.specs.TriByte.{tri_at, byte_with}
use Rattle.bit_domain.proofs.AllLaws.{bytes_are_their_bits}
use Rattle.pair_domain.proofs.Seeking.{with_more}
use Rattle.pair_steps.proofs.values.doubled.Goals as goal

pub loop-k-preserved : goal.loop-k-preserved
loop-k-preserved c = λ j h.
    let f : ℕ → Tri = λ (i : ℕ). if i == 0 then c.args.low else tri_at c.args.bits (i - 1) in
    subst (λ (t : TriByte). tri_at t j ≡ f j) (sym (c.with-up.ensures ∙ ap (λ (b : Tri). byte_with c.loop-k.up c.loop-k.k b) c.doubled_bit.ensures))
    (with_more c.loop-k.up f c.loop-k.k (omega arith) c.loop-k.invariant j h)

pub returns : goal.returns
returns c = bytes_are_their_bits.built c.loop-k.up (λ (i : ℕ). if i == 0 then c.args.low else tri_at c.args.bits (i - 1)) (λ j h. c.loop-k.invariant j (omega arith))
