use Rattle.std.proofs.Common.{◌≡◌, ◌∙◌, ◌<◌, ℕ, ap, arith, cond, eqb}
use Rattle.bit_domain.specs.declared.bits.Tri.{Tri}
use Rattle.bit_domain.specs.declared.bytes.TriByte.{TriByte}
use Rattle.bit_domain.specs.TriByte.{tri_at, byte_with}
use Rattle.bit_domain.proofs.AllLaws.{bytes_are_their_bits}
use Rattle.abs_alu.specs.Flags.{flag_bit}
use Rattle.abs_alu.proofs.FlagCover.{below_eight}
use Rattle.abs_alu.proofs.flags.with_flags.Goals as goal

-- bit j after a write of bit i
written : (t r : TriByte) (i : ℕ) (bit : Tri) → r ≡ byte_with t i bit → (j : ℕ) → j < 8 → tri_at r j ≡ cond (eqb j i) bit (tri_at t j)
written t r i bit e j h = ap (λ (u : TriByte). tri_at u j) e ∙ bytes_are_their_bits.has_bits (λ k. cond (eqb k i) bit (tri_at t k)) j h

pub returns : goal.returns
returns c =
    let w1 = written c.args.s c.with.result 0 c.args.carry c.with.ensures in
    let w2 = written c.with.result c.with-2.result 1 c.args.zero c.with-2.ensures in
    let w3 = written c.with-2.result c.with-3.result 2 c.args.negative c.with-3.ensures in
    let w4 = written c.with-3.result c.with-4.result 3 c.args.overflow c.with-4.ensures in
    let w5 = written c.with-4.result c.with-5.result 4 c.xor.result c.with-5.ensures in
    let w6 = written c.with-5.result c.with-6.result 5 c.args.half c.with-6.ensures in
    let h0 : 0 < 8 = omega arith in
    let h1 : 1 < 8 = omega arith in
    let h2 : 2 < 8 = omega arith in
    let h3 : 3 < 8 = omega arith in
    let h4 : 4 < 8 = omega arith in
    let h5 : 5 < 8 = omega arith in
    let h6 : 6 < 8 = omega arith in
    let h7 : 7 < 8 = omega arith in
    let f = flag_bit c.args.carry c.args.zero c.args.negative c.args.overflow c.args.half c.args.s in
    bytes_are_their_bits.built c.with-6.result f (below_eight (λ i. tri_at c.with-6.result i ≡ f i)
    (w6 0 h0 ∙ w5 0 h0 ∙ w4 0 h0 ∙ w3 0 h0 ∙ w2 0 h0 ∙ w1 0 h0)
    (w6 1 h1 ∙ w5 1 h1 ∙ w4 1 h1 ∙ w3 1 h1 ∙ w2 1 h1)
    (w6 2 h2 ∙ w5 2 h2 ∙ w4 2 h2 ∙ w3 2 h2)
    (w6 3 h3 ∙ w5 3 h3 ∙ w4 3 h3)
    (w6 4 h4 ∙ w5 4 h4 ∙ c.xor.ensures)
    (w6 5 h5)
    (w6 6 h6 ∙ w5 6 h6 ∙ w4 6 h6 ∙ w3 6 h6 ∙ w2 6 h6 ∙ w1 6 h6)
    (w6 7 h7 ∙ w5 7 h7 ∙ w4 7 h7 ∙ w3 7 h7 ∙ w2 7 h7 ∙ w1 7 h7))
