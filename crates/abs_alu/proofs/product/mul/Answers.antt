use Rattle.std.proofs.Common.{◌≡◌, ◌∙◌, ◌/◌, ◌%◌, ap, arith}
use Rattle.std.specs.Int.{bit_at}
use Rattle.std.specs.Prelude.{nat_le, ◌==◌, slice_index}
use Rattle.avr_model.specs.Product.{word_of, result_of}
use Rattle.bit_domain.specs.declared.bytes.TriByte.{TriByte}
use Rattle.bit_domain.specs.Tri.{tri_bit}
use Rattle.bit_domain.specs.TriByte.{byte_known, byte_with, tri_at}
use Rattle.bit_domain.proofs.AllLaws.{bytes_are_their_bits}
use Rattle.abs_alu.specs.Flags.{carry_and_zero}
use Rattle.abs_alu.specs.Product.{product_of_constants}
use Rattle.abs_alu.proofs.ProductCover.{carry_bit_is, zero_bit_is}
use Rattle.abs_alu.proofs.product.mul.Goals as goal

pub returns-in-Some-Some : goal.returns-in-Some-Some
returns-in-Some-Some c =
    let op = c.args.op in
    let x = c.in-Some-Some.x in
    let y = c.in-Some-Some.y in
    let value = c.mul-product.ensures.value in
    let bytes = c.to_le_bytes.ensures in
    let low = c.of.ensures.bits ∙ (λ p. byte_known (slice_index (bytes p) 0)) ∙ (λ p. byte_known (value p % 256)) in
    let top : c.mul-product.result.0 / 256 % 256 ≡ result_of op x y / 256 = omega arith in
    let high = c.of-in-Some-Some.ensures.bits ∙ (λ p. byte_known (slice_index (bytes p) 1)) ∙ ap byte_known top in
    let flags = c.of-flags.ensures.bits ∙ ap byte_known c.mul-product.ensures.flags in
    let word = c.mul-product.result.1.0 in
    let overflow = nat_le 32768 (word_of op x y) in
    let none = result_of op x y == 0 in
    let carry = c.bit.ensures ∙ ap (λ (t : TriByte). tri_at t 0) c.of-flags.ensures.bits ∙ bytes_are_their_bits.has_bits (λ i. tri_bit (bit_at word i)) 0 (omega arith)
    ∙ ap (λ n. tri_bit (bit_at n 0)) c.mul-product.ensures.flags ∙ ap tri_bit (carry_bit_is overflow none 0) in
    let zero = c.bit-in-Some-Some.ensures ∙ ap (λ (t : TriByte). tri_at t 1) c.of-flags.ensures.bits ∙ bytes_are_their_bits.has_bits (λ i. tri_bit (bit_at word i)) 1 (omega arith)
    ∙ ap (λ n. tri_bit (bit_at n 1)) c.mul-product.ensures.flags ∙ ap tri_bit (zero_bit_is overflow none 0) in
    let register =
    c.with-in-Some-Some.ensures ∙ (λ p. byte_with (c.with.ensures p) 1 c.bit-in-Some-Some.result) ∙ (λ p. carry_and_zero (carry p) (zero p) c.args.s) in
    (λ p. ((low p, high p), register p)) ∙ (λ p. product_of_constants op (c.in-Some-Some.ensures p) (c.in-Some-Some.ensures' p) c.args.s)
