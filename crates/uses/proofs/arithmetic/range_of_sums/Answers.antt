use Rattle.std.proofs.Common.{◌≡◌, ◌+◌, ◌%◌, false, refl, sym, subst, arith}
use Rattle.abs_alu.specs.Sums.{abs_add}
use Rattle.avr_model.specs.Sums.{sum_of}
use Rattle.bit_domain.specs.declared.bits.Tri.TheVariants.{Zero}
use Rattle.bit_domain.specs.declared.bytes.TriByte.{TriByte}
use Rattle.bit_domain.specs.TriByte.{Has}
use Rattle.uses.proofs.arithmetic.range_of_sums.Goals as goal

pub returns : goal.returns
returns c = λ x y small_x small_y has_x has_y.
    let covers = c.operations_cover.ensures.sums.sums c.args.a c.args.b c.any-any.result Zero x y 0 false small_x small_y has_x has_y (c.any-any.ensures.members 0) refl in
    let same : sum_of x y false % 256 ≡ (x + y) % 256 = omega arith in
    c.of_bits.ensures.members ((x + y) % 256) (omega arith)
    (subst (λ (p : TriByte × TriByte). Has p.0 ((x + y) % 256)) (sym c.add.ensures) (subst (Has (abs_add c.args.a c.args.b Zero c.any-any.result).0) same covers.0))
