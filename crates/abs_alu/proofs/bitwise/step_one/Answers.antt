use Rattle.std.proofs.Common.{◌≡◌, ◌∙◌, sym, ap}
use Rattle.bit_domain.specs.declared.bits.Tri.TheVariants.{Zero}
use Rattle.bit_domain.specs.declared.sums.Sum.{Sum}
use Rattle.bit_domain.specs.TriByte.{byte_known}
use Rattle.bit_domain.specs.Logic.{byte_equal}
use Rattle.bit_domain.specs.Sums.{byte_sum, byte_difference}
use Rattle.abs_alu.specs.Flags.{result_flags}
use Rattle.abs_alu.specs.Bitwise.{step_bits, step_limit}
use Rattle.abs_alu.proofs.bitwise.step_one.Goals as goal
use Rattle.abs_alu.proofs.bitwise.step_one.Goals.{then-up, else-up, then-up-2, else-up-2}

pub returns : goal.returns
returns c =
    let one = c.of-one.ensures.bits in
    let r : c.if-up.r ≡ step_bits c.args.up c.args.a = elim c.if-up.branch [
      | then-up w ↦
          w.r-is ∙ ap (λ (m : Sum). m.bits) w.add.ensures ∙ (λ p. (byte_sum c.args.a (one p) Zero).bits) ∙ ap (λ up. step_bits up c.args.a) (sym w.if-up.true)
      | else-up w ↦
          w.r-is ∙ ap (λ (m : Sum). m.bits) w.sub.ensures ∙ (λ p. (byte_difference c.args.a (one p) Zero).bits) ∙ ap (λ up. step_bits up c.args.a) (sym w.if-up.false)
    ] in
    let limit : c.if-up-2.limit ≡ step_limit c.args.up = elim c.if-up-2.branch [
      | then-up-2 w ↦ w.limit-is ∙ ap step_limit (sym w.if-up-2.true)
      | else-up-2 w ↦ w.limit-is ∙ ap step_limit (sym w.if-up-2.false)
    ] in
    let greatest = c.of.ensures.bits ∙ ap byte_known limit in
    let overflow = c.equal-overflow.ensures ∙ (λ p. byte_equal (r p) (greatest p)) in
    let flags = c.after_result.ensures ∙ (λ p. result_flags (c.bit.ensures p) (overflow p) (r p) c.args.s) in
    λ p. (r p, flags p)
