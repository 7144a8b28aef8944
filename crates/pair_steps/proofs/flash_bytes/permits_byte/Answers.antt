use Rattle.std.proofs.Common.{◌≡◌, ◌∙◌, sym, ap, ◌&&◌, nat_le, Bool, true, arith}
use Rattle.std.proofs.lemmas.Bool.Decides.{nat_tests}
use Rattle.bit_domain.specs.TriByte.{has}
use Rattle.pair_steps.proofs.Counting.{has_is}
use Rattle.pair_steps.proofs.flash_bytes.permits_byte.Goals as goal

pub returns-then-byte-value : goal.returns-then-byte-value
returns-then-byte-value c =
    let value = c.args.value in
    let byte = c.args.byte in
    let within : (nat_le value.low byte && nat_le byte value.high) ≡ true = grind (arith, nat_tests) in
    has_is value.bits byte c.has.result (λ t. c.has.ensures.0 t) (λ h. c.has.ensures.1 h)
    ∙ sym (ap (λ (b : Bool). b && has value.bits byte) within)
