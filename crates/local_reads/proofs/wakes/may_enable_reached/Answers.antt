use Rattle.std.proofs.Common.{◌≡◌, ◌∙◌, sym, ap, arith, ℕ, ◌+◌, ◌-◌, ◌%◌, Bool, ◌&&◌}
use Rattle.node_keys.specs.Wakes.{may_enable}
use Rattle.local_rules.specs.Permitted.{permits_number}
use Rattle.local_reads.proofs.wakes.may_enable_reached.Goals as goal

pub returns-then-permits_number : goal.returns-then-permits_number
returns-then-permits_number c =
    let byte = c.args.byte.now in
    let small : byte.up % 65536 ≡ byte.up = omega arith in
    c.may_enable.ensures
    ∙ ap (λ (b : Bool). b && may_enable byte.bits c.args.place.now)
    (sym c.if-permits_number.true ∙ c.permits_number.ensures
    ∙ ap (λ (n : ℕ). permits_number byte.state.now byte.r ((c.args.place.now.address + (65536 - n)) % 65536)) (sym small))
