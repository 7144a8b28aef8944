use Rattle.std.proofs.Common.{◌∙◌, sym, ◌-◌}
use Rattle.std.specs.Int.{bit_at}
use Rattle.vector_table.proofs.Enables.{one_is, enabled_open, enabled_bit, disabled_bit, no_vector}
use Rattle.vector_table.proofs.enable_bits.Masks.has.Goals as goal

pub returns-then-is_open_vector : goal.returns-then-is_open_vector
returns-then-is_open_vector c =
    c.if-is_open_vector.true
    ∙ sym (enabled_open c.args.device c.args.self c.args.v (sym c.is_vector.ensures ∙ c.if-is_vector.true) (sym c.is_open_vector.ensures ∙ c.if-is_open_vector.true))

pub returns-then-is_on : goal.returns-then-is_on
returns-then-is_on c =
    c.has_enable_place.ensures
    ∙ sym (enabled_bit c.args.device c.args.self c.args.v (sym c.is_vector.ensures ∙ c.if-is_vector.true) (sym c.is_open_vector.ensures ∙ c.if-is_open_vector.false)
    (sym (one_is c.is_on.result (bit_at c.args.self (c.args.v - 2)) c.is_on.ensures) ∙ c.if-is_on.true))

pub returns-else-is_on : goal.returns-else-is_on
returns-else-is_on c =
    c.if-is_on.false
    ∙ sym (disabled_bit c.args.device c.args.self c.args.v (sym c.is_vector.ensures ∙ c.if-is_vector.true) (sym c.is_open_vector.ensures ∙ c.if-is_open_vector.false)
    (sym (one_is c.is_on.result (bit_at c.args.self (c.args.v - 2)) c.is_on.ensures) ∙ c.if-is_on.false))

pub returns-else-is_vector : goal.returns-else-is_vector
returns-else-is_vector c = c.if-is_vector.false ∙ sym (no_vector c.args.device c.args.self c.args.v (sym c.is_vector.ensures ∙ c.if-is_vector.false))
