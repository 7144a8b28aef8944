use Rattle.std.proofs.Common.{◌∙◌, sym, subst, arith, true, ℕ, ◌+◌, ◌^◌, ◌<◌, ◌≤◌}
use Rattle.std.proofs.lemmas.Nat.{pow_pos}
use Rattle.avr_model.specs.Vectors.{enable_count, last_vector}
use Rattle.vector_table.proofs.AllLaws.{enables_are_vectors}
use Rattle.node_keys.proofs.Woken.{first_bits, next_on, next_off, all_bits}
use Rattle.node_keys.proofs.waking.widened.Goals as goal
use Rattle.node_keys.proofs.waking.widened.Goals.{then-is_wide, else-is_wide}

pub loop-v-init : goal.loop-v-init
loop-v-init c =
    record {
      least = omega arith;
      small = subst (λ (n : ℕ). n < 2 ^ enable_count c.args.device) (sym c.none-wide.ensures) (pow_pos (enable_count c.args.device));
      bits = first_bits c.args.device c.args.assumptions.now c.args.masks c.none-wide.result c.none-wide.ensures;
    }

pub loop-v-preserved : goal.loop-v-preserved
loop-v-preserved c =
    elim c.if-is_wide.branch [
      | then-is_wide w ↦
          let is = w.wide-is ∙ w.with-wide.ensures in
          record {
            least = omega arith;
            small = subst (λ (n : ℕ). n < 2 ^ enable_count c.args.device) (sym is) (enables_are_vectors.turned c.args.device c.loop-v.wide c.loop-v.v true);
            bits =
                next_on c.args.device c.args.assumptions.now c.args.masks c.loop-v.wide c.loop-v.v c.if-is_wide.wide c.is_wide.result w.if-is_wide.true c.is_wide.ensures is
                c.loop-v.invariant.bits;
          }
      | else-is_wide w ↦
          rw w.wide-is
          (record {
            least = omega arith;
            small = c.loop-v.invariant.small;
            bits =
                next_off c.args.device c.args.assumptions.now c.args.masks c.loop-v.wide c.loop-v.v c.is_wide.result w.if-is_wide.false c.is_wide.ensures c.loop-v.invariant.bits;
          })
    ]

pub returns : goal.returns
returns c =
    let last : last_vector c.args.device + 1 ≤ c.loop-v.v = omega (arith, c.loop-v-test.false, c.last_vector-v-end.ensures.exact) in
    all_bits c.args.device c.args.assumptions.now c.args.masks c.loop-v.wide c.loop-v.v c.loop-v.invariant.small last c.loop-v.invariant.bits
