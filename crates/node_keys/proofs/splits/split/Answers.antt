use Rattle.std.proofs.Common.{◌≡◌, ◌∙◌, sym, ap, ℕ, ◌+◌, ◌-◌, ◌≤◌, arith, true, List, [], ◌∷◌, map, ◌++◌}
use Rattle.std.specs.Int.{bit_at}
use Rattle.avr_model.specs.Vectors.{last_vector, enable_place_at, written_enables, with_enable}
use Rattle.node_keys.specs.Splits.{is_any, enable_in, enable_tri}
use Rattle.node_keys.proofs.Steps.{left_first, below_known, below_unknown, below_all}
use Rattle.node_keys.proofs.splits.split.Goals as goal
use Rattle.node_keys.proofs.splits.split.Goals.{then-is_unknown+in_ok-double, else-is_unknown}

pub loop-v-init : goal.loop-v-init
loop-v-init c =
    record {
      low = omega arith;
      so_far =
          c.in_ok-push.ensures.items ∙ ap (λ (ns : List ℕ). ns ++ c.write.result ∷ []) c.new-splits.ensures.items ∙ ap (λ (n : ℕ). n ∷ []) c.write.ensures
          ∙ sym (left_first (written_enables c.args.device c.args.m c.args.address c.args.value.now.value) (enable_tri c.args.device c.args.m c.args.address c.args.value.now));
    }

pub loop-v-preserved : goal.loop-v-preserved
loop-v-preserved c =
    let v : ℕ = c.loop-v.v in
    let last : v ≤ last_vector c.args.device = omega (arith, c.loop-v-test.true, c.last_vector-v-end.ensures.exact) in
    let test : c.is_unknown.result ≡ is_any (enable_in (enable_place_at c.args.device v c.args.address) c.args.value.now (bit_at c.args.m (v - 2))) =
    c.is_unknown.ensures ∙ (λ i. is_any (enable_in (c.place_if.ensures i) c.args.value.now (c.is_on.ensures i))) in
    elim c.if-is_unknown.branch [
      | then-is_unknown+in_ok-double w ↦
          let next = below_unknown c.args.device c.args.m c.args.address c.args.value.now v c.loop-v.invariant.low last (sym test ∙ w.if-is_unknown.true) in
          record {
            low = omega arith;
            so_far =
                ap (λ s. s.items) w.splits-is ∙ w.in_ok-double.ensures
                ∙ ap (λ (ns : List ℕ). ns ++ map (λ n. with_enable c.args.device n v true) ns) c.loop-v.invariant.so_far ∙ sym next;
          }
      | else-is_unknown w ↦
          let next = below_known c.args.device c.args.m c.args.address c.args.value.now v c.loop-v.invariant.low last (sym test ∙ w.if-is_unknown.false) in
          record { low = omega arith; so_far = ap (λ s. s.items) w.splits-is ∙ c.loop-v.invariant.so_far ∙ sym next }
    ]

pub returns : goal.returns
returns c =
    let last : c.loop-v.v ≡ last_vector c.args.device + 1 = omega (arith, c.loop-v-test.false, c.loop-v.auto.v, c.last_vector-v-end.ensures.exact) in
    c.loop-v.invariant.so_far ∙ below_all c.args.device c.args.m c.args.address c.args.value.now c.loop-v.v last
