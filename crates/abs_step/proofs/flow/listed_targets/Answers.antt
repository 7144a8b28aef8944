use Rattle.std.proofs.Common.{rules, ap, ◌∙◌, ℕ, Bool, arith}
use Rattle.avr_model.specs.Assumptions.{lists}
use Rattle.local_rules.specs.Flow.{words_on, z_with}
use Rattle.abs_step.proofs.Gathered.{kept_more, kept_less}
use Rattle.abs_step.proofs.flow.listed_targets.Goals as goal
use Rattle.abs_step.proofs.flow.listed_targets.Goals.{then-is_target+else-is_err, else-is_target}

pub loop-at-preserved : goal.loop-at-preserved
loop-at-preserved c =
    let p : ℕ → Bool = lists (words_on c.args.device (z_with c.args.state.now c.args.bank)) in
    elim c.if-is_target.branch [
      | then-is_target+else-is_err w ↦ kept_more p c.args.listed.now c.loop-at.words.items c.if-is_target.words.items c.loop-at.at c.is_target.result (omega arith) c.loop-at.invariant c.is_target.ensures w.if-is_target.true (ap (λ v. v.items) w.words-is ∙ search rules)
      | else-is_target w ↦ ap (λ v. v.items) w.words-is ∙ kept_less p c.args.listed.now c.loop-at.words.items c.loop-at.at c.is_target.result (omega arith) c.loop-at.invariant c.is_target.ensures w.if-is_target.false
    ]
