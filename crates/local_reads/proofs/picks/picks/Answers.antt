use Rattle.std.proofs.Common.{◌≡◌, ◌∙◌, sym, ap, rules, ℕ, Bool, List, [], ◌∷◌, ◌++◌}
use Rattle.local_rules.specs.Registers.{value}
use Rattle.local_rules.specs.Local.{below}
use Rattle.local_rules.specs.Permitted.{may_be}
use Rattle.local_reads.proofs.Picked.{passes_next, stops_next}
use Rattle.local_reads.proofs.picks.picks.Goals as goal
use Rattle.local_reads.proofs.picks.picks.Goals.{then-may_be+else-is_err, else-may_be}

pub loop-byte-init : goal.loop-byte-init
unfolding below
loop-byte-init c = c.new-picks.ensures.items

pub loop-byte-preserved : goal.loop-byte-preserved
loop-byte-preserved c =
    let p : ℕ → Bool = may_be (value c.args.state.now 30) in
    let told : c.may_be.result ≡ p c.loop-byte.byte = c.may_be.ensures ∙ ap (λ v. may_be v c.loop-byte.byte) (c.value-index.ensures ∙ ap (value c.args.state.now) c.new.ensures) in
    elim c.if-may_be.branch [
      | then-may_be+else-is_err w ↦
          let pushed : c.if-may_be.picks.items ≡ c.loop-byte.picks.items ++ c.loop-byte.byte ∷ [] = search rules in
          pushed ∙ ap (λ (xs : List ℕ). xs ++ c.loop-byte.byte ∷ []) c.loop-byte.invariant ∙ sym (passes_next p c.loop-byte.byte (sym told ∙ w.if-may_be.true))
      | else-may_be w ↦
          ap (λ v. v.items) w.picks-is ∙ c.loop-byte.invariant ∙ sym (stops_next p c.loop-byte.byte (sym told ∙ w.if-may_be.false))
    ]
