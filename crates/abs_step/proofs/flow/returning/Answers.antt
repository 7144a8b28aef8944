use Rattle.std.proofs.Common.{◌≡◌, ◌∙◌, sym, ap, inl, inr, [], Some}
use Rattle.local_rules.specs.Raw.{leaves_by}
use Rattle.local_rules.specs.Flow.{at_closed, returning}
use Rattle.abs_step.proofs.Led.{led}
use Rattle.abs_step.proofs.flow.returning.Goals as goal

pub returns-in-Call : goal.returns-in-Call
returns-in-Call c nodes =
    let exit = c.args.exit in
    let pc = c.args.site.now.key.now.pc in
    let kind = c.args.site.now.key.now.inst.kind in
    let left : leaves_by exit ≡ record { moves = []; calls = c.empty.result; exit = Some exit; faults = [] } =
    sym (λ i. record { moves = []; calls = c.empty.ensures i; exit = Some exit; faults = [] }) in
    led nodes c.empty.result (Some exit) (at_closed c.args.site.now.key.now.sp pc (returning exit pc kind))
    (ap (λ sp. at_closed sp pc (returning exit pc kind)) c.in-Closed.is
    ∙ elim c.in-Call.is [
      | inl e ↦ (λ i. returning exit pc (e i) (c.if-offset-eq0.true i)) ∙ left
      | inr v ↦ (λ i. returning exit pc (v.1 i) (c.if-offset-eq0.true i)) ∙ left
    ])
