use Rattle.std.proofs.Common.{◌≡◌, sym, ap, ◌∙◌, subst, cond, Some, List, [], ◌∷◌, ◌++◌, arith}
use Rattle.node_keys.specs.declared.keys.InstKey.{InstKey}
use Rattle.node_keys.specs.Order.{same_inst}
use Rattle.round_nesting.specs.declared.allowances.Allowance.{Allowance}
use Rattle.round_nesting.specs.Nestings.{Entrance}
use Rattle.round_nesting.specs.Covers.{Granted, allowed}
use Rattle.round_nesting.specs.Lowering.{Lowers}
use Rattle.round_nesting.proofs.Lowering.{lowers_covered, lowers_one}
use Rattle.round_nesting.proofs.allowances.Allowances.lower.Goals as goal

pub returns-then-into-left-clause-met : goal.returns-then-into-left-clause-met
returns-then-into-left-clause-met c = λ _.
    let gs : Granted = c.args.self.now.map.entries in
    lowers_covered c.args.self.now.back gs c.args.lowered.now.items c.args.entrance.now (record {
      from = c.in-Some-Some.from;
      into = c.in-Some-Some.into;
      is_from = sym (ap (allowed gs) c.from.ensures) ∙ sym c.of.ensures ∙ c.in-Some-Some.is-0;
      is_into = sym (ap (allowed gs) c.into.ensures) ∙ sym c.of-2.ensures ∙ c.in-Some-Some.is-1;
      need = omega (arith, c.in-Some.ensures, c.offset.ensures.is, c.from-2.ensures, c.from-3.ensures, c.if-into-left.true);
    })

pub returns-clause-met : goal.returns-clause-met
returns-clause-met c = λ _.
    let gs : Granted = c.args.self.now.map.entries in
    let new : Granted = c.insert.new.self.entries in
    let x : Entrance = c.args.entrance.now in
    let queue : List InstKey = c.args.lowered.now.items in
    let less : Allowance = record { need = c.max.result; floor = c.in-Some-Some.into.floor } in
    let up : (q : InstKey) → allowed new q ≡ cond (same_inst x.into q) (Some less) (allowed gs q) =
    subst (λ (k : InstKey). (q : InstKey) → allowed new q ≡ cond (same_inst k q) (Some less) (allowed gs q)) c.into-3.ensures c.in_ok-insert.ensures.updates.0 in
    subst (λ (now : List InstKey). Lowers c.args.self.now.back gs queue (x ∷ []) new now) (sym (c.in_ok-push.ensures.items ∙ ap (λ (i : InstKey). queue ++ i ∷ []) c.into-2.ensures))
    (lowers_one c.args.self.now.back gs new queue x c.in-Some-Some.from c.in-Some-Some.into less
    (sym c.in-Some-Some.is-0 ∙ c.of.ensures ∙ ap (allowed gs) c.from.ensures)
    (sym c.in-Some-Some.is-1 ∙ c.of-2.ensures ∙ ap (allowed gs) c.into.ensures)
    (omega (arith, c.max.ensures, c.saturating_sub.ensures, c.if-into-left.false, c.if-left-into.false))
    (omega arith)
    (omega (arith, c.max.ensures))
    (omega (arith, c.max.ensures, c.saturating_sub.ensures, c.if-left-into.false, c.in-Some.ensures, c.offset.ensures.is, c.from-2.ensures, c.from-3.ensures))
    up)
