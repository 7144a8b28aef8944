use Rattle.std.proofs.Common.{◌≡◌, refl, sym, ap, ◌∙◌, subst, inl, cond, Some, [], arith}
use Rattle.node_keys.specs.declared.keys.InstKey.{InstKey}
use Rattle.node_keys.specs.Order.{same_inst}
use Rattle.round_nesting.specs.declared.allowances.Allowance.{Allowance}
use Rattle.round_nesting.specs.Covers.{Granted, allowed}
use Rattle.round_nesting.proofs.Lowering.{lowered_one, allowed_here}
use Rattle.round_nesting.proofs.allowances.Allowances.make_room.Goals as goal

pub returns-in_ok-insert-clause-spot : goal.returns-in_ok-insert-clause-spot
returns-in_ok-insert-clause-spot c = λ _.
    let gs : Granted = c.args.self.now.map.entries in
    let new : Granted = c.insert.new.self.entries in
    let k : InstKey = c.args.spot.now.inst in
    let less : Allowance = record { need = c.in-Some.most.need; floor = c.from-offset.result } in
    let up : (q : InstKey) → allowed new q ≡ cond (same_inst k q) (Some less) (allowed gs q) =
    subst (λ (i : InstKey). (q : InstKey) → allowed new q ≡ cond (same_inst i q) (Some less) (allowed gs q)) c.inst-then-offset-most-2.ensures c.in_ok-insert.ensures.updates.0 in
    record {
      most = less;
      is = allowed_here gs new k less up;
      fits = omega (arith, c.from-offset.ensures, c.offset.ensures.is);
      low = omega (arith, c.if-offset-most.false);
    }

pub returns-in_ok-insert-clause-kept : goal.returns-in_ok-insert-clause-kept
returns-in_ok-insert-clause-kept c = λ _.
    let gs : Granted = c.args.self.now.map.entries in
    let new : Granted = c.insert.new.self.entries in
    let k : InstKey = c.args.spot.now.inst in
    let less : Allowance = record { need = c.in-Some.most.need; floor = c.from-offset.result } in
    let up : (q : InstKey) → allowed new q ≡ cond (same_inst k q) (Some less) (allowed gs q) =
    subst (λ (i : InstKey). (q : InstKey) → allowed new q ≡ cond (same_inst i q) (Some less) (allowed gs q)) c.inst-then-offset-most-2.ensures c.in_ok-insert.ensures.updates.0 in
    lowered_one gs new k c.in-Some.most less [] (sym c.in-Some.is ∙ c.of.ensures ∙ ap (allowed gs) c.inst.ensures) (omega arith) (omega (arith, c.if-offset-most-2.true))
    (λ _. omega (arith, c.if-offset-most.false)) (inl refl) up
