use Rattle.std.proofs.Common.{◌≡◌, ◌∙◌, sym, ap, ◌+◌, ℕ, false}
use Rattle.node_keys.specs.Keys.{root_inst}
use Rattle.node_keys.specs.Order.{same_inst}
use Rattle.round_nesting.proofs.Numbers.{no_number}
use Rattle.round_nesting.proofs.drawing.number.Goals as goal

pub returns-in-None-clause-is : goal.returns-in-None-clause-is
returns-in-None-clause-is c =
    let other : same_inst c.args.inst.now root_inst ≡ false = ap (same_inst c.args.inst.now) (sym c.root.ensures) ∙ sym c.eq.ensures.test ∙ c.if-eq.false in
    ap (λ (n : ℕ). n + 1) c.len-count.ensures.len ∙ no_number c.args.inst.now c.args.others.now.keys other (sym c.in-None.is ∙ c.get_index_of.ensures.index)
