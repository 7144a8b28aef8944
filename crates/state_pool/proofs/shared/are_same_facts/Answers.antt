use Rattle.state_pool.proofs.SameStates.{same_facts}
use Rattle.state_pool.proofs.shared.are_same_facts.Goals as goal

pub returns-then-le : goal.returns-then-le
returns-then-le c =
    let same = same_facts c.args.facts.now c.args.other.now c.kept.ensures c.kept-2.ensures in
    ((λ t. same.0 (c.le.ensures.0 c.if-le.true, c.le-then-le.ensures.0 t)), (λ e. c.le-then-le.ensures.1 (same.1 e).1))
