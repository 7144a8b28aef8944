use Rattle.std.proofs.Common.{sym, ◌∙◌}
use Rattle.std.proofs.lemmas.Bool.Decides.{same_from_decides}
use Rattle.state_pool.specs.SameState.{same_state}
use Rattle.state_pool.specs.Equal.{same_state_decides}
use Rattle.state_pool.proofs.shared.SharedPartialEq.eq.Goals as goal

pub returns : goal.returns
returns c =
    same_from_decides c.is_same.result (same_state c.args.self.now c.args.other.now)
    ((λ t. sym c.self.view_is ∙ c.is_same.ensures.0 t ∙ c.other.view_is), (λ e. c.is_same.ensures.1 (c.self.view_is ∙ e ∙ sym c.other.view_is)))
    (same_state_decides c.args.self.now c.args.other.now)
