use Rattle.std.proofs.Common.{sym, ap, ◌∙◌, subst, map}
use Rattle.local_rules.specs.Raw.{moves_to, off_table}
use Rattle.local_rules.specs.Flow.{jumping}
use Rattle.abs_step.specs.Adding.{Adds}
use Rattle.abs_step.proofs.flow.jumping.Goals as goal

pub returns : goal.returns
returns c =
    let k = c.args.site.now.key.now in
    let s = c.args.site.now.state.now in
    subst (Adds c.args.nodes.now c.add_words-added.new.nodes c.add_words-added.result)
    ((λ i. moves_to (map (λ t. record { key = off_table k t; state = s }) (c.deref.ensures.value i))) ∙ ap (λ ts. jumping ts k s) (sym c.in_ok-words.ensures))
    c.add_words-added.ensures
