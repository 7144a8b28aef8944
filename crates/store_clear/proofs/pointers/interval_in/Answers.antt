use Rattle.std.proofs.Common.{sym, ap, ◌∙◌}
use Rattle.pair_rules.specs.Told.{interval_of}
use Rattle.store_clear.specs.Pointers.{ends_of}
use Rattle.store_clear.proofs.pointers.interval_in.Goals as goal

pub returns-in-None : goal.returns-in-None
returns-in-None c = sym (ap (λ x. ends_of x c.args.r) (sym c.get.ensures ∙ c.in-None.is))

pub returns-in-Some : goal.returns-in-Some
returns-in-Some c =
    c.interval_of.ensures ∙ ap (interval_of c.in-Some.facts) c.widened.ensures ∙ sym (ap (λ x. ends_of x c.args.r) (sym c.get.ensures ∙ c.in-Some.is))
