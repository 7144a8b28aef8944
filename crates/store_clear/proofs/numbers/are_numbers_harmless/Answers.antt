use Rattle.std.proofs.Common.{sym, ap, ◌∙◌}
use Rattle.pair_domain.specs.declared.intervals.Interval.{Interval}
use Rattle.pair_rules.specs.Told.{interval_of}
use Rattle.clear_laws.specs.Aims.{is_between, is_in_interval}
use Rattle.store_clear.proofs.numbers.are_numbers_harmless.Goals as goal

pub is_interval_harmless-requires-clause-follows : goal.is_interval_harmless-requires-clause-follows
is_interval_harmless-requires-clause-follows c p =
    ap (λ x. is_in_interval x c.args.r p) c.requires.follows
    ∙ ap (λ (x : Interval). is_between x.low x.high p) (sym (c.interval_of-interval.ensures ∙ ap (interval_of c.args.facts.now) c.widened.ensures))
