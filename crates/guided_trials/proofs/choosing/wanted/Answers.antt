use Rattle.std.proofs.Common.{rules, sym, ◌∙◌, ◌≡◌, false}
use Rattle.guided_trials.specs.Choosing.{stands}
use Rattle.guided_trials.proofs.Nothing.{none_wanted}
use Rattle.guided_trials.proofs.choosing.wanted.Goals as goal

pub returns-then-not-reach : goal.returns-then-not-reach
returns-then-not-reach c =
    let short : c.reach.result ≡ false = search rules in
    none_wanted (stands c.args.menu.now) c.args.guide.now c.args.depth c.args.guide.now.takes (sym c.reach.ensures ∙ short)
