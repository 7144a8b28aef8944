use Rattle.std.proofs.Common.{◌∙◌, sym, get_or}
use Rattle.std.proofs.lemmas.List.Elements.{Contains-get_or}
use Rattle.chain_explain.proofs.Edges.{move_in}
use Rattle.chain_explain.proofs.way.counted_from.Goals as goal

pub overflow_sub-landing : goal.overflow_sub-landing
overflow_sub-landing c =
    let all = c.args.landings.now in
    let at = c.loop-landing.landing-index in
    c.requires _ (move_in all (get_or all at _) (Contains-get_or all at _ c.loop-landing-test.true) (sym c.is_entry.ensures ∙ c.if-not-is_entry.true))
