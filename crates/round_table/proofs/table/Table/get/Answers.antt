use Rattle.std.proofs.Common.{◌<◌, ℕ, sym, ap, ◌∙◌, subst, Some}
use Rattle.std.specs.Option.{option_map}
use Rattle.state_pool.specs.Counts.{held_state, state_at}
use Rattle.state_pool.proofs.AllLaws.{counts_follow}
use Rattle.round_table.proofs.Shared.{get_stated, times_found}
use Rattle.round_table.proofs.table.Table.get.Goals as goal

pub get-requires-in-Some : goal.get-requires-in-Some
get-requires-in-Some c =
    let n = c.in-Some.number.now in
    let there = times_found c.args.key.now c.self.inside.map.entries n (sym c.in-Some.ensures.value) in
    counts_follow.there c.self.inside.pool n (subst (λ (m : ℕ). 0 < m) (sym (c.self.invariant.counted n)) there)

pub returns-in-Some : goal.returns-in-Some
returns-in-Some c =
    let n = c.in-Some.number.now in
    sym (get_stated c.self.inside.pool c.self.inside.map.entries c.args.self.now c.args.key.now c.self.view_is
    ∙ ap (option_map (state_at c.self.inside.pool)) (sym c.in-Some.ensures.value) ∙ ap Some (ap held_state c.get-in-Some.ensures.1))

pub returns-in-None : goal.returns-in-None
returns-in-None c =
    sym (get_stated c.self.inside.pool c.self.inside.map.entries c.args.self.now c.args.key.now c.self.view_is
    ∙ ap (option_map (state_at c.self.inside.pool)) (sym c.in-None.ensures.value))
