use Rattle.std.proofs.Common.{◌<◌, ℕ, sym, ap, ◌∙◌, subst, Some, length}
use Rattle.std.specs.Option.{option_map}
use Rattle.abs_state.specs.declared.state.AbsState.{AbsState}
use Rattle.state_pool.specs.Counts.{held_state, state_at}
use Rattle.state_pool.proofs.AllLaws.{counts_follow}
use Rattle.round_table.proofs.Families.{lands_if, lands_never}
use Rattle.round_table.proofs.Shared.{get_stated, times_found}
use Rattle.round_table.proofs.Raised.{number_long}
use Rattle.round_table.proofs.table.Table.covers.Goals as goal

pub get-requires-in-Some : goal.get-requires-in-Some
get-requires-in-Some c =
    let n = c.in-Some.number.now in
    let there = times_found c.args.node.now.key c.self.inside.map.entries n (sym c.in-Some.ensures.value) in
    counts_follow.there c.self.inside.pool n (subst (λ (m : ℕ). 0 < m) (sym (c.self.invariant.counted n)) there)

pub le-requires : goal.le-requires
le-requires c =
    c.requires
    ∙ sym
    (sym (ap (λ (s : AbsState). length s.slots) (ap held_state c.get-in-Some.ensures.1))
    ∙ number_long c.self.inside.pool c.self.inside.map.entries c.args.node.now.key c.in-Some.number.now c.self.invariant c.in-Some.ensures.value)

pub returns-in-Some : goal.returns-in-Some
returns-in-Some c =
    lands_if c.args.self.now c.args.node.now c.get-in-Some.result.now
    (get_stated c.self.inside.pool c.self.inside.map.entries c.args.self.now c.args.node.now.key c.self.view_is
    ∙ ap (option_map (state_at c.self.inside.pool)) (sym c.in-Some.ensures.value) ∙ ap Some (ap held_state c.get-in-Some.ensures.1)) c.le.result c.le.ensures

pub returns-in-None : goal.returns-in-None
returns-in-None c =
    lands_never c.args.self.now c.args.node.now
    (get_stated c.self.inside.pool c.self.inside.map.entries c.args.self.now c.args.node.now.key c.self.view_is
    ∙ ap (option_map (state_at c.self.inside.pool)) (sym c.in-None.ensures.value))
