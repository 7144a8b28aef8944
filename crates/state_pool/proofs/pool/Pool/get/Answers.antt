use Rattle.std.proofs.Common.{sym, ap, ◌∙◌, subst, Some}
use Rattle.std.specs.Option.{IsSome}
use Rattle.state_pool.proofs.Kept.{number_low, at_place}
use Rattle.state_pool.proofs.pool.Pool.get.Goals as goal

pub place-place-requires : goal.place-place-requires
place-place-requires c = number_low c.self.inside.numbers c.self.inside.uses.entries c.args.self.now c.args.number c.self.invariant c.self.view_is c.requires

pub unreachable-requires : goal.unreachable-requires
unreachable-requires c =
    let at = at_place c.self.inside.numbers c.self.inside.uses.entries c.args.self.now c.args.number c.place-place.result c.self.invariant c.self.view_is c.requires
    c.place-place.ensures.low c.place-place.ensures.place in
    let never = subst IsSome c.in-None.is (c.get_index.ensures.found.1 at.low) in absurd (cc)

pub returns : goal.returns
returns c =
    let at = at_place c.self.inside.numbers c.self.inside.uses.entries c.args.self.now c.args.number c.place-place.result c.self.invariant c.self.view_is c.requires
    c.place-place.ensures.low c.place-place.ensures.place in (
      c.in-Some.field-0-1.now,
      at.there ∙ sym at.entry ∙ sym c.in-Some.ensures.entry ∙ ap (λ s. Some (s, c.in-Some.field-0-1.now)) (sym c.shared.view_is),
    )
