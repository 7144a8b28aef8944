use Rattle.std.proofs.Common.{sym, ap, ◌∙◌, subst, Some, arith}
use Rattle.std.specs.Option.{IsSome}
use Rattle.std.specs.List.{swap}
use Rattle.std.proofs.lemmas.Option.{none-some}
use Rattle.state_pool.proofs.Kept.{number_low, at_place, kept_set, kept_less, released_less, released_last, taken, taken_long, not_given, given_there}
use Rattle.state_pool.proofs.pool.Pool.release.Goals as goal
use Rattle.state_pool.proofs.pool.Pool.release.Goals.{in-Some-taken, in-None-taken}

pub place-place-requires : goal.place-place-requires
place-place-requires c = number_low c.self.inside.numbers c.self.inside.uses.entries c.args.self.now c.args.number c.self.invariant c.self.view_is c.requires

pub unreachable-requires : goal.unreachable-requires
unreachable-requires c =
    let at = at_place c.self.inside.numbers c.self.inside.uses.entries c.args.self.now c.args.number c.place-place.result c.self.invariant c.self.view_is c.requires
    c.place-place.ensures.low c.place-place.ensures.place in
    let never = subst IsSome c.in-None.is (c.get_index.ensures.found.1 at.low) in absurd (cc)

pub set_count-requires : goal.set_count-requires
set_count-requires c =
    (at_place c.self.inside.numbers c.self.inside.uses.entries c.args.self.now c.args.number c.place-place.result c.self.invariant c.self.view_is c.requires
    c.place-place.ensures.low c.place-place.ensures.place).low

pub invariant_of-self : goal.invariant_of-self
invariant_of-self c = kept_set c.self.inside.numbers c.self.inside.uses.entries c.set_count.new.uses.entries c.place-place.result _ c.self.invariant
    (let lt = c.if-count-gt1.true in omega (arith, lt)) c.set_count.ensures

pub returns-then-count-gt1-clause-pool : goal.returns-then-count-gt1-clause-pool
returns-then-count-gt1-clause-pool c =
    released_less c.self.inside.numbers c.self.inside.uses.entries c.set_count.new.uses.entries c.args.self.now c.args.number c.place-place.result c.in-Some.field-0-0.now
    c.in-Some.count.now c.self.invariant c.self.view_is c.place-place.ensures.place (sym c.in-Some.ensures.entry) c.if-count-gt1.true c.set_count.ensures

pub returns-then-count-gt1-clause-given : goal.returns-then-count-gt1-clause-given
returns-then-count-gt1-clause-given c =
    not_given c.self.inside.numbers c.self.inside.uses.entries c.args.self.now c.args.number c.place-place.result c.in-Some.field-0-0.now c.in-Some.count.now c.self.invariant c.self.view_is
    c.place-place.ensures.place (sym c.in-Some.ensures.entry) c.if-count-gt1.true

pub invariant_of-self-else-count-gt1 : goal.invariant_of-self-else-count-gt1
invariant_of-self-else-count-gt1 c =
    let es = c.self.inside.uses.entries in
    let new = c.swap_remove_index-taken.new.self.entries in
    let p = c.place-place.result in
    let at = at_place c.self.inside.numbers es c.args.self.now c.args.number p c.self.invariant c.self.view_is c.requires c.place-place.ensures.low c.place-place.ensures.place in
    kept_less c.self.inside.numbers c.swap.new.self es new p (c.in-Some.field-0-0.now, c.in-Some.count.now) c.self.invariant at.low
    (c.swap.ensures.swapped ∙ ap (swap c.self.inside.numbers p) c.len.ensures.len)
    (taken es new p (c.in-Some.field-0-0.now, c.in-Some.count.now) c.swap_remove_index-taken.result c.swap_remove_index-taken.ensures.entry (sym c.in-Some.ensures.entry)
    c.swap_remove_index-taken.ensures.entries)
    (taken_long es new p (c.in-Some.field-0-0.now, c.in-Some.count.now) c.swap_remove_index-taken.result c.swap_remove_index-taken.ensures.entry (sym c.in-Some.ensures.entry)
    c.swap_remove_index-taken.ensures.len)
    c.swap.ensures.once c.len.ensures.unique

pub returns-after-taken-clause-pool : goal.returns-after-taken-clause-pool
returns-after-taken-clause-pool c =
    released_last c.self.inside.numbers c.swap.new.self c.self.inside.uses.entries c.swap_remove_index-taken.new.self.entries c.args.self.now c.args.number c.place-place.result
    c.in-Some.field-0-0.now c.in-Some.count.now (c.in-Some.field-0-0.now, c.in-Some.count.now) c.self.invariant c.self.view_is c.place-place.ensures.place
    (sym c.in-Some.ensures.entry) c.if-count-gt1.false (c.swap.ensures.swapped ∙ ap (swap c.self.inside.numbers c.place-place.result) c.len.ensures.len)
    (taken c.self.inside.uses.entries c.swap_remove_index-taken.new.self.entries c.place-place.result (c.in-Some.field-0-0.now, c.in-Some.count.now) c.swap_remove_index-taken.result
    c.swap_remove_index-taken.ensures.entry (sym c.in-Some.ensures.entry) c.swap_remove_index-taken.ensures.entries)
    (taken_long c.self.inside.uses.entries c.swap_remove_index-taken.new.self.entries c.place-place.result (c.in-Some.field-0-0.now, c.in-Some.count.now) c.swap_remove_index-taken.result
    c.swap_remove_index-taken.ensures.entry (sym c.in-Some.ensures.entry) c.swap_remove_index-taken.ensures.len)
    c.swap.ensures.once
    c.len.ensures.unique

pub returns-after-taken-clause-given : goal.returns-after-taken-clause-given
returns-after-taken-clause-given c =
    elim c.match-taken.branch [
      | in-Some-taken w ↦
          w.result-is
          ∙ ap Some w.shared.view_is
          ∙ given_there c.self.inside.numbers c.self.inside.uses.entries c.args.self.now c.args.number c.place-place.result c.in-Some.field-0-0.now _ c.in-Some.count.now _
          c.self.invariant c.self.view_is c.place-place.ensures.place (sym c.in-Some.ensures.entry) c.if-count-gt1.false (sym w.in-Some-taken.is ∙ c.swap_remove_index-taken.ensures.entry)
      | in-None-taken w ↦ absurd (none-some _ (sym w.in-None-taken.is ∙ c.swap_remove_index-taken.ensures.entry ∙ (sym c.in-Some.ensures.entry)))
    ]
