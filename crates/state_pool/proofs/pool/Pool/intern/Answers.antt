use Rattle.std.proofs.Common.{◌+◌, refl, sym, ap, ◌∙◌, arith}
use Rattle.state_pool.specs.Numbers.{number_at}
use Rattle.state_pool.proofs.Kept.{kept_many, kept_reached, kept_set, kept_push, kept_uses, held_at, place_there, set_there, absent, place_last, inserted_last, interned_again, interned_new, reached_by}
use Rattle.state_pool.proofs.pool.Pool.intern.Goals as goal

pub reach-requires : goal.reach-requires
reach-requires c =
    let long = c.len.ensures.len in
    let within = c.self.invariant.within in
    let few = c.requires.few in
    let many = kept_many c.self.inside.numbers c.self.inside.uses.entries c.args.self.now c.self.invariant c.self.view_is in
    (omega (arith, long, within), omega (arith, long, few, many))

pub overflow_add-count : goal.overflow_add-count
overflow_add-count c =
    let there = place_there c.self.inside.uses.entries c.args.state c.in-Ok-default-Some.place c.in-Ok-default-Some.count c.in-Ok-default-Some.ensures.index (sym c.in-Ok-default-Some.field-0-1-is ∙ c.in-Ok-default-Some.ensures.old) in
    let held = held_at c.self.inside.numbers c.self.inside.uses.entries c.args.self.now c.in-Ok-default-Some.place (c.args.state, c.in-Ok-default-Some.count) c.self.invariant c.self.view_is there in
    let low = c.requires.counts (number_at c.self.inside.numbers c.in-Ok-default-Some.place) c.args.state c.in-Ok-default-Some.count held in
    omega (arith, low)

pub invariant_of-self-in-Ok-default-Some : goal.invariant_of-self-in-Ok-default-Some
invariant_of-self-in-Ok-default-Some c =
    let reached = reached_by c.reach.result c.self.inside.numbers c.reach.new.self c.len.result _ c.reach.ensures.ok (sym c.is_err.ensures.value ∙ c.if-is_err.false) c.len.ensures.len in
    kept_set c.reach.new.self c.self.inside.uses.entries c.set_count.new.uses.entries c.in-Ok-default-Some.place (c.in-Ok-default-Some.count + 1)
    (kept_reached c.self.inside.numbers c.reach.new.self c.self.inside.uses.entries c.self.invariant reached c.reach.ensures.once) (omega arith)
    (set_there c.self.inside.uses.entries c.insert_full.new.self.entries c.set_count.new.uses.entries c.args.state c.in-Ok-default-Some.place c.in-Ok-default-Some.count 1 _
    c.in-Ok-default-Some.ensures.index (sym c.in-Ok-default-Some.field-0-1-is ∙ c.in-Ok-default-Some.ensures.old) c.in-Ok-default-Some.ensures.entries c.set_count.ensures)

pub returns-in-Ok-default-Some-clause-ok : goal.returns-in-Ok-default-Some-clause-ok
returns-in-Ok-default-Some-clause-ok c =
    let es = c.self.inside.uses.entries in
    let reached = reached_by c.reach.result c.self.inside.numbers c.reach.new.self c.len.result _ c.reach.ensures.ok (sym c.is_err.ensures.value ∙ c.if-is_err.false) c.len.ensures.len in
    interned_again c.reach.new.self es c.set_count.new.uses.entries c.args.self.now c.number.result c.in-Ok-default-Some.place c.args.state c.in-Ok-default-Some.count
    (kept_reached c.self.inside.numbers c.reach.new.self c.self.inside.uses.entries c.self.invariant reached c.reach.ensures.once)
    (kept_uses c.self.inside.numbers c.reach.new.self es es c.args.self.now c.self.invariant c.self.view_is reached refl) c.number.ensures
    (place_there es c.args.state c.in-Ok-default-Some.place c.in-Ok-default-Some.count c.in-Ok-default-Some.ensures.index (sym c.in-Ok-default-Some.field-0-1-is ∙ c.in-Ok-default-Some.ensures.old))
    (set_there es c.insert_full.new.self.entries c.set_count.new.uses.entries c.args.state c.in-Ok-default-Some.place c.in-Ok-default-Some.count 1 _
    c.in-Ok-default-Some.ensures.index (sym c.in-Ok-default-Some.field-0-1-is ∙ c.in-Ok-default-Some.ensures.old) c.in-Ok-default-Some.ensures.entries c.set_count.ensures)

pub invariant_of-self-in-Ok-default-None : goal.invariant_of-self-in-Ok-default-None
invariant_of-self-in-Ok-default-None c =
    let es = c.self.inside.uses.entries in
    let reached = reached_by c.reach.result c.self.inside.numbers c.reach.new.self c.len.result _ c.reach.ensures.ok (sym c.is_err.ensures.value ∙ c.if-is_err.false) c.len.ensures.len in
    kept_push c.self.inside.numbers c.reach.new.self es c.insert_full.new.self.entries (c.args.state, 1) c.self.invariant (omega arith) reached c.reach.ensures.once
    (inserted_last es c.insert_full.new.self.entries c.args.state 1 (sym c.in-Ok-default-None.field-0-1-is ∙ c.in-Ok-default-None.ensures.old) c.in-Ok-default-None.ensures.entries) c.insert_full.ensures.unique

pub returns-in-Ok-default-None-clause-ok : goal.returns-in-Ok-default-None-clause-ok
returns-in-Ok-default-None-clause-ok c =
    let es = c.self.inside.uses.entries in
    let none = sym c.in-Ok-default-None.field-0-1-is ∙ c.in-Ok-default-None.ensures.old in
    let reached = reached_by c.reach.result c.self.inside.numbers c.reach.new.self c.len.result _ c.reach.ensures.ok (sym c.is_err.ensures.value ∙ c.if-is_err.false) c.len.ensures.len in
    interned_new c.self.inside.numbers c.reach.new.self es c.insert_full.new.self.entries c.args.self.now c.number-in-Ok-default-None.result c.args.state c.self.invariant c.self.view_is
    reached c.reach.ensures.once (inserted_last es c.insert_full.new.self.entries c.args.state 1 none c.in-Ok-default-None.ensures.entries) c.insert_full.ensures.unique
    (c.number-in-Ok-default-None.ensures ∙ ap (number_at c.reach.new.self) (place_last es c.args.state c.in-Ok-default-None.place c.in-Ok-default-None.ensures.index none))
    (absent c.self.inside.numbers es c.args.self.now c.args.state c.self.view_is none)

pub returns-in-Err-clause-err : goal.returns-in-Err-clause-err
returns-in-Err-clause-err c =
    let reached = reached_by c.reach.result c.self.inside.numbers c.reach.new.self c.len.result _ c.reach.ensures.ok (sym c.is_err.ensures.value ∙ c.if-is_err.false) c.len.ensures.len in
    kept_uses c.self.inside.numbers c.reach.new.self c.self.inside.uses.entries c.insert_full.new.self.entries c.args.self.now c.self.invariant c.self.view_is reached
    c.in-Err.ensures.err
