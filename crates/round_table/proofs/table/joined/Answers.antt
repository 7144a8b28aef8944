use Rattle.std.proofs.Common.{◌≡◌, sym, ap, ◌∙◌, subst, length}
use Rattle.abs_state.specs.declared.state.AbsState.{AbsState}
use Rattle.abs_state.specs.Order.{state_join}
use Rattle.state_pool.specs.Uses.{Uses}
use Rattle.state_pool.specs.Counts.{held_state, state_at, IsUsedLess}
use Rattle.round_table.specs.Shared.{IsMoved}
use Rattle.round_table.proofs.Shared.{moved, still_used}
use Rattle.round_table.proofs.Raised.{not_grown, joined_so}
use Rattle.round_table.proofs.table.joined.Goals as goal

pub get-requires : goal.get-requires
get-requires c = c.uses_are_counted.ensures.counts.there c.args.pool.now c.args.number c.requires.there

pub returns-then-not-join_into-clause-moved : goal.returns-then-not-join_into-clause-moved
returns-then-not-join_into-clause-moved c =
    not_grown c.args.pool.now c.args.number c.get.result.now c.in_ok-state.state c.join_into.new.self c.args.other.now c.join_into.result (ap held_state c.get.ensures.1)
    c.in_ok-state.ensures c.join_into.ensures.joined c.join_into.ensures.grew c.if-not-join_into.true

pub release-requires : goal.release-requires
release-requires c =
    let more = c.uses_are_counted.ensures.counts.interned c.args.pool.now c.intern.new.self c.join_into.new.self c.in-Ok.next c.in-Ok.ensures.ok in
    c.uses_are_counted.ensures.counts.there c.intern.new.self c.args.number
    (still_used c.args.pool.now c.intern.new.self c.args.number c.in-Ok.next c.join_into.new.self c.requires.there more)

pub returns-clause-moved : goal.returns-clause-moved
returns-clause-moved c =
    let old = c.args.pool.now in
    let mid = c.intern.new.self in
    let n = c.args.number in
    let w = c.join_into.new.self in
    let more = c.uses_are_counted.ensures.counts.interned old mid w c.in-Ok.next c.in-Ok.ensures.ok in
    let less = c.uses_are_counted.ensures.counts.released mid n (still_used old mid n c.in-Ok.next w c.requires.there more) in
    let joined : w ≡ state_join (state_at old n) c.args.other.now =
    joined_so (state_at old n) c.get.result.now c.in_ok-state.state w c.args.other.now (ap held_state c.get.ensures.1) c.in_ok-state.ensures c.join_into.ensures.joined in
    subst (λ (s : AbsState). IsMoved old n s c.in-Ok.next c.release.new.self) joined
    (moved old mid c.release.new.self n c.in-Ok.next w c.requires.there more (subst (λ (m : Uses). IsUsedLess mid n m) (sym c.release.ensures.pool) less))

pub returns-clause-slots : goal.returns-clause-slots
returns-clause-slots c =
    let old = c.args.pool.now in
    let mid = c.intern.new.self in
    let n = c.args.number in
    let w = c.join_into.new.self in
    let more = c.uses_are_counted.ensures.counts.interned old mid w c.in-Ok.next c.in-Ok.ensures.ok in
    let less = c.uses_are_counted.ensures.counts.released mid n (still_used old mid n c.in-Ok.next w c.requires.there more) in
    let all = moved old mid c.release.new.self n c.in-Ok.next w c.requires.there more (subst (λ (m : Uses). IsUsedLess mid n m) (sym c.release.ensures.pool) less) in
    ap (λ (s : AbsState). length s.slots) all.own ∙ sym c.join_into.ensures.least.second.count
