use Rattle.std.proofs.Common.{◌≡◌, ◌≢◌, ◌↔◌, ◌<◌, ℕ, refl, sym, ap, ◌∙◌, subst, List, arith}
use Rattle.std.specs.FinMap.{FinMap, from_entries}
use Rattle.std.specs.Option.{IsSome}
use Rattle.std.proofs.lemmas.Map.Steps.{set_value_same}
use Rattle.std.specs.Bool.{IsTrue}
use Rattle.abs_state.specs.declared.state.AbsState.{AbsState}
use Rattle.abs_state.specs.Order.{state_join}
use Rattle.node_keys.specs.declared.keys.NodeKey.{NodeKey}
use Rattle.node_keys.specs.Order.{node_cmp, same_node}
use Rattle.state_pool.specs.Uses.{Uses}
use Rattle.state_pool.specs.Counts.{state_at}
use Rattle.round_table.specs.Shared.{IsShared, stated}
use Rattle.round_table.proofs.Families.{grew_by, new_grew}
use Rattle.round_table.proofs.Shared.{counts_below, times_found}
use Rattle.round_table.proofs.Raised.{number_long, shared_there, shared_new}
use Rattle.basics.specs.Results.{on_err}
use Rattle.round_table.proofs.table.Table.raise.Goals as goal
use Rattle.round_table.proofs.table.Table.raise.Goals.{in-Some-3, in-None-4}

pub joined-requires-clause-few : goal.joined-requires-clause-few
joined-requires-clause-few c =
    let most = c.if-len-gt-MOST-2.false in
    let count = c.len-else-len-gt-MOST.ensures.count in
    omega (arith, most, count)

pub joined-requires-clause-counts : goal.joined-requires-clause-counts
joined-requires-clause-counts c =
    let most = c.if-len-gt-MOST.false in
    let count = c.len.ensures.len in
    counts_below c.self.inside.pool c.self.inside.map.entries 4294967295 c.self.invariant.counted (omega (arith, most, count))

pub joined-requires-clause-there : goal.joined-requires-clause-there
joined-requires-clause-there c =
    let n = c.in-Some.held.now in
    subst (λ (m : ℕ). 0 < m) (sym (c.self.invariant.counted n)) (times_found c.args.node.key c.self.inside.map.entries n (sym c.in-Some.ensures.value))

pub joined-requires-clause-slots : goal.joined-requires-clause-slots
joined-requires-clause-slots c =
    number_long c.self.inside.pool c.self.inside.map.entries c.args.node.key c.in-Some.held.now c.self.invariant c.in-Some.ensures.value ∙ sym c.requires

pub intern-requires-clause-counts : goal.intern-requires-clause-counts
intern-requires-clause-counts c =
    let most = c.if-len-gt-MOST.false in
    let count = c.len.ensures.len in
    counts_below c.self.inside.pool c.self.inside.map.entries 4294967295 c.self.invariant.counted (omega (arith, most, count))

pub invariant_of-self-in_ok-number-in-Some : goal.invariant_of-self-in_ok-number-in-Some
invariant_of-self-in_ok-number-in-Some c =
    (shared_there c.self.inside.pool c.joined.new.pool c.self.inside.map.entries (c.get_mut.follows.lender c.in_ok-number-in-Some.number).entries c.args.self.now c.args.node c.in-Some.held.now
    c.in_ok-number-in-Some.number c.self.view_is c.self.invariant c.in-Some.ensures.value c.in_ok-number-in-Some.ensures.moved c.in_ok-number-in-Some.ensures.slots
    c.requires (c.get_mut.follows.holds c.in_ok-number-in-Some.number).0 ((c.get_mut.follows.holds c.in_ok-number-in-Some.number).3 (subst IsSome c.in-Some.ensures.value refl)).0
    (c.get_mut.follows.holds c.in_ok-number-in-Some.number).4).shared

pub invariant_of-self-in_ok-number-in-Some-2 : goal.invariant_of-self-in_ok-number-in-Some-2
invariant_of-self-in_ok-number-in-Some-2 c =
    (shared_there c.self.inside.pool c.joined.new.pool c.self.inside.map.entries (c.get_mut.follows.lender c.in_ok-number-in-Some.number).entries c.args.self.now c.args.node c.in-Some.held.now
    c.in_ok-number-in-Some.number c.self.view_is c.self.invariant c.in-Some.ensures.value c.in_ok-number-in-Some.ensures.moved c.in_ok-number-in-Some.ensures.slots
    c.requires (c.get_mut.follows.holds c.in_ok-number-in-Some.number).0 ((c.get_mut.follows.holds c.in_ok-number-in-Some.number).3 (subst IsSome c.in-Some.ensures.value refl)).0
    (c.get_mut.follows.holds c.in_ok-number-in-Some.number).4).shared

pub returns-in_ok-number-in-Some-clause-ok : goal.returns-in_ok-number-in-Some-clause-ok
returns-in_ok-number-in-Some-clause-ok c =
    let there =
    (shared_there c.self.inside.pool c.joined.new.pool c.self.inside.map.entries (c.get_mut.follows.lender c.in_ok-number-in-Some.number).entries c.args.self.now c.args.node c.in-Some.held.now
    c.in_ok-number-in-Some.number c.self.view_is c.self.invariant c.in-Some.ensures.value c.in_ok-number-in-Some.ensures.moved c.in_ok-number-in-Some.ensures.slots
    c.requires (c.get_mut.follows.holds c.in_ok-number-in-Some.number).0 ((c.get_mut.follows.holds c.in_ok-number-in-Some.number).3 (subst IsSome c.in-Some.ensures.value refl)).0
    (c.get_mut.follows.holds c.in_ok-number-in-Some.number).4).raised in
    elim c.match-node-3.branch [ in-Some-3 w ↦ w.self-is ∙ there | in-None-4 w ↦ w.self-is ∙ there ]

pub returns-in_ok-number-in-Some-clause-grew : goal.returns-in_ok-number-in-Some-clause-grew
returns-in_ok-number-in-Some-clause-grew c =
    let s = state_at c.self.inside.pool c.in-Some.held.now in
    let all = shared_there c.self.inside.pool c.joined.new.pool c.self.inside.map.entries (c.get_mut.follows.lender c.in_ok-number-in-Some.number).entries c.args.self.now c.args.node c.in-Some.held.now
    c.in_ok-number-in-Some.number c.self.view_is c.self.invariant c.in-Some.ensures.value c.in_ok-number-in-Some.ensures.moved c.in_ok-number-in-Some.ensures.slots
    c.requires (c.get_mut.follows.holds c.in_ok-number-in-Some.number).0 ((c.get_mut.follows.holds c.in_ok-number-in-Some.number).3 (subst IsSome c.in-Some.ensures.value refl)).0
    (c.get_mut.follows.holds c.in_ok-number-in-Some.number).4 in
    let left = from_entries {R = node_cmp} (stated c.joined.new.pool (c.get_mut.follows.lender c.in_ok-number-in-Some.number).entries) in
    let same : c.match-node-3.self ≡ left = elim c.match-node-3.branch [ in-Some-3 w ↦ w.self-is | in-None-4 w ↦ w.self-is ] in
    subst (λ (m : FinMap node_cmp AbsState). IsTrue c.in_ok-number-in-Some.grew ↔ (m ≢ c.args.self.now)) (sym same)
    (grew_by c.args.self.now left c.args.node.key s (state_join s c.args.node.state)
    c.in_ok-number-in-Some.grew all.here all.put c.in_ok-number-in-Some.ensures.grew)

pub invariant_of-self : goal.invariant_of-self
invariant_of-self c =
    let n = c.in-Some.held.now in
    let same = (c.get_mut.follows.holds n).0 ∙ set_value_same (same_node c.args.node.key) c.self.inside.map.entries n (sym c.in-Some.ensures.value) in
    subst (λ (p : Uses). IsShared p (c.get_mut.follows.lender n).entries) (sym c.in_err-number-in-Some.ensures.err)
    (subst (λ (es : List (NodeKey × ℕ)). IsShared c.self.inside.pool es) (sym same) c.self.invariant)

pub returns-in_err-number-in-Some-clause-err : goal.returns-in_err-number-in-Some-clause-err
returns-in_err-number-in-Some-clause-err c =
    let n = c.in-Some.held.now in
    let same = (c.get_mut.follows.holds n).0 ∙ set_value_same (same_node c.args.node.key) c.self.inside.map.entries n (sym c.in-Some.ensures.value) in
    on_err c.from_residual.result _
    (ap (λ (p : Uses). from_entries {R = node_cmp} (stated p (c.get_mut.follows.lender n).entries)) c.in_err-number-in-Some.ensures.err
    ∙ ap (λ (es : List (NodeKey × ℕ)). from_entries {R = node_cmp} (stated c.self.inside.pool es)) same
    ∙ c.self.view_is)

pub invariant_of-self-in-Ok-insert : goal.invariant_of-self-in-Ok-insert
invariant_of-self-in-Ok-insert c =
    (shared_new c.self.inside.pool c.intern.new.self c.self.inside.map.entries c.insert.new.self.entries c.args.self.now c.args.node c.in-Ok.number
    c.self.view_is c.self.invariant c.in-None.ensures.value
    (c.uses_are_counted.ensures.counts.interned c.self.inside.pool c.intern.new.self c.args.node.state c.in-Ok.number c.in-Ok.ensures.ok)
    c.requires (rw c.get_mut.follows.holds-at-none at c.in-Ok-insert.ensures.entries) (let up = rw c.get_mut.follows.holds-at-none at c.in-Ok-insert.ensures.updates in up.0) c.insert.ensures.unique).shared

pub returns-in-Ok-insert-clause-ok : goal.returns-in-Ok-insert-clause-ok
returns-in-Ok-insert-clause-ok c =
    (shared_new c.self.inside.pool c.intern.new.self c.self.inside.map.entries c.insert.new.self.entries c.args.self.now c.args.node c.in-Ok.number
    c.self.view_is c.self.invariant c.in-None.ensures.value
    (c.uses_are_counted.ensures.counts.interned c.self.inside.pool c.intern.new.self c.args.node.state c.in-Ok.number c.in-Ok.ensures.ok)
    c.requires (rw c.get_mut.follows.holds-at-none at c.in-Ok-insert.ensures.entries) (let up = rw c.get_mut.follows.holds-at-none at c.in-Ok-insert.ensures.updates in up.0) c.insert.ensures.unique).raised

pub returns-in-Ok-insert-clause-grew : goal.returns-in-Ok-insert-clause-grew
returns-in-Ok-insert-clause-grew c =
    let all = shared_new c.self.inside.pool c.intern.new.self c.self.inside.map.entries c.insert.new.self.entries c.args.self.now c.args.node c.in-Ok.number
    c.self.view_is c.self.invariant c.in-None.ensures.value
    (c.uses_are_counted.ensures.counts.interned c.self.inside.pool c.intern.new.self c.args.node.state c.in-Ok.number c.in-Ok.ensures.ok)
    c.requires (rw c.get_mut.follows.holds-at-none at c.in-Ok-insert.ensures.entries) (let up = rw c.get_mut.follows.holds-at-none at c.in-Ok-insert.ensures.updates in up.0) c.insert.ensures.unique in
    ((λ t e. new_grew c.args.self.now c.args.node.key c.args.node.state all.here (sym all.put ∙ e)), (λ ne. refl))

pub invariant_of-self-in-Err : goal.invariant_of-self-in-Err
invariant_of-self-in-Err c =
    let pool = c.self.inside.pool in
    let back : c.release.new.self ≡ pool =
    c.release.ensures.pool
    ∙ c.uses_are_counted.ensures.undone.back pool c.intern.new.self c.args.node.state c.in-Ok.number c.len-else-len-gt-MOST.ensures.used c.in-Ok.ensures.ok in
    subst (λ (p : Uses). IsShared p c.insert.new.self.entries) (sym back)
    (subst (λ (es : List (NodeKey × ℕ)). IsShared pool es) (sym (rw c.get_mut.follows.holds-at-none at c.in-Err.ensures.err)) c.self.invariant)
