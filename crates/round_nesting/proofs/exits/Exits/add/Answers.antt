use Rattle.std.proofs.Common.{◌≡◌, refl, subst, cond, Some, None}
use Rattle.std.specs.Map.{lookup}
use Rattle.std.specs.Option.{IsSome}
use Rattle.node_keys.specs.declared.keys.InstKey.{InstKey}
use Rattle.node_keys.specs.Order.{same_inst}
use Rattle.round_nesting.specs.Exits.{Exited}
use Rattle.round_nesting.proofs.Listing.{added, kept_same, kept_if_added}
use Rattle.round_nesting.proofs.exits.Exits.add.Goals as goal

pub returns-in_err-push-in-Some-clause-kept : goal.returns-in_err-push-in-Some-clause-kept
returns-in_err-push-in-Some-clause-kept c =
    let w = c.push.new.self in
    kept_same c.args.self.now.map.entries (c.get_mut.follows.lender w).entries c.from.result.now (Some c.in-Some.list.now) w c.in-Some.ensures.value c.in_err-push-in-Some.ensures.items
    ((c.get_mut.follows.holds w).3 (subst IsSome c.in-Some.ensures.value refl)).0

pub returns-in_ok-push-in-Some-clause-added : goal.returns-in_ok-push-in-Some-clause-added
returns-in_ok-push-in-Some-clause-added c =
    let w = c.push.new.self in
    let up = ((c.get_mut.follows.holds w).3 (subst IsSome c.in-Some.ensures.value refl)).0 in
    added c.args.self.now.map.entries (c.get_mut.follows.lender w).entries c.args.entrance (Some c.in-Some.list.now) w
    (subst (λ (i : InstKey). Some c.in-Some.list.now ≡ lookup (same_inst i) c.args.self.now.map.entries) c.from.ensures c.in-Some.ensures.value) c.in_ok-push-in-Some.ensures.items
    (subst (λ (i : InstKey). (q : InstKey) → lookup (same_inst q) (c.get_mut.follows.lender w).entries ≡ cond (same_inst i q) (Some w) (lookup (same_inst q) c.args.self.now.map.entries)) c.from.ensures up)

pub returns-in_ok-push-in-Some-clause-kept : goal.returns-in_ok-push-in-Some-clause-kept
returns-in_ok-push-in-Some-clause-kept c = kept_if_added c.args.self.now.map.entries (c.get_mut.follows.lender c.push.new.self).entries c.args.entrance (returns-in_ok-push-in-Some-clause-added c)

pub returns-in_ok-insert-in-None-clause-added : goal.returns-in_ok-insert-in-None-clause-added
returns-in_ok-insert-in-None-clause-added c =
    let es : Exited = c.args.self.now.map.entries in
    let new : Exited = c.insert.new.self.entries in
    let w = c.in_ok-list-in-None.list in
    let up = rw c.get_mut.follows.holds-at-none at c.in_ok-insert-in-None.ensures.updates in
    added es new c.args.entrance None w (subst (λ (i : InstKey). None ≡ lookup (same_inst i) es) c.from.ensures c.in-None.ensures.value) c.in_ok-list-in-None.ensures
    (subst (λ (i : InstKey). (q : InstKey) → lookup (same_inst q) new ≡ cond (same_inst i q) (Some w) (lookup (same_inst q) es)) c.from.ensures up.0)

pub returns-in_ok-insert-in-None-clause-kept : goal.returns-in_ok-insert-in-None-clause-kept
returns-in_ok-insert-in-None-clause-kept c = kept_if_added c.args.self.now.map.entries c.insert.new.self.entries c.args.entrance (returns-in_ok-insert-in-None-clause-added c)
