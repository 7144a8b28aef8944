use Rattle.std.proofs.Common.{refl, subst, map, Some, None}
use Rattle.std.specs.Option.{IsSome}
use Rattle.round_table.specs.Crossings.{Groups, listed, IsCrossingAdded}
use Rattle.round_table.proofs.Groups.{added}
use Rattle.round_table.proofs.crossings.Crossings.add.Goals as goal

pub returns-in_ok-insert-in-Some : goal.returns-in_ok-insert-in-Some
returns-in_ok-insert-in-Some c =
    let w = c.insert.new.self in
    let new = (c.get_mut.follows.lender w).entries in
    subst (λ (gs : Groups). IsCrossingAdded gs c.args.inst c.args.crossing (map listed new)) c.self.view_is
    (added c.self.inside.map.entries new c.args.inst c.args.crossing (Some c.in-Some.set.now) w c.in-Some.ensures.value c.in_ok-insert-in-Some.ensures.keys
    ((c.get_mut.follows.holds w).3 (subst IsSome c.in-Some.ensures.value refl)).0)

pub returns-in_ok-insert-in-None : goal.returns-in_ok-insert-in-None
returns-in_ok-insert-in-None c =
    let up = rw c.get_mut.follows.holds-at-none at c.in_ok-insert-in-None.ensures.updates in
    subst (λ (gs : Groups). IsCrossingAdded gs c.args.inst c.args.crossing (map listed c.insert-in-None.new.self.entries)) c.self.view_is
    (added c.self.inside.map.entries c.insert-in-None.new.self.entries c.args.inst c.args.crossing None c.in_ok-set-in-None.set c.in-None.ensures.value c.in_ok-set-in-None.ensures up.0)
