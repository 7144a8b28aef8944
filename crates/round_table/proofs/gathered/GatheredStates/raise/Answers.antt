use Rattle.std.proofs.Common.{refl, sym, ◌∙◌, subst}
use Rattle.std.specs.Option.{IsSome}
use Rattle.round_table.specs.Sized.{AreStatesSized}
use Rattle.round_table.proofs.Entries.{table_get, raised_there, raised_new, inserted_sized}
use Rattle.round_table.proofs.Families.{insert_sized}
use Rattle.round_table.proofs.gathered.GatheredStates.raise.Goals as goal
use Rattle.round_table.proofs.gathered.GatheredStates.raise.Goals.{in-Some-1, in-None-2}

pub join_into-requires : goal.join_into-requires
join_into-requires c =
    c.self.invariant.0 c.args.node.key c.in-Some.state.now (table_get c.self.inside.map.entries c.args.node.key ∙ sym c.in-Some.ensures.value) ∙ sym c.requires

pub returns-in-Some : goal.returns-in-Some
returns-in-Some c =
    let w = c.join_into.new.self in
    let joined = (raised_there c.self.inside.map.entries (c.get_mut.follows.lender w).entries c.args.self.now c.args.node c.in-Some.state.now w c.self.view_is c.in-Some.ensures.value
    c.join_into.ensures.joined ((c.get_mut.follows.holds w).3 (subst IsSome c.in-Some.ensures.value refl)).0).1.1 in
    elim c.match-node.branch [ in-Some-1 w ↦ w.self-is ∙ joined | in-None-2 w ↦ w.self-is ∙ joined ]

pub invariant_of-self : goal.invariant_of-self
invariant_of-self c =
    let w = c.join_into.new.self in
    let new = raised_there c.self.inside.map.entries (c.get_mut.follows.lender w).entries c.args.self.now c.args.node c.in-Some.state.now w c.self.view_is c.in-Some.ensures.value
    c.join_into.ensures.joined ((c.get_mut.follows.holds w).3 (subst IsSome c.in-Some.ensures.value refl)).0 in (
      subst AreStatesSized (sym new.1.0)
          (insert_sized c.args.self.now c.args.node.key w (subst AreStatesSized c.self.view_is c.self.invariant.0)
          (sym c.join_into.ensures.least.second.count ∙ c.requires)),
      (c.get_mut.follows.holds w).4,
    )

pub invariant_of-self-in-Some-2 : goal.invariant_of-self-in-Some-2
invariant_of-self-in-Some-2 c =
    let w = c.join_into.new.self in
    let new = raised_there c.self.inside.map.entries (c.get_mut.follows.lender w).entries c.args.self.now c.args.node c.in-Some.state.now w c.self.view_is c.in-Some.ensures.value
    c.join_into.ensures.joined ((c.get_mut.follows.holds w).3 (subst IsSome c.in-Some.ensures.value refl)).0 in (
      subst AreStatesSized (sym new.1.0)
          (insert_sized c.args.self.now c.args.node.key w (subst AreStatesSized c.self.view_is c.self.invariant.0)
          (sym c.join_into.ensures.least.second.count ∙ c.requires)),
      (c.get_mut.follows.holds w).4,
    )

pub returns-in_ok-insert-in-None : goal.returns-in_ok-insert-in-None
returns-in_ok-insert-in-None c =
    let up = rw c.get_mut.follows.holds-at-none at c.in_ok-insert-in-None.ensures.updates in
    (raised_new c.self.inside.map.entries c.insert.new.self.entries c.args.self.now c.args.node c.self.view_is c.in-None.ensures.value up.0).1.1

pub invariant_of-self-in-None : goal.invariant_of-self-in-None
invariant_of-self-in-None c =
    let up = rw c.get_mut.follows.holds-at-none at c.insert.ensures.updates in
    let same = rw c.get_mut.follows.holds-at-none at c.insert.ensures.err in (
      inserted_sized _ c.insert.result c.self.inside.map.entries c.insert.new.self.entries c.args.self.now c.args.node c.self.view_is
          (subst AreStatesSized c.self.view_is c.self.invariant.0) c.requires c.in-None.ensures.value up same (λ u. u.0),
      c.insert.ensures.unique,
    )
