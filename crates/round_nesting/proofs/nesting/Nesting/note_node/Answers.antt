use Rattle.std.proofs.Common.{subst, sym, ℕ}
use Rattle.round_nesting.specs.Nestings.{Noted, Spot, IsNodeNoted}
use Rattle.round_nesting.specs.Drawn.{insts_of, HasMore}
use Rattle.round_nesting.specs.Covers.{IsCoverKept}
use Rattle.round_nesting.specs.Hashes.{same_spot, spot_is}
use Rattle.round_nesting.proofs.Keeping.{inserted, closed_node, open_node, insts_once}
use Rattle.round_nesting.proofs.Covering.{kept_inst, kept_spot}
use Rattle.round_nesting.proofs.nesting.Nesting.note_node.Goals as goal

pub invariant_of-self-in-Closed : goal.invariant_of-self-in-Closed
invariant_of-self-in-Closed c =
    let s : Spot = c.new-spot.result in
    let made = c.in_ok-covered-in-Closed.ensures in
    let gs = c.make_room.new.self.map.entries in
    subst
    (λ (back : ℕ). IsCoverKept c.in_ok-covered-in-Closed.covered back gs c.self.inside.exits.map.entries c.keep_inst.new.others.keys c.insert.new.self.keys c.self.inside.entrances.keys)
    (sym c.make_room.ensures.back)
    (kept_spot c.self.inside.covered c.self.inside.allowances.back c.self.inside.allowances.map.entries c.self.inside.exits.map.entries c.self.inside.others.keys c.self.inside.spots.keys
    c.self.inside.entrances.keys c.self.invariant c.in_ok-covered-in-Closed.covered gs s c.keep_inst.new.others.keys c.insert.new.self.keys c.keep_inst.ensures.apart
    (inserted same_spot spot_is c.self.inside.spots.keys c.insert.new.self.keys c.new-spot.result c.in_ok-insert-in-Closed.ensures.keys)
    (λ t. (made.was t, made.spot t, made.kept t)))

pub invariant_of-self-in-Open : goal.invariant_of-self-in-Open
invariant_of-self-in-Open c =
    kept_inst c.self.inside.covered c.self.inside.allowances.back c.self.inside.allowances.map.entries c.self.inside.exits.map.entries c.self.inside.others.keys c.keep_inst.new.others.keys c.self.inside.spots.keys
    c.self.inside.entrances.keys c.self.invariant c.keep_inst.ensures.apart

pub returns-in_ok-insert-in-Closed-clause-node : goal.returns-in_ok-insert-in-Closed-clause-node
returns-in_ok-insert-in-Closed-clause-node c =
    let old : Noted = record { insts = insts_of c.self.inside.has_root c.self.inside.others.keys; spots = c.self.inside.spots.keys; entrances = c.self.inside.entrances.keys } in
    let new : Noted = record { insts = insts_of c.keep_inst.new.has_root c.keep_inst.new.others.keys; spots = c.insert.new.self.keys; entrances = old.entrances } in
    subst (λ (n : Noted). IsNodeNoted n c.args.key.now new) c.self.view_is
    (closed_node old c.args.key.now c.in-Closed.offset new.insts new.spots c.in-Closed.is c.in_ok-keep_inst.ensures.more
    (subst (λ (s : Spot). HasMore old.spots s new.spots) c.new-spot.ensures (inserted same_spot spot_is c.self.inside.spots.keys c.insert.new.self.keys c.new-spot.result c.in_ok-insert-in-Closed.ensures.keys)))

pub returns-in_ok-insert-in-Closed-clause-once : goal.returns-in_ok-insert-in-Closed-clause-once
returns-in_ok-insert-in-Closed-clause-once c = insts_once c.keep_inst.new.has_root c.keep_inst.new.others.keys c.keep_inst.ensures.apart

pub returns-in-Open-clause-node : goal.returns-in-Open-clause-node
returns-in-Open-clause-node c =
    let old : Noted = record { insts = insts_of c.self.inside.has_root c.self.inside.others.keys; spots = c.self.inside.spots.keys; entrances = c.self.inside.entrances.keys } in
    let new : Noted = record { insts = insts_of c.keep_inst.new.has_root c.keep_inst.new.others.keys; spots = old.spots; entrances = old.entrances } in
    subst (λ (n : Noted). IsNodeNoted n c.args.key.now new) c.self.view_is
    (open_node old c.args.key.now new.insts (λ offset e. let is = c.in-Open.is in cc) c.in_ok-keep_inst.ensures.more)

pub returns-in-Open-clause-once : goal.returns-in-Open-clause-once
returns-in-Open-clause-once c = insts_once c.keep_inst.new.has_root c.keep_inst.new.others.keys c.keep_inst.ensures.apart
