use Rattle.std.proofs.Common.{◌≡◌, ◌∙◌, subst, sym, true, ℕ, List, Contains}
use Rattle.round_nesting.specs.Nestings.{Noted, Entrance, AreOnce, HasEntrance}
use Rattle.round_nesting.specs.Drawn.{insts_of, HasMore}
use Rattle.indexmap.proofs.CallerLemmas.{Contains-list_any}
use Rattle.round_nesting.specs.Covers.{IsCoverKept}
use Rattle.round_nesting.specs.Exits.{IsExitAdded}
use Rattle.round_nesting.specs.Lowering.{IsEntranceCovered}
use Rattle.round_nesting.specs.Hashes.{same_entrance, entrance_is}
use Rattle.round_nesting.proofs.Keeping.{inserted, there_already, entrance_kept, insts_once}
use Rattle.round_nesting.proofs.Covering.{kept_entrance, uncovered}
use Rattle.round_nesting.proofs.nesting.Nesting.note_entrance.Goals as goal

pub invariant_of-self-2 : goal.invariant_of-self-2
invariant_of-self-2 c =
    let x : Entrance = c.new-entrance.result in
    let gs = c.enter.new.self.map.entries in
    let es = c.add.new.self.map.entries in
    let left = c.in_ok-leave.ensures in
    let made = c.in_ok-covered.ensures in
    let added = subst (λ (y : Entrance). IsExitAdded c.self.inside.exits.map.entries y es) (c.new-exit.ensures ∙ sym c.new-entrance.ensures) c.in_ok-add.ensures.added in
    let covers : c.in_ok-covered.covered ≡ true → IsEntranceCovered c.self.inside.allowances.back es c.leave.new.self.map.entries x gs =
    λ t. subst (λ (back : ℕ). IsEntranceCovered back es c.leave.new.self.map.entries x gs) left.back (made.covers t) in
    subst (λ (back : ℕ). IsCoverKept c.in_ok-covered.covered back gs es c.self.inside.others.keys c.self.inside.spots.keys c.insert.new.self.keys) (sym (c.enter.ensures.back ∙ left.back))
    (kept_entrance c.self.inside.covered c.self.inside.allowances.back c.self.inside.allowances.map.entries c.self.inside.exits.map.entries c.self.inside.others.keys c.self.inside.spots.keys
    c.self.inside.entrances.keys c.self.invariant c.leave.new.self.map.entries gs es c.in_ok-covered.covered x c.insert.new.self.keys left.kept added
    (inserted same_entrance entrance_is c.self.inside.entrances.keys c.insert.new.self.keys c.new-entrance.result c.in_ok-insert.ensures.keys)
    (λ t. (made.was t, covers t)))

pub returns-then-contains-clause-entrance : goal.returns-then-contains-clause-entrance
returns-then-contains-clause-entrance c =
    let x : Entrance = record { from = c.args.from.now; into = c.args.into.now; offset = c.args.offset } in
    let old : Noted = record { insts = insts_of c.self.inside.has_root c.self.inside.others.keys; spots = c.self.inside.spots.keys; entrances = c.self.inside.entrances.keys } in
    subst (λ (n : Noted). HasEntrance n x n) c.self.view_is
    (entrance_kept old x old.entrances
    (subst (λ (y : Entrance). HasMore old.entrances y old.entrances) c.new-entrance.ensures
    (there_already old.entrances c.new-entrance.result (Contains-list_any same_entrance entrance_is old.entrances c.new-entrance.result (sym c.contains.ensures ∙ c.if-contains.true)))))

pub returns-then-contains-clause-once : goal.returns-then-contains-clause-once
returns-then-contains-clause-once c = subst (λ (n : Noted). AreOnce n.insts) c.self.view_is (insts_once c.self.inside.has_root c.self.inside.others.keys c.self.invariant.apart)

pub invariant_of-self-in_err-insert : goal.invariant_of-self-in_err-insert
invariant_of-self-in_err-insert c =
    uncovered c.enter.new.self.back c.enter.new.self.map.entries c.add.new.self.map.entries c.self.inside.others.keys c.self.inside.spots.keys c.insert.new.self.keys c.self.invariant.apart
    (λ y h. c.add.ensures.kept y (c.self.invariant.listed y (subst (λ (l : List Entrance). Contains l y) c.in_err-insert.ensures.err h)))

pub returns-clause-entrance : goal.returns-clause-entrance
returns-clause-entrance c =
    let x : Entrance = record { from = c.args.from.now; into = c.args.into.now; offset = c.args.offset } in
    let old : Noted = record { insts = insts_of c.self.inside.has_root c.self.inside.others.keys; spots = c.self.inside.spots.keys; entrances = c.self.inside.entrances.keys } in
    let new : Noted = record { insts = old.insts; spots = old.spots; entrances = c.insert.new.self.keys } in
    subst (λ (n : Noted). HasEntrance n x new) c.self.view_is
    (entrance_kept old x c.insert.new.self.keys
    (subst (λ (y : Entrance). HasMore c.self.inside.entrances.keys y c.insert.new.self.keys) c.new-entrance.ensures (inserted same_entrance entrance_is c.self.inside.entrances.keys c.insert.new.self.keys c.new-entrance.result c.in_ok-insert.ensures.keys)))

pub returns-clause-once : goal.returns-clause-once
returns-clause-once c = insts_once c.self.inside.has_root c.self.inside.others.keys c.self.invariant.apart
