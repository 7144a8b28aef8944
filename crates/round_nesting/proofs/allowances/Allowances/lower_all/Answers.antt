use Rattle.std.proofs.Common.{sym, subst, ◌∙◌, List, ℕ, ◌∷◌, [], slice_index_or}
use Rattle.std.proofs.lemmas.List.{take_more}
use Rattle.node_keys.specs.declared.keys.InstKey.{InstKey}
use Rattle.round_nesting.specs.Nestings.{Entrance}
use Rattle.round_nesting.specs.Covers.{Granted}
use Rattle.round_nesting.specs.Lowering.{Lowers}
use Rattle.round_nesting.proofs.Lowering.{lowers_more}
use Rattle.round_nesting.proofs.allowances.Allowances.lower_all.Goals as goal

pub returns-in_err-lower-clause-back : goal.returns-in_err-lower-clause-back
returns-in_err-lower-clause-back c = c.lower.ensures.back ∙ c.loop-entrance.invariant.back

pub loop-entrance-preserved : goal.loop-entrance-preserved
loop-entrance-preserved c =
    let back : ℕ = c.args.self.now.back in
    let es : List Entrance = c.args.entrances.now in
    let i : ℕ = c.loop-entrance.entrance-index in
    let x : Entrance = slice_index_or es i c.entrance-item.result in
    let between : Granted = c.loop-entrance.self.map.entries in
    let new : Granted = c.lower.new.self.map.entries in
    let then : List InstKey = c.loop-entrance.lowered.items in
    let now : List InstKey = c.lower.new.lowered.items in
    let two : Lowers back between then (x ∷ []) new now =
    subst (λ (b : ℕ). Lowers b between then (x ∷ []) new now) c.loop-entrance.invariant.back
    (subst (λ (y : Entrance). Lowers c.loop-entrance.self.back between then (y ∷ []) new now) c.entrance-item.is (c.in_ok-lower.ensures.met c.if-not-branch.false)) in
    record {
      lowers = subst (λ (xs : List Entrance). Lowers back c.args.self.now.map.entries c.args.lowered.now.items xs new now)
          (sym (take_more es i c.entrance-item.result c.loop-entrance-test.true))
          (lowers_more back c.args.self.now.map.entries between new c.args.lowered.now.items then now _ x c.loop-entrance.invariant.lowers two);
      back = c.lower.ensures.back ∙ c.loop-entrance.invariant.back;
    }
