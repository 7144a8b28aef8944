use Rattle.std.proofs.Common.{subst, List, ℕ, ◌∷◌, []}
use Rattle.node_keys.specs.declared.keys.InstKey.{InstKey}
use Rattle.round_nesting.specs.Covers.{Granted}
use Rattle.round_nesting.specs.Lowering.{Lowers, IsSettled}
use Rattle.round_nesting.proofs.Lowering.{entered, if_ok}
use Rattle.round_nesting.proofs.allowances.Allowances.enter.Goals as goal

pub returns-clause-covers : goal.returns-clause-covers
returns-clause-covers c =
    let back : ℕ = c.args.self.now.back in
    let es = c.args.exits.now.map.entries in
    let gs : Granted = c.args.self.now.map.entries in
    let between : Granted = c.lower.new.self.map.entries in
    let now : List InstKey = c.lower.new.lowered.items in
    let lowers : Lowers back gs [] (c.args.entrance.now ∷ []) between now =
    subst (λ (q : List InstKey). Lowers back gs q (c.args.entrance.now ∷ []) between now) c.new-lowered.ensures.items (c.in_ok-lower.ensures.met c.if-not-branch.false) in
    if_ok c.settle.result _ _
    (λ done told t. entered back es gs between c.settle.new.self.map.entries c.args.entrance.now now lowers
    (subst (λ (b : ℕ). IsSettled b es between now c.settle.new.self.map.entries) c.in_ok-lower.ensures.back (told t))) c.settle.ensures.settled
