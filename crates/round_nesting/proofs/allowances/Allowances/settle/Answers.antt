use Rattle.std.proofs.Common.{sym, ap, ◌∙◌, subst, List, ℕ, ◌+◌, ◌<◌, length, drop, arith, Vec}
use Rattle.std.specs.Global.{Global}
use Rattle.node_keys.specs.declared.keys.InstKey.{InstKey}
use Rattle.round_nesting.specs.declared.allowances.Allowances.{Allowances}
use Rattle.round_nesting.specs.Nestings.{Entrance}
use Rattle.round_nesting.specs.Exits.{Exited, exits_at}
use Rattle.round_nesting.specs.Covers.{Granted}
use Rattle.round_nesting.specs.Lowering.{Lowers, CoversBut}
use Rattle.round_nesting.proofs.Lowering.{visited, without_exits}
use Rattle.round_nesting.proofs.allowances.Allowances.settle.Goals as goal
use Rattle.round_nesting.proofs.allowances.Allowances.settle.Goals.{in-Some+in_ok-lower_all+else-not-branch, in_default}

pub loop-at-preserved : goal.loop-at-preserved
loop-at-preserved c =
    let back : ℕ = c.args.self.now.back in
    let es : Exited = c.args.exits.now.map.entries in
    let gs : Granted = c.loop-at.self.map.entries in
    let queue : List InstKey = c.loop-at.lowered.items in
    let at : ℕ = c.loop-at.at in
    let inst : InstKey = c.index.result.now in
    let lt : at < length queue = omega (arith, c.if-at-len.false, c.len.ensures) in
    elim c.match-at.branch [
      | in-Some+in_ok-lower_all+else-not-branch w ↦
          let new : Granted = w.lower_all.new.self.map.entries in
          let now : List InstKey = w.lower_all.new.lowered.items in
          let lowers : Lowers back gs queue (exits_at es inst) new now =
          subst (λ (b : ℕ). Lowers b gs queue (exits_at es inst) new now) c.loop-at.invariant.back
          (subst (λ (xs : List Entrance). Lowers c.loop-at.self.back gs queue xs new now) w.in-Some.ensures.some (w.in_ok-lower_all.ensures.met w.if-not-branch.false)) in
          record {
            covers = λ spots entrances listed but.
                subst (λ (a : Allowances). CoversBut back a.map.entries (drop (at + 1) c.match-at.lowered.items) spots entrances) (sym w.self-is)
                (subst (λ (v : Vec InstKey Global). CoversBut back new (drop (at + 1) v.items) spots entrances) (sym w.lowered-is)
                (visited back es gs spots entrances listed new queue now at inst lt c.index.ensures lowers (c.loop-at.invariant.covers spots entrances listed but)));
            back = ap (λ (a : Allowances). a.back) w.self-is ∙ w.lower_all.ensures.back ∙ c.loop-at.invariant.back;
          }
      | in_default w ↦ record {
        covers = λ spots entrances listed but.
            subst (λ (a : Allowances). CoversBut back a.map.entries (drop (at + 1) c.match-at.lowered.items) spots entrances) (sym w.self-is)
            (subst (λ (v : Vec InstKey Global). CoversBut back gs (drop (at + 1) v.items) spots entrances) (sym w.lowered-is)
            (without_exits back es gs spots entrances listed queue at inst lt c.index.ensures w.in_default.ensures.none (c.loop-at.invariant.covers spots entrances listed but)));
        back = ap (λ (a : Allowances). a.back) w.self-is ∙ c.loop-at.invariant.back;
      }
    ]
