use borrow.Rule.Slice.PartMut.{put_mid}
use Rattle.std.proofs.Common.{◌≤◌, ◌-◌, length, sym, ap, ◌∙◌, ◌++◌, drop, false, min, replicate, List, Bool, ℕ, take, arith}
use Rattle.avr_model.specs.State.{Memory}
use Rattle.avr_model.specs.Step.{pruned}
use Rattle.avr_machine.proofs.Living.{IsCleared, cleared_already, cleared_mid, clear_after, cleared_part}
use Rattle.avr_machine.proofs.memory.Memory.prune.Goals as goal

fits : (c : goal.After-self-1) → c.min-end.result ≤ length c.self.inside.live
fits c = let e = c.min-end.ensures in let n = c.self.told.1 in let s = c.self.invariant.1 in omega (arith, e, n, s)

after : (c : goal.After-self-1) → List Bool
after c = put_mid c.self.inside.floor (c.min-end.result - c.self.inside.floor) c.self.inside.live c.clear_all.new.live

cleared : (c : goal.After-self-1) → IsCleared c.min-end.result c.self.inside.live (after c)
unfolding after
cleared c = cleared_mid c.self.inside.live c.clear_all.new.live c.self.inside.floor c.min-end.result c.self.invariant.2 c.if-self-end.true (fits c) c.clear_all.ensures

pub invariant_of-self : goal.invariant_of-self
unfolding after
invariant_of-self c = (c.self.invariant.0, c.self.invariant.1, clear_after c.self.inside.live (after c) c.min-end.result (cleared c))

pub returns-then-self-end : goal.returns-then-self-end
unfolding after
returns-then-self-end c =
    let live = cleared_part c.self.inside.live (after c) c.self.inside.size c.from.result c.min-end.result (let n = c.self.told.1 in let s = c.self.invariant.1 in omega (arith, n, s)) c.min-end.ensures (cleared c) in
    ap (λ (l : List Bool). record { below = c.self.inside.below; bytes = take c.self.inside.size c.self.inside.bytes; live = l }) (live ∙ ap (λ (n : ℕ). replicate (min n (length (take c.self.inside.size c.self.inside.live))) false ++ drop n (take c.self.inside.size c.self.inside.live)) (c.from.ensures ∙ c.saturating_sub.ensures))
    ∙ ap (λ (m : Memory). record { below = m.below; bytes = m.bytes; live = pruned m.below c.args.sp m.live }) c.self.view_is

pub returns-else-self-end : goal.returns-else-self-end
returns-else-self-end c =
    let live = cleared_part c.self.inside.live c.self.inside.live c.self.inside.size c.from.result c.min-end.result (let n = c.self.told.1 in let s = c.self.invariant.1 in omega (arith, n, s)) c.min-end.ensures
    (cleared_already c.self.inside.live c.self.inside.floor c.min-end.result c.self.invariant.2 c.if-self-end.false) in
    sym c.self.view_is
    ∙ ap (λ (l : List Bool). record { below = c.self.inside.below; bytes = take c.self.inside.size c.self.inside.bytes; live = l }) (live ∙ ap (λ (n : ℕ). replicate (min n (length (take c.self.inside.size c.self.inside.live))) false ++ drop n (take c.self.inside.size c.self.inside.live)) (c.from.ensures ∙ c.saturating_sub.ensures))
    ∙ ap (λ (m : Memory). record { below = m.below; bytes = m.bytes; live = pruned m.below c.args.sp m.live }) c.self.view_is
