use Rattle.std.proofs.Common.{arith, refl, ap, sym, ◌∙◌, ◌≡◌, ◌+◌, ◌<◌, inl, inr, length, Bool}
use Rattle.avr_model.specs.declared.choice.StepResult.TheVariants as answer
use Rattle.avr_model.specs.Devices.{device_of}
use Rattle.avr_model.specs.Masks.{reads_masks}
use Rattle.avr_model.specs.Step.{step, result_of}
use Rattle.stimulus.specs.Driving.{IsMenuOf}
use Rattle.witness_search.specs.Waypoints.{taken, left_after, pick_due, due_left}
use Rattle.witness_search.proofs.Points.{taken_is, left_is}
use Rattle.witness_search.proofs.Attempts.{goes_on, marked_on, marked_here, ended, stopped, repeated, longer}
use Rattle.witness_search.proofs.trial.attempt.Goals as goal
use Rattle.witness_search.proofs.trial.attempt.Goals.{then-is_old, else-is_old}
use Rattle.family_edges.specs.Tasks.{task_of}

pub returns-then-bound-depth : goal.returns-then-bound-depth
returns-then-bound-depth c =
    let byte : c.args.fill < 256 = omega arith in
    ended (task_of c.args.task.now) c.args.points.now c.args.bound c.args.fill c.depth_is_kept.ensures c.args.steps byte c.loop-at.choices.items c.loop-at.rest.now c.loop-at.machine c.found.result
    c.loop-at.invariant.0 (omega arith) (inl (omega arith)) c.found.ensures.some c.found.ensures.none

pub returns : goal.returns
returns c =
    let byte : c.args.fill < 256 = omega arith in
    ended (task_of c.args.task.now) c.args.points.now c.args.bound c.args.fill c.depth_is_kept.ensures c.args.steps byte c.loop-at.choices.items c.loop-at.rest.now c.loop-at.machine c.found-2.result
    c.loop-at.invariant.0 (omega arith) (inr (omega arith)) c.found-2.ensures.some c.found-2.ensures.none

pub returns-in_default : goal.returns-in_default
returns-in_default c =
    let byte : c.args.fill < 256 = omega arith in
    let low : c.loop-at.machine.depth < c.args.bound = omega arith in
    let room : length c.loop-at.choices.items < c.args.steps = omega arith in
    let menu : IsMenuOf c.menu.result c.loop-at.machine.state = record { device = c.menu.ensures.device; pc = c.menu.ensures.pc; sp = c.menu.ensures.sp; masks = c.menu.ensures.masks; takes = c.menu.ensures.takes } in
    let picks : c.next-choice.result.0 ≡ pick_due (reads_masks (device_of c.args.task.now.flash.now) c.args.task.now.assumptions.now) c.args.fill c.loop-at.rest.now c.loop-at.machine.state = c.next-choice.ensures.choice ∙ ap (λ (may : Bool). taken may c.args.fill c.loop-at.rest.now c.menu.result) (c.reads_masks-may.ensures ∙ ap (λ device. reads_masks device c.args.task.now.assumptions.now) c.device-device.ensures) ∙ taken_is (reads_masks (device_of c.args.task.now.flash.now) c.args.task.now.assumptions.now) c.args.fill c.loop-at.rest.now c.menu.result c.loop-at.machine.state menu in
    stopped (task_of c.args.task.now) c.args.points.now c.args.bound c.args.fill c.depth_is_kept.ensures c.args.steps byte c.loop-at.choices.items c.loop-at.rest.now c.loop-at.machine c.step.new.self c.next-choice.result.0 c.push.new.self.items c.found-in_default.result
    c.loop-at.invariant.0 room low picks (λ done. c.in_default.not-Done (c.step.ensures.answer ∙ done)) c.step.ensures.state c.in_ok-push.ensures.items c.found-in_default.ensures.some c.found-in_default.ensures.none

pub returns-then-is_met : goal.returns-then-is_met
returns-then-is_met c =
    let byte : c.args.fill < 256 = omega arith in
    let low : c.loop-at.machine.depth < c.args.bound = omega arith in
    let menu : IsMenuOf c.menu.result c.loop-at.machine.state = record { device = c.menu.ensures.device; pc = c.menu.ensures.pc; sp = c.menu.ensures.sp; masks = c.menu.ensures.masks; takes = c.menu.ensures.takes } in
    let picks : c.next-choice.result.0 ≡ pick_due (reads_masks (device_of c.args.task.now.flash.now) c.args.task.now.assumptions.now) c.args.fill c.loop-at.rest.now c.loop-at.machine.state = c.next-choice.ensures.choice ∙ ap (λ (may : Bool). taken may c.args.fill c.loop-at.rest.now c.menu.result) (c.reads_masks-may.ensures ∙ ap (λ device. reads_masks device c.args.task.now.assumptions.now) c.device-device.ensures) ∙ taken_is (reads_masks (device_of c.args.task.now.flash.now) c.args.task.now.assumptions.now) c.args.fill c.loop-at.rest.now c.menu.result c.loop-at.machine.state menu in
    let leaves : c.next-choice.result.1.now ≡ due_left (reads_masks (device_of c.args.task.now.flash.now) c.args.task.now.assumptions.now) c.loop-at.rest.now c.loop-at.machine.state = c.next-choice.ensures.left ∙ ap (λ (may : Bool). left_after may c.loop-at.rest.now c.menu.result) (c.reads_masks-may.ensures ∙ ap (λ device. reads_masks device c.args.task.now.assumptions.now) c.device-device.ensures) ∙ left_is (reads_masks (device_of c.args.task.now.flash.now) c.args.task.now.assumptions.now) c.loop-at.rest.now c.menu.result c.loop-at.machine.state menu in
    repeated (task_of c.args.task.now) c.args.points.now c.args.bound c.args.fill c.depth_is_kept.ensures c.args.steps byte c.loop-at.mark.machine c.loop-at.machine c.step.new.self c.loop-at.mark.left c.loop-at.rest.now c.next-choice.result.1.now c.next-choice.result.0
    c.loop-at.invariant.1 low picks leaves (sym c.step.ensures.answer ∙ c.in-Done.is) c.step.ensures.state (c.if-is_met.ensures.state refl) (c.if-is_met.ensures.left refl)

pub loop-at-preserved : goal.loop-at-preserved
loop-at-preserved c =
    let low : c.loop-at.machine.depth < c.args.bound = omega arith in
    let menu : IsMenuOf c.menu.result c.loop-at.machine.state = record { device = c.menu.ensures.device; pc = c.menu.ensures.pc; sp = c.menu.ensures.sp; masks = c.menu.ensures.masks; takes = c.menu.ensures.takes } in
    let picks : c.next-choice.result.0 ≡ pick_due (reads_masks (device_of c.args.task.now.flash.now) c.args.task.now.assumptions.now) c.args.fill c.loop-at.rest.now c.loop-at.machine.state = c.next-choice.ensures.choice ∙ ap (λ (may : Bool). taken may c.args.fill c.loop-at.rest.now c.menu.result) (c.reads_masks-may.ensures ∙ ap (λ device. reads_masks device c.args.task.now.assumptions.now) c.device-device.ensures) ∙ taken_is (reads_masks (device_of c.args.task.now.flash.now) c.args.task.now.assumptions.now) c.args.fill c.loop-at.rest.now c.menu.result c.loop-at.machine.state menu in
    let leaves : c.next-choice.result.1.now ≡ due_left (reads_masks (device_of c.args.task.now.flash.now) c.args.task.now.assumptions.now) c.loop-at.rest.now c.loop-at.machine.state = c.next-choice.ensures.left ∙ ap (λ (may : Bool). left_after may c.loop-at.rest.now c.menu.result) (c.reads_masks-may.ensures ∙ ap (λ device. reads_masks device c.args.task.now.assumptions.now) c.device-device.ensures) ∙ left_is (reads_masks (device_of c.args.task.now.flash.now) c.args.task.now.assumptions.now) c.loop-at.rest.now c.menu.result c.loop-at.machine.state menu in
    let done : result_of (step c.args.task.now.flash.now c.args.task.now.assumptions.now c.loop-at.machine.state c.next-choice.result.0) ≡ answer.Done = sym c.step.ensures.answer ∙ c.in-Done.is in
    let goes = goes_on (task_of c.args.task.now) c.args.points.now c.args.bound c.args.fill c.args.points.now _ c.loop-at.choices.items c.loop-at.rest.now c.loop-at.machine c.step.new.self c.next-choice.result.0 c.next-choice.result.1.now c.push.new.self.items
    c.loop-at.invariant.0 low picks leaves done c.step.ensures.state c.in_ok-push.ensures.items in (
      goes,
      elim c.if-is_old.branch [
        | then-is_old w ↦
            rw w.mark-is (marked_here (task_of c.args.task.now) c.args.points.now c.args.bound c.args.fill c.push.new.self.items c.next-choice.result.1.now w.set-then-is_old.new.self.machine c.step.new.self w.set-then-is_old.new.self.left goes
            w.set-then-is_old.ensures.machine w.set-then-is_old.ensures.left)
        | else-is_old w ↦
            rw w.mark-is (marked_on (task_of c.args.task.now) c.args.points.now c.args.bound c.args.fill c.loop-at.mark.machine c.loop-at.machine c.step.new.self c.loop-at.mark.left c.loop-at.rest.now c.next-choice.result.1.now c.next-choice.result.0
            c.loop-at.invariant.1 low picks leaves done c.step.ensures.state)
      ],
      ap length c.in_ok-push.ensures.items ∙ longer c.loop-at.choices.items c.next-choice.result.0 ∙ ap (λ n. n + 1) c.loop-at.invariant.2,
    )
