-- Effects that push nothing.
use Rattle.std.proofs.Common.{◌≡◌, ◌∙◌, sym, ap, refl, ℕ, arith, ◌||◌, Bool, true, false, if◌then◌else◌, List, [], ◌∷◌, ◌++◌, length}
use Rattle.avr_model.specs.declared.device.Device.{Device}
use Rattle.avr_model.specs.declared.instruction.Instr.{Instr}
use Rattle.avr_model.specs.declared.assumption.Entry.{Entry}
use Rattle.avr_model.specs.declared.effect.Write.{Write}
use Rattle.avr_model.specs.declared.effect.Effect.{Effect}
use Rattle.avr_model.specs.State.{State, Memory}
use Rattle.avr_model.specs.Step.{Answer, all_inside, answer_to, after, flag_by, flagged_or, live_write, memory_after, open_after, protected_write, sp_after, refused_transfer, moves_vectors}
use Rattle.avr_model.specs.Devices.{Image, device_of}
use Rattle.avr_machine.specs.Quiet.{is_still}

no_items : (ws : List Write) → length ws ≡ 0 → ws ≡ []
no_items [] e = refl
no_items (w ∷ ws) e = absurd (omega (arith, e))

none_outside : (device : Device) (ws : List Write) → ws ≡ [] → all_inside device ws ≡ true
none_outside device [] e = refl
none_outside device (w ∷ ws) e = cc

same_memory : (memory : Memory) (one other is_open : Bool) (sp : ℕ) (stores pushes : List Write) → pushes ≡ [] → memory_after memory one is_open sp stores pushes ≡ memory_after memory other is_open sp stores pushes
unfolding memory_after
same_memory memory true true is_open sp stores [] e = refl
same_memory memory true false is_open sp stores [] e = refl
same_memory memory false true is_open sp stores [] e = refl
same_memory memory false false is_open sp stores [] e = refl
same_memory memory one other is_open sp stores (p ∷ ps) e = cc

-- whether pushes are guarded does not matter
same_after : (m : State) (one other : Bool) (e : Effect) → e.pushes ≡ [] → after m one e ≡ after m other e
same_after m one other e none =
    ap (λ (memory : Memory). record (after m one e) { memory = memory })
    (same_memory m.memory one other (open_after m.device e.is_open e.stores) (sp_after m.device e.sp e.stores) e.stores e.pushes none)

first_of : (b t : Bool) (x y : Answer) → b ≡ true → (if b || t then x else y) ≡ x
first_of true t x y e = refl
first_of false t x y e = cc

-- the step is flagged or done
pub unpushed_answer : (image : Image) (entries : List Entry) (m : State) (instr : Instr) (e : Effect) (guarded : Bool) → length e.pushes ≡ 0
    → flagged_or (flag_by m.pc (live_write m.memory (e.stores ++ e.pushes)) (protected_write image entries m.pc instr e) (refused_transfer image entries m instr e) (moves_vectors (device_of image) (is_still image entries) e.stores)) (after m guarded e)
    ≡ answer_to image entries m instr e
unpushed_answer image entries m instr e guarded none =
    let pushes = no_items e.pushes none in
    sym
    (first_of _ _ _ _ (none_outside m.device e.pushes pushes)
    ∙ ap (λ (x : State). flagged_or (flag_by m.pc (live_write m.memory (e.stores ++ e.pushes)) (protected_write image entries m.pc instr e) (refused_transfer image entries m instr e) (moves_vectors (device_of image) (is_still image entries) e.stores)) x)
    (same_after m _ guarded e pushes))
