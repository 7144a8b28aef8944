use Rattle.std.proofs.Common.{◌∙◌, ◌+◌, ◌<◌, ℕ, List, Bool, true, set, ap, subst, sym, length, arith}
use Rattle.avr_model.specs.Devices.{guarded_end}
use Rattle.store_clear.specs.Takes.{AreMarkedBeside}
use Rattle.store_clear.specs.Causing.{IsProtectedBelow}
use Rattle.store_clear.proofs.Causing.{addresses_none, addresses_more, addresses_same}
use Rattle.store_clear.proofs.causes.mark_addresses.Goals.{then-may_write_protected, else-may_write_protected}
use Rattle.store_clear.proofs.causes.mark_addresses.Goals as goal
use Rattle.store_clear.specs.Stores.{task_in, store_of}

pub loop-address-init : goal.loop-address-init
loop-address-init c = addresses_none (task_in c.args.store.now) c.args.store.now.pc c.args.store.now.state.now c.args.store.now.instr.now c.args.marks.now

pub loop-address-preserved : goal.loop-address-preserved
loop-address-preserved c =
    let task = task_in c.args.store.now in
    let n = c.loop-address.address in
    let lt : n < length c.loop-address.marks = omega (arith, c.loop-address-test.true, c.loop-address.invariant.same, c.requires, ap guarded_end c.device.ensures) in
    elim c.if-may_write_protected.branch [
      | then-may_write_protected w ↦
          subst (λ (xs : List Bool). AreMarkedBeside (IsProtectedBelow task (store_of c.args.store.now) (n + 1)) c.args.marks.now xs)
          (sym (w.marks-is ∙ ap (λ (i : ℕ). set c.loop-address.marks i true) w.from.ensures))
          (addresses_more task c.args.store.now.pc c.args.store.now.state.now c.args.store.now.instr.now n c.args.marks.now c.loop-address.marks c.loop-address.invariant lt
          (sym c.may_write_protected.ensures ∙ w.if-may_write_protected.true))
      | else-may_write_protected w ↦
          subst (λ (xs : List Bool). AreMarkedBeside (IsProtectedBelow task (store_of c.args.store.now) (n + 1)) c.args.marks.now xs) (sym w.marks-is)
          (addresses_same task c.args.store.now.pc c.args.store.now.state.now c.args.store.now.instr.now n c.args.marks.now c.loop-address.marks c.loop-address.invariant
          (sym c.may_write_protected.ensures ∙ w.if-may_write_protected.false))
    ]
