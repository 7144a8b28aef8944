use Rattle.std.proofs.Common.{sym, ap, ◌∙◌}
use Rattle.clear_laws.specs.Clear.{are_addresses_harmless, is_address_harmless}
use Rattle.avr_model.specs.declared.instruction.Instr.{Instr}
use Rattle.store_clear.proofs.Harmless.{others, direct}
use Rattle.store_clear.proofs.numbers.are_addresses_harmless.Goals as goal
use Rattle.clear_laws.specs.Clear.{store_at}
use Rattle.store_clear.specs.Stores.{task_in}

pub returns-in-Sts : goal.returns-in-Sts
returns-in-Sts c =
    let follows = sym c.get.ensures ∙ c.in-Some.is in
    let task = task_in c.args.store.now in
    c.is_address_harmless.ensures
    ∙ ap (λ (x : Instr). is_address_harmless task c.args.bound (store_at c.args.store.now.pc c.args.store.now.state.now x) c.in-Sts.address) c.in-Sts.is
    ∙ sym (direct task c.args.bound c.args.store.now.pc c.args.store.now.state.now c.in-Some.facts follows c.in-Sts.address c.in-Sts.field-1)
    ∙ sym (ap (λ (x : Instr). are_addresses_harmless task c.args.bound (store_at c.args.store.now.pc c.args.store.now.state.now x)) c.in-Sts.is)

pub returns-in_default-instr : goal.returns-in_default-instr
returns-in_default-instr c =
    sym (others (task_in c.args.store.now) c.args.bound c.args.store.now.pc c.args.store.now.state.now c.in-Some.facts (sym c.get.ensures ∙ c.in-Some.is) c.args.store.now.instr.now
    c.in_default-instr.not-Std c.in_default-instr.not-Sts c.in_default-instr.not-St)
