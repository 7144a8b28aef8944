use Rattle.std.proofs.Common.{◌≡◌, true, cond, leb, ltb, get_or, arith, ap, ◌∙◌}
use Rattle.std.specs.Prelude.{◌&&◌}
use Rattle.elf_load.proofs.taken.TakenBytes.take.Goals as goal

pub returns-clause-flags : goal.returns-clause-flags
returns-clause-flags c = λ k.
    let last : c.loop-z.z ≡ c.args.end = omega (arith, c.loop-z.auto.z-end) in
    c.loop-z.invariant.flags k ∙ ap (λ z. cond (leb c.args.start k && ltb k z) true (get_or c.args.self.now k true)) last
