use Rattle.std.proofs.Common.{◌∙◌, sym, ap, arith, eqb, not, Bool, ℕ}
use Rattle.std.specs.Int.RustNames.{bit_and}
use Rattle.avr_model.specs.Sreg.{with_flags}
use Rattle.avr_model.specs.Wide.{flags_of_wide}
use Rattle.avr_alu.proofs.WordFlags.{sum_flags, difference_flags}
use Rattle.avr_alu.proofs.word.wide.Goals as goal
use Rattle.avr_alu.proofs.word.wide.Goals.{then-up, else-up}

pub returns-clause-flags : goal.returns-clause-flags
returns-clause-flags c =
    let h = c.half_carry.result in
    let s = c.args.s.0 in
    let flags : ℕ × ℕ × ℕ → ℕ =
    λ t. with_flags (not (eqb (bit_and t.1 32768) 0)) (eqb t.0 0) (not (eqb (bit_and t.0 32768) 0)) (not (eqb (bit_and t.2 32768) 0)) h s in
    c.with_outcome-flags.ensures
    ∙ elim c.if-up.branch [
      | then-up w ↦
          ap flags w.r-is ∙ sum_flags c.args.a c.args.k _ h s (omega arith) (omega arith) (omega arith) c.half_carry.ensures
          ∙ ap (λ (up : Bool). flags_of_wide up c.args.a c.args.k s) (sym w.if-up.true)
      | else-up w ↦
          ap flags w.r-is ∙ difference_flags c.args.a c.args.k _ h s (omega arith) (omega arith) (omega arith) c.half_carry.ensures
          ∙ ap (λ (up : Bool). flags_of_wide up c.args.a c.args.k s) (sym w.if-up.false)
    ]
