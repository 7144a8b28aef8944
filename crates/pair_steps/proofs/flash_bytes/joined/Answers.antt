use Rattle.std.proofs.Common.{◌≡◌, sym, ◌∙◌, ap, subst, subst₂, ⊎_elim, ℕ, ◌+◌, ◌*◌, true, false, None, arith}
use Rattle.std.proofs.lemmas.Bool.Decides.{nat_tests}
use Rattle.avr_model.specs.Devices.{words_of}
use Rattle.avr_model.specs.Image.{byte_at}
use Rattle.abs_state.specs.Values.{known}
use Rattle.abs_state.specs.PairBytes.{sets}
use Rattle.pair_rules.specs.Flash.{pair_permits, joined_with, is_flash}
use Rattle.pair_steps.proofs.Counting.{IsSoFar, begins, is_over, counted, skipped, too_many, outside}
use Rattle.pair_steps.proofs.flash_bytes.joined.Goals as goal
use Rattle.pair_steps.proofs.flash_bytes.joined.Goals.{then-permits+else-count-eq64+else-at-end, else-permits}

pub loop-z-init : goal.loop-z-init
loop-z-init c = record {
  so_far = subst (λ (n : ℕ). IsSoFar c.args.flash.now (65536 * c.args.bank) (pair_permits (sets c.args.pair)) n 0 None) (sym c.from-z.ensures) (begins c.args.flash.now (65536 * c.args.bank) (sets c.args.pair));
  bounded = omega arith;
}

pub returns-then-count-eq64 : goal.returns-then-count-eq64
returns-then-count-eq64 c =
    let may = sym c.permits.ensures ∙ c.if-permits.true in
    sym (⊎_elim
    (λ full.
    too_many c.args.flash.now (65536 * c.args.bank) (pair_permits (sets c.args.pair)) c.loop-z.z c.loop-z.value (omega arith) may
    (subst (λ (n : ℕ). IsSoFar c.args.flash.now (65536 * c.args.bank) (pair_permits (sets c.args.pair)) c.loop-z.z n c.loop-z.value) full c.loop-z.invariant.so_far))
    (λ off.
    let end_is = c.words-end.ensures ∙ ap words_of c.device.ensures in
    let far : is_flash c.args.flash.now (65536 * c.args.bank + c.loop-z.z) ≡ false = grind (arith, nat_tests, off.1, end_is) in
    outside c.args.flash.now (65536 * c.args.bank) (pair_permits (sets c.args.pair)) c.loop-z.z (omega arith) may far) c.then-count-eq64.either)

pub loop-z-preserved : goal.loop-z-preserved
loop-z-preserved c = elim c.if-permits.branch [
  | then-permits+else-count-eq64+else-at-end w ↦
      let may = sym c.permits.ensures ∙ w.if-permits.true in
      let end_is = c.words-end.ensures ∙ ap words_of c.device.ensures in
      let within = w.if-at-end.false in
      let inside : is_flash c.args.flash.now (65536 * c.args.bank + c.loop-z.z) ≡ true = grind (arith, nat_tests, within, end_is) in
      record {
        so_far = subst₂ (IsSoFar c.args.flash.now (65536 * c.args.bank) (pair_permits (sets c.args.pair)) (c.loop-z.z + 1)) (sym w.count-is) (sym w.value-is)
            (counted c.args.flash.now (65536 * c.args.bank) (pair_permits (sets c.args.pair)) c.loop-z.z c.loop-z.count c.loop-z.value w.joined_with.result may inside (omega (arith, c.loop-z.invariant.so_far.few, w.if-count-eq64.false))
            (w.joined_with.ensures ∙ ap (joined_with c.loop-z.value) (w.known.ensures ∙ ap known (w.byte.ensures ∙ ap (λ (b : ℕ). byte_at c.args.flash.now.words (65536 * b + c.loop-z.z)) c.from-from.ensures))) c.loop-z.invariant.so_far);
        bounded = omega arith;
      }
  | else-permits w ↦
      let no_permit = sym c.permits.ensures ∙ w.if-permits.false in
      record {
        so_far = subst₂ (IsSoFar c.args.flash.now (65536 * c.args.bank) (pair_permits (sets c.args.pair)) (c.loop-z.z + 1)) (sym w.count-is) (sym w.value-is)
            (skipped c.args.flash.now (65536 * c.args.bank) (pair_permits (sets c.args.pair)) c.loop-z.z c.loop-z.count c.loop-z.value no_permit c.loop-z.invariant.so_far);
        bounded = omega arith;
      }
]

pub returns : goal.returns
returns c = sym (is_over c.args.flash.now (65536 * c.args.bank) (sets c.args.pair) c.loop-z.z c.loop-z.count c.loop-z.value (omega arith) (omega arith) c.loop-z.invariant.so_far)
