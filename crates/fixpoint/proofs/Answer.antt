-- The end of the rounds and certificates.
use Rattle.std.proofs.Common.{◌≡◌, ◌≢◌, refl, sym, subst, ℕ, ◌≤◌, Option, None}
use Rattle.avr_model.specs.declared.device.Device.{Device}
use Rattle.avr_model.specs.Devices.{device_of}
use Rattle.certificate.specs.Claims.{Claim, IsClaim}
use Rattle.certificate.specs.Valid.{IsValid}
use Rattle.round_rules.specs.declared.refusal.Refusal.{Refusal}
use Rattle.round_rules.specs.declared.refusal.Refusal.TheVariants as refusal
use Rattle.round_rules.specs.Families.{Family}
use Rattle.round_rules.specs.Solutions.{IsShown, IsSolution, IsAnswer, IsRefusal, AreRoundsWithout, AllFit, IsWhyNot}
use Rattle.round_laws.proofs.AllLaws.{rounds_are_least, solutions_are_valid}
use Rattle.round_solutions.proofs.AnswerLaws.{misfit_fits, never_misfit}
use Rattle.fixpoint.specs.Progress.{AreRoundsFound}
use Rattle.local_rules.specs.Site.{Task}

module _ (task : Task) where
  pub is_answer : (steps : Option ℕ) (f : Family) (c : Claim) → AllFit (device_of task.flash) task.assumptions → AreRoundsFound task steps f → IsSolution task f c → IsAnswer task steps c
  is_answer steps f c fit found solution = record { fit = fit; number = found.number; family = f; within = found.within; solved = found.solved; solution = solution }

  pub is_valid : (steps : Option ℕ) (f : Family) (c : Claim) → AreRoundsFound task steps f → IsClaim c → IsSolution task f c → IsValid task c
  is_valid steps f c found claim solution = solutions_are_valid.valid task found.number f c claim found.solved solution

  pub is_least : (steps : Option ℕ) (f : Family) (c : Claim) → AreRoundsFound task steps f → IsSolution task f c → (other : Claim) → IsShown task other → c.bound ≤ other.bound
  is_least steps f c found solution other shown = solutions_are_valid.least task found.number f c other found.solved solution shown

  never_shown : (steps : Option ℕ) (r : Refusal) → IsRefusal task steps r → (other : Claim) → IsShown task other → ⊥
  never_shown steps r why other shown = rounds_are_least.never task why.number other r shown why.refused

  -- the list of a certificate fits the device
  shown_fits : (other : Claim) → IsShown task other → AllFit (device_of task.flash) task.assumptions
  shown_fits other shown =
      let meets = shown.sound.meets in
      subst (λ (d : Device). AllFit d task.assumptions) meets.device (subst (AllFit other.device) meets.assumptions shown.claim.entries_of_device)

  -- a refusal without a budget excludes every certificate
  pub none_shown : (steps : Option ℕ) (r : Refusal) → IsWhyNot task steps r → steps ≡ None → r ≢ refusal.Memory → (other : Claim) → IsShown task other → ⊥
  none_shown steps (refusal.Misfit at) why none real other shown = misfit_fits (device_of task.flash) task.assumptions at why (shown_fits other shown)
  none_shown steps (refusal.Spent n) why none real other shown = absurd (let never = sym none in let e = why.1.0 in cc)
  none_shown steps refusal.Memory why none real other shown = absurd (real refl)
  none_shown steps (refusal.Node x) why none real other shown = never_shown steps (refusal.Node x) why.1 other shown
  none_shown steps (refusal.Recursion word) why none real other shown = never_shown steps (refusal.Recursion word) why.1 other shown
  none_shown steps (refusal.ReEntry v word) why none real other shown = never_shown steps (refusal.ReEntry v word) why.1 other shown
  none_shown steps (refusal.TooLarge limit) why none real other shown = never_shown steps (refusal.TooLarge limit) why.1 other shown

  -- if all entries fit, the reason of the rounds is that of the answer
  pub told_why : (steps : Option ℕ) (r : Refusal) → AllFit (device_of task.flash) task.assumptions → AreRoundsWithout task steps r → IsWhyNot task steps r
  told_why steps (refusal.Misfit at) fit why = absurd (never_misfit at why.refused.test why.refused.is)
  told_why steps (refusal.Spent n) fit why = (fit, why)
  told_why steps refusal.Memory fit why = tt
  told_why steps (refusal.Node x) fit why = (fit, why)
  told_why steps (refusal.Recursion word) fit why = (fit, why)
  told_why steps (refusal.ReEntry v word) fit why = (fit, why)
  told_why steps (refusal.TooLarge limit) fit why = (fit, why)
