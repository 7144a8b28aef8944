use Rattle.std.proofs.Common.{◌≡◌, ◌∙◌, ◌+◌, ap, sym, ℕ, Bool, false, if◌then◌else◌, arith}
use Rattle.avr_model.specs.Effects.{further, going_to}
use Rattle.avr_model.specs.Image.{word_at}
use Rattle.avr_model.specs.State.{State}
use Rattle.avr_model.specs.Step.{after}
use Rattle.avr_model.specs.Table.{length_of}
use Rattle.avr_model.proofs.AllLaws.{most_words}
use Rattle.avr_machine.proofs.processor.Processor.skip.Goals as goal
use Rattle.avr_machine.proofs.processor.Processor.skip.Goals.{then-test, else-test}

pub overflow_add-self-inside : goal.overflow_add-self-inside
overflow_add-self-inside c = let most = most_words c.self.inside.device in omega (arith, most, c.self.invariant.0)

pub returns : goal.returns
returns c =
    let m = c.args.self.now in
    let size = 1 + length_of (word_at c.args.flash.now (m.pc + 1)) in
    let words : c.if-test.words ≡ (if c.args.test then size else 1) =
    elim c.if-test.branch [
      | then-test w ↦ w.words-is ∙ ap (λ (n : ℕ). 1 + n) (w.length.ensures.value ∙ ap length_of (w.word.ensures ∙ ap (λ (s : State). word_at c.args.flash.now (s.pc + 1)) c.self.view_is)) ∙ sym (ap (λ (b : Bool). if b then size else 1) w.if-test.true)
      | else-test w ↦ w.words-is ∙ sym (ap (λ (b : Bool). if b then size else 1) w.if-test.false)
    ] in
    c.go_to.ensures ∙ ap (λ (n : ℕ). after m false (going_to m n)) (c.further-target.ensures.value ∙ ap (further m) words)
