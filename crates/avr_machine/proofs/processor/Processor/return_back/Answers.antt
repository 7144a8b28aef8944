use Rattle.std.proofs.Common.{◌≡◌, ◌∙◌, ap, sym, arith}
use Rattle.avr_model.specs.Devices.{back_of, wrapped}
use Rattle.avr_model.specs.State.{State}
use Rattle.avr_model.specs.Effects.{popped_word}
use Rattle.avr_machine.specs.Quiet.{is_still}
use Rattle.avr_machine.proofs.Popping.{popped_two, popped_three, returned}
use Rattle.avr_machine.proofs.processor.Processor.return_back.Goals as goal
use Rattle.avr_machine.proofs.processor.Processor.return_back.Goals.{then-back-eq3, else-back-eq3}

pub returns : goal.returns
returns c =
    let still = is_still c.args.firmware.now.flash.now c.args.firmware.now.assumptions.now in
    let m = c.args.self.now in
    let back : c.back-back.result ≡ back_of m.device = c.back-back.ensures.exact ∙ ap (λ (s : State). back_of s.device) c.self.view_is in
    let least = c.back-back.ensures.least in
    let most = c.back-back.ensures.most in
    let word : wrapped m.device c.if-back-eq3.word ≡ wrapped m.device (popped_word still m c.args.first c.args.second) =
    elim c.if-back-eq3.branch [
      | then-back-eq3 w ↦
          ap (wrapped m.device) w.word-is
          ∙ popped_three still m c.args.first c.args.second c.pop_byte-high.result c.pop_byte-word.result w.pop_byte-word-then-back-eq3.result
          (sym back ∙ w.if-back-eq3.true) c.pop_byte-high.ensures.value c.pop_byte-word.ensures.value w.pop_byte-word-then-back-eq3.ensures.value
      | else-back-eq3 w ↦
          ap (wrapped m.device) w.word-is
          ∙ popped_two still m c.args.first c.args.second c.pop_byte-high.result c.pop_byte-word.result
          (let other = w.if-back-eq3.false in sym back ∙ (omega (arith, least, most, other))) c.pop_byte-high.ensures.value c.pop_byte-word.ensures.value
    ]
    in
    c.go_to.ensures
    ∙ returned still _ m c.args.first c.args.second c.plus_sp-self-inside.result c.if-back-eq3.word c.back-back.result c.self.view_is c.back-back.ensures.exact c.plus_sp-self-inside.ensures word
