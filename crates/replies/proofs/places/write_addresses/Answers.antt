use Rattle.std.proofs.Common.{ℕ, ap, ◌∙◌}
use Rattle.text_base.specs.Writing.{with_word}
use Rattle.reports.proofs.AllLaws.{word_next}
use Rattle.replies.specs.Places.{address_text}
use Rattle.replies.proofs.places.write_addresses.Goals as goal

pub loop-address-preserved : goal.loop-address-preserved
loop-address-preserved c =
    word_next address_text c.args.out.now c.loop-address.out c.hex.new.self c.args.addresses.now c.loop-address.address-index c.loop-address-test.true c.loop-address.invariant
    (c.in_ok-hex.ensures.written ∙ ap (λ (w : ℕ). with_word c.loop-address.out (address_text w)) c.from.ensures)
