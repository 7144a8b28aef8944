use Rattle.std.proofs.Common.{sym, ap, ◌∙◌}
use Rattle.text_base.specs.Writing.{with_end}
use Rattle.cert_writing.proofs.Written.{lines_next}
use Rattle.replies.specs.Places.{name_up_to, why_line}
use Rattle.replies.proofs.Sites.{up_first, nothing_behind, why_written}
use Rattle.replies.proofs.places.write_whys.Goals as goal

pub loop-place-init : goal.loop-place-init
loop-place-init c = (nothing_behind c.args.out.now c.requires, up_first c.args.firmware.now.names.now)

pub loop-place-preserved : goal.loop-place-preserved
loop-place-preserved c =
    let words = why_written c.args.firmware.now.flash.now c.args.firmware.now.names.now c.place-item.result c.reach-reached.result.pc c.loop-place.out c.put_named.new.out c.write_causes.new.out c.write_pointer.new.out c.reach-reached.ensures.pc c.in_ok-put_named.ensures c.in_ok-write_causes.ensures c.in_ok-write_pointer.ensures in (
      lines_next (why_line c.args.firmware.now.flash.now c.args.firmware.now.names.now) c.appending_laws.ensures c.args.out.now c.loop-place.out c.end_line.new.self c.args.places.now c.loop-place.place-index c.place-item.result
          c.loop-place-test.true c.place-item.is c.loop-place.invariant.0 (c.in_ok-end_line.ensures.written ∙ ap with_end words),
      c.reach-reached.ensures.named ∙ ap (name_up_to c.args.firmware.now.names.now) (sym c.reach-reached.ensures.pc),
    )
