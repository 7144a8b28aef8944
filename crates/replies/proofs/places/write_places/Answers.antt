use Rattle.std.proofs.Common.{sym, ap, ◌∙◌}
use Rattle.text_base.specs.Writing.{with_words, with_end}
use Rattle.replies.specs.Places.{name_up_to, place_line}
use Rattle.reports.proofs.AllLaws.{numbers_next}
use Rattle.replies.proofs.Sites.{up_first, nothing_behind}
use Rattle.replies.proofs.places.write_places.Goals as goal

pub loop-site-init : goal.loop-site-init
loop-site-init c = (nothing_behind c.args.out.now c.requires, up_first c.args.firmware.now.names.now)

pub loop-site-preserved : goal.loop-site-preserved
loop-site-preserved c =
    let line = c.in_ok-end_line.ensures.written ∙ ap with_end c.in_ok-put_named.ensures ∙ ap (λ pc. with_end (with_words c.loop-site.out (place_line c.args.firmware.now.flash.now c.args.firmware.now.names.now pc))) c.reach-place.ensures.pc in
    let named = c.reach-place.ensures.named ∙ ap (name_up_to c.args.firmware.now.names.now) (sym c.reach-place.ensures.pc) in (
      numbers_next (place_line c.args.firmware.now.flash.now c.args.firmware.now.names.now) c.appending_laws.ensures c.args.out.now c.loop-site.out c.end_line.new.self c.args.sites.now c.loop-site.site-index c.loop-site-test.true c.requires
          c.loop-site.invariant.0 line,
      named,
    )
