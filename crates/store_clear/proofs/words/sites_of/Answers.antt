use Rattle.std.proofs.Common.{◌∙◌, ap, length, arith}
use Rattle.std.proofs.lemmas.Result.{IfOk-weaker}
use Rattle.avr_model.specs.Image.{WORDS}
use Rattle.store_clear.proofs.Lists.{written_back}
use Rattle.store_clear.proofs.Sites.{sites_told}
use Rattle.store_clear.proofs.words.sites_of.Goals as goal

pub returns : goal.returns
returns c =
    let back =
    c.deref.ensures.value
    ∙ written_back c.in_ok-marks.marks.len c.mark_words.new.marks c.in_ok-marks.marks.items
    (let same = c.mark_words.ensures.same in let value = ap length c.as_mut_slice.ensures.value in let size = c.in_ok-marks.marks.ok.0 in omega (arith, same, value, size)) in
    IfOk-weaker c.places.result _ _
    (λ sites are.
    sites_told c.args.told.now.nodes.now c.args.told.now.conditions.now c.in_ok-marks.marks.items c.as_mut_slice.result.now c.mark_words.new.marks c.deref.result.now WORDS sites
    (c.in_ok-marks.ensures.items_if_clones_equal (λ y e. e)) c.as_mut_slice.ensures.value c.mark_words.ensures back are)
    c.places.ensures
