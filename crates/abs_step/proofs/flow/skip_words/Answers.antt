use Rattle.std.proofs.Common.{refl}
use Rattle.abs_step.proofs.Skipped.{skipped}
use Rattle.abs_step.proofs.flow.skip_words.Goals as goal

pub returns-clause-past : goal.returns-clause-past
returns-clause-past c =
    skipped c.args.site.now.flash.now c.args.site.now.device c.args.site.now.key.now _ c.word.result c.length-length.result c.further.result refl c.word.ensures c.length-length.ensures.value
    c.further.ensures
