use Rattle.std.proofs.Common.{ap, ◌∙◌}
use Rattle.avr_model.specs.Names.{trimmed, class_of}
use Rattle.avr_model.proofs.Facts.{class_none}
use Rattle.avr_model.proofs.naming.class_of.Goals as goal

pub returns-in-None : goal.returns-in-None
unfolding class_of
returns-in-None c = c.trimmed-in-None.ensures ∙ ap trimmed (class_none c.args.device c.index.result c.get.result c.index.ensures c.get.ensures.lookup c.in-None.is)
