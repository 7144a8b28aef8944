use Rattle.std.proofs.Common.{◌∙◌}
use Rattle.cert_writing.proofs.Found.{number_at, number_found}
use Rattle.cert_writing.proofs.lines.number_of.Goals as goal

pub returns-in-Some : goal.returns-in-Some
returns-in-Some c = number_at c.keys_are_ordered.ensures c.args.insts.now c.args.key.now c.in-Some.number c.requires.sorted c.in-Some.ensures.found

pub returns-in-None : goal.returns-in-None
returns-in-None c =
    c.unwrap_or.ensures
    ∙ number_found c.keys_are_ordered.ensures c.args.insts.now c.args.key.now c.number_from-in-None.result c.requires.sorted c.requires.there c.number_from-in-None.ensures.found c.number_from-in-None.ensures.none
