use Rattle.avr_decode.proofs.JumpTables.{in_words}
use Rattle.avr_decode.proofs.tables.table_site.Goals as goal

pub ijmp_from-requires-clause-at : goal.ijmp_from-requires-clause-at
ijmp_from-requires-clause-at c = in_words c.args.device _ c.wrap-from.ensures.inside
