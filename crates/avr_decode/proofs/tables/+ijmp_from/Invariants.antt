use Rattle.avr_decode.proofs.tables.+ijmp_from.Given as goal

abbrev pub decreases-ijmp_from : goal.decreases-ijmp_from
decreases-ijmp_from l = l.most
