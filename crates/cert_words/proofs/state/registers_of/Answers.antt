use Rattle.std.proofs.Common.{arith}
use Rattle.cert_words.proofs.Banks.{registers_set}
use Rattle.cert_words.proofs.state.registers_of.Goals as goal

pub returns : goal.returns
returns c =
    rw (c.from.ensures, c.from-2.ensures)
    (registers_set c.args.form.device c.args.form.version c.args.root c.args.first c.args.words.now c.first_values.new.words c.next_bank.new.words c.next_bank-2.new.words c.in-Some.registers c.in-Some-next_bank.rampz c.in-Some-next_bank-2.eind (omega arith) c.in-Some.ensures c.in-Some-next_bank.ensures c.in-Some-next_bank-2.ensures)
