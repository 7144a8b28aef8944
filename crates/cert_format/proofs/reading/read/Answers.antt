use Rattle.cert_format.proofs.Whole.{answered, found, for_device, kept, spelled}
use Rattle.cert_format.proofs.Refused.{told}
use Rattle.cert_format.proofs.reading.read.Goals as goal

pub returns-clause-exact : goal.returns-clause-exact
returns-clause-exact c = answered c.args.device c.args.text.now c.new-reader.result c.read_claim.new.reader c.read_claim.result c.new-reader.ensures.position c.read_claim.ensures

pub returns-clause-found : goal.returns-clause-found
returns-clause-found c = found c.certificate_texts.ensures.read c.args.device c.args.text.now c.read_claim.result (answered c.args.device c.args.text.now c.new-reader.result c.read_claim.new.reader c.read_claim.result c.new-reader.ensures.position c.read_claim.ensures)

pub returns-clause-kept : goal.returns-clause-kept
returns-clause-kept c = kept c.certificate_texts.ensures.read c.args.device c.args.text.now c.read_claim.result (answered c.args.device c.args.text.now c.new-reader.result c.read_claim.new.reader c.read_claim.result c.new-reader.ensures.position c.read_claim.ensures)

pub returns-clause-spelled : goal.returns-clause-spelled
returns-clause-spelled c = spelled c.certificate_texts.ensures.spelled c.args.device c.args.text.now c.read_claim.result (answered c.args.device c.args.text.now c.new-reader.result c.read_claim.new.reader c.read_claim.result c.new-reader.ensures.position c.read_claim.ensures)

pub returns-clause-told : goal.returns-clause-told
returns-clause-told c = told c.args.device c.certificate_texts.ensures.due c.args.text.now c.read_claim.result (answered c.args.device c.args.text.now c.new-reader.result c.read_claim.new.reader c.read_claim.result c.new-reader.ensures.position c.read_claim.ensures)

pub returns-clause-for_device : goal.returns-clause-for_device
returns-clause-for_device c = for_device c.certificate_texts.ensures.read c.args.device c.args.text.now c.read_claim.result (answered c.args.device c.args.text.now c.new-reader.result c.read_claim.new.reader c.read_claim.result c.new-reader.ensures.position c.read_claim.ensures)
