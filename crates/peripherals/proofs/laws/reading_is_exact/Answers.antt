use Rattle.peripherals.proofs.Exact.{read_is_spelled, spelled_is_read, refused_is_stuck, one_text}
use Rattle.peripherals.proofs.laws.reading_is_exact.Goals as goal

pub returns-clause-read : goal.returns-clause-read
returns-clause-read c = read_is_spelled c.word_laws.ensures

pub returns-clause-spelled : goal.returns-clause-spelled
returns-clause-spelled c = spelled_is_read c.word_laws.ensures

pub returns-clause-refused : goal.returns-clause-refused
returns-clause-refused c = refused_is_stuck c.word_laws.ensures

pub returns-clause-one : goal.returns-clause-one
returns-clause-one c = one_text c.word_laws.ensures
