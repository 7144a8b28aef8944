use Rattle.assumption_files.proofs.AllLaws as laws
use Rattle.assumption_files.proofs.laws.reading_is_exact.Goals as goal

pub returns : goal.returns
returns c = laws.reading_is_exact c.word_laws.ensures
