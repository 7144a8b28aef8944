use Rattle.assumption_files.proofs.AllLaws as laws
use Rattle.assumption_files.proofs.laws.list_texts.Goals as goal

pub returns-clause-words : goal.returns-clause-words
returns-clause-words c = laws.entry_words c.word_laws.ensures

pub returns-clause-one : goal.returns-clause-one
returns-clause-one c = laws.one_text c.word_laws.ensures

pub returns-clause-stuck : goal.returns-clause-stuck
returns-clause-stuck c = laws.refused_is_stuck c.word_laws.ensures
