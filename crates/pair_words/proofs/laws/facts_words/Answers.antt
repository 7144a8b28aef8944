use Rattle.pair_words.proofs.AllLaws as laws
use Rattle.pair_words.proofs.laws.facts_words.Goals as goal

pub returns : goal.returns
returns c = laws.facts_words c.word_laws.ensures
