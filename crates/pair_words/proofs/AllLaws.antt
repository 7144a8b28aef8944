-- The lemmas that crates above cite.
use Rattle.line_reading.specs.Words.{WordLaws}
use Rattle.pair_words.specs.Laws.{FactsWords}
use Rattle.pair_words.proofs.Whole.{facts_take, facts_again}
use Rattle.pair_words.proofs.Plain.{facts_are_words}
pub use Rattle.pair_words.proofs.Tags.{register_take, register_again}
pub use Rattle.pair_words.proofs.Numerals.{two, four}
pub use Rattle.pair_words.proofs.Plain.{sum_short, compare_short, zero_short, intervals_short}

pub facts_words : WordLaws → FactsWords
facts_words k = record { spelled = facts_take k; read = facts_again k; words = facts_are_words k }
