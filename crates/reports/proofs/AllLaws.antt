-- The lemmas that crates above cite.
pub use Rattle.reports.proofs.Lines.{line_and_text, word_next, numbers_next}
