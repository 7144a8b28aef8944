-- The lemmas that crates above cite.
pub use Rattle.line_reading.proofs.Steps.{map_some, bind_some, no_words, TakesLine, line_takes, line_again, passes_none, passes_more, passes_split, passes_end, sizes_append, line_refuses, passes_one, ok_is, err_ok, then_ok, then_err, err_is, first_some, passes_tail}
pub use Rattle.line_reading.proofs.Pieces.{end_is, letter_take, length_hex, number_of, digits_take, digits_again}
pub use Rattle.line_reading.proofs.Words.{lacks_append}
