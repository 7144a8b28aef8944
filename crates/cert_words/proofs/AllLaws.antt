-- The lemmas that crates above cite.
pub use Rattle.cert_words.proofs.Classes.{class_word, class_short, class_named}
pub use Rattle.cert_words.proofs.Fields.{word_take, dec_take, word_by_take, joined_words, same_text}
pub use Rattle.cert_words.proofs.InstKeys.{cons}
pub use Rattle.cert_words.proofs.Limits.{depth_room}
pub use Rattle.cert_words.proofs.InstNumbers.{number_unique, has_number}
