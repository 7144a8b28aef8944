-- The lemmas that crates above cite.
pub use Rattle.avr_decode.proofs.Readings.{none_read}
pub use Rattle.avr_decode.proofs.Effects.{registers_are_written}
