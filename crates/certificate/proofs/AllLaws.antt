-- The lemmas that crates above cite.
pub use Rattle.certificate.proofs.Sound.{conditions_make_families_sound, claims_are_seeds, number_of}
pub use Rattle.certificate.proofs.PairHulls.{hull_here, count_hulls, hull_fits}
