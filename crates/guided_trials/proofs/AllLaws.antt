-- The lemmas that crates above cite.
pub use Rattle.guided_trials.proofs.Completed.{claim_with, sound_with, attained_where}
