-- The laws, and lemmas that crates above cite.
pub use Rattle.state_pool.proofs.Undone.{releases_undo}
pub use Rattle.state_pool.proofs.Counted.{counts_follow, share_own}
