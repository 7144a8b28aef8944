-- Laws of the definitions. Crates above cite them from here.
pub use Rattle.replies.proofs.ElfWords.{one_elf}
pub use Rattle.replies.proofs.Accepting.{attained_by, attains_by, witness_zero, by_none}
pub use Rattle.replies.proofs.Least.{schedule_found}
