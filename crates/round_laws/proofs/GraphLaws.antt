-- The laws, each under the name of its public function, and lemmas that crates above cite.
pub use Rattle.round_laws.proofs.Told.{graphs_tell, valued_at}
