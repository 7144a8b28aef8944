-- The law, under the name of its public function. Crates above cite it from here.
pub use Rattle.round_solutions.proofs.Closed.{closed_families_are_solved}
