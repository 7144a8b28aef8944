-- The law, under the name of its public function, and lemmas. Crates above cite them from here.
pub use Rattle.round_solutions.proofs.Misfits.{misfit_fits, never_misfit}
pub use Rattle.round_solutions.proofs.One.{answers_are_one}
