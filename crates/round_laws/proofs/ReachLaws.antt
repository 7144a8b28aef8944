-- The law, under the name of its public function. Crates above cite it from here.
pub use Rattle.round_laws.proofs.Reached.{rounds_are_reached}
