-- The laws, each under the name of its public function. Crates above cite them from here.
pub use Rattle.round_nesting.proofs.Small.{nestings_are_small}
