-- The law, under the name of its public function. Crates above cite it from here.
pub use Rattle.chain_explain.proofs.One.{explanations_are_one}
