-- The laws, each under the name of its public function. Crates above cite them from here.
pub use Rattle.cert_check.proofs.One.{verdicts_are_one, sound_certificates_bound_every_run}
