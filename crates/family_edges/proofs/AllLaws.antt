-- The laws, each under the name of its public function. Crates above cite them from here.
pub use Rattle.family_edges.proofs.Exact.{local_parts_are_edges, answer_edges, back_edge, each_returned, returned_in, if_from}
pub use Rattle.family_edges.proofs.Answered.{answers_are_exact}
pub use Rattle.family_edges.proofs.Returning.{exits_are_exact}
