-- The laws, each under the name of its public function, and lemmas that crates above cite.
pub use Rattle.round_solutions.proofs.Filled.{lone_edges_tell}
pub use Rattle.round_solutions.proofs.Graphs.{solved_families_are_shown, graphs_are_acyclic}
pub use Rattle.round_solutions.proofs.Made.{solutions_are_made}
pub use Rattle.round_solutions.proofs.Order.{node_once, node_before}
