-- The laws, each under the name of its public function. Crates above cite them from here.
pub use Rattle.edge_laws.proofs.One.{expansions_are_one, expansions_are_nodes, successors_are_one, same_seed}
pub use Rattle.edge_laws.proofs.Steps.{filled_or_missing, one_more, missing, whole}
pub use Rattle.edge_laws.proofs.Follow.{expansions_follow}
pub use Rattle.edge_laws.proofs.Shown.{filled_lists_are_shown}
pub use Rattle.edge_laws.proofs.Lists.{get_push, same_list}
