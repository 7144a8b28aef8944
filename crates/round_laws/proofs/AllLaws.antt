-- The laws, each under the name of its public function, and lemmas that crates above cite.
pub use Rattle.round_laws.proofs.Nodes.{families_are_their_nodes, has_member, member_has}
pub use Rattle.round_laws.proofs.Ends.{rounds_are_least, rounds_end_once, solutions_are_valid}
pub use Rattle.round_laws.proofs.Joins.{rounds_are_joins, insert_again, found_here, found_later}
pub use Rattle.round_laws.proofs.Keys.{node_exact, at_keys, get_same, get_other}
pub use Rattle.round_laws.proofs.Sums.{same_cells}
pub use Rattle.round_laws.proofs.Parts.{ok_of, never_both}
pub use Rattle.round_laws.proofs.Least.{lands_up, lands_covered, formed_nodes, first_has, comes_formed, comes_root, reached_lower}
