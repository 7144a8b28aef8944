-- The laws, and lemmas that crates above cite.
pub use Rattle.node_keys.proofs.SameKeys.{keys_are_their_numbers, keys_are_ordered, nodes_go_by_instance, bool_same}
pub use Rattle.node_keys.specs.Total.{both_equal}
pub use Rattle.node_keys.proofs.Written.{splits_are_writes}
pub use Rattle.node_keys.proofs.Chains.{bool_order, then_assoc, then_equal, form_length, inst_length, kind_length}
pub use Rattle.node_keys.proofs.Staying.{enables_stay_among}
pub use Rattle.node_keys.proofs.Commons.{may_have_member}
