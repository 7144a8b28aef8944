-- Families: finite maps from keys to states.
pub use Rattle.round_rules.specs.Families.{Family, node_of, nodes_of, Lands}
pub use Rattle.round_laws.specs.Steps.{joined_with, raised}
