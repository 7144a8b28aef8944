use Rattle.edge_laws.proofs.AllLaws as all
use Rattle.edge_laws.proofs.laws.edges_lead_as_nodes_do.Goals as goal

pub returns : goal.returns
returns c = record { raw = all.edges_are_raw; nodes = all.edges_lead_to_nodes; grow = all.edges_grow; cut = all.cut_depths_are_small }
