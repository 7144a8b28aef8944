-- A filled list ascends as its seeds do.
use Rattle.std.proofs.Common.{refl, sym, subst, List, length}
use Rattle.std.specs.List.Sorted.{IsStrictlySortedBy}
use Rattle.std.proofs.lemmas.Option.{slice_get_read}
use Rattle.avr_model.specs.Assumptions.{has_pairs}
use Rattle.avr_model.specs.Devices.{device_of}
use Rattle.node_keys.specs.Order.{node_cmp}
use Rattle.local_rules.specs.declared.local.Node.{Node}
use Rattle.edge_rules.specs.Views.{AreShown}
use Rattle.edge_rules.specs.Expansion.{Seeds, IsFilled}
use Rattle.edge_laws.specs.Expansions.{AreSeedsAscending, FilledListsAreShown}
use Rattle.edge_laws.proofs.Steps.{filled_or_missing}
use Rattle.local_rules.specs.Site.{Task}

shown : (task : Task) (nodes : Seeds) (filled : List Node) → IsFilled task nodes filled → AreSeedsAscending nodes → AreShown (device_of task.flash) filled
shown task nodes filled f ascending = record {
  followed = has_pairs task.assumptions;
  ascending = subst (IsStrictlySortedBy node_cmp) (sym (filled_or_missing.keys task nodes filled f)) ascending;
  all = λ n i. f.formed i.0 n (slice_get_read filled (length filled) i.0 n refl i.1 (sym i.2));
}

pub filled_lists_are_shown : FilledListsAreShown
filled_lists_are_shown = record { shown = shown }
