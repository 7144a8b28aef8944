use Rattle.std.proofs.Common.{◌≡◌, drop}
use Rattle.std.specs.List.{list_all}
use Rattle.avr_model.specs.Vectors.{is_protected}
use Rattle.vector_table.proofs.fitting.are_all_protected.Given as goal

abbrev pub invariant-loop-item : goal.invariant-loop-item
invariant-loop-item l = list_all (is_protected l.fn.device) l.items ≡ list_all (is_protected l.fn.device) (drop l.item-index l.items)
