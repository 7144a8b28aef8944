use Rattle.std.proofs.Common.{◌≡◌, drop}
use Rattle.avr_model.specs.Assumptions.{lists}
use Rattle.avr_machine.proofs.flags.lists_word.Given as goal

abbrev pub invariant-loop-listed : goal.invariant-loop-listed
invariant-loop-listed l = lists l.items l.item ≡ lists (drop l.listed-index l.items) l.item
