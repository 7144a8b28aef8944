use Rattle.std.proofs.Common.{◌≡◌, drop}
use Rattle.std.specs.List.{list_all}
use Rattle.vector_table.specs.Entries.{is_word_of}
use Rattle.vector_table.proofs.fitting.are_all_words.Given as goal

abbrev pub invariant-loop-item : goal.invariant-loop-item
invariant-loop-item l = list_all (is_word_of l.fn.device) l.items ≡ list_all (is_word_of l.fn.device) (drop l.item-index l.items)
