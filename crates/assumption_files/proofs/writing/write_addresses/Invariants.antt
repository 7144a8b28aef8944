use Rattle.std.proofs.Common.{◌≡◌, take}
use Rattle.text_base.specs.Writing.{with_words}
use Rattle.assumption_files.specs.Spelling.{number_words}
use Rattle.assumption_files.proofs.writing.write_addresses.Given as goal

abbrev pub invariant-loop-address : goal.invariant-loop-address
invariant-loop-address l = l.out ≡ with_words l.initial.out (number_words 4 (take l.address-index l.addresses))
