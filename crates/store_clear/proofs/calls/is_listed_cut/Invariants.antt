use Rattle.std.proofs.Common.{◌≡◌, filter, drop}
use Rattle.std.specs.List.{list_any}
use Rattle.avr_model.specs.Assumptions.{lists}
use Rattle.avr_model.specs.Devices.{device_of}
use Rattle.clear_laws.specs.Clear.{is_cut}
use Rattle.local_rules.specs.Flow.{words_on, z_with}
use Rattle.store_clear.proofs.calls.is_listed_cut.Given as goal

-- the words that are left decide
abbrev pub invariant-loop-word : goal.invariant-loop-word
invariant-loop-word l =
    list_any (is_cut l.task.assumptions.now) (filter (lists (words_on (device_of l.task.flash.now) (z_with l.state l.bank))) l.listed)
    ≡ list_any (is_cut l.task.assumptions.now) (filter (lists (words_on (device_of l.task.flash.now) (z_with l.state l.bank))) (drop l.word-index l.listed))
