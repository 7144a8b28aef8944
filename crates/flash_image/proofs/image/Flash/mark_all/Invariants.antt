use Rattle.std.proofs.Common.{◌≡◌, ◌++◌}
use Rattle.avr_model.specs.Devices.{device_of}
use Rattle.avr_model.specs.Marks.{joined_below, usual_marks, device_marks, marks_at}
use Rattle.flash_image.specs.Marked.{marked}
use Rattle.flash_image.proofs.image.Flash.mark_all.Given as goal

-- those of the words so far are marked
abbrev pub invariant-loop-a : goal.invariant-loop-a
invariant-loop-a l = l.table ≡ marked l.fn.table ((usual_marks ++ device_marks (device_of l.self)) ++ joined_below l.a (marks_at l.self))
