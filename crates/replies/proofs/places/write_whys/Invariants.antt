use Rattle.std.proofs.Common.{◌≡◌, take}
use Rattle.cert_writing.proofs.Written.{text}
use Rattle.flash_image.specs.Naming.{least_name}
use Rattle.line_reading.specs.Appending.{with_text}
use Rattle.replies.specs.Places.{why_line, name_up_to}
use Rattle.replies.proofs.places.write_whys.Given as goal

abbrev pub invariant-loop-place : goal.invariant-loop-place
invariant-loop-place l =
    (l.out ≡ with_text l.initial.out (text (why_line l.firmware.flash.now l.firmware.names.now) (take l.place-index l.places)))
    × (least_name l.firmware.names.now l.reached.named ≡ name_up_to l.firmware.names.now l.reached.pc)
