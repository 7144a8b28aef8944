use Rattle.std.proofs.Common.{◌≡◌, take}
use Rattle.std.specs.List.{flat_map}
use Rattle.flash_image.specs.Naming.{least_name}
use Rattle.line_reading.specs.Appending.{with_text}
use Rattle.replies.specs.Places.{place_text, name_up_to}
use Rattle.replies.proofs.places.write_places.Given as goal

abbrev pub invariant-loop-site : goal.invariant-loop-site
invariant-loop-site l =
    (l.out ≡ with_text l.initial.out (flat_map (place_text l.firmware.flash.now l.firmware.names.now) (take l.site-index l.sites)))
    × (least_name l.firmware.names.now l.place.named ≡ name_up_to l.firmware.names.now l.place.pc)
