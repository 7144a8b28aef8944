use Rattle.std.proofs.Common.{◌+◌, ◌++◌, length}
use Rattle.std.specs.List.{flat_map}
use Rattle.witness_replay.proofs.Parts.{more_text}
use Rattle.avr_model.specs.Devices.{device_of}
use Rattle.replies.specs.Places.{count_line, place_text, never_text}
use Rattle.reports.proofs.AllLaws.{line_and_text}
use Rattle.replies.proofs.places.premises_text.Goals as goal

pub returns : goal.returns
returns c =
    let lines = more_text c.write_count.new.out c.write_places.new.out c.write_nevers.new.out (flat_map (place_text c.args.firmware.now.flash.now c.args.firmware.now.names.now) c.args.sites.now) (flat_map (never_text (device_of c.args.firmware.now.flash.now)) c.args.nevers.now)
    c.in_ok-write_places.ensures (rw c.device.ensures at c.in_ok-write_nevers.ensures) in
    line_and_text c.appending_laws.ensures c.new-out.result c.write_count.new.out c.write_nevers.new.out (count_line c.args.bound (length c.args.sites.now + length c.args.nevers.now))
    (flat_map (place_text c.args.firmware.now.flash.now c.args.firmware.now.names.now) c.args.sites.now ++ flat_map (never_text (device_of c.args.firmware.now.flash.now)) c.args.nevers.now) c.finish.result.items c.new-out.ensures c.in_ok-write_count.ensures lines c.finish.ensures
