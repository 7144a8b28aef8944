use Rattle.std.proofs.Common.{◌+◌, ◌++◌, length, map}
use Rattle.std.specs.List.{flat_map}
use Rattle.text_base.specs.Lines.{line}
use Rattle.witness_replay.proofs.Parts.{more_text}
use Rattle.avr_model.specs.Devices.{device_of}
use Rattle.replies.specs.Places.{count_line, why_line, never_text}
use Rattle.reports.proofs.AllLaws.{line_and_text}
use Rattle.replies.proofs.places.why_text.Goals as goal

pub returns : goal.returns
returns c =
    let texts = flat_map line (map (why_line c.args.firmware.now.flash.now c.args.firmware.now.names.now) c.args.places.now) in
    let lines = more_text c.write_count.new.out c.write_whys.new.out c.write_nevers.new.out texts (flat_map (never_text (device_of c.args.firmware.now.flash.now)) c.args.nevers.now) c.in_ok-write_whys.ensures (rw c.device.ensures at c.in_ok-write_nevers.ensures) in
    line_and_text c.appending_laws.ensures c.new-out.result c.write_count.new.out c.write_nevers.new.out (count_line c.args.bound (length c.args.places.now + length c.args.nevers.now))
    (texts ++ flat_map (never_text (device_of c.args.firmware.now.flash.now)) c.args.nevers.now) c.finish.result.items c.new-out.ensures c.in_ok-write_count.ensures lines c.finish.ensures
