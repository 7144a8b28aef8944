use Rattle.std.proofs.Common.{refl, ◌∙◌}
use Rattle.commands.specs.Commands.{Firmware, Second, name_of}
use Rattle.commands.specs.Views.{text_of, command_seen}
use Rattle.replies.specs.Reading.{firmware_cap, second_cap}
use Rattle.stack_core.proofs.Gathering.{first_stops, second_stops, read_as, two_read, third_stops}
use Rattle.stack_core.proofs.reading.gather.Goals as goal

pub returns-in-Err : goal.returns-in-Err
returns-in-Err g c =
    first_stops (command_seen c.args.command.now) (g.F.Files.holds c.args.files.now) (g.F.Files.faults c.args.files.now) (g.F.Files.faults c.fetch_bytes.new.files)
    (g.F.Files.blamed c.fetch_bytes.new.files) (text_of c.firmware.result) c.in-Err.fault c.firmware.ensures c.in-Err.ensures.fetched

pub returns-in-Err-fetch_bytes : goal.returns-in-Err-fetch_bytes
returns-in-Err-fetch_bytes g c =
    second_stops (command_seen c.args.command.now) (g.F.Files.holds c.args.files.now) (g.F.Files.holds c.fetch_bytes.new.files) c.in-Ok.bytes.items c.second_cap.result
    (g.F.Files.faults c.args.files.now) (g.F.Files.faults c.fetch_bytes.new.files) (g.F.Files.faults c.fetch_bytes-2.new.files) (g.F.Files.blamed c.fetch_bytes-2.new.files)
    (text_of c.second.result) c.in-Err-fetch_bytes.fault c.second.ensures c.second_cap.ensures c.fetch_bytes.ensures.holds
    (read_as (g.F.Files.holds c.args.files.now) (g.F.Files.holds c.args.files.now) firmware_cap firmware_cap (g.F.Files.faults c.args.files.now) (g.F.Files.faults c.fetch_bytes.new.files)
    (text_of c.firmware.result) (name_of (command_seen c.args.command.now) Firmware) c.in-Ok.bytes.items c.firmware.ensures refl (λ n. refl) c.in-Ok.ensures.fetched)
    c.in-Err-fetch_bytes.ensures.fetched

pub returns-in-Err-fetch_optional : goal.returns-in-Err-fetch_optional
returns-in-Err-fetch_optional g c =
    third_stops (command_seen c.args.command.now) (g.F.Files.holds c.args.files.now) (g.F.Files.holds c.fetch_bytes-2.new.files) c.in-Ok.bytes.items c.in-Ok-fetch_bytes.bytes.items
    (g.F.Files.faults c.args.files.now) (g.F.Files.faults c.fetch_bytes-2.new.files) (g.F.Files.faults c.fetch_optional.new.files) (g.F.Files.blamed c.fetch_optional.new.files)
    (text_of c.assume.result) c.in-Err-fetch_optional.fault c.assume.ensures
    (λ n. c.fetch_bytes-2.ensures.holds n ∙ c.fetch_bytes.ensures.holds n)
    (two_read (command_seen c.args.command.now) (g.F.Files.holds c.args.files.now) c.in-Ok.bytes.items c.in-Ok-fetch_bytes.bytes.items
    (g.F.Files.faults c.args.files.now) (g.F.Files.faults c.fetch_bytes.new.files) (g.F.Files.faults c.fetch_bytes-2.new.files)
    (read_as (g.F.Files.holds c.args.files.now) (g.F.Files.holds c.args.files.now) firmware_cap firmware_cap (g.F.Files.faults c.args.files.now) (g.F.Files.faults c.fetch_bytes.new.files)
    (text_of c.firmware.result) (name_of (command_seen c.args.command.now) Firmware) c.in-Ok.bytes.items c.firmware.ensures refl (λ n. refl) c.in-Ok.ensures.fetched)
    (read_as (g.F.Files.holds c.args.files.now) (g.F.Files.holds c.fetch_bytes.new.files) c.second_cap.result (second_cap (command_seen c.args.command.now)) (g.F.Files.faults c.fetch_bytes.new.files) (g.F.Files.faults c.fetch_bytes-2.new.files)
    (text_of c.second.result) (name_of (command_seen c.args.command.now) Second) c.in-Ok-fetch_bytes.bytes.items c.second.ensures c.second_cap.ensures c.fetch_bytes.ensures.holds c.in-Ok-fetch_bytes.ensures.fetched))
    c.in-Err-fetch_optional.ensures.fetched
