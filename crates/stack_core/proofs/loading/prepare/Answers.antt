use Rattle.std.proofs.Common.{subst}
use Rattle.stack_core.specs.Reading.{bytes_of}
use Rattle.stack_core.specs.Answering.{LoadsOn}
use Rattle.stack_core.proofs.Replies.{prepared_result}
use Rattle.stack_core.proofs.loading.prepare.Goals as goal

pub returns-in-Loaded : goal.returns-in-Loaded
returns-in-Loaded c =
    prepared_result c.args.device c.args.firmware.now (bytes_of c.args.list.now) c.in-Loaded.loaded c.listed.result
    (subst (LoadsOn c.args.device c.args.firmware.now) c.in-Loaded.is c.in_ok-loaded.ensures) c.listed.ensures
