use Rattle.std.proofs.Common.{length, refl}
use Rattle.std.proofs.lemmas.Option.{slice_get_read}
use Rattle.cert_check.proofs.reading.ReadNodesSeeded.key.Goals as goal

pub returns : goal.returns
returns c =
    let own = c.args.self.now.nodes.items in
    (c.index.result.now.1, slice_get_read own (length own) c.args.at c.index.result.now refl c.requires c.index.ensures)
