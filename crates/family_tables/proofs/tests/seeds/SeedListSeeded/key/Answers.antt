use Rattle.std.proofs.Common.{length, refl}
use Rattle.std.proofs.lemmas.Option.{slice_get_read}
use Rattle.family_tables.proofs.tests.seeds.SeedListSeeded.key.Goals as goal

pub returns : goal.returns
returns c = (
  c.index.result.now.1,
  slice_get_read c.args.self.now.items.items (length c.args.self.now.items.items) c.args.at c.index.result.now refl c.requires c.index.ensures,
)
