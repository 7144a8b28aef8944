use Rattle.avr_model.specs.Devices.{device_of}
use Rattle.family_tables.proofs.Growing.{seeds_under}
use Rattle.family_tables.proofs.tests.edges.is_family.Goals as goal

pub expand-requires-clause-seeds : goal.expand-requires-clause-seeds
expand-requires-clause-seeds c = seeds_under (device_of c.args.flash.now) c.empty-none.result c.args.nodes.now.items.items c.empty-none.ensures c.requires.seeds
