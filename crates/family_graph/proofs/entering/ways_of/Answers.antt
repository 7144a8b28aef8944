use Rattle.std.proofs.lemmas.Option.{slice_get-get_or}
use Rattle.basics.specs.Items.{contained_at}
use Rattle.family_graph.proofs.entering.ways_of.Goals as goal

pub add_way-requires : goal.add_way-requires
add_way-requires c =
    c.requires _ (contained_at c.args.landings.now c.loop-landing.landing-index _ (slice_get-get_or c.args.landings.now c.loop-landing.landing-index _ c.loop-landing-test.true))
