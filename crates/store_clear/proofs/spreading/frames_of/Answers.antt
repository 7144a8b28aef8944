use Rattle.std.proofs.Common.{◌∙◌, ap, map}
use Rattle.store_clear.specs.Conditions.{links_by}
use Rattle.store_clear.proofs.Spread.{spreads}
use Rattle.store_clear.proofs.spreading.frames_of.Goals as goal
use Rattle.family_edges.specs.Tasks.{task_of}

pub returns : goal.returns
returns c =
    spreads (task_of c.args.task.now) c.args.family.now.nodes c.args.family.now.landings c.in_ok-links.links c.in_ok-offsets.offsets c.in_ok-seeds.seeds
    c.requires (c.in_ok-links.ensures ∙ ap (map links_by) c.as_slice.ensures) c.in_ok-offsets.ensures c.in_ok-seeds.ensures
