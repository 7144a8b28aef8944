use Rattle.std.proofs.Common.{◌∙◌}
use Rattle.machine_tables.proofs.Sizes.{limit_is}
use Rattle.machine_tables.proofs.tests.images.are_placed.Goals as goal

pub is_placed-requires : goal.is_placed-requires
is_placed-requires c = c.in-Ok.ensures.image.size ∙ limit_is
