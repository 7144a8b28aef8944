use Rattle.std.proofs.Common.{take}
use Rattle.certificate.specs.Valid.{family_of}
use Rattle.store_clear.specs.Causing.{ArePlacesOf}
use Rattle.store_clear.proofs.causes.places_by.Given as goal
use Rattle.family_edges.specs.Tasks.{task_of}

abbrev pub invariant-loop-site : goal.invariant-loop-site
invariant-loop-site l = ArePlacesOf (task_of l.task) (family_of l.certificate l.told.nodes.now) (take l.site-index l.sites) l.list
