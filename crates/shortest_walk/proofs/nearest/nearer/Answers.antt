use Rattle.std.proofs.Common.{◌∙◌, ◌++◌, ◌∷◌, [], sym, subst}
use Rattle.shortest_walk.specs.Nearest.{IsNearest}
use Rattle.shortest_walk.proofs.Best.{best_first, best_least, best_moves}
use Rattle.shortest_walk.proofs.nearest.nearer.Goals as goal

pub returns-in_default-best : goal.returns-in_default-best
returns-in_default-best c = λ nodes is.
    best_first c.args.distances.now nodes c.args.node c.in-Some.distance (sym c.distance_of.ensures ∙ c.in-Some.is) c.args.best c.in_default-best.is is

pub returns-then-old-distance-2 : goal.returns-then-old-distance-2
returns-then-old-distance-2 c = λ nodes is.
    subst (λ n. IsNearest c.args.distances.now (nodes ++ c.args.node ∷ []) n c.in-Some.distance) (sym c.min.ensures)
    (best_least c.args.distances.now nodes c.args.node c.in-Some.distance (sym c.distance_of.ensures ∙ c.in-Some.is) c.args.best c.in-Some-best.old c.in-Some-best.is is c.if-old-distance-2.true)

pub returns-else-old-distance-2 : goal.returns-else-old-distance-2
returns-else-old-distance-2 c = λ nodes is.
    best_moves c.args.distances.now nodes c.args.node c.in-Some.distance (sym c.distance_of.ensures ∙ c.in-Some.is) c.args.best c.in-Some-best.old c.in-Some-best.is is c.if-old-distance.false c.if-old-distance-2.false
