-- The list of a certificate's waypoints is unique.
use Rattle.std.proofs.Common.{inl, inr, sym, ap, subst, ◌∙◌, ◌≡◌, List}
use Rattle.local_rules.specs.declared.local.Node.{Node}
use Rattle.edge_laws.specs.Expansions.{FilledOrMissing}
use Rattle.family_graph.specs.Laws.{DeepestChainsAreOne}
use Rattle.witness_search.specs.declared.waypoint.Waypoint.{Waypoint}
use Rattle.witness_search.specs.Chains.{interrupts_of, AreInterrupts}
use Rattle.witness_search.specs.Laws.{WaypointsAreOne}
use Rattle.local_rules.specs.Site.{Task}

interrupts_are_one : DeepestChainsAreOne → (task : Task) (nodes : List Node) (points points' : List Waypoint) → AreInterrupts task nodes points
    → AreInterrupts task nodes points' → points ≡ points'
interrupts_are_one deepest task nodes points points' (inl p) (inl q) =
    p.are ∙ (ap (interrupts_of task.flash nodes) (deepest.links task nodes p.need q.need p.links q.links p.deepest q.deepest) ∙ sym q.are)
interrupts_are_one deepest task nodes points points' (inl p) (inr q) = absurd (q.0 p.rooted)
interrupts_are_one deepest task nodes points points' (inr p) (inl q) = absurd (p.0 q.rooted)
interrupts_are_one deepest task nodes points points' (inr p) (inr q) = p.1 ∙ sym q.1

pub waypoints_are_one : FilledOrMissing → DeepestChainsAreOne → WaypointsAreOne
waypoints_are_one filled deepest task c points points' a b =
    interrupts_are_one deepest task a.nodes points points' a.interrupts
    (subst (λ (ns : List Node). AreInterrupts task ns points') (filled.one task c.nodes b.nodes a.nodes b.filled a.filled) b.interrupts)
