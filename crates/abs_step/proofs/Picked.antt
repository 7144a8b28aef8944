-- The successors with one picked byte after the other.
use Rattle.std.proofs.Common.{refl, sym, ap, ◌∙◌, subst, ℕ, ◌+◌, ◌<◌, List, [], ◌∷◌, ◌++◌, length, map, take, slice_index_or, Option, None}
use Rattle.std.proofs.lemmas.List.{append-nil}
use Rattle.local_rules.specs.declared.local.NodeFault.{NodeFault}
use Rattle.local_rules.specs.Raw.{Raw, all_of}
use Rattle.abs_step.specs.Adding.{Moving, with_nodes, first_fault, with_another, AreNodesAdded, AreMovesGathered}
use Rattle.abs_step.proofs.Added.{map_more, with_all, with_none}
use Rattle.abs_step.proofs.Gathered.{all_more, gathered_added}
use Rattle.abs_step.specs.declared.flow.Outgoing.{Outgoing}
use Rattle.abs_step.specs.Leading.{IsLed}

pub none_gathered : (old : Moving) → AreMovesGathered old old None (all_of [])
none_gathered old = record { fault = refl; nodes = λ none. with_none old }

-- one more part without a fault
pub gathered_led : (old mid new : Moving) (fault : Option NodeFault) (r q : Raw) (o : Outgoing) → AreMovesGathered old mid fault r → IsLed mid new o q
    → AreMovesGathered old new fault (with_another r q)
gathered_led old mid new fault r q o g h = record {
  fault = ap (λ fs. first_fault (r.faults ++ fs)) h.faults ∙ ap first_fault (append-nil r.faults) ∙ g.fault;
  nodes = λ none. h.nodes ∙ ap (λ (m : Moving). with_nodes m q.moves) (g.nodes none) ∙ sym (with_all old r.moves q.moves);
}

pub next_gathered : (f : ℕ → Raw) (xs : List ℕ) (at d : ℕ) (old new : Moving) (fault : Option NodeFault) → at < length xs
    → AreMovesGathered old new fault (with_another (all_of (map f (take at xs))) (f (slice_index_or xs at d))) → AreMovesGathered old new fault (all_of (map f (take (at + 1) xs)))
next_gathered f xs at d old new fault lt h =
    subst (AreMovesGathered old new fault) (all_more (map f (take at xs)) (f (slice_index_or xs at d)) ∙ ap all_of (sym (map_more f xs at (at + 1) d lt refl))) h

pub all_added : (old new : Moving) (rs : List Raw) → AreMovesGathered old new None (all_of rs) → AreNodesAdded old new (all_of rs)
all_added old new [] h = record { moves = refl; nodes = h.nodes refl }
all_added old new (r ∷ rs) h = gathered_added old new r rs h
