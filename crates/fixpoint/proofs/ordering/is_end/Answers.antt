use Rattle.std.proofs.Common.{List, Contains, sym, subst}
use Rattle.node_keys.specs.declared.keys.NodeKey.{NodeKey}
use Rattle.fixpoint.proofs.ordering.is_end.Goals as goal

pub confirm-told-requires-clause-all : goal.confirm-told-requires-clause-all
confirm-told-requires-clause-all c = λ k s has. subst (λ (l : List NodeKey). Contains l k) (sym c.deref.ensures.value) (c.in_ok-keys.ensures k s has)
