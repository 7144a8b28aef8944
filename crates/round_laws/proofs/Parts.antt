-- Nodes without faults, by their local parts.
use Rattle.std.proofs.Common.{◌≡◌, refl, sym, ap, ◌∙◌, List, [], ◌∷◌, Ok, Err}
use Rattle.edge_laws.proofs.AllLaws.{part_of}
use Rattle.abs_state.specs.declared.state.AbsState.{AbsState}
use Rattle.node_keys.specs.declared.keys.NodeKey.{NodeKey}
use Rattle.local_rules.specs.declared.local.Local.{Local}
use Rattle.local_rules.specs.declared.local.NodeFault.{NodeFault}
use Rattle.local_rules.specs.Local.{raw, local, settled}
use Rattle.local_rules.specs.Site.{Task}

pub ok_of : (task : Task) (k : NodeKey) (s : AbsState) → (raw task k s).faults ≡ [] → local task k s ≡ Ok (part_of (raw task k s))
unfolding local
ok_of task k s e = ap (settled (raw task k s)) e

-- if the local part exists, there is no fault, and the part is this one
pub part_is : (task : Task) (k : NodeKey) (s : AbsState) (l : Local) → local task k s ≡ Ok l → ((raw task k s).faults ≡ []) × (part_of (raw task k s) ≡ l)
unfolding local
part_is task k s l e = by (raw task k s).faults refl e
  where
    by : (fs : List NodeFault) → (raw task k s).faults ≡ fs → settled (raw task k s) fs ≡ Ok l → ((raw task k s).faults ≡ []) × (part_of (raw task k s) ≡ l)
    by [] is e = let same : part_of (raw task k s) ≡ l = cc in (is, same)
    by (f ∷ fs) is e = absurd (cc)

pub never_both : (task : Task) (k : NodeKey) (s : AbsState) (x : NodeFault) → (raw task k s).faults ≡ [] → local task k s ≡ Err x → ⊥
never_both task k s x clean e = absurd (let never = sym (ok_of task k s clean) ∙ e in cc)
