-- The one answer for a node.
use Rattle.std.proofs.Common.{◌≡◌, List, [], ◌∷◌, Some, Err}
use Rattle.local_rules.specs.declared.local.NodeFault.{NodeFault}
use Rattle.local_rules.specs.Raw.{Raw}
use Rattle.local_rules.specs.Local.{settled}
use Rattle.abs_step.specs.Adding.{first_fault, first_of}
use Rattle.abs_step.proofs.Gathered.{first_more}

fault_settled : (r : Raw) (fs : List NodeFault) (f : NodeFault) → first_fault fs ≡ Some f → settled r fs ≡ Err f
fault_settled r [] f e = cc
fault_settled r (g ∷ gs) f e = cc

pub first_settled : (r : Raw) (f : NodeFault) → first_fault r.faults ≡ Some f → settled r r.faults ≡ Err f
first_settled r f e = fault_settled r r.faults f e

settled_first : (r : Raw) (fs : List NodeFault) (f : NodeFault) → settled r fs ≡ Err f → first_fault fs ≡ Some f
settled_first r [] f e = cc
settled_first r (g ∷ gs) f e = cc

pub stopped_too : (r : Raw) (f g : NodeFault) → settled r r.faults ≡ Err g
    → settled (record r { faults = f ∷ r.faults }) (f ∷ r.faults) ≡ Err (first_of (Some f) g)
stopped_too r f g e =
    fault_settled (record r { faults = f ∷ r.faults }) (f ∷ r.faults) (first_of (Some f) g)
    (first_more (f ∷ []) r.faults g (settled_first r r.faults g e))
