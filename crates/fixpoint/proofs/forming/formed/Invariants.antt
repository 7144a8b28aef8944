use Rattle.std.proofs.Common.{◌≡◌, length}
use Rattle.fixpoint.specs.Leads.{forms_from}
use Rattle.fixpoint.proofs.forming.formed.Given as goal

abbrev pub invariant-loop-node : goal.invariant-loop-node
invariant-loop-node l = (l.forms.items ≡ forms_from 0 l.leads l.yielded) × (length l.forms.items ≡ length l.yielded)
