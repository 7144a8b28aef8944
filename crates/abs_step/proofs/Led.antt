-- Calls and returns.
use Rattle.std.proofs.Common.{◌≡◌, ◌∙◌, sym, ap, List, [], Option}
use Rattle.local_rules.specs.declared.local.CallSite.{CallSite}
use Rattle.local_rules.specs.declared.local.Exit.{Exit}
use Rattle.local_rules.specs.Raw.{Raw}
use Rattle.abs_step.specs.Adding.{Moving, with_nodes}
use Rattle.abs_step.specs.Leading.{IsLed}
use Rattle.abs_step.proofs.Added.{with_none}

pub led : (nodes : Moving) (calls : List CallSite) (exit : Option Exit) (r : Raw)
    → r ≡ record { moves = []; calls = calls; exit = exit; faults = [] } → IsLed nodes nodes (record { calls = calls; exit = exit }) r
led nodes calls exit r e = record {
  faults = ap (λ (r : Raw). r.faults) e;
  nodes = with_none nodes ∙ sym (ap (λ (r : Raw). with_nodes nodes r.moves) e);
  calls = sym (ap (λ (r : Raw). r.calls) e);
  exit = sym (ap (λ (r : Raw). r.exit) e);
}
