use Rattle.std.proofs.Common.{◌≡◌, fold, take}
use Rattle.fixpoint.specs.Leads.{noted}
use Rattle.fixpoint.proofs.leading.note_all.Given as goal

abbrev pub invariant-loop-landing : goal.invariant-loop-landing
invariant-loop-landing l = l.leads ≡ fold (noted l.at) l.fn.leads (take l.landing-index l.landings)
