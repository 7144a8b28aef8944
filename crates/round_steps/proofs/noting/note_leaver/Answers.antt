use Rattle.std.proofs.Common.{Option, subst, sym}
use Rattle.local_rules.specs.declared.local.Exit.{Exit}
use Rattle.round_steps.specs.Notings.{HasLeaver}
use Rattle.round_steps.proofs.Besides.{leaver_none, leaver_some}
use Rattle.round_steps.proofs.noting.note_leaver.Goals as goal

pub returns-in_default : goal.returns-in_default
returns-in_default c =
    subst (λ (x : Option Exit). HasLeaver c.args.leavers.now c.args.key.now x c.args.leavers.now) (sym c.in_default.is) (leaver_none c.args.leavers.now c.args.key.now)

pub returns : goal.returns
returns c =
    subst (λ (x : Option Exit). HasLeaver c.args.leavers.now c.args.key.now x c.add.new.self) (sym c.in-Some.is)
    (leaver_some c.args.leavers.now c.add.new.self c.args.key.now c.in-Some.exit c.in_ok-add.ensures)
