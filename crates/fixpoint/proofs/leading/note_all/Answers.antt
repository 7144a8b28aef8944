use Rattle.std.proofs.Common.{length}
use Rattle.fixpoint.proofs.Places.{landing_within}
use Rattle.fixpoint.proofs.leading.note_all.Goals as goal

pub slice_copy_out-led : goal.slice_copy_out-led
slice_copy_out-led c =
    landing_within c.args.landings.now (length c.args.leads.now) (length c.loop-landing.leads) c.requires c.loop-landing.auto.leads c.loop-landing.landing-index
    c.loop-landing-test.true _

pub bounds-leads-to : goal.bounds-leads-to
bounds-leads-to c =
    landing_within c.args.landings.now (length c.args.leads.now) (length c.loop-landing.leads) c.requires c.loop-landing.auto.leads c.loop-landing.landing-index
    c.loop-landing-test.true _
