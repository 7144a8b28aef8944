use Rattle.std.proofs.Common.{refl, ap, subst}
use Rattle.peripherals.proofs.hook.Hook.ask.Goals as goal

pub returns : goal.returns
returns g c = record {
  moment = c.args.moment;
  shown = c.args.menu;
  step_is = refl;
  taken_is = refl;
  shows = refl;
  says = subst (λ f. g.F.Fn.post f (c.args.moment, (c.args.menu, tt)) c.call.result) (ap (λ h. h.1) c.self.view_is) c.call.ensures;
}
