use Rattle.std.proofs.Common.{sym, ◌∙◌}
use Rattle.peripherals.proofs.Quiet.{none_picked}
use Rattle.peripherals.proofs.picking.pick.Goals as goal

pub returns-then-holds-clause-picked : goal.returns-then-holds-clause-picked
returns-then-holds-clause-picked c =
    none_picked c.args.peripherals.now c.args.menu.now c.args.moment.now.taken.now c.args.moment.now.step c.args.quiet.now.masks c.args.quiet.now.until c.requires.quiet (sym c.if-holds.true ∙ c.holds.ensures)
