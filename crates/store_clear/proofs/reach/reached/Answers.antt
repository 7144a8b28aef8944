use Rattle.std.proofs.Common.{sym, subst, arith}
use Rattle.clear_laws.specs.Reach.{AreReachMarks}
use Rattle.store_clear.proofs.Lists.{written_back}
use Rattle.store_clear.proofs.Marks.{are_reached}
use Rattle.store_clear.proofs.reach.reached.Goals as goal

pub returns : goal.returns
returns c =
    let so = c.in_ok-spread.ensures in
    subst (AreReachMarks c.args.links.now c.args.offsets.now c.args.seeds.now c.args.slot)
    (sym (written_back c.in_ok-seen.seen.len c.spread.new.seen c.in_ok-seen.seen.items (omega (arith, so.same, c.in_ok-seen.ensures.len))))
    (are_reached c.args.links.now c.args.offsets.now c.args.seeds.now c.args.slot c.spread.new.seen so)
