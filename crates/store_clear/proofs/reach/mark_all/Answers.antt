use Rattle.std.proofs.Common.{◌<◌, refl, sym, subst, take, get_or}
use Rattle.std.specs.List.{Contains}
use Rattle.std.proofs.lemmas.List.Elements.{Contains-get_or}
use Rattle.basics.specs.Items.{none_in}
use Rattle.clear_laws.specs.Reach.{offset_at}
use Rattle.store_clear.proofs.Marks.{spread_none, links_more}
use Rattle.store_clear.proofs.reach.mark_all.Goals as goal

pub loop-at-init : goal.loop-at-init
loop-at-init c =
    spread_none (λ j. Contains (take 0 c.args.links.now) j × (c.args.slot < offset_at c.args.offsets.now j)) c.args.seen.now c.args.stack.now.items
    (λ j h. none_in j h.0)

pub mark_next-requires-clause-inside : goal.mark_next-requires-clause-inside
mark_next-requires-clause-inside c =
    subst (λ n. get_or c.args.links.now c.loop-at.at 0 < n) (sym c.loop-at.invariant.same)
    (c.requires.inside (get_or c.args.links.now c.loop-at.at 0) (Contains-get_or c.args.links.now c.loop-at.at 0 c.loop-at-test.true))

pub loop-at-preserved : goal.loop-at-preserved
loop-at-preserved c =
    links_more c.args.links.now c.args.offsets.now c.args.slot c.loop-at.at (get_or c.args.links.now c.loop-at.at 0) 0 c.args.seen.now c.loop-at.seen c.mark_next.new.seen
    c.args.stack.now.items c.loop-at.stack.items c.mark_next.new.stack.items c.loop-at-test.true refl c.loop-at.invariant c.in_ok-mark_next.ensures
