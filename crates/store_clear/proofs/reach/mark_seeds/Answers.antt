use Rattle.std.proofs.Common.{◌<◌, refl, sym, subst, take, get_or}
use Rattle.std.specs.List.{Contains}
use Rattle.std.proofs.lemmas.List.Elements.{Contains-get_or}
use Rattle.basics.specs.Items.{none_in}
use Rattle.store_clear.proofs.Marks.{spread_none, no_seed, seeds_more}
use Rattle.store_clear.proofs.reach.mark_seeds.Goals as goal

pub loop-at-init : goal.loop-at-init
loop-at-init c = spread_none (λ j. Contains (take 0 c.args.seeds.now) (record { node = j; slot = c.args.slot })) c.args.seen.now c.args.stack.now.items (λ j h. none_in _ h)

pub mark_seed-requires : goal.mark_seed-requires
mark_seed-requires c =
    subst (λ n. (get_or c.args.seeds.now c.loop-at.at no_seed).node < n) (sym c.loop-at.invariant.same)
    (c.requires (get_or c.args.seeds.now c.loop-at.at no_seed) (Contains-get_or c.args.seeds.now c.loop-at.at no_seed c.loop-at-test.true))

pub loop-at-preserved : goal.loop-at-preserved
loop-at-preserved c =
    seeds_more c.args.seeds.now c.args.slot c.loop-at.at (get_or c.args.seeds.now c.loop-at.at no_seed) no_seed c.args.seen.now c.loop-at.seen c.mark_seed.new.seen
    c.args.stack.now.items c.loop-at.stack.items c.mark_seed.new.stack.items c.loop-at-test.true refl c.loop-at.invariant c.in_ok-mark_seed.ensures
