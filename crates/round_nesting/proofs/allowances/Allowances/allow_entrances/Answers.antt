use Rattle.std.proofs.Common.{subst}
use Rattle.basics.specs.Items.{all_up_to, all_taken}
use Rattle.round_nesting.specs.Covers.{AllowsEntrance}
use Rattle.round_nesting.proofs.allowances.Allowances.allow_entrances.Goals as goal

pub loop-entrance-preserved : goal.loop-entrance-preserved
loop-entrance-preserved c =
    all_up_to (AllowsEntrance c.args.self.now.back c.args.self.now.map.entries) c.args.entrances.now c.loop-entrance.entrance-index c.entrance-item.result c.loop-entrance-test.true c.loop-entrance.invariant
    (subst (AllowsEntrance c.args.self.now.back c.args.self.now.map.entries) c.entrance-item.is (c.allow_entrance.ensures c.if-not-allow_entrance.false))

pub returns : goal.returns
returns c = λ _. all_taken (AllowsEntrance c.args.self.now.back c.args.self.now.map.entries) c.args.entrances.now c.loop-entrance.entrance-index c.loop-entrance-test.false c.loop-entrance.invariant
