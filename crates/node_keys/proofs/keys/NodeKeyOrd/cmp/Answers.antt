use Rattle.std.proofs.Common.{refl}
use Rattle.std.specs.Option.{option_cmp}
use Rattle.std.specs.Ordering.{nat_cmp, bool_cmp}
use Rattle.node_keys.specs.contracts.keys.SpFormOrd.TheImpl as forms
use Rattle.node_keys.proofs.Chains.{node_chained}
use Rattle.node_keys.proofs.keys.NodeKeyOrd.cmp.Goals as goal

pub returns : goal.returns
returns c =
    let a = c.args.self.now in
    let b = c.args.other.now in
    let chained = node_chained a b c.cmp-found.result (nat_cmp a.pc b.pc) (nat_cmp a.masks b.masks) (bool_cmp a.i b.i) (bool_cmp a.delay b.delay)
    (forms.ghosts.cmp a.sp b.sp) (option_cmp nat_cmp a.pick b.pick) c.cmp-found.ensures refl refl refl refl refl refl in
    cc
