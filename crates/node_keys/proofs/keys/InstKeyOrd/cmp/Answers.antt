use Rattle.std.proofs.Common.{refl}
use Rattle.std.specs.Ordering.{nat_cmp, bool_cmp}
use Rattle.node_keys.proofs.Chains.{inst_chained}
use Rattle.node_keys.proofs.keys.InstKeyOrd.cmp.Goals as goal

pub returns : goal.returns
returns c =
    let a = c.args.self.now in
    let b = c.args.other.now in
    let chained = inst_chained a b c.cmp-found.result (nat_cmp a.entry b.entry) (nat_cmp a.masks b.masks) (bool_cmp a.i b.i) c.cmp-found.ensures refl refl refl in
    cc
