use Rattle.std.proofs.Common.{◌≤◌, subst, arith, Option}
use Rattle.std.specs.Prelude.{IfSome}
use Rattle.avr_model.specs.Devices.{depth_of}
use Rattle.avr_model.proofs.AllLaws.{devices_are_alike}
use Rattle.node_keys.specs.declared.keys.NodeKey.{NodeKey}
use Rattle.node_keys.specs.Keys.{offset_of}
use Rattle.edge_rules.specs.declared.seeded.NodeForm.{NodeForm}
use Rattle.cert_format.proofs.gathered.NodeListGathered.add.Goals as goal

pub append-requires : goal.append-requires
append-requires c =
    let small = subst (λ (o : Option (NodeKey × NodeForm)). IfSome o (λ n. offset_of n.0.sp ≤ depth_of c.args.device)) c.in-Some.is c.in_ok-node.ensures.small in
    omega (arith, small, devices_are_alike.most_depth c.args.device)
