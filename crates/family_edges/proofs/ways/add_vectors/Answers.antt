use Rattle.std.proofs.Common.{◌≡◌, ◌∙◌, ap, ◌++◌, arith}
use Rattle.avr_model.specs.Devices.{device_of}
use Rattle.avr_model.specs.Vectors.{enable_count, last_vector}
use Rattle.family_edges.specs.Ways.{vectors_below}
use Rattle.family_edges.proofs.Vectors.{no_vectors, one_vector_more}
use Rattle.family_edges.proofs.ways.add_vectors.Goals as goal
use Rattle.family_edges.specs.Tasks.{task_of}

pub loop-n-init : goal.loop-n-init
loop-n-init c = no_vectors (task_of c.args.task.now) c.args.key.now c.args.ways.now.items

pub loop-n-preserved : goal.loop-n-preserved
loop-n-preserved c =
    one_vector_more (task_of c.args.task.now) c.args.key.now c.loop-n.n c.args.ways.now.items c.loop-n.ways.items c.add_vector.new.ways.items c.loop-n.invariant c.in_ok-add_vector.ensures

pub returns : goal.returns
returns c =
    let done : c.loop-n.n ≡ enable_count (device_of c.args.task.now.flash.now) = omega (arith, ap last_vector c.device.ensures) in
    c.loop-n.invariant ∙ ap (λ n. c.args.ways.now.items ++ vectors_below (task_of c.args.task.now) c.args.key.now n) done
