use Rattle.std.proofs.Common.{◌∙◌, ap}
use Rattle.avr_model.specs.declared.device.Device.{Device}
use Rattle.avr_model.specs.Vectors.{is_open_vector}
use Rattle.family_edges.proofs.Vectors.{none_at}
use Rattle.family_edges.proofs.ways.add_vector.Goals as goal
use Rattle.family_edges.specs.Tasks.{task_of}

pub returns-then-not-is_open_vector : goal.returns-then-not-is_open_vector
returns-then-not-is_open_vector c =
    none_at (task_of c.args.task.now) c.args.key.now c.args.v c.is_on.result c.is_open_vector.result c.args.ways.now.items c.is_on.ensures c.if-not-is_on.true
    (c.is_open_vector.ensures ∙ ap (λ (device : Device). is_open_vector device c.args.v) c.device-device.ensures) c.if-not-is_open_vector.true
