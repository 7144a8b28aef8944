use Rattle.std.proofs.Common.{◌≡◌, drop}
use Rattle.avr_model.specs.Step.{all_inside}
use Rattle.avr_machine.proofs.processor.Processor.all_inside.Given as goal

abbrev pub invariant-loop-write : goal.invariant-loop-write
invariant-loop-write l = all_inside l.self.device l.writes ≡ all_inside l.self.device (drop l.write-index l.writes)
