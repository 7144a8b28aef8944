use Rattle.avr_machine.proofs.Marking.{AreMarked}
use Rattle.avr_machine.proofs.marked_device.MarkedDevice.new.Given as goal

abbrev pub invariant-loop-place : goal.invariant-loop-place
invariant-loop-place l = AreMarked l.place-items l.place-index l.marks
