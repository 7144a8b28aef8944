-- Views of the code's types.
use Rattle.std.specs.Prelude.{ℕ, List, Option, Some, None}
use Rattle.std.specs.Borrow.{Bor}
use Rattle.commands.specs.declared.line.CommandLine.{CommandLine as Words}
use Rattle.commands.specs.declared.command.Work.{Work as Owned}
use Rattle.commands.specs.declared.command.Work.TheVariants as owned
use Rattle.commands.specs.declared.command.Command.{Command as OwnedCommand}
use Rattle.commands.specs.declared.command.Command.TheVariants as command
use Rattle.commands.specs.Commands.{Work, Check, Analyse, Run, Report, Explain, Clear, Premises, Attain, Simulate, Command, On, Demo, About, LineSoFar}

abbrev pub text_of : Option (Bor (List ℕ)) → Option (List ℕ)
text_of None = None
text_of (Some text) = Some text.now

abbrev pub line_of : Words → LineSoFar
line_of l = record { first = text_of l.first; second = text_of l.second; assume = text_of l.assume; steps = text_of l.steps; device = text_of l.device; trials = text_of l.trials; json = l.json; why = l.why; waits = None }

abbrev pub work_seen : Owned → Work
work_seen (owned.Check certificate) = Check certificate.now
work_seen (owned.Analyse steps) = Analyse steps
work_seen (owned.Run schedule) = Run schedule.now
work_seen (owned.Report certificate json) = Report certificate.now json
work_seen (owned.Explain certificate) = Explain certificate.now
work_seen (owned.Clear certificate) = Clear certificate.now
work_seen (owned.Premises certificate why) = Premises certificate.now why
work_seen (owned.Attain certificate trials) = Attain certificate.now trials
work_seen (owned.Simulate peripherals steps) = Simulate peripherals.now steps

abbrev pub command_seen : OwnedCommand → Command
command_seen (command.On r) = On (record { device = r.device; firmware = r.firmware.now; assume = text_of r.assume; work = work_seen r.work })
command_seen (command.Demo size) = Demo size
command_seen (command.About topic) = About topic
