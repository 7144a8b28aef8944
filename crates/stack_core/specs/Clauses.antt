-- What clauses of calls say often.
use Rattle.std.specs.Prelude.{ℕ, ◌≢◌, List, Option, Result, IfOk, map}
use Rattle.std.specs.Borrow.{Bor}
use Rattle.commands.specs.Commands.{Command, command_of}
use Rattle.replies.specs.declared.status.Status.{Status}
use Rattle.replies.specs.declared.status.Status.TheVariants as exit
use Rattle.stack_core.specs.declared.reply.Reply.{Reply}

-- the command that the words of the command line are, if they are one
abbrev pub called : List (Bor (List ℕ)) → Option Command
called words = command_of (map (λ (w : Bor (List ℕ)). w.now) words)

-- if there is no error, status and text of the reply are due
abbrev pub Returns : {E : Type 0} → Result Reply E → (Status → List ℕ → Type 0) → Type 0
Returns result due = IfOk result (λ reply. due reply.status reply.text.items)

-- if no call failed and memory sufficed
abbrev pub IfNoneFailed : Status → Type 0 → Type 0
IfNoneFailed status then_so = status ≢ exit.ReadFault → status ≢ exit.WriteFault → status ≢ exit.OutOfMemory → then_so
