use Rattle.std.proofs.Common.{List, ℕ, map, ap, ◌∙◌}
use Rattle.std.specs.Borrow.{Bor}
use Rattle.text_base.specs.Outside.{grown}
use Rattle.commands.specs.Commands.{command_of}
use Rattle.stack_core.proofs.Answering.{written_of, zero_apart}
use Rattle.stack_core.proofs.call.stackbound.Goals as goal

pub returns-in-Ok-put_all-clause-headline : goal.returns-in-Ok-put_all-clause-headline
returns-in-Ok-put_all-clause-headline g c =
    λ judge firmware certificate list judging zero.
    c.written_answers_hold.ensures.headline (command_of (map (λ (w : Bor (List ℕ)). w.now) c.args.words.now)) (g.F.Files.holds c.args.files.now) c.in-Ok.reply.status
    (g.K.Sink.written c.args.out.now) (g.K.Sink.written c.put_all.new.out)
    (written_of _ _ _ _ _ c.in-Ok.reply.status c.in-Ok.reply.text.items _ _ c.in-Ok.ensures (zero_apart c.in-Ok.reply.status zero) (c.in-Ok-put_all.ensures.whole ∙ ap (grown (g.K.Sink.written c.args.out.now)) c.deref.ensures.value)) judge firmware certificate list judging zero

pub returns-in-Ok-put_all-clause-exact : goal.returns-in-Ok-put_all-clause-exact
returns-in-Ok-put_all-clause-exact g c =
    λ three four twelve.
    c.written_answers_hold.ensures.exact (command_of (map (λ (w : Bor (List ℕ)). w.now) c.args.words.now)) (g.F.Files.holds c.args.files.now) c.in-Ok.reply.status
    (g.K.Sink.written c.args.out.now) (g.K.Sink.written c.put_all.new.out)
    (written_of _ _ _ _ _ c.in-Ok.reply.status c.in-Ok.reply.text.items _ _ c.in-Ok.ensures three (c.in-Ok-put_all.ensures.whole ∙ ap (grown (g.K.Sink.written c.args.out.now)) c.deref.ensures.value))

pub returns-in-Ok-put_all-clause-least : goal.returns-in-Ok-put_all-clause-least
returns-in-Ok-put_all-clause-least g c =
    λ device steps firmware list analysing zero.
    c.written_answers_hold.ensures.least (command_of (map (λ (w : Bor (List ℕ)). w.now) c.args.words.now)) (g.F.Files.holds c.args.files.now) c.in-Ok.reply.status
    (g.K.Sink.written c.args.out.now) (g.K.Sink.written c.put_all.new.out)
    (written_of _ _ _ _ _ c.in-Ok.reply.status c.in-Ok.reply.text.items _ _ c.in-Ok.ensures (zero_apart c.in-Ok.reply.status zero) (c.in-Ok-put_all.ensures.whole ∙ ap (grown (g.K.Sink.written c.args.out.now)) c.deref.ensures.value)) device steps firmware list analysing zero

pub returns-in-Ok-put_all-clause-ends : goal.returns-in-Ok-put_all-clause-ends
returns-in-Ok-put_all-clause-ends g c =
    λ three four twelve.
    c.written_answers_hold.ensures.ends (command_of (map (λ (w : Bor (List ℕ)). w.now) c.args.words.now)) (g.F.Files.holds c.args.files.now) c.in-Ok.reply.status
    (g.K.Sink.written c.args.out.now) (g.K.Sink.written c.put_all.new.out)
    (written_of _ _ _ _ _ c.in-Ok.reply.status c.in-Ok.reply.text.items _ _ c.in-Ok.ensures three (c.in-Ok-put_all.ensures.whole ∙ ap (grown (g.K.Sink.written c.args.out.now)) c.deref.ensures.value))

pub returns-in-Ok-put_all-clause-simulated : goal.returns-in-Ok-put_all-clause-simulated
returns-in-Ok-put_all-clause-simulated g c =
    λ device steps firmware peripherals list simulating zero.
    c.written_answers_hold.ensures.simulated (command_of (map (λ (w : Bor (List ℕ)). w.now) c.args.words.now)) (g.F.Files.holds c.args.files.now) c.in-Ok.reply.status
    (g.K.Sink.written c.args.out.now) (g.K.Sink.written c.put_all.new.out)
    (written_of _ _ _ _ _ c.in-Ok.reply.status c.in-Ok.reply.text.items _ _ c.in-Ok.ensures (zero_apart c.in-Ok.reply.status zero) (c.in-Ok-put_all.ensures.whole ∙ ap (grown (g.K.Sink.written c.args.out.now)) c.deref.ensures.value)) device steps firmware peripherals list simulating zero

pub returns-in-Ok-put_all-clause-peripherals : goal.returns-in-Ok-put_all-clause-peripherals
returns-in-Ok-put_all-clause-peripherals g c =
    λ three four twelve.
    c.written_answers_hold.ensures.peripherals (command_of (map (λ (w : Bor (List ℕ)). w.now) c.args.words.now)) (g.F.Files.holds c.args.files.now) c.in-Ok.reply.status
    (g.K.Sink.written c.args.out.now) (g.K.Sink.written c.put_all.new.out)
    (written_of _ _ _ _ _ c.in-Ok.reply.status c.in-Ok.reply.text.items _ _ c.in-Ok.ensures three (c.in-Ok-put_all.ensures.whole ∙ ap (grown (g.K.Sink.written c.args.out.now)) c.deref.ensures.value))
