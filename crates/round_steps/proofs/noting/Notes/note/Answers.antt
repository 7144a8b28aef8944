use Rattle.round_steps.proofs.Besides.{noted_one}
use Rattle.round_steps.proofs.noting.Notes.note.Goals as goal

pub returns-clause-noted : goal.returns-clause-noted
returns-clause-noted c =
    noted_one c.args.task.now.assumptions.now c.args.self.now c.args.x.now c.note_ways.new.callers c.note_leaver.new.leavers c.note_node.new.self c.note_recur.new.nesting c.note_ways.new.nesting c.deref.result.now
    c.deref.ensures.value c.in_ok-note_ways.ensures.callers c.in_ok-note_leaver.ensures c.in_ok-note_node.ensures.node c.in_ok-note_recur.ensures.entrances c.in_ok-note_ways.ensures.entrances
