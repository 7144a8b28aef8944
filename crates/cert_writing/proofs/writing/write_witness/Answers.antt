use Rattle.std.proofs.Common.{ap, ◌∙◌, Option}
use Rattle.std.specs.List.{flat_map}
use Rattle.text_base.specs.Lines.{line}
use Rattle.line_reading.specs.Appending.{with_text}
use Rattle.witness_replay.specs.Spelling.{Plan}
use Rattle.cert_words.specs.Text.{witness_lines}
use Rattle.cert_writing.proofs.Written.{attained_written}
use Rattle.cert_writing.proofs.writing.write_witness.Goals as goal

pub returns-in_ok-write-in-Some : goal.returns-in_ok-write-in-Some
returns-in_ok-write-in-Some c =
    attained_written c.args.out.now c.write_pair.new.out c.write.new.out c.in-Some.schedule.now c.in_ok-write_pair-in-Some.ensures c.in_ok-write-in-Some.ensures.written
    ∙ ap (λ (w : Option Plan). with_text c.args.out.now (flat_map line (witness_lines w))) c.in-Some.ensures
