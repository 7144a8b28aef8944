use Rattle.std.proofs.Common.{◌≡◌, take}
use Rattle.line_reading.specs.Appending.{with_text}
use Rattle.cert_words.specs.Text.{inst_words}
use Rattle.cert_writing.proofs.Written.{text}
use Rattle.cert_writing.proofs.lines.write_insts.Given as goal

abbrev pub invariant-loop-inst : goal.invariant-loop-inst
invariant-loop-inst l = l.out ≡ with_text l.initial.out (text (inst_words l.fn.device) (take l.inst-index l.insts))
