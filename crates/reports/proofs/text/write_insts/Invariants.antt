use Rattle.std.proofs.Common.{◌≡◌, take}
use Rattle.cert_writing.proofs.Written.{text}
use Rattle.line_reading.specs.Appending.{with_text}
use Rattle.reports.specs.Report.{inst_line}
use Rattle.reports.proofs.text.write_insts.Given as goal

abbrev pub invariant-loop-inst : goal.invariant-loop-inst
invariant-loop-inst l = l.out ≡ with_text l.initial.out (text (inst_line l.device l.names) (take l.inst-index l.insts))
