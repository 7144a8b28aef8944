use Rattle.cert_writing.proofs.Written.{lines_next}
use Rattle.reports.specs.Report.{inst_line}
use Rattle.reports.proofs.text.write_insts.Goals as goal

pub loop-inst-preserved : goal.loop-inst-preserved
loop-inst-preserved c =
    lines_next (inst_line c.args.device c.args.names.now) c.appending_laws.ensures c.args.out.now c.loop-inst.out c.write_inst.new.out c.args.insts.now c.loop-inst.inst-index c.inst-item.result c.loop-inst-test.true c.inst-item.is c.loop-inst.invariant c.in_ok-write_inst.ensures
