use Rattle.reports.proofs.Texts.{more_insts}
use Rattle.reports.proofs.json.put_insts.Goals as goal

pub loop-inst-preserved : goal.loop-inst-preserved
loop-inst-preserved c =
    more_insts c.args.names.now c.in-Some.others.now c.loop-inst.inst-index c.inst-item.result c.put_inst.new.out.items c.loop-inst.out.items c.put_inst-in-loop-inst.new.out.items c.loop-inst-test.true
    c.inst-item.is c.loop-inst.invariant c.in_ok-put_inst-2.ensures
