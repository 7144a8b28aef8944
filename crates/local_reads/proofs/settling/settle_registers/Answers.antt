use Rattle.std.proofs.Common.{◌∙◌, sym, ◌+◌, arith}
use Rattle.std.proofs.lemmas.List.{length-set}
use Rattle.local_reads.proofs.Settled.{from_start, from_end, one_more, none_left}
use Rattle.local_reads.proofs.settling.settle_registers.Goals as goal

pub loop-r-init : goal.loop-r-init
loop-r-init c = (c.told-registers, from_start c.args.offset c.args.registers.now)

pub returns-in-None : goal.returns-in-None
returns-in-None c =
    sym (none_left c.args.offset c.loop-r.r c.loop-r.registers c.index-registers-r.result (omega (arith, c.loop-r.invariant.0))
    (sym c.settled_value.ensures ∙ c.in-None.is))
    ∙ c.loop-r.invariant.1

pub loop-r-preserved : goal.loop-r-preserved
loop-r-preserved c = (
  length-set c.loop-r.registers c.loop-r.r c.in-Some.value ∙ c.loop-r.invariant.0,
  one_more c.args.offset c.loop-r.r (c.loop-r.r + 1) c.loop-r.registers c.index-registers-r.result c.in-Some.value (omega arith) (omega (arith, c.loop-r.invariant.0))
      (sym c.settled_value.ensures ∙ c.in-Some.is)
      ∙ c.loop-r.invariant.1,
)

pub returns : goal.returns
returns c = sym (from_end c.args.offset c.loop-r.r c.loop-r.registers (omega (arith, c.loop-r.invariant.0))) ∙ c.loop-r.invariant.1
