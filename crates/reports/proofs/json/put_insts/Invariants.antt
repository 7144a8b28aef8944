use Rattle.std.proofs.Common.{◌≡◌, ◌++◌, take}
use Rattle.reports.specs.Json.{others_text}
use Rattle.reports.proofs.json.put_insts.Given as goal

abbrev pub invariant-loop-inst : goal.invariant-loop-inst
invariant-loop-inst l = l.out.items ≡ l.initial.out.items ++ others_text l.names (take l.inst-index l.others)
