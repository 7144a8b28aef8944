use Rattle.std.proofs.Common.{sym, ◌∙◌}
use Rattle.local_rules.specs.Permitted.{may_be}
use Rattle.store_clear.proofs.Scans.{least_none, least_more, least_found}
use Rattle.store_clear.proofs.aims.first_byte.Goals as goal

pub loop-byte-init : goal.loop-byte-init
loop-byte-init c = least_none (may_be c.args.value)

pub returns-then-may_be : goal.returns-then-may_be
returns-then-may_be c =
    sym (least_found (may_be c.args.value) c.loop-byte.byte 256 c.loop-byte-test.true c.loop-byte.invariant (sym c.may_be.ensures ∙ c.if-may_be.true))

pub loop-byte-preserved : goal.loop-byte-preserved
loop-byte-preserved c = least_more (may_be c.args.value) c.loop-byte.byte c.loop-byte.invariant (sym c.may_be.ensures ∙ c.if-may_be.false)
