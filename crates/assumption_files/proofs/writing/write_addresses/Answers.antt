use Rattle.basics.specs.Results.{on_err}
use Rattle.assumption_files.proofs.Parts.{numbers_next, numbers_part}
use Rattle.assumption_files.proofs.writing.write_addresses.Goals as goal

pub returns-in_err-hex-clause-refused : goal.returns-in_err-hex-clause-refused
returns-in_err-hex-clause-refused c =
    on_err c.from_residual.result _
    (numbers_part 4 c.args.out.now c.loop-address.out c.hex.new.self c.args.addresses.now c.loop-address.address-index c.loop-address.invariant c.in_err-hex.ensures.refused)

pub loop-address-preserved : goal.loop-address-preserved
loop-address-preserved c =
    numbers_next 4 c.args.out.now c.loop-address.out c.hex.new.self c.args.addresses.now c.loop-address.address-index 0 c.loop-address-test.true c.loop-address.invariant
    (rw c.from.ensures at c.in_ok-hex.ensures.written)
