use Rattle.cert_writing.proofs.Written.{state_written}
use Rattle.cert_writing.proofs.state.write_state.Goals as goal

pub returns : goal.returns
returns c =
    state_written c.args.form.device c.args.form.version c.args.out.now c.write_values.new.out c.write_flags.new.out c.write_pairs.new.out c.write_slots.new.out c.args.state.now (rw c.register_count.ensures.exact at c.in_ok-write_values.ensures) c.in_ok-write_flags.ensures c.in_ok-write_pairs.ensures (rw c.as_slice.ensures at c.in_ok-write_slots.ensures)
