use Rattle.cert_writing.proofs.Written.{parts_written}
use Rattle.cert_writing.proofs.writing.write_all.Goals as goal

pub returns : goal.returns
returns c =
    parts_written c.appending_laws.ensures c.args.out.now c.write_heading.new.out c.write_numbered.new.out c.write.new.out c.write_numbered-2.new.out c.write_insts.new.out c.write_numbered-3.new.out c.write_nodes.new.out c.write_witness.new.out
    c.word.new.self c.end_line.new.self c.args.certificate.now
    (rw (c.device-device.ensures, c.version-version.ensures, c.bound.ensures) at c.in_ok-write_heading.ensures)
    (rw (c.entries.ensures.value, c.assumptions-assumptions.ensures) at c.in_ok-write_numbered.ensures)
    (rw (c.device-device.ensures, c.assumptions-assumptions.ensures) at c.in_ok-write.ensures.written)
    (rw c.instances-instances.ensures at c.in_ok-write_numbered-2.ensures)
    (rw (c.device-device.ensures, c.instances-instances.ensures) at c.in_ok-write_insts.ensures)
    (rw c.nodes-nodes.ensures.value at c.in_ok-write_numbered-3.ensures)
    (rw (c.device-device.ensures, c.version-version.ensures, c.instances-instances.ensures, c.nodes-nodes.ensures.value) at c.in_ok-write_nodes.ensures)
    c.in_ok-write_witness.ensures c.in_ok-word.ensures.written c.in_ok-end_line.ensures.written
