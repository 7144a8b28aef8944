use Rattle.std.proofs.Common.{◌≡◌, take}
use Rattle.line_reading.specs.Appending.{with_text}
use Rattle.cert_words.specs.Text.{node_words}
use Rattle.cert_writing.proofs.Written.{text}
use Rattle.cert_writing.proofs.lines.write_nodes.Given as goal

abbrev pub invariant-loop-node : goal.invariant-loop-node
invariant-loop-node l = l.out ≡ with_text l.initial.out (text (node_words l.fn.form.device l.fn.form.version l.fn.insts) (take l.node-index l.nodes))
