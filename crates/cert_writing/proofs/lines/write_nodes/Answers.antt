use Rattle.cert_words.specs.Text.{node_words}
use Rattle.cert_writing.proofs.Written.{lines_next}
use Rattle.cert_writing.proofs.Found.{belongs_at}
use Rattle.cert_writing.proofs.lines.write_nodes.Goals as goal

pub number_of-guess-requires-clause-there : goal.number_of-guess-requires-clause-there
number_of-guess-requires-clause-there c = belongs_at c.args.insts.now c.args.nodes.now c.loop-node.node-index c.node-item.result c.requires.there c.loop-node-test.true c.node-item.is

pub loop-node-preserved : goal.loop-node-preserved
loop-node-preserved c =
    lines_next (node_words c.args.form.device c.args.form.version c.args.insts.now) c.appending_laws.ensures c.args.out.now c.loop-node.out c.write_node.new.out c.args.nodes.now c.loop-node.node-index c.node-item.result c.loop-node-test.true c.node-item.is c.loop-node.invariant
    (rw c.number_of-guess.ensures at c.in_ok-write_node.ensures)
