use Rattle.cert_format.proofs.ItemLines.{inst_lines, node_lines}
use Rattle.cert_format.proofs.laws.item_lines.Goals as goal

pub returns-clause-instances : goal.returns-clause-instances
returns-clause-instances c = inst_lines c.word_laws.ensures c.key_words.ensures.keys

pub returns-clause-nodes : goal.returns-clause-nodes
returns-clause-nodes c = node_lines c.word_laws.ensures c.key_words.ensures.keys
