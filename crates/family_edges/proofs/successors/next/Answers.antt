use Rattle.family_edges.proofs.Exact.{answer_edges, answer_fault, answer_clean}
use Rattle.family_edges.proofs.successors.next.Goals as goal
use Rattle.family_edges.specs.Tasks.{task_of}

pub returns-clause-edges : goal.returns-clause-edges
returns-clause-edges c = λ n e. answer_edges (task_of c.args.task.now) c.args.nodes.now n c.listed.result (c.listed.ensures n e)

pub returns-clause-fault : goal.returns-clause-fault
returns-clause-fault c = λ n f e. answer_fault (task_of c.args.task.now) c.args.nodes.now n c.listed.result (c.listed.ensures n e) f

pub returns-clause-faultless : goal.returns-clause-faultless
returns-clause-faultless c = λ n e. answer_clean (task_of c.args.task.now) c.args.nodes.now n c.listed.result (c.listed.ensures n e)
