use Rattle.std.proofs.Common.{arith, ap, length, subst, sym}
use Rattle.avr_model.proofs.AllLaws.{devices_are_alike}
use Rattle.edge_laws.proofs.ExpansionLaws.{filled_lists_are_shown}
use Rattle.chain_explain.specs.Moves.{AreThere}
use Rattle.chain_explain.proofs.Edges.{are_moves}
use Rattle.chain_explain.proofs.Conditions.{meets_reached, peopled}
use Rattle.chain_explain.proofs.Chains.{all_there}
use Rattle.chain_explain.proofs.Rooted.{rooted}
use Rattle.chain_explain.proofs.Stepped.{reset_has}
use Rattle.chain_explain.proofs.Explained.{sums, nests, least}
use Rattle.chain_explain.proofs.Marks.{kept_few, reached_given}
use Rattle.chain_explain.proofs.explaining.explain_family.Goals as goal
use Rattle.family_edges.specs.Tasks.{task_of}

pub marks_of-requires-clause-shown : goal.marks_of-requires-clause-shown
marks_of-requires-clause-shown c =
    filled_lists_are_shown.shown (task_of c.args.task.now) c.args.certificate.now.nodes c.args.family.now.nodes c.requires.filled c.requires.claim.nodes_ascend

pub parts-requires-clause-shown : goal.parts-requires-clause-shown
parts-requires-clause-shown c =
    filled_lists_are_shown.shown (task_of c.args.task.now) c.args.certificate.now.nodes c.args.family.now.nodes c.requires.filled c.requires.claim.nodes_ascend

pub kept_ways-requires-clause-peopled : goal.kept_ways-requires-clause-peopled
kept_ways-requires-clause-peopled c = peopled (task_of c.args.task.now) c.args.family.now.nodes c.requires.meets.edges

pub deepest_chain-requires-clause-few : goal.deepest_chain-requires-clause-few
deepest_chain-requires-clause-few c =
    let few = kept_few c.deref.result.now c.args.family.now.nodes in
    let kept = ap length c.in_ok-reached.ensures in
    omega (arith, few, kept, c.requires.filled.count, c.requires.claim.few_nodes)

pub deepest_chain-requires-clause-meets : goal.deepest_chain-requires-clause-meets
deepest_chain-requires-clause-meets c =
    let are =
    reached_given (task_of c.args.task.now) c.args.family.now.nodes c.in_ok-marks.marks.items c.deref.result.now c.in_ok-reached.reached c.in_ok-marks.ensures.reached
    c.deref.ensures.value c.in_ok-reached.ensures in
    meets_reached (task_of c.args.task.now) c.args.family.now.nodes c.in_ok-reached.reached are c.args.certificate.now c.requires.meets

pub deepest_chain-requires-clause-rooted : goal.deepest_chain-requires-clause-rooted
deepest_chain-requires-clause-rooted c =
    let shown =
    filled_lists_are_shown.shown (task_of c.args.task.now) c.args.certificate.now.nodes c.args.family.now.nodes c.requires.filled c.requires.claim.nodes_ascend in
    let are =
    reached_given (task_of c.args.task.now) c.args.family.now.nodes c.in_ok-marks.marks.items c.deref.result.now c.in_ok-reached.reached c.in_ok-marks.ensures.reached
    c.deref.ensures.value c.in_ok-reached.ensures in
    rooted (task_of c.args.task.now) c.args.family.now.nodes c.in_ok-reached.reached are shown c.requires.meets.edges c.requires.meets.reset

pub parts-requires-clause-moves : goal.parts-requires-clause-moves
parts-requires-clause-moves c =
    let shown =
    filled_lists_are_shown.shown (task_of c.args.task.now) c.args.certificate.now.nodes c.args.family.now.nodes c.requires.filled c.requires.claim.nodes_ascend in
    are_moves (task_of c.args.task.now) c.args.family.now.nodes shown c.args.family.now.landings c.requires.landings
    (omega (arith, c.requires.filled.count, c.requires.claim.few_nodes)) c.requires.meets.edges c.requires.meets.reset

pub parts-requires-clause-there : goal.parts-requires-clause-there
parts-requires-clause-there c =
    subst (AreThere c.in_ok-reached.reached) (sym c.as_slice.ensures)
    (all_there (task_of c.args.task.now) c.in_ok-reached.reached c.in_ok-deepest.deepest.need c.in_ok-deepest.deepest.links
    (omega (arith, c.in_ok-deepest.ensures.bounded, c.requires.claim.bound_fits, devices_are_alike.most_depth c.args.certificate.now.device)) c.in_ok-deepest.ensures.deepest)

pub returns-clause-sums : goal.returns-clause-sums
returns-clause-sums c =
    let are =
    reached_given (task_of c.args.task.now) c.args.family.now.nodes c.in_ok-marks.marks.items c.deref.result.now c.in_ok-reached.reached c.in_ok-marks.ensures.reached
    c.deref.ensures.value c.in_ok-reached.ensures in
    sums (task_of c.args.task.now) c.args.certificate.now c.args.family.now.nodes c.requires.filled c.in_ok-reached.reached are c.in_ok-deepest.deepest.need
    c.in_ok-deepest.deepest.links c.in_ok-deepest.ensures.deepest c.in_ok-deepest.ensures.root c.as_slice.result.now c.as_slice.ensures c.in_ok-parts.parts c.in_ok-parts.ensures

pub returns-clause-nests : goal.returns-clause-nests
returns-clause-nests c =
    let are =
    reached_given (task_of c.args.task.now) c.args.family.now.nodes c.in_ok-marks.marks.items c.deref.result.now c.in_ok-reached.reached c.in_ok-marks.ensures.reached
    c.deref.ensures.value c.in_ok-reached.ensures in
    nests (task_of c.args.task.now) c.args.certificate.now c.args.family.now.nodes c.requires.filled c.in_ok-reached.reached are c.in_ok-deepest.deepest.need
    c.in_ok-deepest.deepest.links c.in_ok-deepest.ensures.deepest c.in_ok-deepest.ensures.root c.as_slice.result.now c.as_slice.ensures c.in_ok-parts.parts c.in_ok-parts.ensures

pub returns-clause-least : goal.returns-clause-least
returns-clause-least c =
    let are =
    reached_given (task_of c.args.task.now) c.args.family.now.nodes c.in_ok-marks.marks.items c.deref.result.now c.in_ok-reached.reached c.in_ok-marks.ensures.reached
    c.deref.ensures.value c.in_ok-reached.ensures in
    least (task_of c.args.task.now) c.args.certificate.now c.args.family.now.nodes c.requires.filled c.in_ok-reached.reached are c.in_ok-deepest.deepest.need
    c.in_ok-deepest.deepest.links c.in_ok-deepest.ensures.deepest c.in_ok-deepest.ensures.root c.as_slice.result.now c.as_slice.ensures c.in_ok-parts.parts c.in_ok-parts.ensures
    c.filled_or_missing.ensures c.rounds_are_reached.ensures (reset_has c.args.task.now.assumptions.now c.args.family.now.nodes c.requires.meets.reset) c.in_ok-deepest.ensures.bounded

pub overflow_cast-result : goal.overflow_cast-result
overflow_cast-result c =
    omega (arith, c.in_ok-deepest.ensures.bounded, c.requires.claim.bound_fits, devices_are_alike.most_depth c.args.certificate.now.device)
