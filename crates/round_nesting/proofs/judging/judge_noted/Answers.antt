use Rattle.std.proofs.Common.{refl, subst, List, Result, Ok, Err, IfOk, true, ◌∷◌}
use Rattle.node_keys.specs.declared.keys.InstKey.{InstKey}
use Rattle.node_keys.specs.Keys.{root_inst}
use Rattle.instance_graph.specs.declared.graph.GraphInst.{GraphInst}
use Rattle.round_nesting.specs.Nestings.{Noted, Spot, Entrance}
use Rattle.round_nesting.specs.Drawn.{IsDrawn}
use Rattle.round_nesting.proofs.Keeping.{insts_once}
use Rattle.round_nesting.proofs.Telling.{tells_all}
use Rattle.round_nesting.proofs.judging.judge_noted.Goals as goal

each_told : {X E : Type 0} (r : Result X E) (P Q : X → Type 0) → ((x : X) → P x → Q x) → IfOk r P → IfOk r Q
each_told (Ok x) P Q all h = all x h
each_told (Err e) P Q all h = tt

pub returns : goal.returns
returns c =
    let others : List InstKey = c.args.others.now.keys in
    let gs : List GraphInst = c.in_ok-graph.graph.instances in
    let n : Noted = record { insts = root_inst ∷ others; spots = c.args.spots.now.keys; entrances = c.args.entrances.now.keys } in
    let drawn : IsDrawn (root_inst ∷ others) n.spots n.entrances gs =
    subst (λ (es : List Entrance). IsDrawn (root_inst ∷ others) n.spots es gs) c.as_slice-2.ensures.keys
    (subst (λ (ss : List Spot). IsDrawn (root_inst ∷ others) ss c.as_slice-2.result.now gs) c.as_slice.ensures.keys c.in_ok-graph.ensures) in
    each_told c.judge_graph-judged.result _ _
    (λ w told. tells_all n others gs drawn refl (insts_once true others c.requires.apart) c.args.device w.verdict told) c.judge_graph-judged.ensures
