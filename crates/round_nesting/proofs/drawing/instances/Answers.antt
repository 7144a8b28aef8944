use Rattle.std.proofs.Common.{◌≡◌, ◌∙◌, ap, ◌∷◌, ◌++◌, [], List, take, arith}
use Rattle.std.proofs.lemmas.List.{take_all}
use Rattle.node_keys.specs.declared.keys.InstKey.{InstKey}
use Rattle.node_keys.specs.Keys.{root_inst}
use Rattle.instance_graph.specs.declared.graph.GraphInst.{GraphInst}
use Rattle.round_nesting.proofs.Steps.{bare, bares, nothing_drawn}
use Rattle.round_nesting.proofs.drawing.instances.Goals as goal

pub returns : goal.returns
returns c =
    let keys : List InstKey = c.args.others.now.keys in
    let items : List InstKey = c.as_slice-other-items.result.now in
    let all : take c.loop-other.other-index items ≡ keys = take_all c.loop-other.other-index items c.loop-other-test.false ∙ c.as_slice-other-items.ensures.keys in
    let last : c.bare-2.result ≡ bare root_inst = c.bare-2.ensures ∙ ap bare c.root-2.ensures in
    let is : c.push-2.new.self.items ≡ bares (root_inst ∷ keys) ++ bare root_inst ∷ [] =
    c.in_ok-push-3.ensures.items ∙ ap (λ (g : GraphInst). c.loop-other.instances.items ++ g ∷ []) last
    ∙ ap (λ (gs : List GraphInst). gs ++ bare root_inst ∷ []) (c.loop-other.invariant ∙ ap (λ (ks : List InstKey). bare root_inst ∷ bares ks) all) in
    nothing_drawn (root_inst ∷ keys) root_inst c.push-2.new.self.items is (omega (arith, c.requires))
