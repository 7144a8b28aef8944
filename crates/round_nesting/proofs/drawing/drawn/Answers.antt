use Rattle.std.proofs.Common.{◌∙◌, sym, subst, ◌∷◌, [], List}
use Rattle.node_keys.specs.declared.keys.InstKey.{InstKey}
use Rattle.node_keys.specs.Keys.{root_inst}
use Rattle.round_nesting.specs.Drawn.{IsDrawn}
use Rattle.round_nesting.proofs.Steps.{written_back}
use Rattle.round_nesting.proofs.drawing.drawn.Goals as goal

pub returns : goal.returns
returns c =
    let keys : List InstKey = root_inst ∷ c.args.others.now.keys in
    let first = written_back c.draw_spots.new.instances c.in_ok-instances.instances.items c.in_ok-instances.instances.len
    (c.in_ok-draw_spots.ensures.count ∙ c.as_mut_slice.ensures.len) in
    let then = c.as_mut_slice-2.ensures.value ∙ first in
    let drawn = c.in_ok-draw_entrances.ensures c.args.spots.now (subst (IsDrawn keys c.args.spots.now []) (sym then) c.in_ok-draw_spots.ensures.drawn) in
    subst (IsDrawn keys c.args.spots.now c.args.entrances.now) (sym (c.new.ensures ∙ written_back c.draw_entrances.new.instances _ c.in_ok-instances.instances.len (c.draw_entrances.auto.instances ∙ c.as_mut_slice-2.ensures.len))) drawn
