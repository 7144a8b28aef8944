use Rattle.std.proofs.Common.{◌≡◌, ◌<◌, ◌∙◌, sym, subst, length, vec_len, arith}
use Rattle.std.specs.List.{Contains}
use Rattle.clear_laws.specs.Reach.{offset_at}
use Rattle.store_clear.specs.Spreading.{IsReachSpread}
use Rattle.store_clear.proofs.Marks.{spreading_first, spreading_more, place_inside, nothing_left, read_is}
use Rattle.store_clear.proofs.reach.spread.Goals as goal

pub mark_seeds-requires : goal.mark_seeds-requires
mark_seeds-requires c = λ s h. subst (λ n. s.node < n) (sym c.requires.same) (c.requires.inside.seeds_lead s h)

pub marks-init : goal.marks-init
marks-init c =
    spreading_first c.args.nodes.now.links.now c.args.nodes.now.offsets.now c.args.nodes.now.seeds.now c.args.slot c.args.seen.now c.mark_seeds.new.seen c.mark_seeds.new.stack.items c.requires.same c.requires.none
    (subst (λ s. IsReachSpread (λ j. Contains c.args.nodes.now.seeds.now (record { node = j; slot = c.args.slot })) c.args.seen.now s c.mark_seeds.new.seen c.mark_seeds.new.stack.items)
    c.new-stack.ensures.items c.in_ok-mark_seeds.ensures)

pub returns-in-None : goal.returns-in-None
returns-in-None c =
    let none : vec_len c.marks.stack ≡ 0 = c.in-None.ensures.cases.0 in
    let size : length c.marks.stack.items ≡ vec_len c.marks.stack = sym c.marks.stack.ok.0 in
    nothing_left c.args.nodes.now.links.now c.args.nodes.now.offsets.now c.args.nodes.now.seeds.now c.args.slot c.marks.seen c.marks.stack.items (size ∙ none) c.marks.invariant

pub bounds-nodes-node : goal.bounds-nodes-node
bounds-nodes-node c =
    let lt = place_inside c.args.nodes.now.links.now c.args.nodes.now.offsets.now c.args.nodes.now.seeds.now c.args.slot c.in-Some.node c.marks.seen c.marks.stack.items c.pop.new.self.items c.marks.invariant c.in-Some.ensures.items in
    omega (arith, lt, c.requires.inside.same)

pub mark_all-requires-clause-inside : goal.mark_all-requires-clause-inside
mark_all-requires-clause-inside c =
    let lt = place_inside c.args.nodes.now.links.now c.args.nodes.now.offsets.now c.args.nodes.now.seeds.now c.args.slot c.in-Some.node c.marks.seen c.marks.stack.items c.pop.new.self.items c.marks.invariant c.in-Some.ensures.items in
    let there = c.as_slice.ensures ∙ sym c.index-nodes-node.is ∙ read_is c.args.nodes.now.links.now c.in-Some.node c.index-nodes-node.result (omega (arith, lt, c.requires.inside.same)) c.index-nodes-node.is in
    λ t h. subst (λ n. t < n) (sym c.marks.invariant.same) (c.requires.inside.links_lead c.in-Some.node t (subst (λ xs. Contains xs t) there h))

pub marks-preserved : goal.marks-preserved
marks-preserved c =
    let lt = place_inside c.args.nodes.now.links.now c.args.nodes.now.offsets.now c.args.nodes.now.seeds.now c.args.slot c.in-Some.node c.marks.seen c.marks.stack.items c.pop.new.self.items c.marks.invariant c.in-Some.ensures.items in
    let there = c.as_slice.ensures ∙ sym c.index-nodes-node.is ∙ read_is c.args.nodes.now.links.now c.in-Some.node c.index-nodes-node.result (omega (arith, lt, c.requires.inside.same)) c.index-nodes-node.is in
    spreading_more c.args.nodes.now.links.now c.args.nodes.now.offsets.now c.args.nodes.now.seeds.now c.args.slot c.in-Some.node c.marks.seen c.mark_all.new.seen c.marks.stack.items c.pop.new.self.items c.mark_all.new.stack.items
    c.in-Some.ensures.items c.marks.invariant
    (subst (λ xs. IsReachSpread (λ t. Contains xs t × (c.args.slot < offset_at c.args.nodes.now.offsets.now t)) c.marks.seen c.pop.new.self.items c.mark_all.new.seen c.mark_all.new.stack.items) there
    c.in_ok-mark_all-in-Some.ensures)
