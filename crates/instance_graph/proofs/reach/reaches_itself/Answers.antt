use Rattle.std.proofs.Common.{false, ap, ◌≡◌, ◌∙◌, sym, subst, refl, length, vec_len}
use Rattle.std.proofs.lemmas.Bool.{both_ways}
use Rattle.std.proofs.lemmas.List.{length-replicate}
use Rattle.std.proofs.lemmas.Option.{slice_get_read}
use Rattle.instance_graph.specs.Reach.{IsSpread, marked}
use Rattle.instance_graph.proofs.Marks.{into_seen, marked_first, marked_more, number_inside, nothing_left, all_marked, none_marked}
use Rattle.instance_graph.proofs.reach.reaches_itself.Goals as goal

pub spread-requires : goal.spread-requires
spread-requires c =
    let none = c.as_mut_slice-marks.ensures.value ∙ c.in_ok-seen.ensures.items_if_clones_equal (λ y e. e) in
    let same : length c.as_mut_slice-marks.result.now ≡ length c.args.graph.now = ap length none ∙ length-replicate (length c.args.graph.now) false in
    into_seen c.args.graph.now c.as_mut_slice-marks.result.now c.requires.graph same c.args.from c.index-graph-from.result (slice_get_read c.args.graph.now (length c.args.graph.now) c.args.from c.index-graph-from.result refl c.requires.within c.index-graph-from.is)

pub marks-init : goal.marks-init
marks-init c =
    let none = c.as_mut_slice-marks.ensures.value ∙ c.in_ok-seen.ensures.items_if_clones_equal (λ y e. e) in
    let same : length c.as_mut_slice-marks.result.now ≡ length c.args.graph.now = ap length none ∙ length-replicate (length c.args.graph.now) false in
    marked_first c.args.graph.now c.args.from c.index-graph-from.result c.as_mut_slice-marks.result.now c.spread.new.seen c.spread.new.stack.items (slice_get_read c.args.graph.now (length c.args.graph.now) c.args.from c.index-graph-from.result refl c.requires.within c.index-graph-from.is) same (λ j. ap (λ marks. marked marks j) none ∙ none_marked (length c.args.graph.now) j)
    (subst (λ s. IsSpread c.index-graph-from.result.entered c.as_mut_slice-marks.result.now s c.spread.new.seen c.spread.new.stack.items) c.new-stack.ensures.items c.in_ok-spread.ensures)

pub returns-in-None-clause-no : goal.returns-in-None-clause-no
returns-in-None-clause-no c = λ stays reached.
    let none : vec_len c.marks.stack ≡ 0 = c.in-None.ensures.cases.0 in
    let size : length c.marks.stack.items ≡ vec_len c.marks.stack = sym c.marks.stack.ok.0 in
    both_ways _ stays (all_marked c.args.graph.now c.args.from c.marks.marks (nothing_left c.args.graph.now c.args.from c.marks.marks c.marks.stack.items (size ∙ none) c.marks.invariant) c.args.from reached)

pub bounds-graph-number : goal.bounds-graph-number
bounds-graph-number c = number_inside c.args.graph.now c.args.from c.in-Some.number c.marks.marks c.marks.stack.items c.pop.new.self.items c.marks.invariant c.in-Some.ensures.items

pub spread-requires-in-Some : goal.spread-requires-in-Some
spread-requires-in-Some c =
    let lt = number_inside c.args.graph.now c.args.from c.in-Some.number c.marks.marks c.marks.stack.items c.pop.new.self.items c.marks.invariant c.in-Some.ensures.items in
    into_seen c.args.graph.now c.marks.marks c.requires.graph c.marks.invariant.same c.in-Some.number c.index-graph-number.result (slice_get_read c.args.graph.now (length c.args.graph.now) c.in-Some.number c.index-graph-number.result refl lt c.index-graph-number.is)

pub marks-preserved : goal.marks-preserved
marks-preserved c =
    let lt = number_inside c.args.graph.now c.args.from c.in-Some.number c.marks.marks c.marks.stack.items c.pop.new.self.items c.marks.invariant c.in-Some.ensures.items in
    marked_more c.args.graph.now c.args.from c.in-Some.number c.index-graph-number.result c.marks.marks c.spread-in-Some.new.seen c.marks.stack.items c.pop.new.self.items c.spread-in-Some.new.stack.items (slice_get_read c.args.graph.now (length c.args.graph.now) c.in-Some.number c.index-graph-number.result refl lt c.index-graph-number.is) c.in-Some.ensures.items c.marks.invariant c.in_ok-spread-in-Some.ensures
