use Rattle.std.proofs.Common.{◌≡◌, ◌+◌, ◌-◌, ◌<◌, [], ◌∙◌, refl, ap, sym, subst, arith, get_or, length, map, List, ℕ, Contains}
use Rattle.family_edges.specs.declared.landing.Landing.{Landing}
use Rattle.chain_explain.specs.Moves.{moves_of, moves_by, IsPortion}
use Rattle.chain_explain.proofs.Built.{portion_none, portion_more}
use Rattle.chain_explain.proofs.Edges.{read_each}
use Rattle.chain_explain.proofs.Stepped.{read_list}
use Rattle.chain_explain.proofs.way.portion.Goals as goal

pub loop-at-init : goal.loop-at-init
loop-at-init c =
    subst (IsPortion (moves_by c.args.family.now.landings) c.args.low (c.args.low - c.args.low)) (sym c.new-portion.ensures.items)
    (portion_none (moves_by c.args.family.now.landings) c.args.low (c.args.low - c.args.low) (omega arith))

pub counted_from-requires : goal.counted_from-requires
counted_from-requires c = λ j h.
    let all = c.args.family.now.landings in
    let at = c.loop-at.at in
    let lt : at < length all = omega (arith, c.loop-at-test.true, c.requires.inside) in
    let given = ap (λ (xss : List (List Landing)). get_or xss at c.index-landings-at.result) c.as_slice-landings.ensures in
    let read : c.as_slice.result.now ≡ get_or all at [] = c.as_slice.ensures ∙ read_list all at c.index-landings-at.result lt (c.index-landings-at.is ∙ given) in
    c.requires.above at j c.loop-at.auto.at c.loop-at-test.true
    (subst (λ (xs : List ℕ). Contains xs j) (ap moves_of read ∙ sym (read_each moves_of all at refl)) h)

pub loop-at-preserved : goal.loop-at-preserved
loop-at-preserved c =
    let all = c.args.family.now.landings in
    let at = c.loop-at.at in
    let low = c.args.low in
    let lt : at < length all = omega (arith, c.loop-at-test.true, c.requires.inside) in
    let given = ap (λ (xss : List (List Landing)). get_or xss at c.index-landings-at.result) c.as_slice-landings.ensures in
    let read : c.as_slice.result.now ≡ get_or all at [] = c.as_slice.ensures ∙ read_list all at c.index-landings-at.result lt (c.index-landings-at.is ∙ given) in
    let same : at ≡ low + (at - low) = omega (arith, c.loop-at.auto.at) in
    let nexts : c.in_ok-nexts.nexts ≡ map (λ j. j - low) (get_or (moves_by all) (low + (at - low)) []) =
    c.in_ok-nexts.ensures
    ∙ ap (map (λ j. j - low)) (ap moves_of read ∙ (sym (read_each moves_of all at refl) ∙ ap (λ k. get_or (moves_by all) k []) same)) in
    let next : (at - low) + 1 ≡ at + 1 - low = omega (arith, c.loop-at.auto.at) in
    subst (λ k. IsPortion (moves_by all) low k c.push.new.self.items) next
    (subst (IsPortion (moves_by all) low ((at - low) + 1)) (sym c.in_ok-push.ensures.items)
    (portion_more (moves_by all) c.loop-at.portion.items low (at - low) c.in_ok-nexts.nexts c.loop-at.invariant nexts))

pub returns : goal.returns
returns c =
    let end : c.loop-at.at ≡ c.args.high = omega (arith, c.loop-at-test.false, c.loop-at.auto.at-end c.requires.order) in
    subst (λ k. IsPortion (moves_by c.args.family.now.landings) c.args.low (k - c.args.low) c.loop-at.portion.items) end c.loop-at.invariant
