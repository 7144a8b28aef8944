use Rattle.std.proofs.Common.{sym, ◌∙◌, subst, arith}
use Rattle.std.specs.List.Sorted.{IsStrictlySortedBy}
use Rattle.std.proofs.lemmas.Option.{slice_get_within}
use Rattle.node_keys.specs.Order.{node_cmp}
use Rattle.family_edges.proofs.Landed.{inside_at}
use Rattle.cert_check.proofs.Covering.{covered_at, same_slots, not_covered}
use Rattle.cert_check.proofs.ReadAs.{key_found}
use Rattle.cert_check.proofs.landing.lands.Goals as goal

pub prove-unreachable-requires : goal.prove-unreachable-requires
prove-unreachable-requires c =
    let lt = inside_at c.args.key.now c.args.site.now.nodes.now c.in-Some.at (sym c.requires.index ∙ c.in-Some.is) in
    omega (arith, lt, c.if-prove.true, c.count-count.ensures.count)

pub le-requires : goal.le-requires
le-requires c =
    same_slots c.args.site.now.nodes.now c.args.key.now c.args.state.now c.in-Some.at c.state.result.now c.count-count.ensures.shown.1 (sym c.requires.index ∙ c.in-Some.is) c.state.ensures c.requires.slots

pub is_open-requires-clause-inside : goal.is_open-requires-clause-inside
is_open-requires-clause-inside c =
    let own = c.args.site.now.certificate.now.nodes in
    let has = key_found own c.args.site.now.nodes.now c.args.key.now c.in-Some.at c.requires.beside (sym c.requires.index ∙ c.in-Some.is) in
    slice_get_within own c.in-Some.at (c.args.key.now, has.0) has.1

pub is_open-requires-clause-ascending : goal.is_open-requires-clause-ascending
is_open-requires-clause-ascending c = subst (IsStrictlySortedBy node_cmp) c.requires.beside c.count-count.ensures.shown.1.ascending

pub returns-then-le : goal.returns-then-le
returns-then-le c =
    let both = covered_at c.args.site.now.nodes.now c.args.key.now c.args.state.now c.in-Some.at c.state.result.now c.count-count.ensures.shown.1 (sym c.requires.index ∙ c.in-Some.is) c.state.ensures in
    let has = key_found c.args.site.now.certificate.now.nodes c.args.site.now.nodes.now c.args.key.now c.in-Some.at c.requires.beside (sym c.requires.index ∙ c.in-Some.is) in
    let opens = c.is_open.ensures c.args.key.now has in
    (λ h. (both.0 (c.le.ensures.0 c.if-le.true), opens.0 h), λ h. opens.1 h.1)

pub returns-else-le : goal.returns-else-le
returns-else-le c =
    let both = covered_at c.args.site.now.nodes.now c.args.key.now c.args.state.now c.in-Some.at c.state.result.now c.count-count.ensures.shown.1 (sym c.requires.index ∙ c.in-Some.is) c.state.ensures in
    (λ h. let f = c.if-le.false in absurd (cc), λ h. c.le.ensures.1 (both.1 h.0))

pub returns-in-None : goal.returns-in-None
returns-in-None c = (λ e. absurd (cc), λ h. absurd (not_covered c.args.site.now.nodes.now c.args.key.now c.args.state.now (sym c.requires.index ∙ c.in-None.is) h.0))

pub state-requires : goal.state-requires
state-requires c = inside_at c.args.key.now c.args.site.now.nodes.now c.in-Some.at (sym c.requires.index ∙ c.in-Some.is)
