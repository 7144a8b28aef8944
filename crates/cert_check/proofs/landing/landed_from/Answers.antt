use Rattle.std.proofs.Common.{[], ap, ◌∙◌}
use Rattle.std.proofs.lemmas.List.{take_all}
use Rattle.family_edges.specs.Landings.{landing_of, landings_by}
use Rattle.cert_check.specs.Demands.{LeadsToNode, GapAt, KeyBelow, lesser_key}
use Rattle.cert_check.proofs.Lists.{read_in, least_none, least_more, least_all}
use Rattle.cert_check.proofs.Covering.{lesser_keys}
use Rattle.cert_check.proofs.Gathered.{gathered_more}
use Rattle.cert_check.proofs.landing.landed_from.Goals as goal

pub note-requires-clause-slots : goal.note-requires-clause-slots
note-requires-clause-slots c =
    let e = c.index-edges-at.result in
    c.requires.targets e (read_in c.args.edges.now c.loop-at.at e e c.loop-at-test.true c.index-edges-at.is)

pub loop-at-init : goal.loop-at-init
loop-at-init c =
    let s = c.args.site.now in
    let own = s.certificate.now.nodes in
    let n = s.nodes.now in
    (least_none (LeadsToNode s.followed own n) (GapAt s.followed own n) KeyBelow lesser_key (lesser_keys s.followed own n) c.args.edges.now, c.empty.ensures)

pub loop-at-preserved : goal.loop-at-preserved
loop-at-preserved c =
    let s = c.args.site.now in
    let own = s.certificate.now.nodes in
    let n = s.nodes.now in
    let e = c.index-edges-at.result in (
      least_more (LeadsToNode s.followed own n) (GapAt s.followed own n) KeyBelow lesser_key (lesser_keys s.followed own n) c.args.edges.now c.loop-at.at e e
          c.loop-at.landed.gap c.note.new.landed.gap c.loop-at-test.true c.index-edges-at.is c.loop-at.invariant.0 c.in_ok-note.ensures.gap,
      gathered_more (landing_of n) c.args.edges.now c.loop-at.at e [] c.loop-at.landed.landings c.note.new.landed.landings c.loop-at-test.true
          c.index-edges-at.is c.loop-at.invariant.1 c.in_ok-note.ensures.landings,
    )

pub returns-clause-gap : goal.returns-clause-gap
returns-clause-gap c =
    let s = c.args.site.now in
    let own = s.certificate.now.nodes in
    let n = s.nodes.now in
    least_all (LeadsToNode s.followed own n) (GapAt s.followed own n) KeyBelow lesser_key (lesser_keys s.followed own n) c.args.edges.now c.loop-at.at c.loop-at.landed.gap
    c.loop-at-test.false c.loop-at.invariant.0

pub returns-clause-landings : goal.returns-clause-landings
returns-clause-landings c = c.loop-at.invariant.1 ∙ ap (landings_by c.args.site.now.nodes.now) (take_all c.loop-at.at c.args.edges.now c.loop-at-test.false)
