use Rattle.std.proofs.Common.{◌+◌, [], List, get_or, take, subst, sym}
use Rattle.std.proofs.lemmas.List.Elements.{Contains-get_or}
use Rattle.certificate.specs.Valid.{family_of}
use Rattle.clear_laws.specs.declared.place.FlaggedPlace.{FlaggedPlace}
use Rattle.store_clear.specs.Causing.{ArePlacesOf}
use Rattle.store_clear.proofs.Causing.{places_none, places_more}
use Rattle.store_clear.proofs.causes.places_by.Goals as goal
use Rattle.family_edges.specs.Tasks.{task_of}

pub loop-site-init : goal.loop-site-init
loop-site-init c =
    subst (λ (xs : List FlaggedPlace). ArePlacesOf (task_of c.args.task.now) (family_of c.args.certificate.now c.args.told.now.nodes.now) [] xs) (sym c.empty-list.ensures)
    (places_none (task_of c.args.task.now) (family_of c.args.certificate.now c.args.told.now.nodes.now))

pub place_at-requires-clause-site : goal.place_at-requires-clause-site
place_at-requires-clause-site c = c.requires.sites (get_or c.args.sites.now c.loop-site.site-index 0) (Contains-get_or c.args.sites.now c.loop-site.site-index 0 c.loop-site-test.true)

pub loop-site-preserved : goal.loop-site-preserved
loop-site-preserved c =
    let family = family_of c.args.certificate.now c.args.told.now.nodes.now in
    subst (λ (xs : List FlaggedPlace). ArePlacesOf (task_of c.args.task.now) family (take (c.loop-site.site-index + 1) c.args.sites.now) xs) (sym c.in_ok-push.ensures.ok)
    (places_more (task_of c.args.task.now) family c.args.sites.now c.loop-site.site-index 0 c.loop-site.list c.in_ok-place.place c.loop-site-test.true c.in_ok-place.ensures.word c.in_ok-place.ensures.exact
    c.loop-site.invariant)
