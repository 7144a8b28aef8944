use Rattle.std.proofs.Common.{◌∙◌, List, ℕ, Contains, ap, length, subst, sym}
use Rattle.std.proofs.lemmas.Result.{IfOk-weaker}
use Rattle.certificate.specs.Valid.{family_of}
use Rattle.local_rules.specs.Machine.{HaveSixteenBits}
use Rattle.clear_laws.proofs.AllLaws.{flagged_runs_end_at_places}
use Rattle.store_clear.specs.Conditions.{AreConditionsLeft, HasConditionsLeft}
use Rattle.store_clear.specs.Causing.{ArePlacesOf}
use Rattle.store_clear.proofs.Causing.{sites_are_flagged, are_places}
use Rattle.store_clear.proofs.clearing.flagged_places_in.Goals as goal
use Rattle.family_edges.specs.Tasks.{task_of}

pub sites_of-requires : goal.sites_of-requires
sites_of-requires c = ap length c.as_slice.ensures.value ∙ c.in_ok-conditions.ensures.count

pub places_at-requires-clause-told : goal.places_at-requires-clause-told
places_at-requires-clause-told c =
    record {
      filled = c.requires.filled;
      told = subst (AreConditionsLeft (task_of c.args.task.now) c.args.certificate.now c.args.family.now.nodes) (sym c.as_slice.ensures.value) c.in_ok-conditions.ensures;
    }

pub places_at-requires-clause-sites : goal.places_at-requires-clause-sites
places_at-requires-clause-sites c =
    let task = task_of c.args.task.now in
    let claim = c.args.certificate.now in
    let nodes = c.args.family.now.nodes in
    let told : HasConditionsLeft task claim nodes c.as_slice.result.now =
    record { filled = c.requires.filled; told = subst (AreConditionsLeft task claim nodes) (sym c.as_slice.ensures.value) c.in_ok-conditions.ensures } in
    let sites = (c.in_ok-sites.ensures task claim told).0 in
    λ pc h.
    sites_are_flagged task claim nodes c.as_slice.result.now told c.in_ok-sites.sites sites pc (subst (λ (xs : List ℕ). Contains xs pc) c.as_slice-2.ensures h)

pub returns-clause-exact : goal.returns-clause-exact
returns-clause-exact c =
    let task = task_of c.args.task.now in
    let claim = c.args.certificate.now in
    let nodes = c.args.family.now.nodes in
    let told : HasConditionsLeft task claim nodes c.as_slice.result.now =
    record { filled = c.requires.filled; told = subst (AreConditionsLeft task claim nodes) (sym c.as_slice.ensures.value) c.in_ok-conditions.ensures } in
    let sites = (c.in_ok-sites.ensures task claim told).0 in
    IfOk-weaker c.places_at.result _ _
    (λ list so.
    are_places task claim nodes c.as_slice.result.now told c.in_ok-sites.sites sites list
    (subst (λ (xs : List ℕ). ArePlacesOf task (family_of claim nodes) xs list) c.as_slice-2.ensures so))
    c.places_at.ensures

pub returns-clause-told : goal.returns-clause-told
returns-clause-told c =
    let task = task_of c.args.task.now in
    let claim = c.args.certificate.now in
    let nodes = c.args.family.now.nodes in
    let told : HasConditionsLeft task claim nodes c.as_slice.result.now =
    record { filled = c.requires.filled; told = subst (AreConditionsLeft task claim nodes) (sym c.as_slice.ensures.value) c.in_ok-conditions.ensures } in
    let sites = (c.in_ok-sites.ensures task claim told).0 in
    IfOk-weaker c.places_at.result _ _
    (λ list so nevers all.
    flagged_runs_end_at_places.ends task claim list nevers (subst HaveSixteenBits c.words.ensures.value c.words_have_16_bits.ensures) c.nodes-nodes.ensures.kept
    (record { nodes = nodes; expanded = c.requires.filled; meets = c.requires.meets })
    (are_places task claim nodes c.as_slice.result.now told c.in_ok-sites.sites sites list
    (subst (λ (xs : List ℕ). ArePlacesOf task (family_of claim nodes) xs list) c.as_slice-2.ensures so))
    all)
    c.places_at.ensures

pub returns-clause-causes : goal.returns-clause-causes
returns-clause-causes c =
    let task = task_of c.args.task.now in
    let claim = c.args.certificate.now in
    let nodes = c.args.family.now.nodes in
    let told : HasConditionsLeft task claim nodes c.as_slice.result.now =
    record { filled = c.requires.filled; told = subst (AreConditionsLeft task claim nodes) (sym c.as_slice.ensures.value) c.in_ok-conditions.ensures } in
    let sites = (c.in_ok-sites.ensures task claim told).0 in
    IfOk-weaker c.places_at.result _ _
    (λ list so.
    flagged_runs_end_at_places.told task claim list
    (are_places task claim nodes c.as_slice.result.now told c.in_ok-sites.sites sites list
    (subst (λ (xs : List ℕ). ArePlacesOf task (family_of claim nodes) xs list) c.as_slice-2.ensures so)))
    c.places_at.ensures
