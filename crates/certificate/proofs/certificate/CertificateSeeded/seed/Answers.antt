use Rattle.std.proofs.Common.{length, refl, sym, subst, ◌∙◌, ◌<◌, Some}
use Rattle.std.proofs.lemmas.Option.{slice_get_read}
use Rattle.edge_rules.specs.declared.seeded.NodeForm.TheVariants.{State, From}
use Rattle.edge_rules.specs.Seeds.{HasFormAt}
use Rattle.certificate.specs.Claims.{Claim}
use Rattle.certificate.proofs.certificate.CertificateSeeded.seed.Goals as goal

pub returns-in-State : goal.returns-in-State
returns-in-State c =
    let inside : c.args.at < length c.self.inside.nodes.items = subst (λ (x : Claim). c.args.at < length x.nodes) (sym c.self.view_is) c.requires in
    subst (λ (x : Claim). HasFormAt x.nodes c.args.at (State c.get.result.now)) c.self.view_is (
      c.index.result.now.0,
      slice_get_read c.self.inside.nodes.items (length c.self.inside.nodes.items) c.args.at c.index.result.now refl inside c.index.ensures
          ∙ (λ i. Some (c.index.result.now.0, c.in-State.is i)) ∙ (λ i. Some (c.index.result.now.0, State (sym c.get.ensures i))),
    )

pub returns-in-From : goal.returns-in-From
returns-in-From c =
    let inside : c.args.at < length c.self.inside.nodes.items = subst (λ (x : Claim). c.args.at < length x.nodes) (sym c.self.view_is) c.requires in
    subst (λ (x : Claim). HasFormAt x.nodes c.args.at (From c.in-From.from)) c.self.view_is (
      c.index.result.now.0,
      slice_get_read c.self.inside.nodes.items (length c.self.inside.nodes.items) c.args.at c.index.result.now refl inside c.index.ensures
          ∙ (λ i. Some (c.index.result.now.0, c.in-From.is i)),
    )
