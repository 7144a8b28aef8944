use Rattle.std.proofs.Common.{length, refl, sym, subst, ◌<◌}
use Rattle.std.proofs.lemmas.Option.{slice_get_read}
use Rattle.edge_rules.specs.Expansion.{HasKeyAt}
use Rattle.certificate.specs.Claims.{Claim}
use Rattle.certificate.proofs.certificate.CertificateSeeded.key.Goals as goal

pub returns : goal.returns
returns c =
    let inside : c.args.at < length c.self.inside.nodes.items = subst (λ (x : Claim). c.args.at < length x.nodes) (sym c.self.view_is) c.requires in
    subst (λ (x : Claim). HasKeyAt x.nodes c.args.at c.index.result.now.0) c.self.view_is (
      c.index.result.now.1,
      slice_get_read c.self.inside.nodes.items (length c.self.inside.nodes.items) c.args.at c.index.result.now refl inside c.index.ensures,
    )
