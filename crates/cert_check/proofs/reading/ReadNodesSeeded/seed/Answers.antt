use Rattle.std.proofs.Common.{length, refl, sym, ◌∙◌, Some}
use Rattle.std.proofs.lemmas.Option.{slice_get_read}
use Rattle.edge_rules.specs.declared.seeded.NodeForm.TheVariants.{State}
use Rattle.cert_check.proofs.reading.ReadNodesSeeded.seed.Goals as goal

pub returns-in-State : goal.returns-in-State
returns-in-State c =
    let own = c.args.self.now.nodes.items in
    let read = slice_get_read own (length own) c.args.at c.index.result.now refl c.requires c.index.ensures in
    (c.index.result.now.0, read ∙ (λ i. Some (c.index.result.now.0, c.in-State.is i)) ∙ (λ i. Some (c.index.result.now.0, State (sym c.get.ensures i))))

pub returns-in-From : goal.returns-in-From
returns-in-From c =
    let own = c.args.self.now.nodes.items in
    let read = slice_get_read own (length own) c.args.at c.index.result.now refl c.requires c.index.ensures in
    (c.index.result.now.0, read ∙ (λ i. Some (c.index.result.now.0, c.in-From.is i)))
