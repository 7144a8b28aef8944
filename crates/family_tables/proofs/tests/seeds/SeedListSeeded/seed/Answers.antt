use Rattle.std.proofs.Common.{length, refl, sym, ◌∙◌, Some}
use Rattle.std.proofs.lemmas.Option.{slice_get_read}
use Rattle.edge_rules.specs.declared.seeded.NodeForm.TheVariants.{State}
use Rattle.family_tables.proofs.tests.seeds.SeedListSeeded.seed.Goals as goal

pub returns-in-State : goal.returns-in-State
returns-in-State c = (
  c.index.result.now.0,
  slice_get_read c.args.self.now.items.items (length c.args.self.now.items.items) c.args.at c.index.result.now refl c.requires c.index.ensures
      ∙ (λ i. Some (c.index.result.now.0, c.in-State.is i)) ∙ (λ i. Some (c.index.result.now.0, State (sym c.get.ensures i))),
)

pub returns-in-From : goal.returns-in-From
returns-in-From c = (
  c.index.result.now.0,
  slice_get_read c.args.self.now.items.items (length c.args.self.now.items.items) c.args.at c.index.result.now refl c.requires c.index.ensures
      ∙ (λ i. Some (c.index.result.now.0, c.in-From.is i)),
)
