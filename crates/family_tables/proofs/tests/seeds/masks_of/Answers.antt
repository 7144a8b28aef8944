use Rattle.std.proofs.Common.{ℕ, ◌<◌, ◌^◌, true, sym, subst}
use Rattle.avr_model.specs.Vectors.{enable_count}
use Rattle.vector_table.proofs.AllLaws.{enables_are_vectors}
use Rattle.family_tables.proofs.tests.seeds.masks_of.Goals as goal

pub returns : goal.returns
returns c = subst (λ (n : ℕ). n < 2 ^ enable_count c.args.device) (sym c.with.ensures) (enables_are_vectors.turned c.args.device c.with-second.result 7 true)
