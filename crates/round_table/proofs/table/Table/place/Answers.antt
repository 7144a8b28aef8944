use Rattle.std.proofs.Common.{◌≡◌, Option, None, Some, sym, ap, ◌∙◌, refl}
use Rattle.std.specs.Prelude.{is_some}
use Rattle.std.specs.Option.{option_map}
use Rattle.state_pool.specs.Counts.{state_at}
use Rattle.round_table.proofs.Shared.{get_stated}
use Rattle.round_table.proofs.table.Table.place.Goals as goal

mapped : {S T : Type 0} (f : S → T) (o : Option S) → is_some (option_map f o) ≡ is_some o
mapped f None = refl
mapped f (Some x) = refl

pub returns : goal.returns
returns c =
    c.get_index_of.ensures.found
    ∙ sym (ap is_some (get_stated c.self.inside.pool c.self.inside.map.entries c.args.self.now c.args.key.now c.self.view_is) ∙ mapped (state_at c.self.inside.pool) _)
