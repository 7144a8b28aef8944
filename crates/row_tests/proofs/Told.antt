-- The first wrong row, table by table.
use Rattle.std.proofs.Common.{◌≡◌, ◌≢◌, refl, sym, subst, ℕ, ◌+◌, ◌<◌, List, length, take, get_or, Option, Some, None}
use Rattle.std.specs.List.{All}
use Rattle.std.specs.Option.{IfSome, option_map}
use Rattle.std.proofs.lemmas.List.{take_more}
use Rattle.std.proofs.lemmas.List.Elements.{All-push}
use Rattle.std.proofs.lemmas.Option.{slice_get_read}
use Rattle.row_tests.specs.Told.{AreRight, IsTold}

module _ {R N T : Type 0} (IsRight : R → Type 0) (rows_of : T → List R) (tables : List (N × T)) (at : ℕ) (entry : N × T) (inside : at < length tables) (is : entry ≡ get_or tables at entry) where
  -- one more table, whose rows are right
  one_more : AreRight IsRight rows_of tables at → All IsRight (rows_of entry.1) → AreRight IsRight rows_of tables (at + 1)
  one_more before here =
      subst (All (λ (table : N × T). All IsRight (rows_of table.1))) (sym (take_more tables at entry inside))
      (All-push (λ (table : N × T). All IsRight (rows_of table.1)) (take at tables) (get_or tables at entry) before (subst (λ (table : N × T). All IsRight (rows_of table.1)) is here))

  -- what is told after the table, if no row was told before
  pub told_more : (before after : Option (N × ℕ)) (wrong : Option ℕ) → IsTold IsRight rows_of tables at before → IfSome wrong (λ row. row < length (rows_of entry.1))
      → IfSome wrong (λ row. All IsRight (take row (rows_of entry.1))) → (wrong ≡ None → All IsRight (rows_of entry.1))
      → (before ≡ None → after ≡ option_map (λ row. (entry.0, row)) wrong) → (before ≢ None → after ≡ before) → IsTold IsRight rows_of tables (at + 1) after
  told_more (Some told) after wrong so within earlier none first kept = subst (IsTold IsRight rows_of tables (at + 1)) (sym (kept (λ e. cc))) so
  told_more None after None so within earlier none first kept = subst (IsTold IsRight rows_of tables (at + 1)) (sym (first refl)) (one_more so (none refl))
  told_more None after (Some row) so within earlier none first kept =
      subst (IsTold IsRight rows_of tables (at + 1)) (sym (first refl))
      (record { at = at; table = entry.1; is = slice_get_read tables (length tables) at entry refl inside is; inside = within; tables_before = so; rows_before = earlier })
