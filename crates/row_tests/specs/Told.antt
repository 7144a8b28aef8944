-- The first wrong row of named tables.
use Rattle.std.specs.Prelude.{ℕ, ◌≡◌, ◌<◌, List, Option, Some, None, length, take, slice_get}
use Rattle.std.specs.List.{All}
use Rattle.std.specs.Option.{option_map}

module _ {R N T : Type 0} (IsRight : R → Type 0) (rows_of : T → List R) where
  -- the first tables have right rows only
  abbrev pub AreRight : List (N × T) → ℕ → Type 0
  AreRight tables count = All (λ table. All IsRight (rows_of table.1)) (take count tables)

  -- a table has this name and this row, and all rows before it are right
  pub record IsFirst (tables : List (N × T)) (name : N) (row : ℕ) : Type 0 where
    pub at : ℕ
    pub table : T
    pub is : slice_get tables at ≡ Some (name, table)
    pub inside : row < length (rows_of table)
    pub tables_before : AreRight tables at
    pub rows_before : All IsRight (take row (rows_of table))

  -- after the first tables no row is told, and all are right, or the one that is told is the first that may not be right
  abbrev pub IsTold : List (N × T) → ℕ → Option (N × ℕ) → Type 0
  IsTold tables count None = AreRight tables count
  IsTold tables count (Some wrong) = IsFirst tables wrong.0 wrong.1

  -- the same, after all tables
  abbrev pub AreTold : List (N × T) → Option (N × ℕ) → Type 0
  AreTold tables wrong = IsTold tables (length tables) wrong

-- the number of a row that is told, if one is
abbrev pub row_told : {N : Type 0} → Option (N × ℕ) → Option ℕ
row_told wrong = option_map (λ w. w.1) wrong
