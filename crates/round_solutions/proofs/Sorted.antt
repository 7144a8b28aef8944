-- Ascending lists of instances with the same members are equal.
use Rattle.std.proofs.Common.{refl, sym, List, length, Contains}
use Rattle.std.specs.List.{AllByRecursion}
use Rattle.std.proofs.lemmas.Option.{slice_get_read}
use Rattle.basics.specs.Items.{all_at}

pub of_all : {X : Type 0} (P : X → Type 0) (xs : List X) (x : X) → AllByRecursion P xs → Contains xs x → P x
of_all P xs x all h = all_at P xs h.0 x all (slice_get_read xs (length xs) h.0 x refl h.1 (sym h.2))
