-- The rows of arguments: an argument without a row gets one at the end.
use Rattle.std.proofs.Common.{◌≡◌, ◌||◌, ◌&&◌, List, [], ◌∷◌, ◌++◌, Bool, true, false, refl, ap, ◌∙◌, Some, None, cond, append-nil}
use Rattle.std.specs.Prelude.{find, fold}
use Rattle.std.specs.List.{list_all}
use Rattle.std.specs.Option.{option_map_or}
use Rattle.std.specs.Str.{bytes_eq}
use Rattle.std.proofs.lemmas.Bool.{or_parts, and_parts}
use Rattle.basics.specs.Booleans.{or_with_false}
use Rattle.clap.specs.declared.parser.matches.ValueSource.{ValueSource}
use Rattle.clap.specs.declared.parser.matches.ValueSource.TheVariants.{DefaultValue}
use Rattle.clap.specs.declared.builder.value_parser.Reading.{Reading}
use Rattle.clap.specs.Facts.{explicit_source}
use Rattle.clap.specs.Words.{Text, Rule}
use Rattle.clap.specs.Walk.{Row, has_row, at_row, without, with_values, more_values, with_default, default_rows, reading_by}
use Rattle.clap.specs.Takes.{is_given}

-- a row from the command line
abbrev pub is_explicit : Row → Bool
is_explicit r = explicit_source r.source

pub missing_row : (id : Text) (change : Row → List Row) (missing rows : List Row) → has_row id rows ≡ false → at_row id change missing rows ≡ rows ++ missing
missing_row id change missing [] h = refl
missing_row id change missing (r ∷ rs) h =
    let k : (bytes_eq r.id id ≡ false) × (has_row id rs ≡ false) = or_parts (bytes_eq r.id id) (has_row id rs) h in
    ap (λ (b : Bool). cond b (change r ++ rs) (r ∷ at_row id change missing rs)) k.0 ∙ ap (λ (xs : List Row). r ∷ xs) (missing_row id change missing rs k.1)

-- the values of an argument without a row become a row at the end
pub new_row : (id : Text) (how : Reading) (source : ValueSource) (values : List Text) (rows : List Row) → has_row id rows ≡ false
    → with_values id how source values (without id rows) ≡ rows ++ record { id = id; values = values; count = None; source = Some source; reading = how } ∷ []
new_row id how source values rows h =
    ap (with_values id how source values) (missing_row id (λ _. []) [] rows h ∙ append-nil rows)
    ∙ missing_row id (more_values source values) (record { id = id; values = values; count = None; source = Some source; reading = how } ∷ []) rows h

either_true : (a b c : Bool) → (a || (b || c)) ≡ ((a || b) || c)
either_true true b c = refl
either_true false b c = refl

pub has_row_end : (id : Text) (r : Row) (rows : List Row) → has_row id (rows ++ r ∷ []) ≡ (has_row id rows || bytes_eq r.id id)
has_row_end id r [] = or_with_false (bytes_eq r.id id)
has_row_end id r (q ∷ qs) = ap (λ (b : Bool). bytes_eq q.id id || b) (has_row_end id r qs) ∙ either_true (bytes_eq q.id id) (has_row id qs) (bytes_eq r.id id)

pub explicit_end : (r : Row) (rows : List Row) → list_all is_explicit rows ≡ true → is_explicit r ≡ true → list_all is_explicit (rows ++ r ∷ []) ≡ true
explicit_end r [] h k = ap (λ (b : Bool). b && true) k
explicit_end r (q ∷ qs) h k =
    let p : (is_explicit q ≡ true) × (list_all is_explicit qs ≡ true) = and_parts (is_explicit q) (list_all is_explicit qs) h in
    ap (λ (b : Bool). b && list_all is_explicit (qs ++ r ∷ [])) p.0 ∙ explicit_end r qs p.1 k

-- an argument with a row from the command line is given
pub is_given_here : (id : Text) (rows : List Row) → list_all is_explicit rows ≡ true → has_row id rows ≡ true → is_given id rows ≡ true
is_given_here id [] h k = absurd (cc)
is_given_here id (r ∷ rs) h k = by (is_given_here id rs (and_parts (is_explicit r) (list_all is_explicit rs) h).1) (bytes_eq r.id id) refl k where
  p : (is_explicit r ≡ true) × (list_all is_explicit rs ≡ true)
  p = and_parts (is_explicit r) (list_all is_explicit rs) h

  by : (has_row id rs ≡ true → is_given id rs ≡ true) → (b : Bool) → bytes_eq r.id id ≡ b → (b || has_row id rs) ≡ true → is_given id (r ∷ rs) ≡ true
  by later true is k = ap (λ (b : Bool). option_map_or is_explicit (cond b (Some r) (find (λ r. bytes_eq r.id id) rs)) false) is ∙ p.0
  by later false is k = ap (λ (b : Bool). option_map_or is_explicit (cond b (Some r) (find (λ r. bytes_eq r.id id) rs)) false) is ∙ later k

-- and remains given when defaults are added
still_given : (id : Text) (rows more : List Row) → is_given id rows ≡ true → is_given id (rows ++ more) ≡ true
still_given id [] more h = absurd (cc)
still_given id (r ∷ rs) more h = by (still_given id rs more) (bytes_eq r.id id) refl h where
  by : (is_given id rs ≡ true → is_given id (rs ++ more) ≡ true) → (b : Bool) → bytes_eq r.id id ≡ b → option_map_or is_explicit (cond b (Some r) (find (λ r. bytes_eq r.id id) rs)) false ≡ true → is_given id ((r ∷ rs) ++ more) ≡ true
  by later true is h = ap (λ (b : Bool). option_map_or is_explicit (cond b (Some r) (find (λ r. bytes_eq r.id id) (rs ++ more))) false) is ∙ h
  by later false is h = ap (λ (b : Bool). option_map_or is_explicit (cond b (Some r) (find (λ r. bytes_eq r.id id) (rs ++ more))) false) is ∙ later h

one_default : (id own : Text) (how : Reading) (defaults : List Text) (rows : List Row) → is_given id rows ≡ true → has_row own rows ≡ false → is_given id (default_rows own how defaults rows) ≡ true
one_default id own how [] rows h k = h
one_default id own how (v ∷ vs) rows h k =
    ap (is_given id) (missing_row own (more_values DefaultValue (v ∷ vs)) _ rows k) ∙ still_given id rows _ h

default_given : (id : Text) (rows : List Row) (a : Rule) → is_given id rows ≡ true → is_given id (with_default rows a) ≡ true
default_given id rows a h = by (has_row a.id rows) refl where
  by : (b : Bool) → has_row a.id rows ≡ b → is_given id (cond b rows (default_rows a.id (reading_by a) a.defaults rows)) ≡ true
  by true is = h
  by false is = one_default id a.id (reading_by a) a.defaults rows h is

pub finally_given : (id : Text) (rules : List Rule) (rows : List Row) → is_given id rows ≡ true → is_given id (fold with_default rows rules) ≡ true
finally_given id [] rows h = h
finally_given id (a ∷ rest) rows h = finally_given id rest (with_default rows a) (default_given id rows a h)
