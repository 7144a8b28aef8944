-- Rows, and the line that their texts show.
use Rattle.std.proofs.Common.{◌≡◌, inl, inr, List, [], ◌∷◌, ◌++◌, Bool, true, false, refl, ap, sym, subst, ◌∙◌, codes, Option, Some, None, cond}
use Rattle.std.specs.Prelude.{find, fold, option_and_then, slice_get}
use Rattle.std.specs.List.{list_all}
use Rattle.std.specs.Str.{bytes_eq}
use Rattle.std.proofs.lemmas.Slice.Eq.{bytes_eq-Decides}
use Rattle.std.proofs.lemmas.Bool.{or_parts, and_parts}
use Rattle.clap.specs.declared.parser.matches.ValueSource.TheVariants.{CommandLine, DefaultValue}
use Rattle.clap.specs.declared.builder.value_parser.Reading.{Reading}
use Rattle.clap.specs.declared.builder.value_parser.Reading.TheVariants.{AsWritten}
use Rattle.clap.specs.Words.{Text, Rule, Row, first_of, one_of}
use Rattle.clap.specs.Walk.{has_row, row_text, with_default, default_rows, more_values, reading_by}
use Rattle.commands.specs.Options.{Valued, Assume, Steps, Device, Trials}
use Rattle.commands.specs.Commands.{LineSoFar, empty_line}
use Rattle.commands.specs.Lines.{TellsMark}
use Rattle.commands.proofs.Rows.{missing_row}
use Rattle.commands.proofs.Pieces.{Mark, Json, Why, option_name, mark_name, value_of, valued, is_marked, marked, same_value, same_mark, same_marks}

-- ---- the row of an argument

abbrev found_in : Text → List Row → Option Row
found_in id rows = find (λ r. bytes_eq r.id id) rows

none_found : (id : Text) (rows : List Row) → has_row id rows ≡ false → found_in id rows ≡ None
none_found id [] h = refl
none_found id (r ∷ rs) h =
    let k : (bytes_eq r.id id ≡ false) × (has_row id rs ≡ false) = or_parts (bytes_eq r.id id) (has_row id rs) h in
    ap (λ (b : Bool). cond b (Some r) (found_in id rs)) k.0 ∙ none_found id rs k.1

pub found_end : (id : Text) (r : Row) (rows : List Row) → has_row id rows ≡ false → bytes_eq r.id id ≡ true → found_in id (rows ++ r ∷ []) ≡ Some r
found_end id r [] h e = ap (λ (b : Bool). cond b (Some r) None) e
found_end id r (q ∷ qs) h e =
    let k : (bytes_eq q.id id ≡ false) × (has_row id qs ≡ false) = or_parts (bytes_eq q.id id) (has_row id qs) h in
    ap (λ (b : Bool). cond b (Some q) (found_in id (qs ++ r ∷ []))) k.0 ∙ found_end id r qs k.1 e

pub found_before : (id : Text) (r : Row) (rows : List Row) → bytes_eq r.id id ≡ false → found_in id (rows ++ r ∷ []) ≡ found_in id rows
found_before id r [] e = ap (λ (b : Bool). cond b (Some r) None) e
found_before id r (q ∷ qs) e = ap (cond (bytes_eq q.id id) (Some q)) (found_before id r qs e)

-- its first value, and that value as it is read
abbrev text_in : Option Row → Option Text
text_in o = option_and_then (λ r. slice_get r.values 0) o

abbrev read_in : Option Row → Option Text
read_in o = option_and_then row_text o

pub no_text : (id : Text) (rows : List Row) → has_row id rows ≡ false → first_of id rows ≡ None
no_text id rows h = ap text_in (none_found id rows h)

pub none_read : (id : Text) (rows : List Row) → has_row id rows ≡ false → one_of id rows ≡ None
none_read id rows h = ap read_in (none_found id rows h)

-- ---- a line

abbrev pub mark_text : Bool → Option Text
mark_text true = Some (codes "true")
mark_text false = None

pub record Shows (l : LineSoFar) (rows : List Row) : Type 0 where
  pub first : first_of (codes "first") rows ≡ l.first
  pub second : first_of (codes "second") rows ≡ l.second
  pub given : (v : Valued) → first_of (option_name v) rows ≡ value_of v l
  pub marked : (m : Mark) → one_of (mark_name m) rows ≡ mark_text (is_marked m l)

pub shows_nothing : Shows empty_line []
shows_nothing = record { first = refl; second = refl; given = none; marked = unmarked } where
  none : (v : Valued) → None ≡ value_of v empty_line
  none Assume = refl
  none Steps = refl
  none Device = refl
  none Trials = refl

  unmarked : (m : Mark) → None ≡ mark_text (is_marked m empty_line)
  unmarked Json = refl
  unmarked Why = refl

-- a row with a value
abbrev pub told : Text → Reading → Text → Row
told id how word = record { id = id; values = word ∷ []; count = None; source = Some CommandLine; reading = how }

keeps_text : (id : Text) (r : Row) (rows : List Row) → bytes_eq r.id id ≡ false → first_of id (rows ++ r ∷ []) ≡ first_of id rows
keeps_text id r rows e = ap text_in (found_before id r rows e)

keeps_read : (id : Text) (r : Row) (rows : List Row) → bytes_eq r.id id ≡ false → one_of id (rows ++ r ∷ []) ≡ one_of id rows
keeps_read id r rows e = ap read_in (found_before id r rows e)

pub first_apart : (v : Valued) → (bytes_eq (codes "first") (option_name v) ≡ false) × (bytes_eq (option_name v) (codes "first") ≡ false)
first_apart Assume = (refl, refl)
first_apart Steps = (refl, refl)
first_apart Device = (refl, refl)
first_apart Trials = (refl, refl)

pub second_apart : (v : Valued) → (bytes_eq (codes "second") (option_name v) ≡ false) × (bytes_eq (option_name v) (codes "second") ≡ false)
second_apart Assume = (refl, refl)
second_apart Steps = (refl, refl)
second_apart Device = (refl, refl)
second_apart Trials = (refl, refl)

pub first_unmarked : (m : Mark) → (bytes_eq (codes "first") (mark_name m) ≡ false) × (bytes_eq (mark_name m) (codes "first") ≡ false)
first_unmarked Json = (refl, refl)
first_unmarked Why = (refl, refl)

pub second_unmarked : (m : Mark) → (bytes_eq (codes "second") (mark_name m) ≡ false) × (bytes_eq (mark_name m) (codes "second") ≡ false)
second_unmarked Json = (refl, refl)
second_unmarked Why = (refl, refl)

pub value_unmarked : (v : Valued) (m : Mark) → (bytes_eq (option_name v) (mark_name m) ≡ false) × (bytes_eq (mark_name m) (option_name v) ≡ false)
value_unmarked Assume Json = (refl, refl)
value_unmarked Assume Why = (refl, refl)
value_unmarked Steps Json = (refl, refl)
value_unmarked Steps Why = (refl, refl)
value_unmarked Device Json = (refl, refl)
value_unmarked Device Why = (refl, refl)
value_unmarked Trials Json = (refl, refl)
value_unmarked Trials Why = (refl, refl)

pub shows_first : (l : LineSoFar) (word : Text) (how : Reading) (rows : List Row) → has_row (codes "first") rows ≡ false → Shows l rows
    → Shows (record l { first = Some word }) (rows ++ told (codes "first") how word ∷ [])
shows_first l word how rows none k =
    let r : Row = told (codes "first") how word in
    record {
      first = ap text_in (found_end (codes "first") r rows none refl);
      second = keeps_text (codes "second") r rows refl ∙ k.second;
      given = λ v. keeps_text (option_name v) r rows (first_apart v).0 ∙ k.given v ∙ sym (same_value v l (record l { first = Some word }) refl refl refl refl);
      marked = λ m. keeps_read (mark_name m) r rows (first_unmarked m).0 ∙ k.marked m ∙ ap mark_text (sym (same_mark m l (record l { first = Some word }) refl refl));
    }

pub shows_second : (l : LineSoFar) (word : Text) (how : Reading) (rows : List Row) → has_row (codes "second") rows ≡ false → Shows l rows
    → Shows (record l { second = Some word }) (rows ++ told (codes "second") how word ∷ [])
shows_second l word how rows none k =
    let r : Row = told (codes "second") how word in
    record {
      first = keeps_text (codes "first") r rows refl ∙ k.first;
      second = ap text_in (found_end (codes "second") r rows none refl);
      given = λ v. keeps_text (option_name v) r rows (second_apart v).0 ∙ k.given v ∙ sym (same_value v l (record l { second = Some word }) refl refl refl refl);
      marked = λ m. keeps_read (mark_name m) r rows (second_unmarked m).0 ∙ k.marked m ∙ ap mark_text (sym (same_mark m l (record l { second = Some word }) refl refl));
    }

-- an option's value, and those of the others
same_option : Valued → Valued → Bool
same_option v u = bytes_eq (option_name v) (option_name u)

other_value : (v u : Valued) (l : LineSoFar) (word : Text) → bytes_eq (option_name v) (option_name u) ≡ false → value_of u (valued v l word) ≡ value_of u l
other_value Assume Assume l word e = absurd (cc)
other_value Assume Steps l word e = refl
other_value Assume Device l word e = refl
other_value Assume Trials l word e = refl
other_value Steps Assume l word e = refl
other_value Steps Steps l word e = absurd (cc)
other_value Steps Device l word e = refl
other_value Steps Trials l word e = refl
other_value Device Assume l word e = refl
other_value Device Steps l word e = refl
other_value Device Device l word e = absurd (cc)
other_value Device Trials l word e = refl
other_value Trials Assume l word e = refl
other_value Trials Steps l word e = refl
other_value Trials Device l word e = refl
other_value Trials Trials l word e = absurd (cc)

own_value : (v u : Valued) (l : LineSoFar) (word : Text) → bytes_eq (option_name v) (option_name u) ≡ true → value_of u (valued v l word) ≡ Some word
own_value Assume Assume l word e = refl
own_value Steps Steps l word e = refl
own_value Device Device l word e = refl
own_value Trials Trials l word e = refl
own_value Assume Steps l word e = absurd (cc)
own_value Assume Device l word e = absurd (cc)
own_value Assume Trials l word e = absurd (cc)
own_value Steps Assume l word e = absurd (cc)
own_value Steps Device l word e = absurd (cc)
own_value Steps Trials l word e = absurd (cc)
own_value Device Assume l word e = absurd (cc)
own_value Device Steps l word e = absurd (cc)
own_value Device Trials l word e = absurd (cc)
own_value Trials Assume l word e = absurd (cc)
own_value Trials Steps l word e = absurd (cc)
own_value Trials Device l word e = absurd (cc)

same_names : (v : Valued) (l : LineSoFar) (word : Text) → ((valued v l word).first ≡ l.first) × ((valued v l word).second ≡ l.second)
same_names Assume l word = (refl, refl)
same_names Steps l word = (refl, refl)
same_names Device l word = (refl, refl)
same_names Trials l word = (refl, refl)

pub shows_given : (v : Valued) (l : LineSoFar) (word : Text) (how : Reading) (rows : List Row) → has_row (option_name v) rows ≡ false → Shows l rows
    → Shows (valued v l word) (rows ++ told (option_name v) how word ∷ [])
shows_given v l word how rows none k = record {
  first = keeps_text (codes "first") r rows (first_apart v).1 ∙ k.first ∙ sym (same_names v l word).0;
  second = keeps_text (codes "second") r rows (second_apart v).1 ∙ k.second ∙ sym (same_names v l word).1;
  given = λ u. by u (bytes_eq (option_name v) (option_name u)) refl;
  marked = λ m. keeps_read (mark_name m) r rows (value_unmarked v m).0 ∙ k.marked m ∙ ap mark_text (sym (same_marks v m l word));
} where
  r : Row
  r = told (option_name v) how word

  by : (u : Valued) (b : Bool) → bytes_eq (option_name v) (option_name u) ≡ b → first_of (option_name u) (rows ++ r ∷ []) ≡ value_of u (valued v l word)
  by u true e = ap text_in (found_end (option_name u) r rows (row_none u e) e) ∙ sym (own_value v u l word e) where
    row_none : (u : Valued) → bytes_eq (option_name v) (option_name u) ≡ true → has_row (option_name u) rows ≡ false
    row_none u e = ap (λ (t : Text). has_row t rows) (sym ((bytes_eq-Decides (option_name v) (option_name u)).0 e)) ∙ none
  by u false e = keeps_text (option_name u) r rows e ∙ k.given u ∙ sym (other_value v u l word e)

marked_names : (m : Mark) (l : LineSoFar) → ((marked m l).first ≡ l.first) × ((marked m l).second ≡ l.second)
marked_names Json l = (refl, refl)
marked_names Why l = (refl, refl)

marked_values : (m : Mark) (v : Valued) (l : LineSoFar) → value_of v (marked m l) ≡ value_of v l
marked_values Json v l = same_value v l (marked Json l) refl refl refl refl
marked_values Why v l = same_value v l (marked Why l) refl refl refl refl

pub shows_marked : (m : Mark) (l : LineSoFar) (r : Row) (rows : List Row) → r.id ≡ mark_name m → row_text r ≡ Some (codes "true") → has_row (mark_name m) rows ≡ false → Shows l rows
    → Shows (marked m l) (rows ++ r ∷ [])
shows_marked m l r rows is text none k = record {
  first = keeps_text (codes "first") r rows (apart (codes "first") (first_unmarked m).1) ∙ k.first ∙ sym (marked_names m l).0;
  second = keeps_text (codes "second") r rows (apart (codes "second") (second_unmarked m).1) ∙ k.second ∙ sym (marked_names m l).1;
  given = λ v. keeps_text (option_name v) r rows (apart (option_name v) (value_unmarked v m).1) ∙ k.given v ∙ sym (marked_values m v l);
  marked = λ n. by m n is none;
} where
  apart : (id : Text) → bytes_eq (mark_name m) id ≡ false → bytes_eq r.id id ≡ false
  apart id e = ap (λ (t : Text). bytes_eq t id) is ∙ e

  own : (id : Text) → bytes_eq r.id id ≡ true → has_row id rows ≡ false → one_of id (rows ++ r ∷ []) ≡ Some (codes "true")
  own id e none = ap read_in (found_end id r rows none e) ∙ text

  by : (m n : Mark) → r.id ≡ mark_name m → has_row (mark_name m) rows ≡ false → one_of (mark_name n) (rows ++ r ∷ []) ≡ mark_text (is_marked n (marked m l))
  by Json Json is none = own (codes "json") (ap (λ (t : Text). bytes_eq t (codes "json")) is) none
  by Json Why is none = keeps_read (codes "why") r rows (ap (λ (t : Text). bytes_eq t (codes "why")) is) ∙ k.marked Why
  by Why Json is none = keeps_read (codes "json") r rows (ap (λ (t : Text). bytes_eq t (codes "json")) is) ∙ k.marked Json
  by Why Why is none = own (codes "why") (ap (λ (t : Text). bytes_eq t (codes "why")) is) none

-- ---- with defaults

pub record Tells (l : LineSoFar) (rows : List Row) : Type 0 where
  pub first : first_of (codes "first") rows ≡ l.first
  pub second : first_of (codes "second") rows ≡ l.second
  pub given : (v : Valued) → first_of (option_name v) rows ≡ value_of v l
  pub marked : (m : Mark) → TellsMark (is_marked m l) (one_of (mark_name m) rows)

tells_mark : (b : Bool) (o : Option Text) → o ≡ mark_text b → TellsMark b o
tells_mark true o e = e
tells_mark false o e = inl e

pub tells : (l : LineSoFar) (rows : List Row) → Shows l rows → Tells l rows
tells l rows k = record { first = k.first; second = k.second; given = k.given; marked = λ m. tells_mark (is_marked m l) (one_of (mark_name m) rows) (k.marked m) }

abbrev pub is_none_given : List Text → Bool
is_none_given [] = true
is_none_given (v ∷ vs) = false

no_default : (a : Rule) (rows : List Row) → is_none_given a.defaults ≡ true → with_default rows a ≡ rows
no_default a rows e = by (has_row a.id rows) a.defaults e where
  by : (b : Bool) (defaults : List Text) → is_none_given defaults ≡ true → cond b rows (default_rows a.id (reading_by a) defaults rows) ≡ rows
  by true defaults e = refl
  by false [] e = refl
  by false (v ∷ vs) e = absurd (cc)

pub no_defaults : (rules : List Rule) (rows : List Row) → list_all (λ a. is_none_given a.defaults) rules ≡ true → fold with_default rows rules ≡ rows
no_defaults [] rows e = refl
no_defaults (a ∷ rest) rows e =
    let k : (is_none_given a.defaults ≡ true) × (list_all (λ a. is_none_given a.defaults) rest ≡ true) = and_parts (is_none_given a.defaults) _ e in
    ap (λ (rs : List Row). fold with_default rs rest) (no_default a rows k.0) ∙ no_defaults rest rows k.1

-- a use that says that it wasn't used is added at the end
pub tells_default : (l : LineSoFar) (m : Mark) (a : Rule) (rows : List Row) → a.id ≡ mark_name m → a.defaults ≡ codes "false" ∷ [] → reading_by a ≡ AsWritten → Shows l rows → Tells l (with_default rows a)
tells_default l m a rows is defaults how k = by (has_row a.id rows) refl where
  r : Row
  r = record { id = mark_name m; values = codes "false" ∷ []; count = None; source = Some DefaultValue; reading = AsWritten }

  unmarked : (n : Mark) → has_row (mark_name m) rows ≡ false → TellsMark (is_marked n l) (one_of (mark_name n) (rows ++ r ∷ []))
  unmarked n none = by m n none where
    no : (b : Bool) → None ≡ mark_text b → b ≡ false
    no true e = absurd (cc)
    no false e = refl

    by : (m n : Mark) → has_row (mark_name m) rows ≡ false → TellsMark (is_marked n l) (one_of (mark_name n) (rows ++ record { id = mark_name m; values = codes "false" ∷ []; count = None; source = Some DefaultValue; reading = AsWritten } ∷ []))
    by Json Json none = subst (λ (b : Bool). TellsMark b (one_of (codes "json") (rows ++ record { id = codes "json"; values = codes "false" ∷ []; count = None; source = Some DefaultValue; reading = AsWritten } ∷ [])))
        (sym (no l.json (sym (none_read (codes "json") rows none) ∙ k.marked Json))) (inr (ap read_in (found_end (codes "json") _ rows none refl)))
    by Why Why none = subst (λ (b : Bool). TellsMark b (one_of (codes "why") (rows ++ record { id = codes "why"; values = codes "false" ∷ []; count = None; source = Some DefaultValue; reading = AsWritten } ∷ [])))
        (sym (no l.why (sym (none_read (codes "why") rows none) ∙ k.marked Why))) (inr (ap read_in (found_end (codes "why") _ rows none refl)))
    by Json Why none = tells_mark l.why _ (keeps_read (codes "why") _ rows refl ∙ k.marked Why)
    by Why Json none = tells_mark l.json _ (keeps_read (codes "json") _ rows refl ∙ k.marked Json)

  added : has_row (mark_name m) rows ≡ false → default_rows a.id (reading_by a) a.defaults rows ≡ rows ++ r ∷ []
  added none = (λ i. default_rows (is i) (how i) (defaults i) rows) ∙ missing_row (mark_name m) (more_values DefaultValue (codes "false" ∷ [])) (r ∷ []) rows none

  by : (b : Bool) → has_row a.id rows ≡ b → Tells l (cond b rows (default_rows a.id (reading_by a) a.defaults rows))
  by true e = tells l rows k
  by false e =
      let none : has_row (mark_name m) rows ≡ false = ap (λ (t : Text). has_row t rows) (sym is) ∙ e in
      subst (Tells l) (sym (added none)) (record {
        first = keeps_text (codes "first") r rows (first_unmarked m).1 ∙ k.first;
        second = keeps_text (codes "second") r rows (second_unmarked m).1 ∙ k.second;
        given = λ v. keeps_text (option_name v) r rows (value_unmarked v m).1 ∙ k.given v;
        marked = λ n. unmarked n none;
      })
