-- A level with a command's names and options accepts every line that is the command.
use Rattle.std.proofs.Common.{◌≡◌, ℕ, suc, ◌||◌, ◌&&◌, not, nat_lt, List, [], ◌∷◌, ◌++◌, Bool, true, false, refl, ap, ap₂, sym, subst, ◌∙◌, codes, Option, Some, None, cond, is_some}
use Rattle.std.specs.List.{list_all}
use Rattle.std.specs.Option.{option_map_or}
use Rattle.std.specs.Str.{bytes_eq}
use Rattle.basics.specs.Booleans.{or_with_false, or_with_true, and_with_false}
use Rattle.std.proofs.lemmas.Bool.{and_from}
use Rattle.std.proofs.lemmas.Option.{none-some}
use Rattle.clap.specs.declared.parser.matches.ValueSource.TheVariants.{CommandLine}
use Rattle.clap.specs.declared.builder.value_parser.Reading.{Reading}
use Rattle.clap.specs.Words.{Shape, Text, Rule, read_as}
use Rattle.std.specs.Prelude.{option_map, slice_get}
use Rattle.clap.specs.Faults.{use_fault}
use Rattle.clap.specs.Walk.{Held, Row, has_row, without, with_values, used, used_by_id, settled, reacted, pushed, pending_count, most_values, takes_values, takes_several, is_multiple, is_pending, positional_held, next_position, arg_by_id, arg_by_index, arg_by_long, finished}
use Rattle.clap.specs.Takes.{use_passes, settle_passes, react_passes, positional_passes, default_passes, is_valid, is_given}
use Rattle.commands.specs.Options.{Valued, Assume, Steps, Device, Trials}
use Rattle.commands.specs.Commands.{LineSoFar, named, waiting, with_value}
use Rattle.commands.proofs.Pieces.{Piece, Named, Given, Marked, Mark, Json, Why, option_name, mark_name, all_added, value_of, valued, is_marked, marked, with_mark, gets, marks, same_value, same_mark, same_marks, StaysGiven, stays, some_is}
use Rattle.commands.proofs.Steps.{goes, final, begun, name_goes, value_goes, option_goes, flag_goes}
use Rattle.commands.proofs.Rows.{is_explicit, new_row, has_row_end, explicit_end, is_given_here, finally_given}

-- ---- what is asked of a level

-- the rows after a waiting value is used
abbrev pub rows_at : Shape → Held → List Row
rows_at s h = (settled s.rules h).rows

abbrev pub settles : Shape → Held → Bool
settles s h = settle_passes s.rules s.args_override_self h

abbrev pub row : Text → Reading → List Text → Row
row id how values = record { id = id; values = values; count = None; source = Some CommandLine; reading = how }

-- an argument of one value that is used once
pub record IsUsable (s : Shape) (a : Rule) (id : Text) : Type 0 where
  pub how : Reading
  pub found : arg_by_id s.rules a.id ≡ Some a
  pub passes : (word : Text) (rows : List Row) → has_row id rows ≡ false → use_passes s.args_override_self a (word ∷ []) rows ≡ true
  pub adds : (word : Text) (rows : List Row) → used a (word ∷ []) rows ≡ with_values id how CommandLine (word ∷ []) (without id rows)
  pub repeats : (word : Text) (rows : List Row) → use_fault s.args_override_self a (word ∷ []) rows ≡ [] → has_row id rows ≡ false

-- the name at a position
pub record IsPositional (s : Shape) (i : ℕ) (id : Text) : Type 0 where
  pub rule : Rule
  pub found : arg_by_index s.rules i ≡ Some rule
  pub usable : IsUsable s rule id
  pub one : is_multiple rule ≡ false
  pub single : takes_several rule ≡ false
  pub last : rule.trailing_var_arg ≡ false
  pub next : next_position rule i ≡ suc i

-- an option that takes the next word
pub record IsOption (s : Shape) (name : Text) : Type 0 where
  pub rule : Rule
  pub found : arg_by_long s.rules name ≡ Some rule
  pub usable : IsUsable s rule name
  pub takes : takes_values rule ≡ true
  pub hungry : (rows : List Row) → use_fault s.args_override_self rule [] rows ≡ [] → ⊥
  pub one : (word : Text) → not (nat_lt (pending_count rule (Some (rule.id, word ∷ []))) (most_values rule)) ≡ true

-- an option without a value
pub record IsFlag (s : Shape) (name : Text) : Type 0 where
  pub rule : Rule
  pub how : Reading
  pub values : List Text
  pub found : arg_by_long s.rules name ≡ Some rule
  pub takes : takes_values rule ≡ false
  pub passes : (rows : List Row) → has_row name rows ≡ false → use_passes s.args_override_self rule [] rows ≡ true
  pub adds : (rows : List Row) → used rule [] rows ≡ with_values name how CommandLine values (without name rows)
  pub repeats : (rows : List Row) → use_fault s.args_override_self rule [] rows ≡ [] → has_row name rows ≡ false
  pub told : option_map (read_as how) (slice_get values 0) ≡ Some (codes "true")

-- the options of a command, and whether it has a second name
pub record AllowsWords : Type 0 where
  pub second : Bool
  pub given : Valued → Bool
  pub marked : Mark → Bool

-- the level has them; the first name has this id
pub record IsWordLevel (s : Shape) (w : AllowsWords) (id : Text) : Type 0 where
  pub first : IsPositional s 1 id
  pub second : w.second ≡ true → IsPositional s 2 (codes "second")
  pub given : (v : Valued) → w.given v ≡ true → IsOption s (option_name v)
  pub marked : (m : Mark) → w.marked m ≡ true → IsFlag s (mark_name m)
  pub defaults : list_all default_passes s.rules ≡ true
  pub valid : (rows : List Row) → is_given id rows ≡ true → (w.second ≡ true → is_given (codes "second") rows ≡ true) → is_valid s rows false ≡ true
  pub same : bytes_eq id id ≡ true
  pub of_second : (bytes_eq id (codes "second") ≡ false) × (bytes_eq (codes "second") id ≡ false)
  pub of_given : (v : Valued) → (bytes_eq id (option_name v) ≡ false) × (bytes_eq (option_name v) id ≡ false)
  pub of_marked : (m : Mark) → (bytes_eq id (mark_name m) ≡ false) × (bytes_eq (mark_name m) id ≡ false)

-- and nothing else
pub record IsStrict (s : Shape) (w : AllowsWords) : Type 0 where
  pub second : is_some (arg_by_index s.rules 2) ≡ w.second
  pub third : is_some (arg_by_index s.rules 3) ≡ false
  pub given : (v : Valued) → is_some (arg_by_long s.rules (option_name v)) ≡ w.given v
  pub marked : (m : Mark) → is_some (arg_by_long s.rules (mark_name m)) ≡ w.marked m

-- the line has what the command wants, and nothing else
pub record IsWanted (w : AllowsWords) (l : LineSoFar) : Type 0 where
  pub first : is_some l.first ≡ true
  pub second : is_some l.second ≡ w.second
  pub given : (v : Valued) → is_some (value_of v l) ≡ true → w.given v ≡ true
  pub marked : (m : Mark) → is_marked m l ≡ true → w.marked m ≡ true

-- ---- what is found is what stands on the line

pub record ShowsRows (id : Text) (line : LineSoFar) (rows : List Row) : Type 0 where
  pub first : has_row id rows ≡ is_some line.first
  pub second : has_row (codes "second") rows ≡ is_some line.second
  pub given : (v : Valued) → has_row (option_name v) rows ≡ is_some (value_of v line)
  pub marked : (m : Mark) → has_row (mark_name m) rows ≡ is_marked m line
  pub explicit : list_all is_explicit rows ≡ true
  pub order : is_some line.second ≡ true → is_some line.first ≡ true

keeps : (id : Text) (r : Row) (rows : List Row) (b : Bool) → has_row id rows ≡ b → bytes_eq r.id id ≡ false → has_row id (rows ++ r ∷ []) ≡ b
keeps id r rows b h e = has_row_end id r rows ∙ ap₂ (λ (x y : Bool). x || y) h e ∙ or_with_false b

gains : (id : Text) (r : Row) (rows : List Row) → bytes_eq r.id id ≡ true → has_row id (rows ++ r ∷ []) ≡ true
gains id r rows e = has_row_end id r rows ∙ ap (λ (y : Bool). has_row id rows || y) e ∙ or_with_true (has_row id rows)

abbrev with_first : LineSoFar → Text → LineSoFar
with_first line word = record line { first = Some word }

abbrev with_second : LineSoFar → Text → LineSoFar
with_second line word = record line { second = Some word }

module _ (s : Shape) (w : AllowsWords) (id : Text) (level : IsWordLevel s w id) where
  shows_first : (line : LineSoFar) (word : Text) (rows : List Row) (how : Reading) → ShowsRows id line rows → ShowsRows id (with_first line word) (rows ++ row id how (word ∷ []) ∷ [])
  shows_first line word rows how k = record {
    first = gains id (row id how (word ∷ [])) rows level.same;
    second = keeps (codes "second") (row id how (word ∷ [])) rows _ k.second level.of_second.0;
    given = λ v. keeps (option_name v) (row id how (word ∷ [])) rows _ (k.given v) (level.of_given v).0 ∙ ap is_some (sym (same_value v line (with_first line word) refl refl refl refl));
    marked = λ m. keeps (mark_name m) (row id how (word ∷ [])) rows _ (k.marked m) (level.of_marked m).0 ∙ sym (same_mark m line (with_first line word) refl refl);
    explicit = explicit_end (row id how (word ∷ [])) rows k.explicit refl;
    order = λ h. refl;
  }

  second_is_none : (v : Valued) → bytes_eq (codes "second") (option_name v) ≡ false
  second_is_none Assume = refl
  second_is_none Steps = refl
  second_is_none Device = refl
  second_is_none Trials = refl

  second_is_no_mark : (m : Mark) → bytes_eq (codes "second") (mark_name m) ≡ false
  second_is_no_mark Json = refl
  second_is_no_mark Why = refl

  shows_second : (line : LineSoFar) (word : Text) (rows : List Row) (how : Reading) → is_some line.first ≡ true → ShowsRows id line rows
      → ShowsRows id (with_second line word) (rows ++ row (codes "second") how (word ∷ []) ∷ [])
  shows_second line word rows how there k = record {
    first = keeps id (row (codes "second") how (word ∷ [])) rows _ k.first level.of_second.1;
    second = gains (codes "second") (row (codes "second") how (word ∷ [])) rows refl;
    given = λ v. keeps (option_name v) (row (codes "second") how (word ∷ [])) rows _ (k.given v) (second_is_none v) ∙ ap is_some (sym (same_value v line (with_second line word) refl refl refl refl));
    marked = λ m. keeps (mark_name m) (row (codes "second") how (word ∷ [])) rows _ (k.marked m) (second_is_no_mark m) ∙ sym (same_mark m line (with_second line word) refl refl);
    explicit = explicit_end (row (codes "second") how (word ∷ [])) rows k.explicit refl;
    order = λ h. there;
  }

  mark_is_none : (m : Mark) (v : Valued) → bytes_eq (mark_name m) (option_name v) ≡ false
  mark_is_none Json Assume = refl
  mark_is_none Json Steps = refl
  mark_is_none Json Device = refl
  mark_is_none Json Trials = refl
  mark_is_none Why Assume = refl
  mark_is_none Why Steps = refl
  mark_is_none Why Device = refl
  mark_is_none Why Trials = refl

  mark_is_no_second : (m : Mark) → bytes_eq (mark_name m) (codes "second") ≡ false
  mark_is_no_second Json = refl
  mark_is_no_second Why = refl

  marked_first : (m : Mark) (line : LineSoFar) → (marked m line).first ≡ line.first
  marked_first Json line = refl
  marked_first Why line = refl

  marked_second : (m : Mark) (line : LineSoFar) → (marked m line).second ≡ line.second
  marked_second Json line = refl
  marked_second Why line = refl

  marked_value : (m : Mark) (v : Valued) (line : LineSoFar) → value_of v line ≡ value_of v (marked m line)
  marked_value Json v line = sym (same_value v line (marked Json line) refl refl refl refl)
  marked_value Why v line = sym (same_value v line (marked Why line) refl refl refl refl)

  one_marked : (m k : Mark) (line : LineSoFar) (rows : List Row) (how : Reading) (values : List Text) → has_row (mark_name k) rows ≡ is_marked k line
      → has_row (mark_name k) (rows ++ row (mark_name m) how values ∷ []) ≡ is_marked k (marked m line)
  one_marked Json Json line rows how values h = gains (mark_name Json) (row (mark_name Json) how values) rows refl
  one_marked Json Why line rows how values h = keeps (mark_name Why) (row (mark_name Json) how values) rows _ h refl
  one_marked Why Json line rows how values h = keeps (mark_name Json) (row (mark_name Why) how values) rows _ h refl
  one_marked Why Why line rows how values h = gains (mark_name Why) (row (mark_name Why) how values) rows refl

  shows_marked : (m : Mark) (line : LineSoFar) (rows : List Row) (how : Reading) (values : List Text) → ShowsRows id line rows → ShowsRows id (marked m line) (rows ++ row (mark_name m) how values ∷ [])
  shows_marked m line rows how values k = record {
    first = keeps id (row (mark_name m) how values) rows _ k.first (level.of_marked m).1 ∙ ap is_some (sym (marked_first m line));
    second = keeps (codes "second") (row (mark_name m) how values) rows _ k.second (mark_is_no_second m) ∙ ap is_some (sym (marked_second m line));
    given = λ v. keeps (option_name v) (row (mark_name m) how values) rows _ (k.given v) (mark_is_none m v) ∙ ap is_some (marked_value m v line);
    marked = λ n. one_marked m n line rows how values (k.marked n);
    explicit = explicit_end (row (mark_name m) how values) rows k.explicit refl;
    order = λ h. ap is_some (marked_first m line) ∙ k.order (ap is_some (sym (marked_second m line)) ∙ h);
  }

  -- of one option's row and of another's
  one_more : (v u : Valued) (line : LineSoFar) (word : Text) (rows : List Row) (how : Reading) → has_row (option_name u) rows ≡ is_some (value_of u line)
      → has_row (option_name u) (rows ++ row (option_name v) how (word ∷ []) ∷ []) ≡ is_some (value_of u (valued v line word))
  one_more Assume Assume line word rows how k = gains (option_name Assume) (row (option_name Assume) how (word ∷ [])) rows refl
  one_more Assume Steps line word rows how k = keeps (option_name Steps) (row (option_name Assume) how (word ∷ [])) rows _ k refl
  one_more Assume Device line word rows how k = keeps (option_name Device) (row (option_name Assume) how (word ∷ [])) rows _ k refl
  one_more Assume Trials line word rows how k = keeps (option_name Trials) (row (option_name Assume) how (word ∷ [])) rows _ k refl
  one_more Steps Assume line word rows how k = keeps (option_name Assume) (row (option_name Steps) how (word ∷ [])) rows _ k refl
  one_more Steps Steps line word rows how k = gains (option_name Steps) (row (option_name Steps) how (word ∷ [])) rows refl
  one_more Steps Device line word rows how k = keeps (option_name Device) (row (option_name Steps) how (word ∷ [])) rows _ k refl
  one_more Steps Trials line word rows how k = keeps (option_name Trials) (row (option_name Steps) how (word ∷ [])) rows _ k refl
  one_more Device Assume line word rows how k = keeps (option_name Assume) (row (option_name Device) how (word ∷ [])) rows _ k refl
  one_more Device Steps line word rows how k = keeps (option_name Steps) (row (option_name Device) how (word ∷ [])) rows _ k refl
  one_more Device Device line word rows how k = gains (option_name Device) (row (option_name Device) how (word ∷ [])) rows refl
  one_more Device Trials line word rows how k = keeps (option_name Trials) (row (option_name Device) how (word ∷ [])) rows _ k refl
  one_more Trials Assume line word rows how k = keeps (option_name Assume) (row (option_name Trials) how (word ∷ [])) rows _ k refl
  one_more Trials Steps line word rows how k = keeps (option_name Steps) (row (option_name Trials) how (word ∷ [])) rows _ k refl
  one_more Trials Device line word rows how k = keeps (option_name Device) (row (option_name Trials) how (word ∷ [])) rows _ k refl
  one_more Trials Trials line word rows how k = gains (option_name Trials) (row (option_name Trials) how (word ∷ [])) rows refl

  same_first : (v : Valued) (line : LineSoFar) (word : Text) → (valued v line word).first ≡ line.first
  same_first Assume line word = refl
  same_first Steps line word = refl
  same_first Device line word = refl
  same_first Trials line word = refl

  same_second : (v : Valued) (line : LineSoFar) (word : Text) → (valued v line word).second ≡ line.second
  same_second Assume line word = refl
  same_second Steps line word = refl
  same_second Device line word = refl
  same_second Trials line word = refl

  none_is_second : (v : Valued) → bytes_eq (option_name v) (codes "second") ≡ false
  none_is_second Assume = refl
  none_is_second Steps = refl
  none_is_second Device = refl
  none_is_second Trials = refl

  none_is_mark : (v : Valued) (m : Mark) → bytes_eq (option_name v) (mark_name m) ≡ false
  none_is_mark Assume Json = refl
  none_is_mark Assume Why = refl
  none_is_mark Steps Json = refl
  none_is_mark Steps Why = refl
  none_is_mark Device Json = refl
  none_is_mark Device Why = refl
  none_is_mark Trials Json = refl
  none_is_mark Trials Why = refl

  shows_given : (v : Valued) (line : LineSoFar) (word : Text) (rows : List Row) (how : Reading) → ShowsRows id line rows → ShowsRows id (valued v line word) (rows ++ row (option_name v) how (word ∷ []) ∷ [])
  shows_given v line word rows how k = record {
    first = keeps id (row (option_name v) how (word ∷ [])) rows _ k.first (level.of_given v).1 ∙ ap is_some (sym (same_first v line word));
    second = keeps (codes "second") (row (option_name v) how (word ∷ [])) rows _ k.second (none_is_second v) ∙ ap is_some (sym (same_second v line word));
    given = λ u. one_more v u line word rows how (k.given u);
    marked = λ m. keeps (mark_name m) (row (option_name v) how (word ∷ [])) rows _ (k.marked m) (none_is_mark v m) ∙ sym (same_marks v m line word);
    explicit = explicit_end (row (option_name v) how (word ∷ [])) rows k.explicit refl;
    order = λ h. ap is_some (same_first v line word) ∙ k.order (ap is_some (sym (same_second v line word)) ∙ h);
  }

  -- ---- one piece

  -- a value that waits for its option
  abbrev kept : Rule → Text → Held → Held
  kept a word h = record { rows = rows_at s h; pending = Some (a.id, word ∷ []); skip = h.skip }

  value_settles : (a : Rule) (name word : Text) (h : Held) → IsUsable s a name → has_row name (rows_at s h) ≡ false → settles s (kept a word h) ≡ true
  value_settles a name word h u free = ap (λ (o : Option Rule). option_map_or (λ a. use_passes s.args_override_self a (word ∷ []) (rows_at s h)) o true) u.found ∙ u.passes word (rows_at s h) free

  value_rows : (a : Rule) (name word : Text) (h : Held) (u : IsUsable s a name) → has_row name (rows_at s h) ≡ false → rows_at s (kept a word h) ≡ rows_at s h ++ row name u.how (word ∷ []) ∷ []
  value_rows a name word h u free =
      ap (λ (o : Option Rule). used_by_id o (word ∷ []) (rows_at s h)) u.found ∙ u.adds word (rows_at s h) ∙ new_row name u.how CommandLine (word ∷ []) (rows_at s h) free

  name_goes_on : (i : ℕ) (name word : Text) (p : IsPositional s i name) (h : Held) (later : Held → ℕ → Bool) → settles s h ≡ true → has_row name (rows_at s h) ≡ false
      → ((k : Held) → settles s k ≡ true → rows_at s k ≡ rows_at s h ++ row name p.usable.how (word ∷ []) ∷ [] → later k (suc i) ≡ true)
      → name_goes s h i word (arg_by_index s.rules i) later ≡ true
  name_goes_on i name word p h later e free go =
      let held : positional_held s.rules p.rule word h ≡ kept p.rule word h =
      ap (λ (t : Bool). pushed p.rule.id word (cond (is_pending p.rule h.pending && t) h (settled s.rules h))) p.single
      ∙ ap (λ (t : Bool). pushed p.rule.id word (cond t h (settled s.rules h))) (and_with_false (is_pending p.rule h.pending)) in
      let passes : positional_passes s.rules s.args_override_self p.rule h ≡ true =
      ap (λ (t : Bool). (is_pending p.rule h.pending && takes_several p.rule) || t) e ∙ or_with_true (is_pending p.rule h.pending && takes_several p.rule) in
      ap (λ (o : Option Rule). name_goes s h i word o later) p.found
      ∙ and_from (positional_passes s.rules s.args_override_self p.rule h) _ passes
      (and_from (not (is_multiple p.rule)) _ (ap not p.one)
      (and_from (not p.rule.trailing_var_arg) _ (ap not p.last)
      (ap₂ later held p.next ∙ go (kept p.rule word h) (value_settles p.rule name word h p.usable free) (value_rows p.rule name word h p.usable free))))

  option_goes_on : (name word : Text) (p : IsOption s name) (h : Held) (later : Held → Bool) → settles s h ≡ true → has_row name (rows_at s h) ≡ false
      → ((k : Held) → settles s k ≡ true → rows_at s k ≡ rows_at s h ++ row name p.usable.how (word ∷ []) ∷ [] → later k ≡ true)
      → option_goes s h word (arg_by_long s.rules name) later ≡ true
  option_goes_on name word p h later e free go =
      ap (λ (o : Option Rule). option_goes s h word o later) p.found
      ∙ and_from (takes_values p.rule) _ p.takes
      (and_from (settles s h) _ e
      (ap (λ (o : Option Rule). value_goes (begun s.rules p.rule h) p.rule.id word o later) p.usable.found
      ∙ and_from (not (nat_lt (pending_count p.rule (Some (p.rule.id, word ∷ []))) (most_values p.rule))) _ (p.one word)
      (go (kept p.rule word h) (value_settles p.rule name word h p.usable free) (value_rows p.rule name word h p.usable free))))

  flag_goes_on : (name : Text) (p : IsFlag s name) (h : Held) (later : Held → Bool) → settles s h ≡ true → has_row name (rows_at s h) ≡ false
      → ((k : Held) → settles s k ≡ true → rows_at s k ≡ rows_at s h ++ row name p.how p.values ∷ [] → later k ≡ true)
      → flag_goes s h (arg_by_long s.rules name) later ≡ true
  flag_goes_on name p h later e free go =
      ap (λ (o : Option Rule). flag_goes s h o later) p.found
      ∙ and_from (not (takes_values p.rule)) _ (ap not p.takes)
      (and_from (react_passes s.rules s.args_override_self p.rule [] h) _ (and_from (settles s h) _ e (p.passes (rows_at s h) free))
      (go (reacted s.rules p.rule [] h) refl (p.adds (rows_at s h) ∙ new_row name p.how CommandLine p.values (rows_at s h) free)))

  -- ---- all pieces

  -- the position of the next name
  abbrev position : Option Text → Option Text → ℕ
  position None second = 1
  position (Some x) None = 2
  position (Some x) (Some y) = 3

  ends : (line : LineSoFar) (h : Held) → settles s h ≡ true → ShowsRows id line (rows_at s h) → IsWanted w line → final s h ≡ true
  ends line h e k n =
      and_from (settles s h) _ e
      (and_from (list_all default_passes s.rules) _ level.defaults
      (level.valid (finished s.rules h) (finally_given id s.rules (rows_at s h) (is_given_here id (rows_at s h) k.explicit (k.first ∙ n.first)))
      (λ t. finally_given (codes "second") s.rules (rows_at s h) (is_given_here (codes "second") (rows_at s h) k.explicit (k.second ∙ n.second ∙ t)))))

  Goes : List Piece → Type 0
  Goes ps = (line l : LineSoFar) (h : Held) → settles s h ≡ true → ShowsRows id line (rows_at s h) → all_added (Some line) ps ≡ Some l → IsWanted w l → goes s h (position line.first line.second) ps ≡ true

  not_second : ◌≡◌ {A = Bool} false true → ⊥
  not_second e = cc

  name_goes_by : (ps : List Piece) → Goes ps → (b : ℕ) (bs : List ℕ) (line l : LineSoFar) (h : Held) (f t : Option Text) → line.first ≡ f → line.second ≡ t → settles s h ≡ true → ShowsRows id line (rows_at s h)
      → all_added (named f t line (b ∷ bs)) ps ≡ Some l → IsWanted w l → name_goes s h (position f t) (b ∷ bs) (arg_by_index s.rules (position f t)) (λ k j. goes s k j ps) ≡ true
  unfolding Goes
  name_goes_by ps go b bs line l h None None is_f is_t e k all n =
      name_goes_on 1 id (b ∷ bs) level.first h (λ k j. goes s k j ps) e (k.first ∙ ap is_some is_f)
      (λ m me mr. ap (λ (o : Option Text). goes s m (position (Some (b ∷ bs)) o) ps) (sym is_t)
      ∙ go (with_first line (b ∷ bs)) l m me (subst (ShowsRows id (with_first line (b ∷ bs))) (sym mr) (shows_first line (b ∷ bs) (rows_at s h) level.first.usable.how k)) all n)
  name_goes_by ps go b bs line l h None (Some y) is_f is_t e k all n = absurd (not_second (sym (ap is_some is_f) ∙ k.order (ap is_some is_t)))
  name_goes_by ps go b bs line l h (Some x) None is_f is_t e k all n =
      let stay : StaysGiven (with_second line (b ∷ bs)) l = stays ps (with_second line (b ∷ bs)) l all in
      let p : IsPositional s 2 (codes "second") = level.second (sym n.second ∙ stay.second refl) in
      name_goes_on 2 (codes "second") (b ∷ bs) p h (λ k j. goes s k j ps) e (k.second ∙ ap is_some is_t)
      (λ m me mr. ap (λ (o : Option Text). goes s m (position o (Some (b ∷ bs))) ps) (sym is_f)
      ∙ go (with_second line (b ∷ bs)) l m me (subst (ShowsRows id (with_second line (b ∷ bs))) (sym mr) (shows_second line (b ∷ bs) (rows_at s h) p.usable.how (ap is_some is_f) k)) all n)
  name_goes_by ps go b bs line l h (Some x) (Some y) is_f is_t e k all n = absurd (none-some l all)

  given_goes : (ps : List Piece) → Goes ps → (v : Valued) (b : ℕ) (bs : List ℕ) (line l : LineSoFar) (h : Held) → settles s h ≡ true → ShowsRows id line (rows_at s h)
      → all_added (with_value v (waiting line v) (b ∷ bs)) ps ≡ Some l → IsWanted w l → goes s h (position line.first line.second) (Given v b bs ∷ ps) ≡ true
  unfolding Goes goes
  given_goes ps go v b bs line l h e k all n = by (with_value v (waiting line v) (b ∷ bs)) refl all where
    by : (o : Option LineSoFar) → with_value v (waiting line v) (b ∷ bs) ≡ o → all_added o ps ≡ Some l → goes s h (position line.first line.second) (Given v b bs ∷ ps) ≡ true
    by None is all = absurd (none-some l all)
    by (Some next) is all =
        let is_next : next ≡ valued v line (b ∷ bs) = (gets v line next (b ∷ bs) is).is in
        let on : all_added (Some (valued v line (b ∷ bs))) ps ≡ Some l = subst (λ (x : LineSoFar). all_added (Some x) ps ≡ Some l) is_next all in
        let stay : StaysGiven (valued v line (b ∷ bs)) l = stays ps (valued v line (b ∷ bs)) l on in
        let p : IsOption s (option_name v) = level.given v (n.given v (stay.given v (has_it v))) in
        option_goes_on (option_name v) (b ∷ bs) p h (λ k. goes s k (position line.first line.second) ps) e (k.given v ∙ ap is_some (gets v line next (b ∷ bs) is).had)
        (λ m me mr. ap₂ (λ (x y : Option Text). goes s m (position x y) ps) (sym (same_first v line (b ∷ bs))) (sym (same_second v line (b ∷ bs)))
        ∙ go (valued v line (b ∷ bs)) l m me (subst (ShowsRows id (valued v line (b ∷ bs))) (sym mr) (shows_given v line (b ∷ bs) (rows_at s h) p.usable.how k)) on n) where
          has_it : (v : Valued) → is_some (value_of v (valued v line (b ∷ bs))) ≡ true
          has_it Assume = refl
          has_it Steps = refl
          has_it Device = refl
          has_it Trials = refl

  marked_goes : (ps : List Piece) → Goes ps → (m : Mark) (line l : LineSoFar) (h : Held) → settles s h ≡ true → ShowsRows id line (rows_at s h)
      → all_added (with_mark m line) ps ≡ Some l → IsWanted w l → goes s h (position line.first line.second) (Marked m ∷ ps) ≡ true
  unfolding Goes goes
  marked_goes ps go m line l h e k all n = by (with_mark m line) refl all where
    by : (o : Option LineSoFar) → with_mark m line ≡ o → all_added o ps ≡ Some l → goes s h (position line.first line.second) (Marked m ∷ ps) ≡ true
    by None is all = absurd (none-some l all)
    by (Some next) is all =
        let on : all_added (Some (marked m line)) ps ≡ Some l = subst (λ (x : LineSoFar). all_added (Some x) ps ≡ Some l) (marks m line next is).is all in
        let p : IsFlag s (mark_name m) = level.marked m (n.marked m ((stays ps (marked m line) l on).marked m (there m))) in
        flag_goes_on (mark_name m) p h (λ k. goes s k (position line.first line.second) ps) e (k.marked m ∙ (marks m line next is).had)
        (λ q me mr. ap₂ (λ (x y : Option Text). goes s q (position x y) ps) (sym (marked_first m line)) (sym (marked_second m line))
        ∙ go (marked m line) l q me (subst (ShowsRows id (marked m line)) (sym mr) (shows_marked m line (rows_at s h) p.how p.values k)) on n) where
          there : (m : Mark) → is_marked m (marked m line) ≡ true
          there Json = refl
          there Why = refl

  pub goes_on : (ps : List Piece) (line l : LineSoFar) (h : Held) → settles s h ≡ true → ShowsRows id line (rows_at s h) → all_added (Some line) ps ≡ Some l → IsWanted w l → goes s h (position line.first line.second) ps ≡ true
  unfolding Goes goes
  goes_on [] line l h e k all n = ends line h e k (subst (IsWanted w) (sym (some_is line l all)) n)
  goes_on (Named b bs ∷ ps) line l h e k all n = name_goes_by ps (goes_on ps) b bs line l h line.first line.second refl refl e k all n
  goes_on (Given v b bs ∷ ps) line l h e k all n = given_goes ps (goes_on ps) v b bs line l h e k all n
  goes_on (Marked m ∷ ps) line l h e k all n = marked_goes ps (goes_on ps) m line l h e k all n
